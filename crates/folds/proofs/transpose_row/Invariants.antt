-- `folds::transpose_row` meets its contract. The invariant is `Made`.
-- Assumes nothing.
use Rattle.lists.proofs.Tab.{Made}
use Rattle.times.specs.Times.{cell}
use Rattle.folds.proofs.transpose_row.Given as goal

abbrev pub invariant-loop-v : goal.invariant-loop-v
invariant-loop-v l = Made (λ i. cell l.half.n l.half.words.now i l.own.0) l.initial.out l.out l.v
