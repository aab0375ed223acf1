-- `folds::transpose` meets its contract. The invariant is `Rowed`.
-- Assumes nothing.
use Rattle.times.specs.Times.{cell}
use Rattle.times.proofs.Rows.{Rowed}
use Rattle.folds.proofs.transpose.Given as goal

abbrev pub invariant-loop-u : goal.invariant-loop-u
invariant-loop-u l = Rowed l.half.n (λ i j. cell l.half.n l.half.words.now j i) l.initial.out l.out l.u
