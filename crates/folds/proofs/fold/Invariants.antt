-- `folds::fold` meets its contract. The invariant is `Made`; word v is read before it is written.
-- Assumes nothing.
use Rattle.lists.proofs.Tab.{Made}
use Rattle.folds.specs.Folds.{each, better}
use Rattle.folds.proofs.fold.Given as goal

abbrev pub invariant-loop-v : goal.invariant-loop-v
invariant-loop-v g l = Made (each (better g.B.Best.late) l.initial.out l.row) l.initial.out l.out l.v
