-- `folds::fold_rows` meets its contract. The invariant is `Rowed`.
-- Assumes nothing.
use Rattle.times.proofs.Rows.{Rowed}
use Rattle.folds.specs.Folds.{fold_of}
use Rattle.folds.proofs.fold_rows.Given as goal

abbrev pub invariant-loop-u : goal.invariant-loop-u
invariant-loop-u g l = Rowed l.later.n (fold_of g.B.Best.late l.later.n l.later.words.now l.sets) l.initial.folds l.folds l.u
