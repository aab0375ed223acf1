-- `folds::fold_over` meets its contract. The invariant is `Rowed`: a row is as it was when it takes in its fold.
-- Assumes nothing.
use Rattle.times.specs.Times.{cell}
use Rattle.times.proofs.Rows.{Rowed}
use Rattle.folds.specs.Folds.{joined_row}
use Rattle.folds.proofs.fold_over.Given as goal

abbrev pub invariant-loop-u : goal.invariant-loop-u
invariant-loop-u g l =
    Rowed l.folds.n (λ i. joined_row g.B.Best.late (cell l.folds.n l.initial.half i) (cell l.folds.n l.folds.words.now i) i) l.initial.half l.half l.u
