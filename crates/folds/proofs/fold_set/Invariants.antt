-- `folds::fold_set` meets its contract. The invariant is `Folded`.
-- Assumes nothing.
use Rattle.folds.proofs.Gathered.{Folded}
use Rattle.folds.proofs.fold_set.Given as goal

abbrev pub invariant-loop-rest : goal.invariant-loop-rest
invariant-loop-rest g l = Folded g.B.Best.late l.later.n l.later.words.now l.set l.initial.out l.out l.rest

abbrev pub decreases-loop-rest : goal.decreases-loop-rest
decreases-loop-rest g l = l.rest
