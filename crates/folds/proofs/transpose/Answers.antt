-- `folds::transpose` meets its contract. The invariant is `Rowed`. Assumes nothing.
use Rattle.times.specs.Times.{cell}
use Rattle.times.proofs.Rows.{rowed_start, rowed_turn}
use Rattle.folds.proofs.transpose.Goals as goal

pub loop-u-init : goal.loop-u-init
loop-u-init c = rowed_start _ _ _

pub loop-u-preserved : goal.loop-u-preserved
loop-u-preserved c = rowed_turn _ _ (λ i j. cell c.args.half.now.n c.args.half.now.words.now j i) _ _ _ c.loop-u.invariant c.transpose_row.ensures
