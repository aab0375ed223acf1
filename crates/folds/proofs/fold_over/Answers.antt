-- `folds::fold_over` meets its contract. The invariant is `Rowed`: a row is as it was when it takes in its fold. Assumes nothing.
use Rattle.std.proofs.Common.{arith}
use Rattle.times.specs.Times.{cell}
use Rattle.times.proofs.Rows.{row_le, rowed_start, rowed_read, rowed_turn}
use Rattle.folds.specs.Folds.{joined_row}
use Rattle.folds.proofs.Gathered.{joined_lent}
use Rattle.folds.proofs.fold_over.Goals as goal

pub loop-u-init : goal.loop-u-init
loop-u-init g c = rowed_start _ _ _

pub loop-u-preserved : goal.loop-u-preserved
loop-u-preserved g c =
    let half = c.args.half.now in
    let n = c.args.folds.now.n in
    let inside = row_le _ c.loop-u-test.true in
    rowed_turn _ _ (λ i. joined_row g.B.Best.late (cell n half i) (cell n c.args.folds.now.words.now i) i) _ _ _ c.loop-u.invariant
    (joined_lent _ n _ half _ _ (omega (arith, inside, c.requires)) (rowed_read _ _ _ half _ c.loop-u.invariant) c.row.ensures.words c.take_fold.ensures)
