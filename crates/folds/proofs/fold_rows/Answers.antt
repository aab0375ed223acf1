-- `folds::fold_rows` meets its contract. The invariant is `Rowed`. Assumes nothing.
use Rattle.std.proofs.Common.{arith}
use Rattle.times.proofs.Rows.{rowed_start, rowed_put}
use Rattle.folds.specs.Folds.{fold_of}
use Rattle.folds.proofs.Gathered.{shared}
use Rattle.folds.proofs.fold_rows.Goals as goal

pub loop-u-init : goal.loop-u-init
loop-u-init g c = rowed_start _ _ _

pub write_fold-requires : goal.write_fold-requires
write_fold-requires g c =
    let later = c.args.later.now in
    let p = c.requires in
    shared _ _ _ _ _ _ _ later.few p.0 later.room (omega arith) p.2 c.loop-u-test.true c.loop-u.invariant

pub loop-u-preserved : goal.loop-u-preserved
loop-u-preserved g c =
    rowed_put _ _ (fold_of g.B.Best.late c.args.later.now.n c.args.later.now.words.now c.args.sets.now) _ _ c.loop-u.invariant c.write_fold.ensures
