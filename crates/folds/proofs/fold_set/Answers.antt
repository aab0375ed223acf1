-- `folds::fold_set` meets its contract. The invariant is `Folded`. Assumes nothing.
use Rattle.folds.proofs.Gathered.{folded_below, folded_less, folded_next, folded_all}
use Rattle.folds.proofs.fold_set.Goals as goal

pub row-requires : goal.row-requires
row-requires g c = folded_below c.loop-rest.invariant _ c.board_in-w.ensures.1

pub loop-rest-smaller : goal.loop-rest-smaller
loop-rest-smaller g c = rw c.cleared-rest.ensures (folded_less c.loop-rest.invariant _ c.args.later.now.few c.board_in-w.ensures.1)

pub loop-rest-preserved : goal.loop-rest-preserved
loop-rest-preserved g c =
    folded_next c.loop-rest.invariant _ c.args.later.now.few c.board_in-w.ensures.1 c.cleared-rest.ensures c.row.ensures.words c.fold.ensures

pub returns : goal.returns
returns g c = folded_all c.loop-rest.invariant c.loop-rest-test.false
