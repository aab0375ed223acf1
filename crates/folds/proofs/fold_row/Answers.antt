-- `folds::fold_row` meets its contract. The first row and the others (`fold_first`). Assumes nothing.
use Rattle.std.proofs.Common.{◌∙◌}
use Rattle.links.proofs.Bits.{bit_below}
use Rattle.folds.proofs.Gathered.{fold_first}
use Rattle.folds.proofs.fold_row.Goals as goal

pub returns-else-set-eq0 : goal.returns-else-set-eq0
returns-else-set-eq0 g c =
    let h = c.board_in-w.ensures.1 in
    fold_first _ _ _ c.args.set c.board_in-w.result c.args.later.now.few (bit_below _ c.requires.0 h) h c.cleared.ensures
    (c.copy_from_slice.ensures.after ∙ c.row.ensures.words) c.fold_set.ensures
