-- `sets::write_columns` meets its contract. The boards of each column, then its own board (`columns_own`). Assumes nothing.
use Rattle.std.proofs.Common.{◌∙◌, ap}
use Rattle.std.specs.Prelude.{length}
use Rattle.lists.specs.Tab.{tab}
use Rattle.lists.proofs.Tab.{length-tab}
use Rattle.sets.proofs.Bits.{columns_own}
use Rattle.sets.proofs.write_columns.Goals as goal

pub returns : goal.returns
returns c =
    c.with_own.ensures ∙ ap (tab _) (ap length c.column_marks.ensures ∙ length-tab _ _)
    ∙ columns_own _ _ c.args.half.now.words.now _ c.column_marks.ensures
