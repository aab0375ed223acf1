-- `sets::column_marks` meets its contract. The invariant is the definition at w; a turn is `columns_next`. Assumes nothing.
use Rattle.std.proofs.Common.{◌∙◌}
use Rattle.sets.proofs.Bits.{columns_none, columns_next}
use Rattle.sets.proofs.column_marks.Goals as goal

pub loop-w-init : goal.loop-w-init
loop-w-init c = c.requires.0 ∙ columns_none _ _

pub loop-w-preserved : goal.loop-w-preserved
loop-w-preserved c = c.add_marks.ensures ∙ columns_next _ _ _ c.loop-w.invariant c.row.ensures.words
