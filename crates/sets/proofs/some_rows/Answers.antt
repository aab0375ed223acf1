-- `sets::some_rows` meets its contract. A turn: what is read of a row is `any_row`. Assumes nothing.
use Rattle.std.proofs.Common.{ℕ, bit_or, ap, ap₂, ◌∙◌, add-one}
use Rattle.links.specs.Tables.{mark_of}
use Rattle.sets.specs.Marks.{marks}
use Rattle.sets.proofs.Bits.{any_row}
use Rattle.sets.proofs.some_rows.Goals as goal

pub loop-w-preserved : goal.loop-w-preserved
unfolding marks
loop-w-preserved c =
    let row = c.any_of.ensures ∙ any_row _ _ c.row.ensures.words in
    rw (add-one c.loop-w.w) (ap₂ bit_or c.loop-w.invariant (c.mark_of-set.ensures ∙ ap (λ (x : ℕ). mark_of x c.loop-w.w) row))
