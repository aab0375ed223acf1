-- `lengths_text::put_lengths` meets its contract: the header, and under it what the reading says. Assumes nothing.
use mathlib.Core.Path.{refl}
use native.Mathlib.Omega.{arith}
use Rattle.columns.proofs.Appends.{appends_then, appended_read}
use Rattle.lengths_text.specs.LengthsText.{text_of}
use Rattle.lengths_text.proofs.put_lengths.Goals as goal

pub returns : goal.returns
unfolding text_of
returns c =
    let p = appends_then c.text.ensures c.put_reading.ensures.put in
    let read = appended_read refl p in
    grind arith
