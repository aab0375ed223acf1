-- `lengths_text::put_reading` meets its contract: a file that is read has at most 32 boards. Assumes nothing.
use mathlib.Core.Path.{sym, ap, ◌∙◌}
use Rattle.recording.specs.Answers.{reading_says}
use Rattle.recording.proofs.Laws.{read_law}
use Rattle.lengths_text.proofs.put_reading.Goals as goal

pub put_measures-requires-clause-boards : goal.put_measures-requires-clause-boards
put_measures-requires-clause-boards c = (read_law _ _ _ _ _ (sym c.read.ensures.0 ∙ ap reading_says c.in-Ok.is)).high
