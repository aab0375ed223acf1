-- `Output::put_link` meets its contract: three bytes put are a command.
-- Assumes nothing.
use mathlib.Core.Path.{◌∙◌}
use Rattle.saving.proofs.Put.{puts_link}
use Rattle.saving.proofs.Output.put_link.Goals as goal

pub returns : goal.returns
returns c = record {
  there = c.put-3.ensures.there ∙ c.put-2.ensures.there ∙ c.put.ensures.there;
  made = puts_link c.code_of.ensures c.requires.2 c.put.ensures.next c.put-2.ensures.next c.put-3.ensures.next c.put.ensures.made c.put-2.ensures.made
      c.put-3.ensures.made;
}
