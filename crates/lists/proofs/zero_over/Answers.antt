-- `lists::zero_over` meets its contract. Assumes nothing.
use Rattle.std.proofs.Common.{◌∙◌, arith}
use Rattle.lists.proofs.Tab.{made_all, tab_zero}
use Rattle.lists.proofs.zero_over.Goals as goal

pub returns : goal.returns
returns c = made_all c.loop-word.invariant (omega arith) (omega arith) ∙ tab_zero _
