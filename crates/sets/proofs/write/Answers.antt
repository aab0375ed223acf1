-- `sets::write` meets its contract. The invariant is `Made`; what is read of a row is `set_row`. Assumes nothing.
use Rattle.std.proofs.Common.{◌∙◌, arith}
use Rattle.lists.proofs.Tab.{made_turn}
use Rattle.sets.proofs.Bits.{set_row}
use Rattle.sets.proofs.write.Goals as goal

pub loop-u-preserved : goal.loop-u-preserved
loop-u-preserved c = made_turn c.loop-u.invariant (omega (arith, c.loop-u-test.true)) (c.set_of.ensures ∙ set_row _ _ _ _ c.row.ensures.words)
