-- `saving::changed` meets its contract: of the bits that differ, those that are set now open, and those that were set shut.
-- Assumes nothing.
use mathlib.Core.Path.{◌≡◌, refl, ◌∙◌}
use mathlib.Core.Bool.{Bool, true, false, not, ◌&&◌, cond}
use Prim.Native.Nat.{ℕ}
use lib.Bits.{bit_and, bit_xor}
use Rattle.model.specs.Recording.{bit}
use Rattle.model.proofs.Bits.{bit-and, bit-xor}
use Rattle.saving.specs.Puts.{Changed}
use Rattle.saving.proofs.changed.Goals as goal

opening : (was is : ℕ) → Changed true was is (bit_and is (bit_xor was is))
opening was is b = bit-and is (bit_xor was is) b ∙ rw (bit-xor was is b) (by (bit was b) (bit is b))
  where
    by : (x y : Bool) → y && cond x (not y) y ≡ not x && y
    by true true = refl
    by true false = refl
    by false true = refl
    by false false = refl

shutting : (was is : ℕ) → Changed false was is (bit_and was (bit_xor was is))
shutting was is b = bit-and was (bit_xor was is) b ∙ rw (bit-xor was is b) (by (bit was b) (bit is b))
  where
    by : (x y : Bool) → x && cond x (not y) y ≡ x && not y
    by true y = refl
    by false y = refl

pub returns-then-opens : goal.returns-then-opens
returns-then-opens c = rw c.if-opens.true (opening c.args.was c.args.is)

pub returns-else-opens : goal.returns-else-opens
returns-else-opens c = rw c.if-opens.false (shutting c.args.was c.args.is)
