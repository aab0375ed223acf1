-- The causes and their numbers. Assumes nothing.
use Prim.Native.Nat.{◌≤◌}
use mathlib.Core.Path.{◌≡◌}
use mathlib.Core.Bool.{false}
use native.Mathlib.Omega.{arith}
use borrow.Author.Tests.{ne_eqb}
use lib.Dec.{eqb}
use Rattle.model.specs.declared.Refusal.{Refusal}
use Rattle.model.specs.declared.Refusal.TheVariants as cause
use Rattle.model.specs.Refusals.{number}

-- the numbers are 1 to 18
pub number_range : (c : Refusal) → (1 ≤ number c) × (number c ≤ 18)
number_range cause.Boards = (omega arith, omega arith)
number_range cause.Measure = (omega arith, omega arith)
number_range cause.Picks = (omega arith, omega arith)
number_range cause.Room = (omega arith, omega arith)
number_range cause.Forbidden = (omega arith, omega arith)
number_range cause.Unlisted = (omega arith, omega arith)
number_range cause.Full = (omega arith, omega arith)
number_range cause.NoPick = (omega arith, omega arith)
number_range cause.NoLength = (omega arith, omega arith)
number_range cause.Shape = (omega arith, omega arith)
number_range cause.Command = (omega arith, omega arith)
number_range cause.Stopped = (omega arith, omega arith)
number_range cause.Operands = (omega arith, omega arith)
number_range cause.Unchanged = (omega arith, omega arith)
number_range cause.Trailing = (omega arith, omega arith)
number_range cause.BadPlace = (omega arith, omega arith)
number_range cause.WindowLength = (omega arith, omega arith)
number_range cause.FileRoom = (omega arith, omega arith)

pub number_some : (c : Refusal) → eqb (number c) 0 ≡ false
number_some c = ne_eqb (number c) 0 (λ e. omega (arith, (number_range c).0))
