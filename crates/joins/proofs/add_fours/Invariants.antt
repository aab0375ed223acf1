-- `joins::add_fours` meets its contract. The invariant is the definition at `w`; a turn is `through_four`.
-- Assumes nothing.
use mathlib.Core.Path.{◌≡◌}
use Prim.Native.Nat.{◌≤◌, ◌-◌}
use lib.ListN.{length}
use Rattle.lists.specs.Tab.{tab}
use Rattle.links.specs.Tables.{through_row}
use Rattle.joins.proofs.add_fours.Given as goal

abbrev pub invariant-loop-w : goal.invariant-loop-w
invariant-loop-w l = (l.w ≤ l.n) × ((length l.out ≡ l.n) × (l.out ≡ tab (through_row l.left l.right l.w) l.n))

abbrev pub decreases-loop-w : goal.decreases-loop-w
decreases-loop-w l = l.n - l.w
