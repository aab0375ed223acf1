-- `joins::add_columns` meets its contract. The invariant is the definition at `w`, where `add_fours` ends; a turn is `through_next`.
-- Assumes nothing.
use mathlib.Core.Path.{◌≡◌}
use Prim.Native.Nat.{◌≤◌}
use lib.ListN.{length}
use Rattle.lists.specs.Tab.{tab}
use Rattle.links.specs.Tables.{through_row}
use Rattle.joins.proofs.add_columns.Given as goal

abbrev pub invariant-loop-w : goal.invariant-loop-w
invariant-loop-w l = (l.w ≤ l.n) × ((length l.out ≡ l.n) × (l.out ≡ tab (through_row l.left l.right l.w) l.n))
