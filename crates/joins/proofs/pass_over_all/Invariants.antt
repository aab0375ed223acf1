-- `joins::pass_over_all` meets its contract. The invariant is the definition at `w`.
-- Assumes nothing.
use mathlib.Core.Path.{◌≡◌}
use Prim.Native.Nat.{◌≤◌}
use lib.ListN.{length}
use Rattle.joins.specs.Warshall.{passes, Into}
use Rattle.joins.proofs.pass_over_all.Given as goal

abbrev pub invariant-loop-w : goal.invariant-loop-w
invariant-loop-w l = (l.w ≤ length l.t) × ((length l.t ≡ length l.initial.t) × ((l.t ≡ passes (length l.t) l.initial.t l.w) × Into (length l.t) l.t l.into))
