-- `Walk::build_left` meets its contract. The loop's invariant: the ladder stands in parts i to m.
-- Assumes nothing.
use Prim.Native.Nat.{◌≤◌, ◌-◌}
use Rattle.steps.specs.Walk.{ladder}
use Rattle.steps.specs.Makes.{walk_kit, Wrote}
use Rattle.steps.proofs.Walk.build_left.Given as goal

abbrev pub invariant-loop-i : goal.invariant-loop-i
invariant-loop-i l =
    (l.s ≤ l.i) × (l.i ≤ l.m)
    × Wrote (ladder (walk_kit l.initial.self) l.initial.self.area.now l.m (l.m - l.i)) l.initial.self l.self
