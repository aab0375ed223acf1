-- `naive_walk::Walk::climbed` meets its contract. Each rise leaves one start less below m.
-- Assumes nothing.
use Rattle.std.proofs.Common.{◌≡◌, ◌-◌}
use Rattle.naive_walk.specs.Room.{Room}
use Rattle.naive_walk.proofs.Walk.climbed.Given as goal

abbrev pub invariant-loop-y : goal.invariant-loop-y
invariant-loop-y l = Room 0 0 l.y × (l.y.m ≡ l.initial.y.m)

abbrev pub decreases-loop-y : goal.decreases-loop-y
decreases-loop-y l = l.y.m - l.y.s
