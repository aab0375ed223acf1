-- `Walk::climb` meets its contract. The loop's invariant: the rises that are left from here make the whole climb.
-- Assumes nothing.
use mathlib.Core.Path.{◌≡◌}
use Prim.Native.Nat.{◌-◌}
use Rattle.steps.proofs.Rises.{Climb}
use Rattle.steps.proofs.Walk.climb.Given as goal

abbrev pub invariant-loop : goal.invariant-loop
invariant-loop l =
    (l.self.area.ghost_name ≡ l.initial.self.area.ghost_name)
    × Climb l.initial.self.place l.initial.self.area.now (l.end - l.initial.counter) l.self.place l.self.area.now (l.end - l.counter)
