-- `calls::whole_steps` meets its contract. The invariant: the state is that of k steps, the words of the other picks are left, and `AfterPicks`.
-- Assumes nothing.
use mathlib.Core.Path.{◌≡◌}
use Prim.Native.Nat.{ℕ}
use Rattle.calls.proofs.Loops.{Bared}
use Rattle.calls.proofs.whole_steps.Given as goal

abbrev pub invariant-loop-pick : goal.invariant-loop-pick
invariant-loop-pick l =
    (l.pick-iterator.size ≡ l.initial.walk.place.settings.boards)
    × (l.walk.area.ghost_name ≡ l.initial.walk.area.ghost_name)
    × ((k : ℕ) × Bared l.initial.walk.place l.lent.words.now l.initial.walk.area.now l.lent.m k l.pick-iterator.rest.now l.walk.place l.walk.area.now)
