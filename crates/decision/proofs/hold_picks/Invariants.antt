-- `decision::hold_picks` meets its contract. The invariant: the state is that of j picks, the words of the others are left, `AfterPicks`, and where the
-- window begins. Assumes nothing.
use mathlib.Core.Path.{◌≡◌}
use Prim.Native.Nat.{ℕ}
use Rattle.decision.proofs.Held.{Holding}
use Rattle.decision.proofs.hold_picks.Given as goal

abbrev pub invariant-loop-pick : goal.invariant-loop-pick
invariant-loop-pick l =
    (l.pick-iterator.size ≡ l.initial.walk.place.settings.boards)
    × (l.walk.area.ghost_name ≡ l.initial.walk.area.ghost_name)
    × ((j : ℕ) × Holding l.initial.walk.place l.lent.words.now l.initial.walk.area.now l.lent.m l.k j l.pick-iterator.rest.now
    l.walk.place l.walk.area.now)
