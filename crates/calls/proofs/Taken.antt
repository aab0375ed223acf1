-- What a step relies on, and what a pick leaves, by its verdict. Assumes nothing.
use mathlib.Core.Path.{◌≡◌, sym, ap}
use mathlib.Core.Bool.{Bool, false, cond}
use mathlib.Core.List.{List}
use Prim.Native.Nat.{ℕ}
use lib.Dec.{eqb}
use lib.ListN.{length}
use Rattle.place.specs.declared.Place.{Place}
use Rattle.verdicts.specs.Verdicts.{pick_verdict}
use Rattle.verdicts.specs.Fit.{Admitted}
use Rattle.steps.specs.Fit.{Able, Takes}
use Rattle.steps.specs.Walk.{state, kit_of, stepped}
use Rattle.steps.proofs.Ready.{sound_ready, sound_takes}
use Rattle.calls.specs.Calls.{pick_state}

pub admitted_able : {p : Place} {a w : List ℕ} → Admitted p a w → Able p.settings (length a)
admitted_able t = (sound_ready t.sound t.room).able

pub admitted_takes : {p : Place} {a w : List ℕ} → Admitted p a w → Takes p (length w)
admitted_takes t = sound_takes t.sound t.room t.below (sym t.shape)

-- one that nothing refuses: a step
pub taken_state : (p : Place) (a w : List ℕ) → pick_verdict p a w ≡ 0 → pick_state p a w ≡ stepped (kit_of p.settings) w (state p a)
unfolding pick_state
taken_state p a w e = ap (λ (b : ℕ). cond (eqb b 0) (stepped (kit_of p.settings) w (state p a)) (state p a)) e

-- one that is refused: nothing changed
pub refused_state : (p : Place) (a w : List ℕ) → eqb (pick_verdict p a w) 0 ≡ false → pick_state p a w ≡ state p a
unfolding pick_state
refused_state p a w e = ap (λ (b : Bool). cond b (stepped (kit_of p.settings) w (state p a)) (state p a)) e
