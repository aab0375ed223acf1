-- How many compositions are enough for one pick, whatever its tests answer: one less than its first window has picks. Assumes nothing.
use Prim.Native.Nat.{ℕ, ◌+◌, ◌-◌, ◌≤◌, ◌<◌, min}
use native.Mathlib.Omega.{arith}
use mathlib.Core.Path.{◌≡◌, refl}
use mathlib.Core.Logic.{⊎_elim}
use mathlib.Core.Bool.{Bool, true, false, ◌&&◌}
use mathlib.Core.List.{List}
use lib.Dec.{leb, ltb}
use borrow.Author.Tests.{ltb-true, ltb-false, leb-true}
use Rattle.model.specs.Journey.{val}
use Rattle.model.proofs.Bits.{val_le}
use Rattle.model.proofs.Logic.{le_or_lt}
use Rattle.measures.specs.Kit.{Kit}
use Rattle.place.specs.declared.Place.{Place}
use Rattle.place.specs.Places.{picks_taken, start_moved, boundary_moved, charged, tested}
use Rattle.steps.specs.Walk.{State, state, more, far, on_left, on_right, written, rebuilt, joined, extended_by, extended, entered, windowed, judged}
use Rattle.steps.specs.Walk.{tried, raised_by, raised, again}

-- what a pick that joins the right ladder charges: nothing where that was empty
pub join_charge : (b m : ℕ) → val (ltb (b + 1) m) ≤ m - (b + 1)
join_charge b m = go (ltb (b + 1) m) refl
  where
    go : (x : Bool) → ltb (b + 1) m ≡ x → val x ≤ m - (b + 1)
    go true e = let h = ltb-true (b + 1) m e in omega arith
    go false e = omega arith

-- what a window charges: nothing where it lies on one ladder alone
pub window_charge : (s b m : ℕ) → val (leb s b && ltb b m) ≤ min (b + 1 - s) (m - b)
window_charge s b m = go (leb s b) (ltb b m) refl refl
  where
    go : (x y : Bool) → leb s b ≡ x → ltb b m ≡ y → val (x && y) ≤ min (b + 1 - s) (m - b)
    go true true e f = let g = leb-true s b e in let h = ltb-true b m f in omega arith
    go true false e f = omega arith
    go false y e f = omega arith

-- c bounds the compositions up to the end of the pick, the window from s having been tested t times: those that are charged and, while the boundary is
-- behind the last pick, one for each window to come that begins on the left ladder, and m - (b + 2) for the left ladder built anew. Once it is built, no
-- window costs anything.
pub record Enough (c t : ℕ) (p : Place) : Type 0 where
  pub within : p.counts.compositions.0 ≤ c
  pub early : p.window.boundary.0 < p.window.taken.0 → p.counts.compositions.0 + (p.window.boundary.0 + 1 - (p.window.start.0 + t))
      + (p.window.taken.0 - (p.window.boundary.0 + 2)) ≤ c

-- as many as there are picks are enough for the rises
pub enough_rises : (p : Place) → Enough (p.counts.compositions.0 + p.window.taken.0) 1 p
enough_rises p = record { within = omega arith; early = λ y. omega arith }

module _ (K : Kit) (st : State) where
  extended_enough_by : (x : Bool) → far st.place ≡ x → st.place.window.boundary.0 < st.place.window.taken.0
      → Enough (st.place.counts.compositions.0 + (st.place.window.taken.0 - st.place.window.start.0)) 0 (extended_by K x st).place
  unfolding extended_by rebuilt joined charged boundary_moved
  extended_enough_by true e h = record { within = omega arith; early = λ y. absurd (omega arith) }
  extended_enough_by false e h =
      let f = ltb-false (st.place.window.boundary.0 + 1) st.place.window.start.0 e in
      let j = join_charge st.place.window.boundary.0 st.place.window.taken.0 in
      let v = val_le (more st.place) in
      record { within = omega arith; early = λ y. omega arith }

  extended_enough : st.place.window.boundary.0 < st.place.window.taken.0
      → Enough (st.place.counts.compositions.0 + (st.place.window.taken.0 - st.place.window.start.0)) 0 (extended K st).place
  unfolding extended
  extended_enough h = extended_enough_by (far st.place) refl h

  -- a test
  pub tried_enough : {c : ℕ} → Enough c 0 st.place → Enough c 1 (tried K st).place
  unfolding tried judged tested windowed charged
  tried_enough e =
      let v = val_le (on_left st.place && on_right st.place) in
      let w = window_charge st.place.window.start.0 st.place.window.boundary.0 st.place.window.taken.0 in
      let n = e.within in
      record {
        within = ⊎_elim (λ (f : st.place.window.taken.0 ≤ st.place.window.boundary.0). omega arith)
            (λ (f : st.place.window.boundary.0 < st.place.window.taken.0). let z = e.early f in omega arith)
            (le_or_lt st.place.window.taken.0 st.place.window.boundary.0);
        early = λ y. let z = e.early y in omega arith;
      }

  -- a rise
  raised_enough_by : {c : ℕ} (x : Bool) → far (start_moved st.place 1) ≡ x → st.place.window.start.0 < st.place.window.taken.0
      → Enough c 1 st.place → Enough c 0 (raised_by K x (state (start_moved st.place 1) st.area)).place
  unfolding raised_by rebuilt charged boundary_moved start_moved
  raised_enough_by true e h n =
      let f = ltb-true (st.place.window.boundary.0 + 1) (st.place.window.start.0 + 1) e in
      let z = n.early (omega arith) in
      record { within = omega arith; early = λ y. absurd (omega arith) }
  raised_enough_by false e h n = record { within = n.within; early = λ y. let z = n.early y in omega arith }

pub again_enough : {c : ℕ} (K : Kit) (st : State) → st.place.window.start.0 < st.place.window.taken.0 → Enough c 1 st.place
    → Enough c 1 (again K st).place
unfolding again raised
again_enough K st h n = tried_enough K (raised K st) (raised_enough_by K st (far (start_moved st.place 1)) refl h n)

-- a new pick with its first test: one less than its window has picks
pub entered_enough : (K : Kit) (k : ℕ) (w : List ℕ) (st : State) → st.place.window.boundary.0 ≤ st.place.window.taken.0
    → Enough (st.place.counts.compositions.0 + (st.place.window.taken.0 + 1 - (st.place.window.start.0 + k))) 1
    (tried K (entered K k w st)).place
unfolding entered written start_moved picks_taken
entered_enough K k w st h = tried_enough K (entered K k w st) (extended_enough K (written K k w st) (omega arith))
