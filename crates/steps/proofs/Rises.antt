-- The rises of one pick under measure 1: what they do to the place, and the loop that makes them. Assumes nothing.
use Prim.Native.Nat.{ℕ, zero, suc, ◌+◌, ◌-◌, ◌*◌, ◌≤◌, ◌<◌}
use native.Mathlib.Nat.{le_refl}
use native.Mathlib.Omega.{arith}
use mathlib.Core.Path.{◌≡◌, refl, sym, ap, ap₂, ◌∙◌, subst}
use mathlib.Core.Bool.{Bool, true, false, cond}
use mathlib.Core.List.{List}
use Rattle.measures.specs.Kit.{Kit}
use Rattle.place.specs.declared.Place.{Place}
use Rattle.steps.specs.Walk.{State, state, kit_of, again, climb, climbed}
use Rattle.steps.specs.Fit.{Fit, Does}
use Rattle.place.specs.Places.{per_ladder}
use Rattle.steps.proofs.Fit.{does_kit}
use Rattle.steps.proofs.Grown.{Grown, grown_none, grown_on, grown_to, grown_counted, fit_grown, again_grown, again_near}
use Rattle.steps.proofs.Enough.{Enough, enough_rises, again_enough}

-- after i rises from p, each with its test
pub record AfterRises (p q : Place) (i : ℕ) : Type 0 where
  pub grown : Grown p q 0 i p.window.taken.0 i
  pub near : p.window.start.0 ≤ p.window.boundary.0 + 1 → q.window.start.0 ≤ q.window.boundary.0 + 1
  -- what was enough for the pick is enough still
  pub enough : (c : ℕ) → Enough c 1 p → Enough c 1 q

pub along_none : (p : Place) → AfterRises p p 0
along_none p = record {
  grown = grown_to (grown_none p) refl refl (omega arith) refl;
  near = λ x. x;
  enough = λ c x. x;
}

-- one rise more, while s is below m
pub along_more : {p q : Place} {i : ℕ} (K : Kit) (a : List ℕ) → p.window.start.0 + i < p.window.taken.0 → AfterRises p q i
    → AfterRises p (again K (state q a)).place (i + 1)
along_more {p} {q} {i} K a low h =
    let g = h.grown in
    let gm = g.taken in
    let gs = g.start in
    let more : (c : ℕ) → Enough c 1 p → Enough c 1 (again K (state q a)).place = λ c x. again_enough K (state q a) (omega arith) (h.enough c x) in
    record {
      grown = grown_counted (grown_on g (again_grown K (state q a))) (more (p.counts.compositions.0 + p.window.taken.0) (enough_rises p)).within;
      near = λ x. again_near K (state q a) (omega arith);
      enough = more;
    }

-- the rises of the definition: at most k more
abbrev Risen : Place → ℕ → Place → Type 0
Risen p most q = (j : ℕ) × ((j ≤ most) × AfterRises p q j)

pub climb_along : (K : Kit) (k i : ℕ) (p : Place) (st : State)
    → p.window.start.0 + (i + k) ≡ p.window.taken.0 → AfterRises p st.place i → Risen p (i + k) (climb K k st).place
unfolding climb
climb_along K zero i p st row h = (i, (omega arith, h))
climb_along K (suc k) i p st row h =
    let r = climb_along K k (i + 1) p (again K st) (omega arith) (along_more K st.area (omega arith) h) in
    let low = r.1.0 in
    go st.place.marks.passed (r.0, (omega arith, r.1.1))
  where
    go : (x : Bool) → Risen p (i + suc k) (climb K k (again K st)).place → Risen p (i + suc k) (cond x st (climb K k (again K st))).place
    go true r = (i, (omega arith, h))
    go false r = r

pub climbed_along : (K : Kit) (st : State) → st.place.window.start.0 ≤ st.place.window.taken.0
    → Risen st.place (st.place.window.taken.0 - st.place.window.start.0) (climbed K st).place
unfolding climbed
climbed_along K st low =
    let k = st.place.window.taken.0 - st.place.window.start.0 in
    let r = climb_along K k 0 st.place st (omega arith) (along_none st.place) in
    let rl = r.1.0 in
    (r.0, (omega arith, r.1.1))

-- ---- the loop: what is left from here makes the whole

pub record Climb (p₀ : Place) (a₀ : List ℕ) (k₀ : ℕ) (p : Place) (a : List ℕ) (k : ℕ) : Type 0 where
  pub cap : p₀.settings.limit ≤ 4096
  pub fit₀ : Fit p₀ (3 * per_ladder)
  pub whole : k₀ ≡ p₀.window.taken.0 - p₀.window.start.0
  pub down : k ≤ k₀
  pub along : AfterRises p₀ p (k₀ - k)
  pub rest : climb (kit_of p₀.settings) k₀ (state p₀ a₀) ≡ climb (kit_of p₀.settings) k (state p a)

climb-more : (K : Kit) (k : ℕ) (st : State) → 0 < k → st.place.marks.passed ≡ false → climb K k st ≡ climb K (k - 1) (again K st)
unfolding climb
climb-more K zero st h e = absurd (omega arith)
climb-more K (suc k) st h e = let g : suc k - 1 ≡ k = omega arith in rw (e, g)

climb_still : (K : Kit) (k : ℕ) (st : State) → st.place.marks.passed ≡ true → climb K k st ≡ st
unfolding climb
climb_still K zero st e = refl
climb_still K (suc k) st e = rw e

climb_none : (K : Kit) (k : ℕ) (st : State) → k ≡ 0 → climb K k st ≡ st
unfolding climb
climb_none K zero st e = refl
climb_none K (suc k) st e = absurd (omega arith)

pub climb_turn : {p₀ p q : Place} {a₀ a b : List ℕ} {k₀ k : ℕ} → Climb p₀ a₀ k₀ p a k → 0 < k → p.marks.passed ≡ false
    → Does (again (kit_of p.settings)) p a q b → Climb p₀ a₀ k₀ q b (k - 1)
climb_turn {p₀} {p} {q} {a₀} {a} {b} {k₀} {k} c h e d =
    let f = c.fit₀ in
    let fi = f.inside in
    let w = c.whole in
    let dn = c.down in
    let g = c.along.grown in
    let d' : Does (again (kit_of p₀.settings)) p a q b = does_kit again p p₀ g.settings d in
    let e₁ : again (kit_of p₀.settings) (state p a) ≡ state q b = ap₂ state (sym d'.0) (sym d'.1) in
    let n : k₀ - k + 1 ≡ k₀ - (k - 1) = omega arith in
    let m : AfterRises p₀ (again (kit_of p₀.settings) (state p a)).place (k₀ - k + 1) = along_more (kit_of p₀.settings) a (omega arith) c.along in
    record {
      cap = c.cap;
      fit₀ = f;
      whole = c.whole;
      down = omega arith;
      along = subst (λ (i : ℕ). AfterRises p₀ q i) n (subst (λ (x : Place). AfterRises p₀ x (k₀ - k + 1)) (sym d'.0) m);
      rest = c.rest ∙ climb-more (kit_of p₀.settings) k (state p a) h e ∙ ap (climb (kit_of p₀.settings) (k - 1)) e₁;
    }

climb_end : {p₀ p : Place} {a₀ a : List ℕ} {k₀ k : ℕ} → Climb p₀ a₀ k₀ p a k
    → climb (kit_of p₀.settings) k (state p a) ≡ state p a → Does (climbed (kit_of p₀.settings)) p₀ a₀ p a
unfolding climbed
climb_end {p₀} {p} {a₀} {a} {k₀} {k} c e =
    let g : climb (kit_of p₀.settings) (p₀.window.taken.0 - p₀.window.start.0) (state p₀ a₀) ≡ state p a =
    ap (λ (i : ℕ). climb (kit_of p₀.settings) i (state p₀ a₀)) (sym c.whole) ∙ c.rest ∙ e in
    (sym (ap (λ (x : State). x.place) g), sym (ap (λ (x : State). x.area) g))

pub climb_passed : {p₀ p : Place} {a₀ a : List ℕ} {k₀ k : ℕ} → Climb p₀ a₀ k₀ p a k → p.marks.passed ≡ true
    → Does (climbed (kit_of p₀.settings)) p₀ a₀ p a
climb_passed {p₀} {p} {a₀} {a} {k₀} {k} c e = climb_end c (climb_still (kit_of p₀.settings) k (state p a) e)

pub climb_over : {p₀ p : Place} {a₀ a : List ℕ} {k₀ k : ℕ} → Climb p₀ a₀ k₀ p a k → k ≤ 0
    → Does (climbed (kit_of p₀.settings)) p₀ a₀ p a
climb_over {p₀} {p} {a₀} {a} {k₀} {k} c e = climb_end c (climb_none (kit_of p₀.settings) k (state p a) (omega arith))
