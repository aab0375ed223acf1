-- What a step within a pick does to the numbers of a place. Assumes nothing.
use Prim.Native.Nat.{ℕ, ◌+◌, ◌-◌, ◌*◌, ◌≤◌, ◌<◌, max}
use native.Mathlib.Nat.{le_refl}
use native.Mathlib.Omega.{arith}
use mathlib.Core.Path.{◌≡◌, refl, ◌∙◌}
use mathlib.Core.Bool.{Bool, true, false, ◌&&◌}
use mathlib.Core.List.{List}
use borrow.Author.Tests.{ltb-true, ltb-false}
use Rattle.measures.specs.Kit.{Kit}
use Rattle.place.specs.declared.Place.{Place}
use Rattle.place.specs.Places.{picks_taken, start_moved, boundary_moved, charged, tested}
use Rattle.steps.specs.Walk.{State, state, kit_of, more, far, on_left, on_right, written, rebuilt, joined, extended_by, extended, entered, windowed, judged}
use Rattle.steps.specs.Walk.{tried, raised_by, raised, again}
use Rattle.steps.specs.Fit.{Fit, Entry, Does}
use Rattle.place.specs.Places.{per_ladder}
use Rattle.steps.proofs.Fit.{limit-of, fit_at}
use Rattle.model.specs.Journey.{val}
use Rattle.model.proofs.Bits.{val_le}

-- What a step does to the numbers of a place: m picks are taken and the start rises by k; t tests are charged, and at most c compositions. The lowest
-- part that may yet be built anew, max (s + 1, b + 2), never falls.
pub record Grown (p q : Place) (m k c t : ℕ) : Type 0 where
  pub settings : q.settings ≡ p.settings
  pub taken : q.window.taken.0 ≡ p.window.taken.0 + m
  pub start : q.window.start.0 ≡ p.window.start.0 + k
  pub lowest : max (p.window.start.0 + 1) (p.window.boundary.0 + 2) ≤ max (q.window.start.0 + 1) (q.window.boundary.0 + 2)
  pub bound : p.window.boundary.0 ≤ p.window.taken.0 → q.window.boundary.0 ≤ q.window.taken.0
  pub comps : q.counts.compositions.0 ≤ p.counts.compositions.0 + c
  pub tests : q.counts.tests.0 ≡ p.counts.tests.0 + t

-- nothing done
pub grown_none : (p : Place) → Grown p p 0 0 0 0
grown_none p = record {
  settings = refl;
  taken = omega arith;
  start = omega arith;
  lowest = le_refl (max (p.window.start.0 + 1) (p.window.boundary.0 + 2));
  bound = λ x. x;
  comps = omega arith;
  tests = omega arith;
}

pub grown_on : {p q r : Place} {m k c t n i d u : ℕ} → Grown p q m k c t → Grown q r n i d u → Grown p r (m + n) (k + i) (c + d) (t + u)
grown_on g h =
    let gm = g.taken in
    let gs = g.start in
    let gl = g.lowest in
    let gc = g.comps in
    let gt = g.tests in
    let hm = h.taken in
    let hs = h.start in
    let hl = h.lowest in
    let hc = h.comps in
    let ht = h.tests in
    record {
      settings = h.settings ∙ g.settings;
      taken = omega arith;
      start = omega arith;
      lowest = omega arith;
      bound = λ x. h.bound (g.bound x);
      comps = omega arith;
      tests = omega arith;
    }

-- the same numbers, and more compositions may be charged than are
pub grown_to : {p q : Place} {m k c t n i d u : ℕ} → Grown p q m k c t → m ≡ n → k ≡ i → c ≤ d → t ≡ u → Grown p q n i d u
grown_to g e h a b =
    let gm = g.taken in
    let gs = g.start in
    let gc = g.comps in
    let gt = g.tests in
    record {
      settings = g.settings;
      taken = omega arith;
      start = omega arith;
      lowest = g.lowest;
      bound = g.bound;
      comps = omega arith;
      tests = omega arith;
    }

-- the compositions counted otherwise
pub grown_counted : {p q : Place} {m k c d t : ℕ} → Grown p q m k c t → q.counts.compositions.0 ≤ p.counts.compositions.0 + d → Grown p q m k d t
grown_counted g h = record {
  settings = g.settings;
  taken = g.taken;
  start = g.start;
  lowest = g.lowest;
  bound = g.bound;
  comps = h;
  tests = g.tests;
}

pub fit_grown : {p q : Place} {k c t d e : ℕ} → Grown p q 0 k c t → p.window.start.0 + k ≤ p.window.taken.0 → c + e ≤ d → t + e ≤ d
    → Fit p d → Fit q e
fit_grown g s c t f =
    let gm = g.taken in
    let gs = g.start in
    let gl = limit-of g.settings in
    let gc = g.comps in
    let gt = g.tests in
    let fs = f.start in
    let ft = f.top in
    let fb = g.bound f.bound in
    let fc = f.comps in
    let fu = f.tests in
    record {
      start = omega arith;
      inside = omega arith;
      top = omega arith;
      bound = omega arith;
      comps = omega arith;
      tests = omega arith;
    }

-- ---- the moves of a place, one by one

pub picks_grown : (p : Place) (m : ℕ) → Grown p (picks_taken p m) m 0 0 0
unfolding picks_taken
picks_grown p m = record {
  settings = refl;
  taken = refl;
  start = omega arith;
  lowest = omega arith;
  bound = λ x. omega arith;
  comps = omega arith;
  tests = omega arith;
}

start_grown : (p : Place) (k : ℕ) → Grown p (start_moved p k) 0 k 0 0
unfolding start_moved
start_grown p k = record {
  settings = refl;
  taken = omega arith;
  start = refl;
  lowest = omega arith;
  bound = λ x. x;
  comps = omega arith;
  tests = omega arith;
}

boundary_grown : (p : Place) → p.window.boundary.0 + 1 < p.window.start.0 → Grown p (boundary_moved p) 0 0 0 0
unfolding boundary_moved
boundary_grown p h = record {
  settings = refl;
  taken = omega arith;
  start = omega arith;
  lowest = omega arith;
  bound = λ x. le_refl p.window.taken.0;
  comps = omega arith;
  tests = omega arith;
}

charged_grown : (p : Place) (k c : ℕ) → k ≤ c → Grown p (charged p k) 0 0 c 0
unfolding charged
charged_grown p k c h = record {
  settings = refl;
  taken = omega arith;
  start = omega arith;
  lowest = omega arith;
  bound = λ x. x;
  comps = omega arith;
  tests = omega arith;
}

tested_grown : (p : Place) (x : Bool) → Grown p (tested p x) 0 0 0 1
unfolding tested
tested_grown p x = record {
  settings = refl;
  taken = omega arith;
  start = omega arith;
  lowest = omega arith;
  bound = λ x. x;
  comps = omega arith;
  tests = refl;
}

-- ---- the steps

module _ (K : Kit) (st : State) where
  rebuilt_grown : st.place.window.boundary.0 + 1 < st.place.window.start.0
      → Grown st.place (rebuilt K st).place 0 0 st.place.window.taken.0 0
  unfolding rebuilt
  rebuilt_grown h =
      let m = st.place.window.taken.0 in
      let s = st.place.window.start.0 in
      grown_to (grown_on (boundary_grown st.place h) (charged_grown (boundary_moved st.place) (m - s) m (omega arith))) refl refl (omega arith) refl

  joined_grown : Grown st.place (joined K st).place 0 0 1 0
  unfolding joined
  joined_grown = charged_grown st.place (val (more st.place)) 1 (val_le (more st.place))

  pub windowed_grown : Grown st.place (windowed K st).place 0 0 1 0
  unfolding windowed
  windowed_grown =
      let both = on_left st.place && on_right st.place in
      charged_grown st.place (val both) 1 (val_le both)

  judged_grown : Grown st.place (judged K st).place 0 0 0 1
  unfolding judged
  judged_grown = tested_grown st.place _

  -- a test leaves the boundary where it is
  pub tried_bound : (tried K st).place.window.boundary.0 ≡ st.place.window.boundary.0
  unfolding tried judged tested windowed charged
  tried_bound = refl

  -- the ladders take in a pick
  extended_grown_by : (x : Bool) → far st.place ≡ x → Grown st.place (extended_by K x st).place 0 0 (st.place.window.taken.0 + 1) 0
  unfolding extended_by
  extended_grown_by true e =
      grown_to (rebuilt_grown (ltb-true (st.place.window.boundary.0 + 1) st.place.window.start.0 e)) refl refl (omega arith) (omega arith)
  extended_grown_by false e = grown_to joined_grown refl refl (omega arith) (omega arith)

  extended_grown : Grown st.place (extended K st).place 0 0 (st.place.window.taken.0 + 1) 0
  unfolding extended
  extended_grown = extended_grown_by (far st.place) refl

  -- and then the start is not beyond b + 1
  extended_near_by : (x : Bool) → far st.place ≡ x → st.place.window.start.0 ≤ st.place.window.taken.0
      → (extended_by K x st).place.window.start.0 ≤ (extended_by K x st).place.window.boundary.0 + 1
  unfolding extended_by rebuilt joined charged boundary_moved
  extended_near_by true e h = omega arith
  extended_near_by false e h = ltb-false (st.place.window.boundary.0 + 1) st.place.window.start.0 e

  pub extended_near : st.place.window.start.0 ≤ st.place.window.taken.0
      → (extended K st).place.window.start.0 ≤ (extended K st).place.window.boundary.0 + 1
  unfolding extended
  extended_near h = extended_near_by (far st.place) refl h

pub tried_grown : (K : Kit) (st : State) → Grown st.place (tried K st).place 0 0 1 1
unfolding tried
tried_grown K st = grown_on (windowed_grown K st) (judged_grown K (windowed K st))

-- ---- a new pick

pub entered_grown : (K : Kit) (k : ℕ) (w : List ℕ) (st : State) → Grown st.place (entered K k w st).place 1 k (st.place.window.taken.0 + 2) 0
unfolding entered written
entered_grown K k w st =
    let p = st.place in
    let g = grown_on (picks_grown p 1) (start_grown (picks_taken p 1) k) in
    let m = g.taken in
    grown_to (grown_on g (extended_grown K (written K k w st))) (omega arith) (omega arith) (omega arith) refl

pub entered_near : (K : Kit) (k : ℕ) (w : List ℕ) (st : State) → st.place.window.start.0 + k ≤ st.place.window.taken.0 + 1
    → (entered K k w st).place.window.start.0 ≤ (entered K k w st).place.window.boundary.0 + 1
unfolding entered written start_moved picks_taken
entered_near K k w st h = extended_near K (written K k w st) h

-- ---- a rise

pub raised_grown : (K : Kit) (st : State) → Grown st.place (raised K st).place 0 1 st.place.window.taken.0 0
unfolding raised raised_by
raised_grown K st = go (far (start_moved st.place 1)) refl
  where
    risen : Grown st.place (start_moved st.place 1) 0 1 0 0
    risen = start_grown st.place 1

    go : (x : Bool) → far (start_moved st.place 1) ≡ x
        → Grown st.place (raised_by K x (state (start_moved st.place 1) st.area)).place 0 1 st.place.window.taken.0 0
    go true e =
        let f = ltb-true ((start_moved st.place 1).window.boundary.0 + 1) (start_moved st.place 1).window.start.0 e in
        let m = risen.taken in
        grown_to (grown_on risen (rebuilt_grown K (state (start_moved st.place 1) st.area) f)) refl refl (omega arith) refl
    go false e = grown_to risen refl refl (omega arith) refl

pub again_grown : (K : Kit) (st : State) → Grown st.place (again K st).place 0 1 (st.place.window.taken.0 + 1) 1
unfolding again
again_grown K st = grown_on (raised_grown K st) (tried_grown K (raised K st))

-- and then the start is not beyond b + 1
raised_near_by : (K : Kit) (st : State) (x : Bool) → far (start_moved st.place 1) ≡ x → st.place.window.start.0 < st.place.window.taken.0
    → (raised_by K x (state (start_moved st.place 1) st.area)).place.window.start.0 ≤ (raised_by K x
    (state (start_moved st.place 1) st.area)).place.window.boundary.0 + 1
unfolding raised_by rebuilt charged boundary_moved start_moved
raised_near_by K st true e h = omega arith
raised_near_by K st false e h = ltb-false (st.place.window.boundary.0 + 1) (st.place.window.start.0 + 1) e

pub again_near : (K : Kit) (st : State) → st.place.window.start.0 < st.place.window.taken.0
    → (again K st).place.window.start.0 ≤ (again K st).place.window.boundary.0 + 1
unfolding again raised
again_near K st h =
    let n = raised_near_by K st (far (start_moved st.place 1)) refl h in
    let s = (tried_grown K (raised K st)).start in
    let b = tried_bound K (raised K st) in
    omega arith

-- ---- what a step may go on from

-- the place that code comes to, where its own is known to have grown
pub grown_fit : {p r q : Place} {k c t d e : ℕ} → q ≡ r → Grown p r 0 k c t → p.window.start.0 + k ≤ p.window.taken.0
    → c + e ≤ d → t + e ≤ d → Fit p d → Fit q e
grown_fit h g s c t f = fit_at h (fit_grown g s c t f)

pub enter_tries : (p : Place) (a : List ℕ) (k : ℕ) (w : List ℕ) {q : Place} {b : List ℕ} → p.settings.limit ≤ 4096 → Entry p k
    → Does (entered (kit_of p.settings) k w) p a q b → Fit q (3 * per_ladder + 1)
enter_tries p a k w ea e d =
    let g = entered_grown (kit_of p.settings) k w (state p a) in
    let gm = g.taken in
    let gs = g.start in
    let gl = limit-of g.settings in
    let gc = g.comps in
    let gt = g.tests in
    let es = e.start in
    let eh = e.ahead in
    let et = e.top in
    let eb = g.bound e.bound in
    let ec = e.comps in
    let eu = e.tests in
    fit_at d.0 (record {
      start = omega arith;
      inside = omega arith;
      top = omega arith;
      bound = omega arith;
      comps = omega arith;
      tests = omega arith;
    })

pub try_climbs : (p : Place) (a : List ℕ) {q : Place} {b : List ℕ} → Fit p (3 * per_ladder + 1)
    → Does (tried (kit_of p.settings)) p a q b → Fit q (3 * per_ladder)
try_climbs p a f d = let fi = f.inside in grown_fit d.0 (tried_grown (kit_of p.settings) (state p a)) (omega arith) (omega arith) (omega arith) f

pub raise_tries : (p : Place) (a : List ℕ) {q : Place} {b : List ℕ} → p.settings.limit ≤ 4096 → Fit p per_ladder → p.window.start.0 < p.window.taken.0
    → Does (raised (kit_of p.settings)) p a q b → Fit q 1
raise_tries p a fc f h d =
    let ft = f.top in
    grown_fit d.0 (raised_grown (kit_of p.settings) (state p a)) (omega arith) (omega arith) (omega arith) f
