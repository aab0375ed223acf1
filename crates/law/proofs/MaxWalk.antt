-- Measure 1: THEOREM. After each pick the walk reports the largest length, or none where there is none, by at most 2m tests and at most
-- 4(m - 1) compositions, and the parts hold what document 01 says; after the end, what the ending pick left. The kit is a parameter. Assumes nothing.
use mathlib.Core.Path.{◌≡◌, refl, sym, ap, ◌∙◌, subst}
use mathlib.Core.Logic.{◌≢◌, inl, inr, ⊎_elim}
use mathlib.Core.List.{List}
use Prim.Native.Nat.{ℕ, zero, suc, ◌+◌, ◌-◌, ◌*◌, ◌≤◌, ◌<◌, min}
use native.Mathlib.Nat.{le_refl, le_trans}
use native.Mathlib.Omega.{arith}
use mathlib.Core.Bool.{Bool, true, false, ◌&&◌, not, cond}
use mathlib.Core.Option.{none, some}
use lib.Dec.{T, eqb, ltb, ltb→lt, lt→ltb, T_not, not_T}
use Rattle.model.proofs.Logic.{tr, T→≡, eq_or, cases, or_l, or_r, or_cases, and_l, and_r, and_both, cond_ind}
use Rattle.model.proofs.Bits.{val_le}
use Rattle.model.specs.Length.{Every, Downward}
use Rattle.model.specs.Journey.{val}
use Rattle.place.specs.Places.{picks_taken, start_moved, boundary_moved, charged, tested}
use Rattle.steps.specs.Walk.{State, state, rebuilt, entered, windowed, judged, tried, cleared}
use Rattle.steps.specs.Walk.{raised_by, raised, again, climb, climbed, ended, max_step, reported}
use Rattle.area.proofs.Laws.{zero_same, zero_length}
use Rattle.steps.proofs.Grown.{tried_grown, entered_grown, raised_grown}
use Rattle.law.specs.Ladders.{m_of, s_of, b_of, limit_of, WindowTables, holds, Law, Decides, Laddered}
use Rattle.law.specs.Correct.{Fails}
use Rattle.law.specs.Invariants.{MaxAnswer, MaxGoing, at_end, MaxEnded, MaxInvariant, MaxKeepsClaim, MaxReportsClaim}
use Rattle.law.proofs.Ladders.{entered_failed, entered_by, raised_laddered, tried_tests, cleared_laddered, cleared-window}
use Rattle.law.proofs.MinWalk.{TestWithin, entered_cost, rise-far, rise_near}

val_no : (b : Bool) → (T b → ⊥) → val b ≡ 0
val_no true f = absurd (f tt)
val_no false f = refl

-- no longer length than a row that fails
pub fails_greatest : (P : ℕ → ℕ → Type 0) (M m k l : ℕ) → Downward P M → m ≤ M → Fails P m k → 1 ≤ k → k ≤ l → l ≤ m
    → Every P m l → ⊥
fails_greatest P M m k l down z f o a b e =
    let r = f.row in
    let u = f.upto in
    let g = f.from in
    let x = min f.i (m + 1 - l) in
    f.fails (down x (x + l - 1) f.i f.j (omega arith) (omega arith) (omega arith) (omega arith) (omega arith)
    (e x (x + l - 1) (omega arith) (omega arith) (omega arith)))

-- a failing window, seen later on
pub fails_on : (P : ℕ → ℕ → Type 0) {m k : ℕ} {m' k' : ℕ} → Fails P m k → k ≡ k' → m ≤ m' → Fails P m' k'
fails_on P f e l = let r = f.row in let u = f.upto in record { i = f.i; j = f.j; from = f.from; upto = omega arith; row = omega arith; fails = f.fails }

-- what holds before each test within a pick
pub record MaxUntested (X : WindowTables) (P : ℕ → ℕ → Type 0) (st : State) : Type 0 where
  pub ladders : Laddered X st
  pub inside : s_of st ≤ m_of st
  pub earlier : (i j : ℕ) → 1 ≤ i → i ≤ j → j < m_of st → suc j ≤ i + (m_of st + 1 - s_of st) → P i j
  pub above : T st.place.marks.failed → Fails P (m_of st) (m_of st + 2 - s_of st)
  pub whole : (T st.place.marks.failed → ⊥) → s_of st ≡ 1
  pub count_tests : st.place.counts.tests.0 + 1 + 1 ≤ m_of st + s_of st
  pub count_comps : TestWithin (s_of st - 1) st

-- and after it
pub record MaxTested (X : WindowTables) (P : ℕ → ℕ → Type 0) (st : State) : Type 0 where
  pub ladders : Laddered X st
  pub inside : s_of st ≤ m_of st
  pub window : holds X st (limit_of st + 2) ≡ X.win (s_of st) (m_of st)
  pub good : T st.place.marks.passed → P (s_of st) (m_of st)
  pub bad : (T st.place.marks.passed → ⊥) → P (s_of st) (m_of st) → ⊥
  pub marked : (T st.place.marks.passed → ⊥) → T st.place.marks.failed
  pub earlier : (i j : ℕ) → 1 ≤ i → i ≤ j → j < m_of st → suc j ≤ i + (m_of st + 1 - s_of st) → P i j
  pub above : T st.place.marks.passed → T st.place.marks.failed → Fails P (m_of st) (m_of st + 2 - s_of st)
  pub whole : (T st.place.marks.failed → ⊥) → s_of st ≡ 1
  pub count_tests : st.place.counts.tests.0 + 1 ≤ m_of st + s_of st
  pub count_comps : st.place.counts.compositions.0 ≤ (s_of st - 1) + 2 * (m_of st - 1) + (b_of st - 1)

module _ (X : WindowTables) (law : Law X) (P : ℕ → ℕ → Type 0) (right : Decides X P) (down : Downward P X.most) where
  open X use {kit as K, own, win, list as l, most as M}

  -- ---- one test

  tried_on : (st : State) → m_of st ≤ M → MaxUntested X P st → MaxTested X P (tried K st)
  unfolding tried judged windowed charged tested
  tried_on st z a =
      let p = st.place in
      let s1 = a.ladders.frame.start in
      let t = tried_tests X law st a.ladders z a.inside in
      let r = right (s_of st) (m_of st) s1 a.inside z in
      let k = (tried K st).place.marks.passed in
      record {
        ladders = t.laddered;
        inside = a.inside;
        window = t.window;
        good = λ g. r.0 (subst T t.result g);
        bad = λ g y. g (subst T (sym t.result) (r.1 y));
        marked = λ g. or_r p.marks.failed (not k) (not_T k g);
        earlier = a.earlier;
        above = λ g f. ⊎_elim (λ (x : T p.marks.failed). a.above x) (λ (x : T (not k)). absurd (T_not k x g)) (or_cases p.marks.failed (not k) f);
        whole = λ g. a.whole (λ x. g (or_l p.marks.failed (not k) x));
        count_tests = a.count_tests;
        count_comps = a.count_comps;
      }

  -- ---- a new pick

  rows : (p : Bool) (s m : ℕ) → ((i j : ℕ) → 1 ≤ i → i ≤ j → j ≤ m → suc j ≤ i + (m + 1 - s) → P i j) → ((T p → ⊥) → s ≡ 1)
      → (i j : ℕ) → 1 ≤ i → i ≤ j → j < m + 1 → suc j ≤ i + (m + 1 + 1 - (s + val p)) → P i j
  rows true s m f w i j a b c d = f i j a b (omega arith) (omega arith)
  rows false s m f w i j a b c d = let e = w (λ t. t) in f i j a b (omega arith) (omega arith)

  untested_on : (w : List ℕ) (st : State) → MaxGoing X P st → Laddered X (entered K (val st.place.marks.failed) w st)
      → MaxUntested X P (entered K (val st.place.marks.failed) w st)
  untested_on w st a ch =
      let x = st.place.marks.failed in
      let g = entered_grown K (val x) w st in
      let gm = g.taken in
      let gs = g.start in
      let gt = g.tests in
      let same = entered_failed K (val x) w st in
      let s1 = a.ladders.frame.start in
      let ahead = a.ahead in
      let ct = a.count_tests in
      record {
        ladders = ch;
        inside = omega arith;
        earlier = λ i j y z u v. rows x (s_of st) (m_of st) a.upto a.whole i j y z (omega arith) (omega arith);
        above = λ t. let f = tr same t in let v : val x ≡ 1 = ap val (T→≡ x f) in fails_on P (a.above f) (omega arith) (omega arith);
        whole = λ t. let f : T x → ⊥ = λ y. t (tr (sym same) y) in let v = val_no x f in let h = a.whole f in omega arith;
        count_tests = omega arith;
        count_comps = le_trans (entered_cost K (val x) w st (s_of st - 1) a.ladders.bound s1 ahead a.count_comps) (omega arith);
      }

  -- ---- the start rises after a failure

  rising_by : (x : Bool) (st : State) → (T st.place.marks.passed → ⊥) → s_of st < m_of st → MaxTested X P st
      → (T x → b_of st + 1 < s_of st + 1)
      → Laddered X (raised_by K x (state (start_moved st.place 1) st.area))
      → MaxUntested X P (raised_by K x (state (start_moved st.place 1) st.area))
  unfolding raised_by rebuilt charged boundary_moved start_moved
  rising_by true st no_pass h a hi ch =
      let p = st.place in
      let s1 = a.ladders.frame.start in
      let f = hi tt in
      let ct = a.count_tests in
      record {
        ladders = ch;
        inside = omega arith;
        earlier = λ i j x y u v. a.earlier i j x y u (omega arith);
        above = λ x. record { i = s_of st; j = m_of st; from = s1; upto = le_refl (m_of st); row = omega arith; fails = a.bad no_pass };
        whole = λ x. absurd (x (a.marked no_pass));
        count_tests = omega arith;
        count_comps = le_trans (rise-far p.counts.compositions.0 (b_of st) (m_of st) (s_of st) (s_of st - 1) a.ladders.bound f h a.count_comps)
            (omega arith);
      }
  rising_by false st no_pass h a hi ch =
      let p = st.place in
      let s1 = a.ladders.frame.start in
      let ct = a.count_tests in
      record {
        ladders = ch;
        inside = omega arith;
        earlier = λ i j x y u v. a.earlier i j x y u (omega arith);
        above = λ x. record { i = s_of st; j = m_of st; from = s1; upto = le_refl (m_of st); row = omega arith; fails = a.bad no_pass };
        whole = λ x. absurd (x (a.marked no_pass));
        count_tests = omega arith;
        count_comps = le_trans (rise_near p.counts.compositions.0 (b_of st) (m_of st) (s_of st) (s_of st - 1) a.count_comps) (omega arith);
      }

  raised_on : (st : State) → m_of st ≤ M → (T st.place.marks.passed → ⊥) → s_of st < m_of st → MaxTested X P st
      → MaxTested X P (tried K (raised K st))
  unfolding raised start_moved
  raised_on st z no_pass h a =
      let b = b_of st in
      let s = s_of st in
      let e = (raised_grown K st).taken in
      tried_on (raised K st) (omega arith)
      (rising_by (ltb (b + 1) (s + 1)) st no_pass h a (λ t. ltb→lt (b + 1) (s + 1) t) (raised_laddered X law st a.ladders z h))

  -- ---- the last test of a pick passed, or was of the window s = m

  passed_going : (st : State) → m_of st ≤ M → MaxTested X P st → T st.place.marks.passed → MaxGoing X P (cleared K st)
  unfolding cleared
  passed_going st z a t =
      let p = st.place in
      let s1 = a.ladders.frame.start in
      let ins = a.inside in
      record {
        ladders = cleared_laddered X law st a.ladders;
        ahead = omega (arith, val_le p.marks.failed);
        inside = λ h. ins;
        window = λ h. cleared-window X law st a.ladders.frame ∙ a.window;
        spare = zero_same K (limit_of st + 4) st.area a.ladders.frame.room (limit_of st + 4) (omega arith) (le_refl (limit_of st + 4));
        good = λ h. t;
        upto = λ i j x y u v. ⊎_elim
            (λ (e : j ≡ m_of st). down (s_of st) (m_of st) i j s1 (omega arith) y (omega arith) z (a.good t))
            (λ (ne : j ≢ m_of st). a.earlier i j x y (omega arith) v) (eq_or j (m_of st));
        above = a.above t;
        whole = a.whole;
        count_tests = a.count_tests;
        count_comps = a.count_comps;
      }

  at-end : (st : State) → m_of st ≡ s_of st → Laddered X st → Laddered X (state (at_end st.place) st.area)
  unfolding at_end
  at-end st e c =
      let tp = c.frame.top in
      let bd = c.bound in
      record {
        frame = record { start = c.frame.start; top = omega arith; room = c.frame.room; list = c.frame.list };
        bound = omega arith;
        near = c.near;
        lefts = c.lefts;
        owns = λ i x y. c.owns i x (omega arith);
        rights = λ x. c.rights (omega arith) ∙ ap (λ (v : ℕ). win (b_of st + 1) v) e;
        empty = λ x. c.empty (omega arith);
      }

  failed_ends : (st : State) → m_of st ≤ s_of st → MaxTested X P st → (T st.place.marks.passed → ⊥) → MaxEnded X P (cleared K st)
  unfolding cleared
  failed_ends st h a t =
      let p = st.place in
      let s1 = a.ladders.frame.start in
      let ins = a.inside in
      let bd = a.ladders.bound in
      let ct = a.count_tests in
      let cc₁ = a.count_comps in
      let rm = a.ladders.frame.room in
      let same : m_of st ≡ s_of st = omega arith in
      record {
        some_pick = omega arith;
        start = s1;
        near = a.ladders.near;
        bound = bd;
        inside = ins;
        room = let e = zero_length K (limit_of st + 4) st.area rm (limit_of st + 4) (omega arith) (le_refl (limit_of st + 4)) in omega arith;
        ladders = at-end (cleared K st) same (cleared_laddered X law st a.ladders);
        window = cleared-window X law st a.ladders.frame ∙ a.window ∙ ap (λ (v : ℕ). win (s_of st) v) same;
        spare = zero_same K (limit_of st + 4) st.area rm (limit_of st + 4) (omega arith) (le_refl (limit_of st + 4));
        bad = t;
        single = record { i = s_of st; j = m_of st; from = s1; upto = le_refl (m_of st); row = omega arith; fails = a.bad t };
        count_tests = omega arith;
        count_comps = omega arith;
      }

  climb_keeps : (k : ℕ) (st : State) → m_of st ≤ M → k ≡ m_of st - s_of st → MaxTested X P st → MaxInvariant X P (cleared K (climb K k st))
  unfolding climb again
  climb_keeps zero st z e a =
      ⊎_elim (λ (t : T st.place.marks.passed). inl (passed_going st z a t))
      (λ (t : T st.place.marks.passed → ⊥). inr (failed_ends st (omega arith) a t)) (cases st.place.marks.passed)
  climb_keeps (suc k) st z e a =
      cond_ind (λ (q : State). MaxInvariant X P (cleared K q)) st.place.marks.passed st (climb K k (tried K (raised K st)))
      (λ t. inl (passed_going st z a t))
      (λ t. let r = raised_grown K st in
      let r0 = r.taken in
      let r1 = r.start in
      let q = tried_grown K (raised K st) in
      let q0 = q.taken in
      let q1 = q.start in
      climb_keeps k (tried K (raised K st)) (omega arith) (omega arith) (raised_on st z t (omega arith) a))

pub max_keeps : MaxKeepsClaim
unfolding max_step climbed picks_taken at_end
max_keeps X law P right down w st z u e (inl a) =
    let K = X.kit in
    let p = st.place in
    let k = val p.marks.failed in
    let q = entered K k w st in
    cond_ind (MaxInvariant X P) (ended p) (state (picks_taken p 1) st.area) (cleared K (climbed K (tried K q)))
    (λ t. absurd (T_not p.marks.passed (and_r (ltb 0 (m_of st)) (not p.marks.passed) t)
    (a.good (ltb→lt 0 (m_of st) (and_l (ltb 0 (m_of st)) (not p.marks.passed) t)))))
    (λ t.
    let g = entered_by X law k w st a.ladders z u e a.ahead in
    let few = g.1 in
    let q0 = (tried_grown K q).taken in
    climb_keeps X law P right down (m_of (tried K q) - s_of (tried K q)) (tried K q) (omega arith) refl
    (tried_on X law P right down q few (untested_on X law P right down w st a g.0)))
max_keeps X law P right down w st z u e (inr a) =
    let K = X.kit in
    let p = st.place in
    cond_ind (MaxInvariant X P) (ended p) (state (picks_taken p 1) st.area) (cleared K (climbed K (tried K (entered K (val p.marks.failed) w st))))
    (λ t. let ct = a.count_tests in
    let cc₁ = a.count_comps in
    let ins = a.inside in
    let bd = a.bound in
    inr (record {
      some_pick = omega arith;
      start = a.start;
      near = a.near;
      bound = omega arith;
      inside = omega arith;
      room = a.room;
      ladders = a.ladders;
      window = a.window;
      spare = a.spare;
      bad = a.bad;
      single = fails_on P a.single refl (omega arith);
      count_tests = omega arith;
      count_comps = omega arith;
    }))
    (λ t. absurd (t (and_both (ltb 0 (m_of st)) (not p.marks.passed) (lt→ltb 0 (m_of st) a.some_pick) (not_T p.marks.passed a.bad))))

pub max_right : MaxReportsClaim
unfolding reported
max_right X law P right down st z h one (inl a) =
    let p = st.place in
    let m = m_of st in
    let s = s_of st in
    let s1 = a.ladders.frame.start in
    let ins = a.inside h in
    cond_ind (MaxAnswer P m) p.marks.passed (some (m + 1 - s)) (cond (not (eqb p.settings.measure 1) && ltb 1 s) (some (m + 2 - s)) none)
    (λ t. record {
      low = omega arith;
      high = omega arith;
      every = λ i j x y e. a.upto i j x (omega arith) y (omega arith);
      greatest = λ k x y e. ⊎_elim
          (λ (f : T p.marks.failed). fails_greatest P X.most m (m + 2 - s) k down z (a.above f) (omega arith) (omega arith) y e)
          (λ (f : T p.marks.failed → ⊥). let w = a.whole f in omega arith) (cases p.marks.failed);
    })
    (λ t. absurd (t (a.good h)))
max_right X law P right down st z h one (inr a) =
    let p = st.place in
    let m = m_of st in
    let s = s_of st in
    cond_ind (MaxAnswer P m) p.marks.passed (some (m + 1 - s)) (cond (not (eqb p.settings.measure 1) && ltb 1 s) (some (m + 2 - s)) none)
    (λ t. absurd (a.bad t))
    (λ t. cond_ind (MaxAnswer P m) (not (eqb p.settings.measure 1) && ltb 1 s) (some (m + 2 - s)) none
    (λ g. absurd (T_not (eqb p.settings.measure 1) (and_l (not (eqb p.settings.measure 1)) (ltb 1 s) g) one))
    (λ g k x y e. fails_greatest P X.most m 1 k down z a.single (le_refl 1) x y e))

-- the counts
pub max_tests : {X : WindowTables} {P : ℕ → ℕ → Type 0} (st : State) → 1 ≤ m_of st → MaxInvariant X P st
    → st.place.counts.tests.0 ≤ 2 * m_of st
max_tests st h (inl a) = omega (arith, a.count_tests, a.inside h)
max_tests st h (inr a) = a.count_tests

pub max_comps : {X : WindowTables} {P : ℕ → ℕ → Type 0} (st : State) → 1 ≤ m_of st → MaxInvariant X P st
    → st.place.counts.compositions.0 ≤ 4 * (m_of st - 1)
max_comps st h (inl a) = omega (arith, a.count_comps, a.inside h, a.ladders.bound)
max_comps st h (inr a) = a.count_comps
