-- Measures 2, 3 and 4: THEOREM. After each pick the walk reports the smallest length, or none where there is none, by exactly m tests and at
-- most 3(m - 1) compositions, and the parts hold what document 01 says. The kit is a parameter. Assumes nothing.
use Prim.Native.Nat.{ℕ, zero, suc, ◌+◌, ◌-◌, ◌*◌, ◌≤◌, ◌<◌}
use native.Mathlib.Omega.{arith}
use mathlib.Core.Path.{◌≡◌, sym, ◌∙◌, subst}
use mathlib.Core.Bool.{Bool, true, false, ◌&&◌, not, cond}
use lib.Dec.{T, leb, ltb, ltb→lt, eqb}
use Rattle.model.proofs.Logic.{and_r, eq_or, and_both, cond_ind}
use Rattle.model.specs.Journey.{val}
use mathlib.Core.Logic.{◌≢◌, ⊎_elim}
use mathlib.Core.List.{List}
use native.Mathlib.Nat.{le_refl}
use mathlib.Core.Option.{none, some}
use Rattle.model.proofs.Bits.{val_le}
use Rattle.model.specs.Length.{Every, Upward}
use Rattle.measures.specs.Kit.{Kit}
use Rattle.place.specs.Places.{picks_taken, start_moved, boundary_moved, charged, tested}
use Rattle.steps.specs.Walk.{State, written, rebuilt, joined, extended_by, extended, entered, on_left, on_right, windowed, judged, tried, cleared}
use Rattle.steps.specs.Walk.{min_step, reported}
use Rattle.steps.proofs.Enough.{join_charge, window_charge}
use Rattle.steps.proofs.Grown.{entered_grown}
use Rattle.area.proofs.Laws.{zero_same}
use Rattle.law.specs.Ladders.{m_of, s_of, b_of, limit_of, WindowTables, Law, Decides, Laddered}
use Rattle.law.specs.Correct.{Fails}
use Rattle.law.specs.Invariants.{MinAnswer, MinInvariant, MinKeepsClaim, MinReportsClaim}
use Rattle.law.proofs.Ladders.{not_lt, entered_by, tried_tests, cleared_laddered, cleared-window}

-- ---- what a pick and a rise cost at most, on numbers alone

-- the window from s to m, where b is m: no composition
full_left : (s m : ℕ) → val (leb s m && ltb m m) ≡ 0
full_left s m = omega (arith, window_charge s m m)

-- A new pick with its test costs at most two more; or, where b becomes m, what building the left ladder costs. So the whole stays within
-- twice the picks after the first, and once the boundary, and c.
cost_far : (comps b m s c : ℕ) → b ≤ m → b + 1 < s → s ≤ m + 1 → comps ≤ c + 2 * (m - 1) + (b - 1)
    → comps + (m + 1 - s) + val (leb s (m + 1) && ltb (m + 1) (m + 1)) ≤ c + 2 * (m + 1 - 1) + (m + 1 - 1)
cost_far comps b m s c bd far l h = omega (arith, full_left s (m + 1))

cost_near : (comps b m s c : ℕ) → b ≤ m → 1 ≤ s → s ≤ b + 1 → comps ≤ c + 2 * (m - 1) + (b - 1)
    → comps + val (ltb (b + 1) (m + 1)) + val (leb s b && ltb b (m + 1)) ≤ c + 2 * (m + 1 - 1) + (b - 1)
cost_near comps b zero s c bd a near h = omega (arith, join_charge b (0 + 1), window_charge s b (0 + 1))
cost_near comps b (suc m) s c bd a near h = omega (arith, val_le (ltb (b + 1) (suc m + 1)), val_le (leb s b && ltb b (suc m + 1)))

-- so of a pick that the ladders take in: its test, still to come, is counted
abbrev pub TestWithin : ℕ → State → Type 0
TestWithin c q = q.place.counts.compositions.0 + val (on_left q.place && on_right q.place) ≤ c + 2 * (m_of q - 1) + (b_of q - 1)

module _ (K : Kit) (k : ℕ) (w : List ℕ) (st : State) (c : ℕ) where
  cost_by : (x : Bool) → (T x → b_of st + 1 < s_of st + k) → ((T x → ⊥) → s_of st + k ≤ b_of st + 1) → b_of st ≤ m_of st → 1 ≤ s_of st
      → s_of st + k ≤ m_of st + 1
      → st.place.counts.compositions.0 ≤ c + 2 * (m_of st - 1) + (b_of st - 1) → TestWithin c (extended_by K x (written K k w st))
  unfolding extended_by rebuilt joined charged boundary_moved written start_moved picks_taken
  cost_by true hi lo bd s1 ahead h = cost_far st.place.counts.compositions.0 (b_of st) (m_of st) (s_of st + k) c bd (hi tt) ahead h
  cost_by false hi lo bd s1 ahead h =
      cost_near st.place.counts.compositions.0 (b_of st) (m_of st) (s_of st + k) c bd (omega arith) (lo (λ t. t)) h

  pub entered_cost : b_of st ≤ m_of st → 1 ≤ s_of st → s_of st + k ≤ m_of st + 1
      → st.place.counts.compositions.0 ≤ c + 2 * (m_of st - 1) + (b_of st - 1) → TestWithin c (entered K k w st)
  unfolding entered extended written start_moved picks_taken
  entered_cost =
      let b = b_of st in
      let s = s_of st + k in
      cost_by (ltb (b + 1) s) (λ t. ltb→lt (b + 1) s t) (λ t. not_lt (b + 1) s t)

-- a rise within a pick, with its test, costs at most one more; or what building the left ladder costs
pub rise-far : (comps b m s c : ℕ) → b ≤ m → b + 1 < s + 1 → s < m → comps ≤ c + 2 * (m - 1) + (b - 1)
    → comps + (m - (s + 1)) + val (leb (s + 1) m && ltb m m) ≤ c + 1 + 2 * (m - 1) + (m - 1)
rise-far comps b m s c bd far l h = omega (arith, full_left (s + 1) m)

pub rise_near : (comps b m s c : ℕ) → comps ≤ c + 2 * (m - 1) + (b - 1) → comps + val (leb (s + 1) b && ltb b m) ≤ c + 1 + 2 * (m - 1) + (b - 1)
rise_near comps b m s c h = omega (arith, val_le (leb (s + 1) b && ltb b m))

-- ---- the invariant

-- no shorter length than a row that fails
pub fails_least : (P : ℕ → ℕ → Type 0) (M m k l : ℕ) → Upward P M → m ≤ M → Fails P m k → 1 ≤ l → l ≤ k → Every P m l → ⊥
fails_least P M m k l up z f a b e =
    let r = f.row in
    let u = f.upto in
    let g = f.from in
    f.fails (up f.i (f.i + l - 1) f.i f.j g (le_refl f.i) (omega arith) (omega arith) (omega arith)
    (e f.i (f.i + l - 1) g (omega arith) (omega arith)))

-- one pick on, by the last test: x
next_before : (P : ℕ → ℕ → Type 0) (M : ℕ) → Upward P M → (x : Bool) (s m : ℕ) → m + 1 ≤ M → s + val x ≤ m + 1 → (T x → P s m)
    → ((i : ℕ) → 1 ≤ i → i < s → P i (i + (m - s))) → (i : ℕ) → 1 ≤ i → i < s + val x → P i (i + (m + 1 - (s + val x)))
next_before P M up true s m z r g f i a b =
    ⊎_elim (λ (e : i ≡ s). let w : m ≡ i + (m + 1 - (s + 1)) = omega arith in subst (λ (j : ℕ). P i j) w (subst (λ (k : ℕ). P k m) (sym e) (g tt)))
    (λ (ne : i ≢ s). let w : i + (m - s) ≡ i + (m + 1 - (s + 1)) = omega arith in subst (λ (j : ℕ). P i j) w (f i a (omega arith))) (eq_or i s)
next_before P M up false s m z r g f i a b =
    up i (i + (m - s)) i (i + (m + 1 - (s + 0))) a (le_refl i) (omega arith) (omega arith) (omega arith) (f i a (omega arith))

next_below : (P : ℕ → ℕ → Type 0) (x : Bool) (s m : ℕ) → 1 ≤ s → (1 ≤ m → (T x → ⊥) → P s m → ⊥) → (s < m → Fails P m (m - s))
    → s + val x < m + 1 → Fails P (m + 1) (m + 1 - (s + val x))
next_below P true s m st g f h =
    let w = f (omega arith) in
    let r = w.row in
    let u = w.upto in
    record { i = w.i; j = w.j; from = w.from; upto = omega arith; row = omega arith; fails = w.fails }
next_below P false s m st g f h = record { i = s; j = m; from = st; upto = omega arith; row = omega arith; fails = g (omega arith) (λ t. t) }

-- what holds of a new pick before its test
pub record MinEntered (X : WindowTables) (P : ℕ → ℕ → Type 0) (c : ℕ) (st : State) : Type 0 where
  pub ladders : Laddered X st
  pub inside : s_of st ≤ m_of st
  pub before : (i : ℕ) → 1 ≤ i → i < s_of st → P i (i + (m_of st - s_of st))
  pub below : s_of st < m_of st → Fails P (m_of st) (m_of st - s_of st)
  pub count_tests : st.place.counts.tests.0 + 1 ≡ m_of st
  pub count_comps : TestWithin c st

module _ (X : WindowTables) (law : Law X) (P : ℕ → ℕ → Type 0) (right : Decides X P) (up : Upward P X.most) (c : ℕ) where
  open X use {kit as K, own, win, list as l, most as M}

  entered_on : (w : List ℕ) (st : State) → MinInvariant X P c st → m_of st + 1 ≤ M → Laddered X (entered K (val st.place.marks.passed) w st)
      → MinEntered X P c (entered K (val st.place.marks.passed) w st)
  entered_on w st a z ch =
      let x = st.place.marks.passed in
      let g = entered_grown K (val x) w st in
      let gm = g.taken in
      let gs = g.start in
      let gt = g.tests in
      let s1 = a.ladders.frame.start in
      let ahead = a.ahead in
      let ct = a.count_tests in
      record {
        ladders = ch;
        inside = omega arith;
        before = λ i y h. rw (gm, gs) (next_before P M up x (s_of st) (m_of st) z ahead a.good a.before i y (omega arith));
        below = λ h. rw (gm, gs) (next_below P x (s_of st) (m_of st) s1 a.bad a.below (omega arith));
        count_tests = omega arith;
        count_comps = entered_cost K (val x) w st c a.ladders.bound s1 ahead a.count_comps;
      }

  tried_keeps : (st : State) → m_of st ≤ M → MinEntered X P c st → MinInvariant X P c (cleared K (tried K st))
  unfolding cleared tried judged windowed charged tested
  tried_keeps st z a =
      let p = st.place in
      let s1 = a.ladders.frame.start in
      let t = tried_tests X law st a.ladders z a.inside in
      let r = right (s_of st) (m_of st) s1 a.inside z in
      let q = tried K st in
      let ins = a.inside in
      record {
        ladders = cleared_laddered X law q t.laddered;
        ahead = omega (arith, val_le q.place.marks.passed);
        inside = λ h. ins;
        window = λ h. cleared-window X law q t.laddered.frame ∙ t.window;
        spare = zero_same K (limit_of st + 4) q.area t.laddered.frame.room (limit_of st + 4) (omega arith) (le_refl (limit_of st + 4));
        good = λ g. r.0 (subst T t.result g);
        bad = λ h g y. g (subst T (sym t.result) (r.1 y));
        before = a.before;
        below = a.below;
        count_tests = a.count_tests;
        count_comps = a.count_comps;
      }

pub min_keeps : MinKeepsClaim
unfolding min_step
min_keeps X law P right up c w st z t e a =
    let k = val st.place.marks.passed in
    let g = entered_by X law k w st a.ladders z t e a.ahead in
    tried_keeps X law P right up c (entered X.kit k w st) g.1 (entered_on X law P right up c w st a z g.0)

pub min_right : MinReportsClaim
unfolding reported
min_right X law P right up c st z h not-one a =
    let p = st.place in
    let m = m_of st in
    let s = s_of st in
    let s1 = a.ladders.frame.start in
    let ins = a.inside h in
    cond_ind (MinAnswer P m) p.marks.passed (some (m + 1 - s)) (cond (not (eqb p.settings.measure 1) && ltb 1 s) (some (m + 2 - s)) none)
    (λ t. record {
      low = omega arith;
      high = omega arith;
      every = λ i j a1 b e. ⊎_elim
          (λ (x : i ≡ s). let y : m ≡ j = omega arith in subst (λ (k : ℕ). P i k) y (subst (λ (k : ℕ). P k m) (sym x) (a.good t)))
          (λ (x : i ≢ s). let y : i + (m - s) ≡ j = omega arith in subst (λ (k : ℕ). P i k) y (a.before i a1 (omega arith))) (eq_or i s);
      least = λ l a1 b e. fails_least P X.most m (m - s) l up z (a.below (omega arith)) a1 (omega arith) e;
    })
    (λ t. cond_ind (MinAnswer P m) (not (eqb p.settings.measure 1) && ltb 1 s) (some (m + 2 - s)) none
    (λ g. let far = ltb→lt 1 s (and_r (not (eqb p.settings.measure 1)) (ltb 1 s) g) in record {
      low = omega arith;
      high = omega arith;
      every = λ i j a1 b e. up i (i + (m - s)) i j a1 (le_refl i) (omega arith) (omega arith) (omega arith) (a.before i a1 (omega arith));
      least = λ l a1 b e. fails_least P X.most m (m + 1 - s) l up z
          (record { i = s; j = m; from = s1; upto = le_refl m; row = omega arith; fails = a.bad h t }) a1 (omega arith) e;
    })
    (λ g k a1 b e. let one : s ≡ 1 = omega (arith, not_lt 1 s (λ y. g (and_both (not (eqb p.settings.measure 1)) (ltb 1 s) not-one y))) in
    a.bad h t (subst (λ (x : ℕ). P x m) (sym one) (up 1 k 1 m (le_refl 1) (le_refl 1) a1 b z (e 1 k (le_refl 1) b (omega arith))))))

pub min_counts : {X : WindowTables} {P : ℕ → ℕ → Type 0} {c : ℕ} (st : State) → MinInvariant X P c st → 1 ≤ m_of st
    → st.place.counts.compositions.0 ≤ c + 3 * (m_of st - 1)
min_counts st a h = let bd = a.ladders.bound in let k = a.count_comps in omega arith
