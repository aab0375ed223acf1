-- The walk held at k keeps its invariant, pick after pick, over any kit: a window's test tells whether it passes, and no more is used of a measure. Assumes
-- nothing.
use Prim.Native.Nat.{ℕ, zero, suc, ◌+◌, ◌-◌, ◌≤◌, ◌<◌}
use native.Mathlib.Nat.{le_refl}
use native.Mathlib.Omega.{arith}
use mathlib.Core.Path.{◌≡◌, refl, sym, ◌∙◌, subst}
use mathlib.Core.Logic.{◌≢◌, ⊎_elim}
use mathlib.Core.Bool.{Bool, true, false, not}
use mathlib.Core.List.{List}
use lib.Dec.{T, leb, leb→le, T_not, not_T}
use lib.ListN.{length}
use Rattle.model.specs.Recording.{pick_at}
use Rattle.model.specs.Length.{Every}
use Rattle.model.proofs.Logic.{tr, eq_or, not_le, or_r, or_cases, cond_ind}
use Rattle.measures.specs.Kit.{Kit}
use Rattle.place.specs.Places.{charged, tested, marked, fresh}
use Rattle.steps.specs.Walk.{State, entered, windowed, judged, tried}
use Rattle.steps.proofs.Fit.{limit-of}
use Rattle.steps.proofs.Grown.{grown_on, tried_grown, entered_grown}
use Rattle.steps.specs.Modes.{held_rise, tested_from, held_step}
use Rattle.decision.specs.Held.{unless_failed}
use Rattle.decision.proofs.Held.{held_start}
use Rattle.law.specs.Ladders.{m_of, s_of, limit_of, WindowTables, Law, Decides, Laddered}
use Rattle.law.specs.Course.{Course, kit_in, PassesIn, tables, start}
use Rattle.law.specs.Held.{held_from, held_at, HeldInvariant, HeldCourse, HeldClaim}
use Rattle.law.proofs.Ladders.{entered_failed, entered_by, tried_tests}
use Rattle.law.proofs.MinWalk.{TestWithin, entered_cost}
use Rattle.law.proofs.Walks.{Settled, grown_settled, opened_laddered, course_law, course_decides, own_at}

-- a test that cannot fail holds
pub not-not : (b : Bool) → ((T b → ⊥) → ⊥) → T b
not-not true f = tt
not-not false f = f (λ t. t)

-- ---- one pick

-- unless a test has failed, every window of k of the picks taken passes
pub held_every : {X : WindowTables} {P : ℕ → ℕ → Type 0} {k c : ℕ} {st : State} → HeldInvariant X P k c st → (T st.place.marks.failed → ⊥)
    → Every P (m_of st) k
held_every {P = P} {st = st} a nf i j x y e =
    ⊎_elim
    (λ (q : j ≡ m_of st). let h = a.held in
    let v : s_of st ≡ i = omega arith in
    subst (λ (z : ℕ). P i z) (sym q) (subst (λ (z : ℕ). P z (m_of st)) v (a.good nf (omega arith))))
    (λ (q : j ≢ m_of st). a.before i j x (omega arith) e) (eq_or j (m_of st))

-- what holds of a new pick before its test, if it has one
pub record HeldEntered (X : WindowTables) (P : ℕ → ℕ → Type 0) (k c : ℕ) (st : State) : Type 0 where
  pub ladders : Laddered X st
  pub held : s_of st ≡ 1 + (m_of st - k)
  pub before : (i j : ℕ) → 1 ≤ i → j < m_of st → suc j ≡ i + k → P i j
  pub unfailed : T st.place.marks.failed → ⊥
  pub count_tests : st.place.counts.tests.0 ≡ m_of st - k
  pub count_comps : TestWithin c st

module _ (X : WindowTables) (law : Law X) (P : ℕ → ℕ → Type 0) (right : Decides X P) (k c : ℕ) (some_picks : 1 ≤ k) where
  open X use {kit as K, own, most as M}

  entered_held : (w : List ℕ) (st : State) → HeldInvariant X P k c st → (T st.place.marks.failed → ⊥)
      → Laddered X (entered K (held_rise k st.place) w st) → HeldEntered X P k c (entered K (held_rise k st.place) w st)
  entered_held w st a nf ch =
      let rise = held_rise k st.place in
      let g = entered_grown K rise w st in
      let gm = g.taken in
      let gs = g.start in
      let gt = g.tests in
      let h = a.held in
      let hn = held_start k (s_of st) (m_of st) h in
      let ct = a.count_tests in
      record {
        ladders = ch;
        held = omega arith;
        before = λ i j x y e. held_every a nf i j x (omega arith) e;
        unfailed = λ t. nf (tr (entered_failed K rise w st) t);
        count_tests = omega arith;
        count_comps = entered_cost K rise w st c a.ladders.bound a.ladders.frame.start (omega arith) a.count_comps;
      }

  tried_held : (st : State) → m_of st ≤ M → k ≤ m_of st → HeldEntered X P k c st → HeldInvariant X P k c (tried K st)
  unfolding tried judged windowed charged tested marked
  tried_held st z h a =
      let p = st.place in
      let e = a.held in
      let ct = a.count_tests in
      let ins : s_of st ≤ m_of st = omega arith in
      let t = tried_tests X law st a.ladders z ins in
      let r = right (s_of st) (m_of st) a.ladders.frame.start ins z in
      let x = (tried K st).place.marks.passed in
      record {
        ladders = t.laddered;
        held = a.held;
        before = a.before;
        good = λ nf y. r.0 (tr t.result (not-not x (λ n. nf (or_r p.marks.failed (not x) (not_T x n)))));
        tested = λ f. h;
        bad = λ f y. ⊎_elim (λ (g : T p.marks.failed). a.unfailed g) (λ (g : T (not x)). T_not x g (tr (sym t.result) (r.1 y)))
            (or_cases p.marks.failed (not x) f);
        count_tests = omega arith;
        count_comps = a.count_comps;
      }

  untested_held : (st : State) → m_of st < k → HeldEntered X P k c st → HeldInvariant X P k c st
  untested_held st h a =
      let ct = a.count_tests in
      let cc = a.count_comps in
      record {
        ladders = a.ladders;
        held = a.held;
        before = a.before;
        good = λ nf y. absurd (omega arith);
        tested = λ f. absurd (a.unfailed f);
        bad = λ f y. a.unfailed f;
        count_tests = omega arith;
        count_comps = omega arith;
      }

  -- THEOREM. One pick keeps it.
  pub held_keeps : (w : List ℕ) (st : State) → (T st.place.marks.failed → ⊥) → m_of st + 1 ≤ M → m_of st + 1 ≤ limit_of st
      → K.own (m_of st + 1) w ≡ own (m_of st + 1) → HeldInvariant X P k c st → HeldInvariant X P k c (held_step (tried K) K k w st)
  unfolding held_step tested_from
  held_keeps w st nf z t e a =
      let h = a.held in
      let hn = held_start k (s_of st) (m_of st) h in
      let g = entered_by X law (held_rise k st.place) w st a.ladders z t e (omega arith) in
      let q = entered K (held_rise k st.place) w st in
      let i = entered_held w st a nf g.0 in
      cond_ind (HeldInvariant X P k c) (leb k (m_of q)) (tried K q) q (λ y. tried_held q g.1 (leb→le k (m_of q) y) i)
      (λ y. untested_held q (not_le k (m_of q) y) i)

-- ---- pick after pick

-- the place keeps its settings, and has one pick more
held_settled : (K : Kit) (k : ℕ) (w : List ℕ) (st : State) → Settled st.place.settings (m_of st + 1) (held_step (tried K) K k w st).place
unfolding held_step tested_from
held_settled K k w st =
    let q = entered K (held_rise k st.place) w st in
    let g = entered_grown K (held_rise k st.place) w st in
    cond_ind (λ (r : State). Settled st.place.settings (m_of st + 1) r.place) (leb k (m_of q)) (tried K q) q
    (λ y. grown_settled (grown_on g (tried_grown K q)) (omega arith)) (λ y. grown_settled g refl)

module _ (c : Course) (x k : ℕ) (some_picks : 1 ≤ k) where
  open c use {picks, few}

  opened_held : HeldInvariant (tables c) (PassesIn c) k x (start c x)
  unfolding fresh charged
  opened_held = record {
    ladders = opened_laddered c x;
    held = omega arith;
    before = λ i j a b e. absurd (omega arith);
    good = λ nf h. absurd (omega arith);
    tested = λ t. absurd t;
    bad = λ t q. t;
    count_tests = omega arith;
    count_comps = omega arith;
  }

  held_on : (j : ℕ) (st : State) → suc j ≤ length picks → HeldCourse c x k j st
      → HeldCourse c x k (suc j) (unless_failed (held_step (tried (kit_in c)) (kit_in c) k (pick_at picks (suc j))) st)
  unfolding unless_failed
  held_on j st h a =
      let w = pick_at picks (suc j) in
      let low = a.few in
      cond_ind (HeldCourse c x k (suc j)) st.place.marks.failed st (held_step (tried (kit_in c)) (kit_in c) k w st)
      (λ t. record { invariant = a.invariant; settings = a.settings; few = omega arith; all = λ nf. absurd (nf t) })
      (λ nf. let e = a.all nf in
      let l = limit-of a.settings in
      let f = few in
      let s = held_settled (kit_in c) k w st in
      let t = s.taken in
      record {
        invariant = held_keeps (tables c) (course_law c) (PassesIn c) (course_decides c) k x some_picks w st nf (omega arith) (omega arith) (own_at c e)
            a.invariant;
        settings = s.settings ∙ a.settings;
        few = omega arith;
        all = λ g. omega arith;
      })

  held_all : (j : ℕ) → j ≤ length picks → HeldCourse c x k j (held_at c x k j)
  unfolding held_from fresh charged
  held_all zero h = record { invariant = opened_held; settings = refl; few = le_refl 0; all = λ nf. refl }
  held_all (suc j) h = held_on j (held_at c x k j) h (held_all j (omega arith))

pub held_after_lem : HeldClaim
held_after_lem = held_all
