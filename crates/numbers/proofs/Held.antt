-- THE COUNTS OF A DECISION ARE THOSE OF THE WALK HELD AT k, and so it answers alike in every area. Assumes nothing.
use mathlib.Core.Path.{◌≡◌, refl, sym, ap, ◌∙◌}
use mathlib.Core.Logic.{◌≢◌, ⊎_elim}
use mathlib.Core.Bool.{Bool, false, cond}
use mathlib.Core.List.{List}
use Prim.Native.Nat.{ℕ, zero, suc, ◌+◌, ◌-◌, ◌/◌, ◌≤◌, max}
use native.Mathlib.Nat.{le_refl}
use native.Mathlib.Omega.{arith}
use lib.Dec.{T, leb}
use lib.ListN.{length}
use Rattle.model.specs.Journey.{val}
use Rattle.model.specs.Recording.{pick_at}
use Rattle.model.proofs.Logic.{eq_or}
use Rattle.checks.proofs.Lent.{length_lent}
use Rattle.place.specs.Places.{fresh, charged}
use Rattle.verdicts.specs.Verdicts.{needed}
use Rattle.verdicts.proofs.Verdicts.{long_enough}
use Rattle.steps.specs.Walk.{State, entered, tried}
use Rattle.steps.proofs.Fit.{limit-of}
use Rattle.steps.proofs.Grown.{entered_grown}
use Rattle.calls.specs.Calls.{unions}
use Rattle.steps.specs.Modes.{held_rise, tested_from, held_step}
use Rattle.decision.specs.Held.{unless_failed}
use Rattle.decision.proofs.Verdicts.{decision_sound}
use Rattle.decision.proofs.Held.{held_start}
use Rattle.decision.specs.Decisions.{decided, decided_by, decision_verdict, decided_at, decision_report, decide_says}
use Rattle.law.specs.Claim2.{lent_recording, list_cost}
use Rattle.law.specs.Ladders.{m_of, s_of, limit_of, WindowTables, Law, Laddered}
use Rattle.law.specs.Course.{Course, kit_in, tables}
use Rattle.law.specs.Held.{held_from, held_at}
use Rattle.law.proofs.Ladders.{entered_by}
use Rattle.law.proofs.Walks.{course_law, own_at}
use Rattle.law.proofs.Held.{held_after_lem}
use Rattle.law.proofs.Whole.{whole_course}
use Rattle.law.proofs.Decisions.{held_walks}
use Rattle.numbers.specs.Walk.{WalkNumbers, numbers_at, one_more, take_in, enter, test}
use Rattle.numbers.specs.Held.{test_from, hold_pick, hold, held_answer}
use Rattle.numbers.specs.Moved.{numbers_of, Tells}
use Rattle.numbers.proofs.Steps.{PassAgrees, enter_numbers, test_numbers, alike}
use Rattle.numbers.proofs.Walks.{answers_alike}
use Rattle.numbers.proofs.Counts.{run-decided}
use Rattle.numbers.proofs.Taken.{refused_decision}

-- the start that rises by one from pick k on is the greater of 1 and m - k + 1
rises : (k s m : ℕ) → s ≡ 1 + (m - k) → s + val (leb k m) ≡ max 1 (m + 1 - k + 1)
rises k s m h = omega (arith, held_start k s m h)

-- a choice that both make alike
either : (x : Bool) (u v : State) (y z : WalkNumbers) → (T x → numbers_of u.place ≡ y) → ((T x → ⊥) → numbers_of v.place ≡ z)
    → numbers_of (cond x u v).place ≡ cond x y z
either x u v y z f g = (alike (λ q. Unit {0}) x u v y z (λ t. (f t, tt)) (λ t. (g t, tt))).0

-- ---- one pick

module _ (X : WindowTables) (law : Law X) (pass : ℕ → ℕ → Bool) (told : PassAgrees X pass) (k : ℕ) (some : 1 ≤ k) where
  open X use {kit as K, own, most as M}

  -- the numbers after it are those of the walk on numbers
  hold_numbers : (w : List ℕ) (st : State) → m_of st + 1 ≤ M → m_of st + 1 ≤ limit_of st → K.own (m_of st + 1) w ≡ own (m_of st + 1) → Laddered X st
      → s_of st ≡ 1 + (m_of st - k) → numbers_of (held_step (tried K) K k w st).place ≡ hold_pick pass k (numbers_of st.place)
  unfolding held_step tested_from hold_pick test_from enter
  hold_numbers w st z t e c s =
      let r = rises k (s_of st) (m_of st) s in
      let y = one_more (numbers_of st.place) in
      let g = entered_by X law (held_rise k st.place) w st c z t e (omega arith) in
      let q = entered K (held_rise k st.place) w st in
      let n = entered_grown K (held_rise k st.place) w st in
      let n0 = n.taken in
      let n1 = n.start in
      either (leb k (m_of q)) (tried K q) q (test pass (numbers_of q.place)) (numbers_of q.place)
      (λ h. test_numbers X law pass told q g.0 g.1 (omega arith)) (λ h. refl)
      ∙ ap (test_from pass k) (enter_numbers K (held_rise k st.place) w st
      ∙ ap (λ (i : ℕ). take_in (numbers_at y.m i y.b y.failed y.passed y.compositions y.tests)) r)

-- ---- over a course

module _ (c : Course) (pass : ℕ → ℕ → Bool) (agrees : PassAgrees (tables c) pass) (x k : ℕ) (some : 1 ≤ k) where
  open c use {picks, few}

  -- a pick that is taken: no test has failed before
  pick_held : (j : ℕ) → suc j ≤ length picks → (T (held_at c x k j).place.marks.failed → ⊥)
      → numbers_of (held_step (tried (kit_in c)) (kit_in c) k (pick_at picks (suc j)) (held_at c x k j)).place
      ≡ hold_pick pass k (numbers_of (held_at c x k j).place)
  pick_held j h f =
      let st = held_at c x k j in
      let a = held_after_lem c x k some j (omega arith) in
      let m = a.all f in
      let l = limit-of a.settings in
      let b = few in
      hold_numbers (tables c) (course_law c) pass agrees k some (pick_at picks (suc j)) st (omega arith) (omega arith) (own_at c m)
      a.invariant.ladders a.invariant.held

  pub held_numbers : (j : ℕ) → j ≤ length picks → numbers_of (held_at c x k j).place ≡ hold pass k x j
  unfolding held_from unless_failed hold fresh charged
  held_numbers zero h = let e : 0 + x ≡ x = omega arith in ap (λ (y : ℕ). numbers_at 0 1 0 false false y 0) e
  held_numbers (suc j) h =
      let st = held_at c x k j in
      either st.place.marks.failed st (held_step (tried (kit_in c)) (kit_in c) k (pick_at picks (suc j)) st)
      (numbers_of st.place) (hold_pick pass k (numbers_of st.place)) (λ t. refl) (pick_held j h)
      ∙ ap (λ (y : WalkNumbers). cond y.failed y (hold_pick pass k y)) (held_numbers j (omega arith))

-- ---- over the call

module _ (n measure : ℕ) (w : List ℕ) (k : ℕ) (a : List ℕ) (e : decision_verdict n measure w k a ≡ 0) where
  abbrev m : ℕ
  m = length w / n

  -- THEOREM. The counts of a decision.
  pub counts_held : (pass : ℕ → ℕ → Bool) → Tells pass measure n (unions n w m) (lent_recording n w)
      → decide_says n measure w k a ≡ held_answer (hold pass k (list_cost measure m) m)
  unfolding decide_says decision_report
  counts_held pass says =
      let d = decision_sound n measure w k a e in
      let c = whole_course n measure w a d.0 in
      ap (λ (b : ℕ). decided_by b (decision_report n measure m w k a)) e
      ∙ ap (λ (q : State). decided_at q.place) (held_walks n measure w k a d.0 m (le_refl m))
      ∙ ap held_answer (held_numbers c pass (answers_alike c (refl, refl) pass says) (list_cost measure m) k d.1 m (omega (arith, length_lent n w m)))

-- ---- in whatever area

-- the causes do not see what is in an area that is long enough
decided_anywhere : (n measure : ℕ) (w : List ℕ) (k : ℕ) (a b : List ℕ) → needed measure n (length w / n) ≤ length a
    → needed measure n (length w / n) ≤ length b → decision_verdict n measure w k a ≡ decision_verdict n measure w k b
unfolding decision_verdict
decided_anywhere n measure w k a b x y =
    let m = length w / n in
    rw (long_enough (length a) (needed measure n m) x, long_enough (length b) (needed measure n m) y)

-- THEOREM. In whatever area.
pub decision_anywhere : (n measure : ℕ) (w : List ℕ) (k : ℕ) (a b : List ℕ) → needed measure n (length w / n) ≤ length a
    → needed measure n (length w / n) ≤ length b → decide_says n measure w k a ≡ decide_says n measure w k b
decision_anywhere n measure w k a b x y =
    let v = decided_anywhere n measure w k a b x y in
    ⊎_elim
    (λ (e : decision_verdict n measure w k a ≡ 0).
    let d = run-decided n measure w a (decision_sound n measure w k a e).0 in
    counts_held n measure w k a e d.pass d.tells ∙ sym (counts_held n measure w k b (sym v ∙ e) d.pass d.tells))
    (λ (f : decision_verdict n measure w k a ≢ 0).
    refused_decision n measure w k a f ∙ ap (λ (c : ℕ). decided c false 0 0) v ∙ sym (refused_decision n measure w k b (λ e. f (v ∙ e))))
    (eq_or (decision_verdict n measure w k a) 0)
