-- THE DECISION is right: yes exactly when every window of k picks passes, by the meaning; and it agrees with what a whole run answers. Assumes nothing.
use Prim.Native.Nat.{ℕ, zero, suc, ◌+◌, ◌-◌, ◌/◌, ◌≤◌, ◌<◌}
use native.Mathlib.Nat.{le_refl}
use native.Mathlib.Omega.{arith}
use mathlib.Core.Path.{◌≡◌, refl, sym, ap, ◌∙◌, subst}
use mathlib.Core.Logic.{◌↔◌}
use mathlib.Core.Bool.{true, Bool, false, not, cond}
use mathlib.Core.List.{List}
use lib.Dec.{T, eqb, T_not, not_T}
use lib.ListN.{length}
use Rattle.model.specs.Length.{Every, Smallest, Largest, Upward, Downward}
use Rattle.model.proofs.Logic.{tr, F→≡, cond_ind}
use Rattle.model.proofs.Lengths.{Agree}
use Rattle.links.specs.Picks.{lent_pick}
use Rattle.checks.proofs.Lent.{length_lent, lent_at}
use Rattle.measures.specs.Kit.{kit}
use Rattle.verdicts.specs.Verdicts.{whole_verdict}
use Rattle.verdicts.proofs.Verdicts.{whole_sound}
use Rattle.steps.specs.Walk.{State, tried}
use Rattle.calls.specs.Answers.{Outcome}
use Rattle.calls.specs.Calls.{unions, whole_start}
use Rattle.steps.specs.Modes.{held_step}
use Rattle.decision.specs.Held.{unless_failed, held_steps}
use Rattle.decision.proofs.Verdicts.{decision_sound}
use Rattle.decision.specs.Decisions.{Decided, decided, decision_verdict, held_after, decided_at, decision_report, decide_says}
use Rattle.law.specs.Ladders.{m_of, s_of, WindowTables}
use Rattle.law.specs.Correct.{Passes, IsLength, Fails, Right, answered, none_exists}
use Rattle.law.specs.Facts.{Monotone, minimises, maximises}
use Rattle.law.specs.Course.{tables}
use Rattle.law.specs.Claim2.{lent_recording, list_cost}
use Rattle.law.specs.Held.{held_from, held_at, HeldInvariant}
use Rattle.law.specs.Decisions.{RightDecision, DecisionClaim, AgreesWithLength, AgreesClaim}
use Rattle.law.proofs.MinWalk.{fails_least}
use Rattle.law.proofs.MaxWalk.{fails_greatest}
use Rattle.law.proofs.Walks.{course_agree}
use Rattle.law.proofs.Whole.{whole_recorded, whole_fits, whole_course, whole}
use Rattle.law.proofs.Longer.{is_smallest, passes_monotone}
use Rattle.law.proofs.Held.{not-not, held_every, held_after_lem}

-- ---- what the invariant says of the decision

-- it goes by which windows pass
held_agree : {X : WindowTables} {P Q : ℕ → ℕ → Type 0} {k c m : ℕ} {st : State} → Agree P Q m → 1 ≤ k → m_of st ≤ m → HeldInvariant X P k c st
    → HeldInvariant X Q k c st
held_agree {st = st} e low few a =
    let h = a.held in
    let s1 = a.ladders.frame.start in
    record {
      ladders = a.ladders;
      held = h;
      before = λ i j x y z. (e i j x (omega arith) (omega arith)).0 (a.before i j x y z);
      good = λ nf y. (e (s_of st) (m_of st) s1 (omega arith) few).0 (a.good nf y);
      tested = a.tested;
      bad = λ t q. let y = a.tested t in a.bad t ((e (s_of st) (m_of st) s1 (omega arith) few).1 q);
      count_tests = a.count_tests;
      count_comps = a.count_comps;
    }

module _ (X : WindowTables) (P : ℕ → ℕ → Type 0) (k c m : ℕ) (st : State) (low : 1 ≤ k) (high : k ≤ m) (few : m_of st ≤ m)
    (all : (T st.place.marks.failed → ⊥) → m_of st ≡ m) (a : HeldInvariant X P k c st)
  where
    passing : (T st.place.marks.failed → ⊥) → Every P m k
    passing nf = subst (λ (z : ℕ). Every P z k) (all nf) (held_every a nf)

    failing : T st.place.marks.failed → Fails P m k
    failing t =
        let h = a.held in
        let y = a.tested t in
        record { i = s_of st; j = m_of st; from = a.ladders.frame.start; upto = few; row = omega arith; fails = a.bad t }

    -- the first window is reached
    reached : k ≤ m_of st
    reached = cond_ind (λ (x : Bool). k ≤ m_of st) st.place.marks.failed true false a.tested (λ f. let e = all f in omega arith)

    not_both : Fails P m k → Every P m k → ⊥
    not_both f e = f.fails (e f.i f.j f.from f.upto f.row)

    held_decides : RightDecision P c m k (decided_at st.place)
    held_decides =
        let failed = st.place.marks.failed in
        let tests = st.place.counts.tests.0 in
        let bd = a.ladders.bound in
        let h = a.held in
        let ct = a.count_tests in
        let cc = a.count_comps in
        let said : not failed ≡ false → T failed = λ e. not-not failed (λ f. tr e (not_T failed f)) in
        record {
          answered = refl;
          yes = (λ t. passing (T_not failed t), λ e. not_T failed (λ f. not_both (failing f) e));
          no = (λ e. failing (said e), λ f. F→≡ (not failed) (λ t. not_both f (passing (T_not failed t))));
          compositions = omega arith;
          tests = omega arith;
          some_test = let y = reached in omega arith;
          few_tests = omega arith;
          each-window = λ t. let e = all (T_not failed t) in omega arith;
          first_failure = λ e q.
              let y = a.tested (said e) in
              let i : tests ≡ s_of st = omega arith in
              let j : tests + k - 1 ≡ m_of st = omega arith in
              a.bad (said e) (subst (λ (z : ℕ). P z (m_of st)) i (subst (λ (z : ℕ). P tests z) j q));
          before_failure = λ e i j x y z. a.before i j x (omega arith) z;
        }

-- ---- THE THEOREM

module _ (n measure : ℕ) (w : List ℕ) (k : ℕ) (a : List ℕ) where
  abbrev m : ℕ
  m = length w / n

  -- the decision walks the course of the whole run
  pub held_walks : (e : whole_verdict n measure w a ≡ 0) (j : ℕ) → j ≤ m
      → held_after n measure m w k a j ≡ held_at (whole_course n measure w a e) (list_cost measure m) k j
  unfolding held_after held_steps whole_start held_from
  held_walks e zero h = refl
  held_walks e (suc j) h =
      let K = kit measure n in
      ap (unless_failed (held_step (tried K) K k (lent_pick n w j))) (held_walks e j (omega arith))
      ∙ ap (λ (p : List ℕ). unless_failed (held_step (tried K) K k p) (held_at (whole_course n measure w a e) (list_cost measure m) k j))
      (sym (lent_at n w m j h))

  decided_right : decision_verdict n measure w k a ≡ 0
      → RightDecision (Passes measure n (unions n w m) (lent_recording n w)) (list_cost measure m) m k (decide_says n measure w k a)
  unfolding decide_says decision_report
  decided_right e =
      let s = decision_sound n measure w k a e in
      let c = whole_course n measure w a s.0 in
      let x = list_cost measure m in
      let l = length_lent n w m in
      let st = held_at c x k m in
      let h = held_after_lem c x k s.1 m (omega arith) in
      let few = h.few in
      let P = Passes measure n (unions n w m) (lent_recording n w) in
      let report : decide_says n measure w k a ≡ decided_at st.place =
      ap (λ (b : ℕ). cond (eqb b 0) (decision_report n measure m w k a) (decided b false 0 0)) e
      ∙ ap (λ (q : State). decided_at q.place) (held_walks s.0 m (le_refl m)) in
      subst (RightDecision P x m k) (sym report)
      (held_decides (tables c) P k x m st s.1 s.2 few h.all (held_agree (course_agree c (refl, refl)) s.1 (omega arith) h.invariant))

pub decisions : DecisionClaim
decisions = decided_right

-- ---- decisions and lengths

length-of : {measure m : ℕ} {P : ℕ → ℕ → Type 0} {o : Outcome} → Right measure P m o → o.refusal ≡ 0 → IsLength measure P m o.length
length-of (answered x y) z = y
length-of (none_exists x f) z = absurd (omega arith)

-- a right decision and a right answer of the same picks
module _ {P : ℕ → ℕ → Type 0} {c m k : ℕ} {d : Decided} (low : 1 ≤ k) (high : k ≤ m) (r : RightDecision P c m k d) where
  smallest_yes : {l : ℕ} → Upward P m → Smallest P m l → T d.yes ↔ (l ≤ k)
  smallest_yes {l} up s = (
    λ t. let g : k < l → ⊥ = λ h. s.least k low h (r.yes.0 t) in omega arith,
    λ h. not-not d.yes (λ f. fails_least P m m k l up (le_refl m) (r.no.0 (F→≡ d.yes f)) s.low h s.every),
  )

  largest_yes : {l : ℕ} → Downward P m → Largest P m l → T d.yes ↔ (k ≤ l)
  largest_yes {l} down s = (
    λ t. let g : l < k → ⊥ = λ h. s.greatest k h high (r.yes.0 t) in omega arith,
    λ h. not-not d.yes (λ f. fails_greatest P m m k l down (le_refl m) (r.no.0 (F→≡ d.yes f)) low h s.high s.every),
  )

  none_no : {measure : ℕ} {o : Outcome} → Right measure P m o → o.refusal ≡ 9 → d.yes ≡ false
  none_no (answered x y) z = absurd (omega arith)
  none_no (none_exists x f) z = F→≡ d.yes (λ t. f k low high (r.yes.0 t))

  beside : {measure : ℕ} {o : Outcome} → Monotone measure P m → Right measure P m o → AgreesWithLength measure k d o
  beside {measure} (minimises x y up) z = record {
    smallest = λ ne q. smallest_yes up ((is_smallest measure (omega arith)).0 (length-of z q));
    largest = λ one q. absurd (omega arith);
    none = none_no z;
  }
  beside {o = o} (maximises y down) z = record {
    smallest = λ ne q. absurd (ne y);
    largest = λ one q. largest_yes down (subst (λ (v : ℕ). IsLength v P m o.length) y (length-of z q));
    none = none_no z;
  }

pub agrees : AgreesClaim
agrees n measure w k a b e f =
    let m = length w / n in
    let s = decision_sound n measure w k a e in
    let runs = whole_sound n measure w b f in
    let P = Passes measure n (unions n w m) (lent_recording n w) in
    let mono = passes_monotone n measure (unions n w m) (lent_recording n w) runs.few runs.measure_low runs.measure_high
    (whole_recorded n measure w b f) (whole_fits n measure w b f) in
    beside s.1 s.2 (decisions n measure w k a e) (subst (Monotone measure P) (length_lent n w m) mono) (whole n measure w b f).right
