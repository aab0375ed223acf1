-- CONDITION 2 for whole runs, over the call: any recording lent as words, any area that is long enough, whatever it held. Under measure 2 the
-- union of all picks is the footprint, at m - 1 compositions more. Assumes nothing.
use mathlib.Core.Path.{◌≡◌, refl, sym, ap, ◌∙◌, subst}
use mathlib.Core.Logic.{◌↔◌, ⊎_elim}
use mathlib.Core.Bool.{Bool, cond}
use mathlib.Core.List.{List}
use Prim.Native.Nat.{ℕ, zero, suc, ◌*◌, ◌/◌, ◌≤◌, ◌<◌}
use native.Mathlib.Nat.{le_refl, eq-or-lt_of_le}
use native.Mathlib.Omega.{arith}
use lib.Dec.{T, eqb, eqb→eq}
use lib.ListN.{length}
use Rattle.model.specs.Recording.{link, Clean, Recording, pick_at}
use Rattle.model.specs.Journey.{Open}
use Rattle.model.specs.Measures.{SomeLink, Listed}
use Rattle.model.proofs.Logic.{tr, F→≡, or_l, or_r, or_cases}
use Rattle.model.proofs.Links.{link_from}
use Rattle.model.proofs.Windows.{pick-at}
use Rattle.links.specs.Tables.{union}
use Rattle.links.proofs.Bits.{zeros_none, zeros-clean, union-link, union-clean}
use Rattle.links.specs.Picks.{lent_pick}
use Rattle.checks.specs.Lent.{lent_picks, clean_picks}
use Rattle.checks.proofs.Lent.{length_lent, lent-recording, lent_at}
use Rattle.measures.specs.Kit.{kit}
use Rattle.area.specs.Parts.{zeroed}
use Rattle.verdicts.specs.Verdicts.{needed, whole_verdict}
use Rattle.verdicts.specs.Fit.{Runs}
use Rattle.verdicts.proofs.Verdicts.{whole_sound}
use Rattle.steps.specs.Walk.{State, stepped, reported}
use Rattle.calls.specs.Answers.{outcome}
use Rattle.calls.specs.Calls.{unions, steps_of, whole_start, whole_after, whole_report, whole_says, whole_leaves, report_says}
use Rattle.law.specs.Course.{Course, course_of, walk_from, state_at}
use Rattle.law.specs.Claim2.{Fits, lent_recording, list_cost, Ran, WholeClaim, WholeFootprintClaim, RefusedRunClaim}
use Rattle.law.specs.Correct.{Passes, Right, answered, none_exists, Counted}
use Rattle.law.proofs.Walks.{course_right, told}

-- ---- the union of all picks

module _ (n : ℕ) (w : List ℕ) (m : ℕ) (room : m * n ≤ length w) (ok : T (clean_picks n w m)) where
  abbrev r : List (List ℕ)
  r = lent_picks n w m

  pub rec : Recording n r
  rec = lent-recording n w m room ok m (le_refl m)

  pick_clean : (k : ℕ) → k < m → Clean n (lent_pick n w k)
  pick_clean k h = subst (Clean n) (lent_at n w m k h) (pick-at n r rec (suc k) (omega arith) (omega (arith, length_lent n w m)))

  unions-clean : (k : ℕ) → k ≤ m → Clean n (unions n w k)
  unfolding unions
  unions-clean zero h = zeros-clean n
  unions-clean (suc zero) h = pick_clean 0 h
  unions-clean (suc (suc k)) h = union-clean n (unions n w (suc k)) (lent_pick n w (suc k)) (unions-clean (suc k) (omega arith)) (pick_clean (suc k) h)

  -- the union of the first k picks has exactly the links open at one of them
  unions_links : (k : ℕ) → k ≤ m → (u v : ℕ) → T (link (unions n w k) u v) ↔ SomeLink r 1 k u v
  unfolding unions
  unions_links zero h u v = (λ t. absurd (zeros_none n u v t), λ f. let x : 1 ≤ f.0 = f.1 in let y : f.0 ≤ 0 = f.2 in absurd (omega arith))
  unions_links (suc zero) h u v =
      let e = lent_at n w m 0 h in (
        λ t. (1, le_refl 1, le_refl 1, subst (λ (z : List ℕ). T (link z u v)) (sym e) t),
        λ f. let x : 1 ≤ f.0 = f.1 in
            let y : f.0 ≤ 1 = f.2 in
            let z : f.0 ≡ 1 = omega arith in
            subst (λ (y : List ℕ). T (link y u v)) e (subst (λ (y : ℕ). Open r y u v) z f.3),
      )
  unions_links (suc (suc k)) h u v =
      let p = lent_pick n w (suc k) in
      let q = unions n w (suc k) in
      let ih = unions_links (suc k) (omega arith) u v in
      let e = lent_at n w m (suc k) h in
      let c = union-clean n q p (unions-clean (suc k) (omega arith)) (pick_clean (suc k) h) in (
        λ t. let hu = link_from n (union n q p) c.words u v t in
            ⊎_elim (λ (x : T (link q u v)). let f = ih.0 x in let y : f.0 ≤ suc k = f.2 in (f.0, f.1, omega arith, f.3))
            (λ (x : T (link p u v)). (suc (suc k), omega arith, le_refl (suc (suc k)), subst (λ (z : List ℕ). T (link z u v)) (sym e) x))
            (or_cases (link q u v) (link p u v) (tr (union-link n q p u v hu) t)),
        λ f. let x : 1 ≤ f.0 = f.1 in
            let y : f.0 ≤ suc (suc k) = f.2 in
            let d = pick-at n r rec f.0 x (omega (arith, length_lent n w m)) in
            let hu = link_from n (pick_at r f.0) d.words u v f.3 in
            tr (sym (union-link n q p u v hu))
            (⊎_elim (λ (z : f.0 ≡ suc (suc k)). or_r (link q u v) (link p u v)
            (subst (λ (y : List ℕ). T (link y u v)) e (subst (λ (y : ℕ). Open r y u v) z f.3)))
            (λ (z : f.0 < suc (suc k)). or_l (link q u v) (link p u v) (ih.1 (f.0, x, omega arith, f.3))) (eq-or-lt_of_le y)),
      )

  pub unions-listed : Listed r (unions n w m)
  unions-listed t u v a b o = (unions_links m (le_refl m) u v).1 (t, a, omega (arith, length_lent n w m), o)

-- ---- THE THEOREM

module _ (n measure : ℕ) (w a : List ℕ) (e : whole_verdict n measure w a ≡ 0) where
  abbrev m : ℕ
  m = length w / n

  abbrev f : Runs n measure m w a
  f = whole_sound n measure w a e

  pub whole_words : m * n ≤ length w
  whole_words = let z = f.words in omega arith

  pub whole_recorded : Recording n (lent_recording n w)
  whole_recorded = rec n w m whole_words f.clean

  pub whole_few : length (lent_recording n w) ≤ m
  whole_few = omega (arith, length_lent n w m)

  pub whole_fits : Fits measure (unions n w m) (lent_recording n w) n
  whole_fits two = (unions-clean n w m whole_words f.clean m (le_refl m), unions-listed n w m whole_words f.clean)

  -- the run is a course of the walk
  abbrev pub whole_course : Course
  whole_course =
      course_of n measure m (unions n w m) a (lent_recording n w) (record {
        some_boards = f.some_boards;
        few_boards = f.few;
        measure_low = f.measure_low;
        measure_high = f.measure_high;
        cap = f.cap;
        room = f.room;
      }) whole_recorded whole_few whole_fits

  pub whole_walks : (k : ℕ) → k ≤ m → whole_after n measure m w a k ≡ state_at whole_course (list_cost measure m) k
  unfolding whole_after steps_of whole_start walk_from
  whole_walks zero h = refl
  whole_walks (suc k) h =
      ap (stepped (kit measure n) (lent_pick n w k)) (whole_walks k (omega arith))
      ∙ ap (λ (p : List ℕ). stepped (kit measure n) p (state_at whole_course (list_cost measure m) k)) (sym (lent_at n w m k h))

  ran_right : Ran n measure w (whole_says n measure w a)
  unfolding whole_says whole_report
  ran_right =
      let k = length_lent n w m in
      let d = told whole_course (list_cost measure m) (λ o. ap (λ (x : ℕ). list_cost x m) o) m f.some_picks (omega arith) in
      let last = state_at whole_course (list_cost measure m) m in
      let report : whole_says n measure w a ≡ report_says (reported last.place) last.place =
      ap (λ (b : ℕ). cond (eqb b 0) (whole_report n measure m w a) (outcome b 0 0 0)) e
      ∙ ap (λ (x : State). report_says (reported x.place) x.place) (whole_walks m (le_refl m)) in
      record {
        recorded = whole_recorded;
        picks = k;
        footprint = unions_links n w m whole_words f.clean m (le_refl m);
        right = subst (Right measure (Passes measure n (unions n w m) (lent_recording n w)) m) (sym report)
            (course_right whole_course (refl, refl) m (omega arith) (report_says (reported last.place) last.place) d.right);
        counted = subst (Counted measure (list_cost measure m) m) (sym report) d.counted;
      }

pub whole : WholeClaim
whole = ran_right

pub whole_footprint : WholeFootprintClaim
whole_footprint n w a e = let d = whole n 2 w a e in go d.right d
  where
    go : Right 2 (Passes 2 n (unions n w (length w / n)) (lent_recording n w)) (length w / n) (whole_says n 2 w a) → Ran n 2 w (whole_says n 2 w a)
        → (whole_says n 2 w a).refusal ≡ 0
    go (answered x y) d = x
    go (none_exists x f) d =
        let m = length w / n in
        let s = (whole_sound n 2 w a e).some_picks in
        absurd (f m s (le_refl m) (λ i j p q z. let i1 : 1 ≡ i = omega arith in let jm : m ≡ j = omega arith in
        rw⁻¹ (i1, jm) (λ u v. ((d.footprint u v).1, (d.footprint u v).0))))

pub refused_run_stays : RefusedRunClaim
unfolding whole_leaves
refused_run_stays n measure w a f =
    let v = whole_verdict n measure w a in
    ap (λ (b : Bool). cond b (zeroed (needed measure n (length w / n)) a) a) (F→≡ (eqb v 0) (λ t. f (eqb→eq v 0 t)))
