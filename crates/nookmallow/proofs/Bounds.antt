-- Every number that the calls answer fits a word of 32 bits, so none is cut short on its way to C. Assumes nothing.
use mathlib.Core.Path.{◌≡◌, refl, sym, ap, ap₂, ◌∙◌, subst}
use mathlib.Core.Bool.{Bool, true, false, ◌&&◌, not, cond}
use mathlib.Core.Logic.{⊎_elim}
use mathlib.Core.Option.{none, some}
use mathlib.Core.List.{List}
use Prim.Native.Nat.{ℕ, ◌+◌, ◌-◌, ◌*◌, ◌/◌, ◌≤◌, ◌<◌, ◌^◌}
use native.Mathlib.Nat.{le_refl, lt_of_le_of_lt, mul-le-mul}
use native.Mathlib.Omega.{arith}
use lib.Dec.{eqb, eqb→eq, ltb, lit<}
use lib.ListN.{length}
use Rattle.std.specs.Prelude.{Result, Ok, Err}
use Rattle.model.specs.Causes.{first_of}
use Rattle.model.specs.declared.Refusal.{Refusal}
use Rattle.model.specs.Refusals.{number}
use Rattle.model.proofs.Refusals.{number_some}
use Rattle.checks.specs.Lent.{lent_picks}
use Rattle.checks.proofs.Lent.{length_lent}
use Rattle.place.specs.declared.Settings.{Settings}
use Rattle.place.specs.declared.Place.{Place}
use Rattle.place.specs.Places.{fresh, nowhere, charged, sound_place, Sound, most_counted}
use Rattle.place.proofs.Laws.{sound_says}
use Rattle.verdicts.specs.Verdicts.{open_verdict, pick_verdict, whole_verdict}
use Rattle.verdicts.specs.Fit.{Runs}
use Rattle.verdicts.proofs.Verdicts.{open_sound, pick_sound, whole_sound}
use Rattle.steps.specs.Walk.{State, reported}
use Rattle.steps.proofs.Ready.{Stepped, stepped_grown, sound_ready}
use Rattle.model.proofs.Logic.{cond_ind, eq_or}
use Rattle.calls.specs.declared.Refused.{Refused}
use Rattle.calls.specs.Answers.{Handed, outcome, answer_by, handed_says}
use Rattle.calls.specs.Calls.{open_says, pick_says, report_says, length_says, unions, whole_start, whole_after, whole_report, whole_says}
use Rattle.calls.specs.Fit.{Starts}
use Rattle.calls.proofs.Taken.{taken_state, refused_state}
use Rattle.calls.proofs.Opened.{opened_length}
use Rattle.calls.proofs.Loops.{walked, whole_starts, list-cost, length-unions}
use Rattle.decision.specs.Decisions.{decided, decision_verdict, decision_report, decide_says}
use Rattle.decision.proofs.Verdicts.{decision_sound}
use Rattle.decision.proofs.Held.{held_counts}
use Rattle.recording.specs.declared.Reading.{Reading}
use Rattle.recording.specs.Answers.{reading_says, read_says}
use Rattle.recording.proofs.Laws.{read_law}
use Rattle.saving.specs.Answers.{saved, lent_file, save_says}
use Rattle.saving.specs.May.{MaySave}
use Rattle.saving.proofs.Most.{file_most}
use Rattle.saving.proofs.Causes.{save_exactly, save_fits, save_refused}
use Rattle.crossing.specs.declared.PlaceWords.{PlaceWords}
use Rattle.crossing.specs.Words.{flags, place_of, words_of, handed_as, handed_words}
use Rattle.crossing.specs.Words.{Narrow, NarrowHanded, NarrowAnswer, NarrowDecision, NarrowReading, NarrowSaved}
use Rattle.crossing.proofs.Fits.{small, words_back}

-- ---- opening

fresh_narrow : (n measure limit : ℕ) → n ≤ 32 → measure ≤ 4 → limit ≤ 4096 → Narrow (fresh measure n limit)
unfolding fresh
fresh_narrow n measure limit a b c = record {
  boards = small (omega arith);
  measure = small (omega arith);
  limit = small (omega arith);
  taken = lit< tt;
  start = lit< tt;
  boundary = lit< tt;
  compositions = lit< tt;
  tests = lit< tt;
}

nowhere_narrow : Narrow nowhere
unfolding nowhere
nowhere_narrow = record {
  boards = lit< tt;
  measure = lit< tt;
  limit = lit< tt;
  taken = lit< tt;
  start = lit< tt;
  boundary = lit< tt;
  compositions = lit< tt;
  tests = lit< tt;
}

pub open_narrow : (n measure limit : ℕ) (footprint a : List ℕ) → NarrowHanded (open_says n measure limit footprint a)
unfolding open_says
open_narrow n measure limit footprint a = record {
  place = cond_ind Narrow (eqb (open_verdict n measure limit footprint a) 0) (fresh measure n limit) nowhere
      (λ t. let o = open_sound n measure limit footprint a (eqb→eq _ _ t) in fresh_narrow n measure limit o.few o.measure_high o.cap)
      (λ t. nowhere_narrow);
}

-- ---- pick

stepped_narrow : {p q : Place} → Sound p → p.window.taken.0 < p.settings.limit → Stepped p q → Narrow q
stepped_narrow s h t =
    let u = t.grown in
    let l = s.limit_high in
    let b = s.boards_high in
    let k = s.measure_high in
    let c = s.compositions_high in
    let d = s.tests_high in
    let e = u.taken in
    let f = t.inside in
    let g = u.bound s.boundary_high in
    let x = u.comps in
    let y = u.tests in
    let z = t.few in
    record {
      boards = subst (λ (z : Settings). z.boards < 2 ^ 32) (sym u.settings) (small (omega arith));
      measure = subst (λ (z : Settings). z.measure < 2 ^ 32) (sym u.settings) (small (omega arith));
      limit = subst (λ (z : Settings). z.limit < 2 ^ 32) (sym u.settings) (small (omega arith));
      taken = small (omega arith);
      start = small (omega arith);
      boundary = small (omega arith);
      compositions = small (omega arith);
      tests = small (omega arith);
    }

pub pick_narrow : (p : Place) (a w : List ℕ) → pick_verdict p a w ≡ 0 → NarrowHanded (pick_says p a w)
pick_narrow p a w e =
    let t = pick_sound p a w e in
    let q = stepped_narrow t.sound t.below (stepped_grown p a w (sound_ready t.sound t.room)) in
    record { place = subst (λ (x : State). Narrow x.place) (sym (taken_state p a w e)) q }

-- a pick that is refused leaves the place that the words stand for, so that the words handed back are its own
pub refused_back : (p : PlaceWords) (a w : List ℕ) (r : Refused) → flags p ≡ true → handed_says (Err r) ≡ pick_says (place_of p) a w
    → handed_as (number r.cause) p ≡ handed_words (pick_says (place_of p) a w)
refused_back p a w r f g =
    let v : number r.cause ≡ pick_verdict (place_of p) a w = ap (λ (h : Handed). h.refusal) g in
    let s = refused_state (place_of p) a w (ap (λ (k : ℕ). eqb k 0) (sym v) ∙ number_some r.cause) in
    ap₂ handed_as v (sym (words_back p f) ∙ ap (λ (st : State). words_of st.place) (sym s))

-- what `nookmallow_pick` stands on
pub ruleset picked = (pick_narrow, refused_back)

-- ---- length

-- a length is at most one more than the picks
reported_small : (p : Place) → p.window.taken.0 ≤ 4096 → p.counts.compositions.0 ≤ most_counted → p.counts.tests.0 ≤ most_counted
    → NarrowAnswer (report_says (reported p) p)
unfolding reported
reported_small p h c t = by p.marks.passed (not (eqb p.settings.measure 1) && ltb 1 p.window.start.0)
  where
    by : (x y : Bool) → NarrowAnswer (report_says (cond x (some (p.window.taken.0 + 1 - p.window.start.0))
        (cond y (some (p.window.taken.0 + 2 - p.window.start.0)) none)) p)
    by true y = record { length = small (omega arith); compositions = small (omega arith); tests = small (omega arith) }
    by false true = record { length = small (omega arith); compositions = small (omega arith); tests = small (omega arith) }
    by false false = record { length = lit< tt; compositions = small (omega arith); tests = small (omega arith) }

no_answer : (c : ℕ) → NarrowAnswer (outcome c 0 0 0)
no_answer c = record { length = lit< tt; compositions = lit< tt; tests = lit< tt }

pub length_narrow : (p : Place) → NarrowAnswer (length_says p)
unfolding length_says first_of
length_narrow p = by (sound_place p) (eqb p.window.taken.0 0) refl
  where
    cause : Bool → Bool → ℕ
    cause x y = cond (not x) 16 (cond y 8 0)

    by : (x y : Bool) → sound_place p ≡ x → NarrowAnswer (answer_by (cause x y) (report_says (reported p) p))
    by false y e = no_answer 16
    by true true e = no_answer 8
    by true false e =
        let s = sound_says p e in
        let m = s.taken_high in
        let l = s.limit_high in
        let c = s.compositions_high in
        let t = s.tests_high in
        reported_small p (omega arith) (omega arith) (omega arith)

-- ---- whole run

module _ (n measure m : ℕ) (w a : List ℕ) (r : Runs n measure m w a) where
  abbrev start : State
  start = whole_start n measure m w a

  starts : Starts start.place m w start.area
  unfolding whole_start charged fresh
  starts =
      let z = r.words in
      whole_starts n measure m _ w a r (list-cost measure m r.cap) refl
      (opened_length n measure m (unions n w m) a r.room (λ e. sym (length-unions n w m (omega arith))))

  run_narrow : NarrowAnswer (whole_report n measure m w a)
  unfolding whole_report whole_after whole_start charged fresh
  run_narrow =
      let g = walked start.place w start.area m starts m (le_refl m) in
      let t = g.taken in
      let c = g.comps in
      let y = g.tests in
      let l = r.cap in
      reported_small (whole_after n measure m w a m).place (omega arith) (omega arith) (omega arith)

pub whole_narrow : (n measure : ℕ) (w a : List ℕ) → NarrowAnswer (whole_says n measure w a)
unfolding whole_says
whole_narrow n measure w a =
    cond_ind NarrowAnswer (eqb (whole_verdict n measure w a) 0) (whole_report n measure (length w / n) w a) (outcome (whole_verdict n measure w a) 0 0 0)
    (λ t. run_narrow n measure (length w / n) w a (whole_sound n measure w a (eqb→eq _ _ t)))
    (λ t. no_answer _)

-- ---- decision

run-decided : (n measure m k : ℕ) (w a : List ℕ) → Runs n measure m w a → 1 ≤ k → NarrowDecision (decision_report n measure m w k a)
unfolding decision_report
run-decided n measure m k w a r low =
    let h = held_counts n measure m k w a r low in
    let c = h.0 in
    let t = h.1 in
    let l = r.cap in
    record { compositions = small (omega arith); tests = small (omega arith) }

no_decision : (c : ℕ) → NarrowDecision (decided c false 0 0)
no_decision c = record { compositions = lit< tt; tests = lit< tt }

pub decide_narrow : (n measure : ℕ) (w : List ℕ) (k : ℕ) (a : List ℕ) → NarrowDecision (decide_says n measure w k a)
unfolding decide_says
decide_narrow n measure w k a =
    let v = decision_verdict n measure w k a in
    cond_ind NarrowDecision (eqb v 0) (decision_report n measure (length w / n) w k a) (decided v false 0 0)
    (λ t. let s = decision_sound n measure w k a (eqb→eq _ _ t) in run-decided n measure (length w / n) k w a (whole_sound n measure w a s.0) s.1)
    (λ t. no_decision v)

-- ---- saving

-- three bytes for each link of a pick and one, and three more: 12,193,795 at most, for 4,096 picks over 32 boards
file_small : (n m size : ℕ) → n ≤ 32 → m ≤ 4096 → size ≤ 3 + m * (n * (3 * (n - 1)) + 1) → size ≤ most_counted
file_small n m size few cap h =
    let row : 3 * (n - 1) ≤ 93 = omega arith in
    let pick : n * (3 * (n - 1)) + 1 ≤ 2977 = omega (arith, mul-le-mul few row) in
    omega (arith, mul-le-mul cap pick)

written_narrow : (n : ℕ) (w out : List ℕ) → MaySave n w out → NarrowSaved (saved 0 (length (lent_file n w)))
unfolding lent_file
written_narrow n w out s =
    let m = length w / n in
    let l = s.lent in
    let h = subst (λ (k : ℕ). length (lent_file n w) ≤ 3 + k * (n * (3 * (n - 1)) + 1)) (length_lent n w m) (file_most n (lent_picks n w m) l.recorded) in
    record { length = small (file_small n m (length (lent_file n w)) l.boards.1 l.picks h) }

pub save_narrow : (n : ℕ) (w out : List ℕ) → NarrowSaved (save_says n w out)
save_narrow n w out =
    ⊎_elim
    (λ e. let s = (save_exactly n w out).0 e in subst NarrowSaved (sym (save_fits n w out s).0) (written_narrow n w out s))
    (λ f. subst NarrowSaved (sym (save_refused n w out f).0) (record { length = lit< tt }))
    (eq_or (save_says n w out).refusal 0)

-- ---- reading

-- n is at most 32, and the picks are no more than the limit that the call has as a word
pub read_narrow : (limit : ℕ) (bytes out : List ℕ) (r : Result Reading Refusal) → reading_says r ≡ read_says limit bytes out → limit < 2 ^ 32
    → NarrowReading (reading_says r)
read_narrow limit bytes out (Ok k) e h =
    let g = read_law limit bytes out k.boards k.picks (sym e) in
    let high = g.high in
    record { boards = small (omega arith); picks = lt_of_le_of_lt g.few h }
read_narrow limit bytes out (Err c) e h = record { boards = lit< tt; picks = lit< tt }
