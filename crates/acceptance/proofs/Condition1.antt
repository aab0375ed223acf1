-- Condition 1, proved. Assumes nothing.
use mathlib.Core.Path.{◌≡◌, refl, sym, ap, subst}
use mathlib.Core.Bool.{Bool, true, false, cond}
use mathlib.Core.Option.{Option, none, some}
use mathlib.Core.List.{[], ◌∷◌, ◌++◌}
use Prim.Native.Nat.{ℕ, ◌/◌}
use lib.Dec.{T, eqb, eqb→eq}
use lib.ListN.{length, drop}
use Rattle.model.specs.Causes.{Causes, first_of, numbered, answers, Among, is_first, is_later}
use Rattle.model.proofs.Causes.{among, among_then}
use Rattle.model.proofs.Logic.{F→≡}
use Rattle.place.specs.declared.Place.{Place}
use Rattle.place.specs.Places.{fresh, nowhere}
use Rattle.area.specs.Parts.{zeroed}
use Rattle.verdicts.specs.Verdicts.{needed, open_causes, pick_causes, whole_causes, open_verdict, pick_verdict, whole_verdict}
use Rattle.steps.specs.Walk.{State, reported}
use Rattle.calls.specs.Answers.{outcome, answer_by}
use Rattle.calls.specs.Calls.{opened_area, open_says, open_leaves, report_says, length_says, whole_after, whole_report, whole_says, length_causes}
use Rattle.calls.proofs.Taken.{refused_state}
use Rattle.decision.specs.Decisions.{decision_causes, decision_verdict, decide_leaves}
use Rattle.reach.specs.Tables.{table_verdict, table_of, table_leaves, table_causes}
use Rattle.recording.specs.Answers.{read_says}
use Rattle.recording.proofs.Causes.{file-numbers}
use Rattle.recording.proofs.Laws.{refused_law}
use Rattle.recording.proofs.Grammar.{reads_exactly, reads_as_written}
use Rattle.saving.specs.Answers.{save_causes, save_verdict}
use Rattle.saving.proofs.Causes.{save-says, save_exactly, save_refused, eighteen_exactly}
use Rattle.law.proofs.Whole.{refused_run_stays}
use Rattle.numbers.proofs.Taken.{open_exactly, unlisted_verdict, open_unlisted, pick_exactly as picks-exactly, sixteen_exactly, eight_exactly, unlisted_causes}
use Rattle.numbers.proofs.Taken.{whole_exactly as runs-exactly, decision-says, refused_decision, decision_exactly as decisions-exactly}
use Rattle.numbers.proofs.Taken.{table_exactly as tables-exactly, all-taken}
use Rattle.acceptance.specs.Condition1.{OpeningNumbers, ListUnread, OpeningNumbersNoList, PickNumbers, LengthNumbers}
use Rattle.acceptance.specs.Condition1.{WholeNumbers, TableNumbers, ReadingNumbers, OpeningRefused, PickRefused, WholeRefused, TableRefused}
use Rattle.acceptance.specs.Condition1.{ReadingRefused, OpeningExactly, PickExactly, LengthSixteen, LengthEight, WholeExactly, TableExactly}
use Rattle.acceptance.specs.Condition1.{ReadingExactly, ReadingAsWritten, WhatFitsIsTaken, DecisionNumbers, DecisionRefused, DecisionExactly}
use Rattle.acceptance.specs.Condition1.{SavingNumbers, SavingRefused, SavingExactly, SavingEighteen}

-- ---- which numbers a call gives; 0 is none

pub opening_numbers : OpeningNumbers
unfolding open_says open_verdict
opening_numbers n measure limit footprint a = among (open_causes n measure limit footprint a)

pub list_unread : ListUnread
list_unread n measure limit x y a f = open_unlisted n measure limit a f x y

pub opening_numbers_no_list : OpeningNumbersNoList
unfolding open_says
opening_numbers_no_list n measure limit footprint a f =
    subst (λ (c : ℕ). Among c (1 ∷ 2 ∷ 3 ∷ 4 ∷ 0 ∷ [])) (sym (unlisted_verdict n measure limit a f footprint))
    (among (unlisted_causes n measure limit a f))

pub pick_numbers : PickNumbers
unfolding pick_verdict
pick_numbers p a w = among (pick_causes p a w)

-- 9 or a length comes where no cause refuses
report_numbers : (o : Option ℕ) (p : Place) → Among (report_says o p).refusal (9 ∷ 0 ∷ [])
report_numbers none p = is_first refl
report_numbers (some k) p = is_later (is_first refl)

answer_numbers : (cs : Causes) (o : Option ℕ) (p : Place) → T (numbered cs)
    → Among (answer_by (first_of cs) (report_says o p)).refusal (answers cs (9 ∷ 0 ∷ []))
answer_numbers cs o p n = subst (λ (x : ℕ). Among x (answers cs (9 ∷ 0 ∷ []))) (go (eqb (first_of cs) 0)) (among_then cs _ _ n (report_numbers o p))
  where
    go : (b : Bool) → cond b (report_says o p).refusal (first_of cs) ≡ (cond b (report_says o p) (outcome (first_of cs) 0 0 0)).refusal
    go true = refl
    go false = refl

pub length_numbers : LengthNumbers
unfolding length_says
length_numbers p = answer_numbers (length_causes p) (reported p) p tt

pub whole_numbers : WholeNumbers
unfolding whole_says whole_verdict whole_report
whole_numbers n measure w a = let p = (whole_after n measure (length w / n) w a (length w / n)).place in answer_numbers (whole_causes n measure w a)
    (reported p) p tt

pub decision_numbers : DecisionNumbers
unfolding decision_verdict
decision_numbers n measure w k a = rw (decision-says n measure w k a) (among (decision_causes n measure w k a))

pub table_numbers : TableNumbers
unfolding table_verdict
table_numbers n w out = among (table_causes n w out)

pub reading_numbers : ReadingNumbers
unfolding read_says
reading_numbers limit bytes out = file-numbers limit (length out) bytes

pub saving_numbers : SavingNumbers
unfolding save_verdict
saving_numbers n w out = rw (save-says n w out) (among (save_causes n w out))

-- ---- a refused call leaves everything as it was

not_zero : (x : ℕ) → (x ≡ 0 → ⊥) → eqb x 0 ≡ false
not_zero x f = F→≡ (eqb x 0) (λ t. f (eqb→eq x 0 t))

pub opening_refused : OpeningRefused
unfolding open_says open_leaves
opening_refused n measure limit footprint a f =
    let e = not_zero (open_verdict n measure limit footprint a) f in
    (ap (λ (b : Bool). cond b (fresh measure n limit) nowhere) e, ap (λ (b : Bool). cond b (opened_area n measure limit footprint a) a) e)

pub pick_refused : PickRefused
pick_refused p a w f =
    let e = refused_state p a w (not_zero (pick_verdict p a w) f) in
    (ap (λ (st : State). st.place) e, ap (λ (st : State). st.area) e)

pub whole_refused : WholeRefused
whole_refused = refused_run_stays

pub decision_refused : DecisionRefused
unfolding decide_leaves
decision_refused n measure w k a f = (
  refused_decision n measure w k a f,
  ap (λ (b : Bool). cond b (zeroed (needed measure n (length w / n)) a) a) (not_zero (decision_verdict n measure w k a) f),
)

pub table_refused : TableRefused
unfolding table_leaves
table_refused n w out f = ap (λ (b : Bool). cond b (table_of n w ++ drop n out) out) (not_zero (table_verdict n w out) f)

pub reading_refused : ReadingRefused
reading_refused = refused_law

pub saving_refused : SavingRefused
saving_refused = save_refused

-- ---- the checks say exactly when: no cause refuses a call where its clauses hold, by the meaning, and only there

pub opening_exactly : OpeningExactly
unfolding open_says
opening_exactly = open_exactly

pub pick_exactly : PickExactly
pick_exactly = picks-exactly

pub length_sixteen : LengthSixteen
length_sixteen = sixteen_exactly

pub length_eight : LengthEight
length_eight = eight_exactly

pub whole_exactly : WholeExactly
whole_exactly n measure w a = runs-exactly n w measure a

pub decision_exactly : DecisionExactly
decision_exactly n measure w k a = decisions-exactly n w measure k a

pub table_exactly : TableExactly
table_exactly n w out = tables-exactly n w out

pub reading_exactly : ReadingExactly
reading_exactly = reads_exactly

pub saving_exactly : SavingExactly
saving_exactly = save_exactly

pub saving_eighteen : SavingEighteen
saving_eighteen = eighteen_exactly

pub reading_as_written : ReadingAsWritten
reading_as_written = reads_as_written

pub what_fits_is_taken : WhatFitsIsTaken
what_fits_is_taken = all-taken
