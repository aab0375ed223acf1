-- Condition 2, proved. Assumes nothing.
use mathlib.Core.Path.{◌≡◌, sym, ◌∙◌}
use mathlib.Core.List.{[], ◌∷◌}
use Prim.Native.Nat.{ℕ, zero, suc, ◌+◌, ◌-◌, ◌/◌, ◌≤◌, zero-le}
use mathlib.Core.Bool.{Bool, true, false, cond}
use lib.Dec.{eqb}
use lib.ListN.{length}
use native.Mathlib.Nat.{le_refl}
use native.Mathlib.Omega.{arith}
use Rattle.place.specs.declared.Place.{Place}
use Rattle.verdicts.proofs.Verdicts.{pick_sound}
use Rattle.steps.proofs.Fit.{measure_of}
use Rattle.steps.proofs.Ready.{Stepped}
use Rattle.calls.specs.Answers.{Outcome}
use Rattle.law.specs.Correct.{Counted}
use Rattle.law.specs.Claim2.{open_state, after_picks, list_cost}
use Rattle.law.proofs.Online.{online, taken_split, after_split, taken_settled, pick_stepped}
use Rattle.law.proofs.Whole.{whole}
use Rattle.numbers.proofs.Counts.{picks_moved, picks_decided, run_moved, run-decided}
use Rattle.numbers.proofs.Events.{any_order, answers_on, resumes}
use Rattle.numbers.proofs.Table.{table-marks_all, table-words_are}
use Rattle.acceptance.specs.Condition2.{PickByPick, WholeRuns, TableMarks, TableRest, CountsPickByPick, CountsWhole, TestsDecidedPickByPick}
use Rattle.acceptance.specs.Condition2.{TestsDecidedWhole, Bounded, PickByPickBounded, WholeRunsBounded, Spent, OnePickBounded, InAnyOrder}
use Rattle.acceptance.specs.Condition2.{EachAnswer, StopAndStart}

pub pick_by_pick : PickByPick
pick_by_pick = online

pub whole_runs : WholeRuns
whole_runs = whole

pub table-marks : TableMarks
table-marks = table-marks_all

pub table-words : TableRest
table-words = table-words_are

pub counts_pick_by_pick : CountsPickByPick
counts_pick_by_pick = picks_moved

pub counts_whole : CountsWhole
counts_whole = run_moved

pub tests_decided_pick_by_pick : TestsDecidedPickByPick
tests_decided_pick_by_pick = picks_decided

pub tests_decided_whole : TestsDecidedWhole
tests_decided_whole = run-decided

bounded : (measure c m : ℕ) (o : Outcome) → c ≤ m - 1 → Counted measure c m o → Bounded m o
bounded zero c m o h k = let a = k.0 in let b = k.1 in (omega arith, omega arith)
bounded (suc zero) c m o h k = k
bounded (suc (suc x)) c m o h k = let a = k.0 in let b = k.1 in (omega arith, omega arith)

list_cost_within : (measure m : ℕ) → list_cost measure m ≤ m - 1
list_cost_within measure m = go (eqb measure 2)
  where
    go : (b : Bool) → cond b (m - 1) 0 ≤ m - 1
    go true = le_refl (m - 1)
    go false = zero-le

pub pick_by_pick_bounded : PickByPickBounded
pick_by_pick_bounded n measure limit footprint a e ws t h = bounded measure 0 (length ws) _ zero-le (online n measure limit footprint a e ws t h).counted

pub whole_runs_bounded : WholeRunsBounded
whole_runs_bounded n measure w a e =
    let m = length w / n in bounded measure (list_cost measure m) m _ (list_cost_within measure m) (whole n measure w a e).counted

spent : {measure m : ℕ} {p q : Place} → p.settings.measure ≡ measure → p.window.taken.0 ≡ m → 1 ≤ p.window.start.0 → Stepped p q
    → Spent measure (m + 1) p q
spent e k low s =
    let g = s.grown in
    let few = s.few in
    let cs = g.comps in
    let ts = g.tests in
    record { compositions = omega arith; tests = omega arith; one-test = λ n. let one = s.one (λ o. n (sym e ∙ o)) in omega arith }

pub one_pick_bounded : OnePickBounded
unfolding after_picks
one_pick_bounded n measure limit footprint a e ws w t =
    let st = open_state n measure limit footprint a in
    let q = after_picks st ws in
    let u = (taken_split st ws (w ∷ [])).0 t in
    let d = taken_settled n measure limit footprint a e ws u.0 in
    let low = (pick_sound q.place q.area w u.1.0).sound.start_low in
    rw (after_split st ws (w ∷ [])) (spent (measure_of d.settings) d.taken low (pick_stepped q w u.1.0))

pub in_any_order : InAnyOrder
in_any_order = any_order

pub each-answer : EachAnswer
each-answer = answers_on

pub stop_and_start : StopAndStart
stop_and_start = resumes
