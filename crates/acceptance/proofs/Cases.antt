-- The ten cases, proved. Assumes nothing.
use mathlib.Core.Path.{◌≡◌, refl, ◌∙◌, subst}
use Prim.Native.Nat.{ℕ, ◌/◌}
use native.Mathlib.Omega.{arith}
use mathlib.Core.List.{List}
use lib.ListN.{length}
use Rattle.model.specs.Causes.{between, first_of}
use Rattle.model.specs.Recording.{bit, link}
use Rattle.lists.specs.Tab.{tab, zeros, splice, every}
use Rattle.lists.proofs.Tab.{length-zeros}
use Rattle.links.specs.Tables.{without, both_row, intersection, either_row, union, gathered, through_row, compose_row, compose, within, pair_full, row_full}
use Rattle.links.specs.Tables.{full, connected, row_same, same}
use Rattle.links.specs.Composed.{composed_from, composed, reach}
use Rattle.times.specs.Times.{rows, sooner, later, after, apart, arrive_by, depart_by, arrival, departure, arrivals, departures, compose_times, own_time}
use Rattle.times.specs.Times.{own_times, in_time, row_in_time, all_in_time}
use Rattle.checks.specs.Checks.{allowed, clean_row, clean}
use Rattle.links.specs.Picks.{lent_pick}
use Rattle.checks.specs.Lent.{lent_picks, clean_pick, clean_picks}
use Rattle.measures.specs.Kit.{size_of, own_of, join_of, pass_of}
use Rattle.area.specs.Parts.{stored_size, stored, table, part, compose_at, copy_at, zero_at, own_at}
use Rattle.place.specs.Places.{fresh, picks_taken, start_moved, boundary_moved, charged, marked, tested}
use Rattle.steps.specs.Walk.{ladder, rebuilt, joined_area, joined, extended_by, extended, written, entered, window_area, windowed, judged, tried}
use Rattle.steps.specs.Walk.{cleared, min_step, raised_by, raised, again, climb, climbed, max_step, stepped, reported}
use Rattle.calls.specs.Answers.{Outcome}
use Rattle.verdicts.specs.Verdicts.{needed, whole_verdict}
use Rattle.calls.specs.Calls.{opened_area, unions, whole_start, steps_of, whole_after, whole_report, whole_says}
use Rattle.reach.specs.Tables.{table_of}
use Rattle.law.proofs.Whole.{whole}
use Rattle.numbers.proofs.Counts.{same_anywhere}
use Rattle.acceptance.specs.Cases.{run, A, B, C, D, F, CasesAnswered, Anywhere, CasesAnywhere, RightCase, CasesRight, TableOfA, MoreCases}

pub cases_answered : CasesAnswered
unfolding run bit link tab zeros every without both_row intersection either_row union gathered through_row compose_row compose within pair_full row_full full
    connected row_same same rows sooner later after apart arrive_by depart_by arrival departure arrivals departures compose_times own_time own_times in_time
    row_in_time all_in_time allowed clean_row clean lent_pick clean_pick clean_picks size_of stored_size stored table own_of join_of pass_of splice part
    compose_at copy_at zero_at own_at fresh picks_taken start_moved boundary_moved charged marked tested between ladder rebuilt joined_area joined extended_by
    extended written entered window_area windowed judged tried cleared min_step raised_by raised again climb climbed max_step stepped reported first_of
    opened_area whole_verdict unions whole_start steps_of whole_after whole_report whole_says
cases_answered = (refl, refl, refl, refl, refl, refl, refl, refl, refl, refl)

anywhere : (n measure : ℕ) (w : List ℕ) (o : Outcome) → run n measure w ≡ o → Anywhere n measure w o
unfolding run
anywhere n measure w o e a h =
    let k = needed measure n (length w / n) in
    same_anywhere n measure w a (zeros k) h (omega (arith, length-zeros k)) ∙ e

pub cases_anywhere : CasesAnywhere
cases_anywhere = (
  anywhere 2 1 A _ cases_answered.0,
  anywhere 2 2 A _ cases_answered.1,
  anywhere 2 3 A _ cases_answered.2,
  anywhere 2 4 A _ cases_answered.3,
  anywhere 2 1 B _ cases_answered.4,
  anywhere 2 3 B _ cases_answered.5,
  anywhere 3 1 C _ cases_answered.6,
  anywhere 2 1 D _ cases_answered.7,
  anywhere 2 3 D _ cases_answered.8,
  anywhere 2 2 F _ cases_answered.9,
)

right_case : (n measure : ℕ) (w : List ℕ) (o : Outcome) → run n measure w ≡ o
    → whole_verdict n measure w (zeros (needed measure n (length w / n))) ≡ 0
    → RightCase n measure w o
unfolding run
right_case n measure w o e v = subst (RightCase n measure w) e (whole n measure w (zeros (needed measure n (length w / n))) v).right

pub cases_right : CasesRight
unfolding bit link tab zeros every without allowed clean_row clean lent_pick clean_pick clean_picks size_of stored_size stored table between first_of
    whole_verdict
cases_right = (
  right_case 2 1 A _ cases_answered.0 refl,
  right_case 2 2 A _ cases_answered.1 refl,
  right_case 2 3 A _ cases_answered.2 refl,
  right_case 2 4 A _ cases_answered.3 refl,
  right_case 2 1 B _ cases_answered.4 refl,
  right_case 2 3 B _ cases_answered.5 refl,
  right_case 3 1 C _ cases_answered.6 refl,
  right_case 2 1 D _ cases_answered.7 refl,
  right_case 2 3 D _ cases_answered.8 refl,
  right_case 2 2 F _ cases_answered.9 refl,
)

pub table_of-A : TableOfA
unfolding table_of reach composed composed_from lent_picks lent_pick bit link tab zeros without either_row gathered through_row compose_row compose within
table_of-A = refl

pub more_cases : MoreCases
unfolding run bit link tab zeros every without both_row intersection either_row union gathered through_row compose_row compose within pair_full row_full full
    connected row_same same rows sooner later after apart arrive_by depart_by arrival departure arrivals departures compose_times own_time own_times in_time
    row_in_time all_in_time allowed clean_row clean lent_pick clean_pick clean_picks size_of stored_size stored table own_of join_of pass_of splice part
    compose_at copy_at zero_at own_at fresh picks_taken start_moved boundary_moved charged marked tested between ladder rebuilt joined_area joined extended_by
    extended written entered window_area windowed judged tried cleared min_step raised_by raised again climb climbed max_step stepped reported first_of
    opened_area whole_verdict unions whole_start steps_of whole_after whole_report whole_says
more_cases = (refl, refl, refl)
