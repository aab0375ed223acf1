-- What the calls answer and leave, for every input: opening, pick, length, whole run. A cause is its number, 0 where there is none; `Verdicts` has
-- those of opening, pick and whole run in their order.
use Rattle.std.specs.Prelude.{ℕ, zero, suc, ◌+◌, ◌-◌, ◌/◌, not, cond, List, [], ◌∷◌, eqb, length}
use Rattle.std.proofs.Math.Option.{Option, none, some}
use Rattle.model.specs.Causes.{Causes, first_of}
use Rattle.lists.specs.Tab.{zeros}
use Rattle.links.specs.Tables.{union}
use Rattle.links.specs.Picks.{lent_pick}
use Rattle.measures.specs.Kit.{Kit, kit}
use Rattle.area.specs.Parts.{put_table, zeroed}
use Rattle.place.specs.declared.Place.{Place}
use Rattle.place.specs.Places.{fresh, nowhere, charged, sound_place}
use Rattle.verdicts.specs.Verdicts.{needed, open_verdict, pick_verdict, whole_verdict}
use Rattle.steps.specs.Walk.{State, state, kit_of, stepped, reported}
use Rattle.steps.specs.Bare.{bare_step}
use Rattle.calls.specs.Answers.{Handed, handed, Outcome, outcome, answer_by}

-- ---- opening

-- the needed words zero, and the footprint of measure 2 in part limit + 3
unfoldable pub opened_area : ℕ → ℕ → ℕ → List ℕ → List ℕ → List ℕ
opened_area n measure limit footprint a =
    cond (eqb measure 2) (put_table (kit measure n) (zeroed (needed measure n limit) a) (limit + 3) footprint) (zeroed (needed measure n limit) a)

-- opened: the fresh place of the measure. Refused: the place of zeros and noes, and the area as it was.
unfoldable pub open_says : ℕ → ℕ → ℕ → List ℕ → List ℕ → Handed
open_says n measure limit footprint a =
    handed (open_verdict n measure limit footprint a) (cond (eqb (open_verdict n measure limit footprint a) 0) (fresh measure n limit) nowhere)

unfoldable pub open_leaves : ℕ → ℕ → ℕ → List ℕ → List ℕ → List ℕ
open_leaves n measure limit footprint a = cond (eqb (open_verdict n measure limit footprint a) 0) (opened_area n measure limit footprint a) a

-- ---- pick

-- taken: one step of the walk. Refused: place and area as they were.
unfoldable pub pick_state : Place → List ℕ → List ℕ → State
pick_state p a w = cond (eqb (pick_verdict p a w) 0) (stepped (kit_of p.settings) w (state p a)) (state p a)

abbrev pub pick_says : Place → List ℕ → List ℕ → Handed
pick_says p a w = handed (pick_verdict p a w) (pick_state p a w).place

abbrev pub pick_leaves : Place → List ℕ → List ℕ → List ℕ
pick_leaves p a w = (pick_state p a w).area

-- ---- length: 16, 8, 9

-- a length with its counts, or 9 with its counts
abbrev pub report_says : Option ℕ → Place → Outcome
report_says none p = outcome 9 0 p.counts.compositions.0 p.counts.tests.0
report_says (some k) p = outcome 0 k p.counts.compositions.0 p.counts.tests.0

abbrev pub length_causes : Place → Causes
length_causes p = (not (sound_place p), 16) ∷ (eqb p.window.taken.0 0, 8) ∷ []

unfoldable pub length_says : Place → Outcome
length_says p = answer_by (first_of (length_causes p)) (report_says (reported p) p)

-- ---- whole run: the causes of its verdict, then 9; m = length w / n picks are lent

-- the union of the first k picks: pick 1, and a union with each of the k - 1 picks after it
unfoldable pub unions : ℕ → List ℕ → ℕ → List ℕ
unions n w zero = zeros n
unions n w (suc zero) = lent_pick n w 0
unions n w (suc (suc k)) = union n (unions n w (suc k)) (lent_pick n w (suc k))

-- before pick 1 of m: under measure 2 the union of all picks is the footprint, at a cost of its m - 1 unions
unfoldable pub whole_start : ℕ → ℕ → ℕ → List ℕ → List ℕ → State
whole_start n measure m w a = state (charged (fresh measure n m) (cond (eqb measure 2) (m - 1) 0)) (opened_area n measure m (unions n w m) a)

-- one step for each of the first k picks, from st on
unfoldable pub steps_of : Kit → ℕ → List ℕ → ℕ → State → State
steps_of K n w zero st = st
steps_of K n w (suc k) st = stepped K (lent_pick n w k) (steps_of K n w k st)

-- the same by the steps of `Bare`, which write only what a later one reads
unfoldable pub bare_steps : Kit → ℕ → List ℕ → ℕ → State → State
bare_steps K n w zero st = st
bare_steps K n w (suc k) st = bare_step K (lent_pick n w k) (bare_steps K n w k st)

-- after the first k picks
unfoldable pub whole_after : ℕ → ℕ → ℕ → List ℕ → List ℕ → ℕ → State
whole_after n measure m w a k = steps_of (kit measure n) n w k (whole_start n measure m w a)

-- what is answered where no cause refuses
unfoldable pub whole_report : ℕ → ℕ → ℕ → List ℕ → List ℕ → Outcome
whole_report n measure m w a = report_says (reported (whole_after n measure m w a m).place) (whole_after n measure m w a m).place

unfoldable pub whole_says : ℕ → ℕ → List ℕ → List ℕ → Outcome
whole_says n measure w a = answer_by (whole_verdict n measure w a) (whole_report n measure (length w / n) w a)

-- the needed words end zero
unfoldable pub whole_leaves : ℕ → ℕ → List ℕ → List ℕ → List ℕ
whole_leaves n measure w a = cond (eqb (whole_verdict n measure w a) 0) (zeroed (needed measure n (length w / n)) a) a
