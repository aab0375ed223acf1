-- What the decision answers and leaves, for every input. A cause is its number, 0 where there is none.
use Rattle.std.specs.Prelude.{ℕ, ◌/◌, Bool, false, not, cond, List, ◌++◌, eqb, length, Result, Ok, Err}
use Rattle.model.specs.Causes.{Causes, first_of}
use Rattle.model.specs.declared.Refusal.{Refusal}
use Rattle.model.specs.Refusals.{number}
use Rattle.measures.specs.Kit.{kit}
use Rattle.area.specs.Parts.{zeroed}
use Rattle.place.specs.declared.Place.{Place}
use Rattle.verdicts.specs.Verdicts.{needed, whole_causes, window_causes}
use Rattle.steps.specs.Walk.{State, tried}
use Rattle.calls.specs.Calls.{whole_start}
use Rattle.decision.specs.declared.Decision.{Decision}
use Rattle.decision.specs.Held.{held_steps}

-- ---- the answer

-- the number of the refusal, 0 for none; whether every window passes, no where refused; the two counts
pub record Decided : Type 0 where
  pub refusal : ℕ
  pub yes : Bool
  pub compositions : ℕ
  pub tests : ℕ

abbrev pub decided : ℕ → Bool → ℕ → ℕ → Decided
decided c y x t = record { refusal = c; yes = y; compositions = x; tests = t }

-- refused by c, or answered by d where c is 0
abbrev pub decided_by : ℕ → Decided → Decided
decided_by c d = cond (eqb c 0) d (decided c false 0 0)

-- yes or no, with both counts
abbrev pub decided_as : Decision → Decided
decided_as d = decided 0 d.yes d.counts.compositions.0 d.counts.tests.0

-- or the number
abbrev pub decision_says : Result Decision Refusal → Decided
decision_says (Ok d) = decided_as d
decision_says (Err r) = decided (number r) false 0 0

-- ---- the causes: those of a whole run, 1, 2, 10, 8, 3, 4, 5, then 17; m = length w / n picks are lent

abbrev pub decision_causes : ℕ → ℕ → List ℕ → ℕ → List ℕ → Causes
decision_causes n measure w k a = whole_causes n measure w a ++ window_causes k (length w / n)

-- the first of them, 0 for none
unfoldable pub decision_verdict : ℕ → ℕ → List ℕ → ℕ → List ℕ → ℕ
decision_verdict n measure w k a = first_of (decision_causes n measure w k a)

-- ---- the decision

-- after the first j picks of m, from where a whole run starts: under measure 2 with the union of all picks, at its cost
unfoldable pub held_after : ℕ → ℕ → ℕ → List ℕ → ℕ → List ℕ → ℕ → State
held_after n measure m w k a j = held_steps (tried (kit measure n)) (kit measure n) k n w j (whole_start n measure m w a)

-- yes where no test has failed
abbrev pub decided_at : Place → Decided
decided_at p = decided 0 (not p.marks.failed) p.counts.compositions.0 p.counts.tests.0

-- what is answered where no cause refuses
unfoldable pub decision_report : ℕ → ℕ → ℕ → List ℕ → ℕ → List ℕ → Decided
decision_report n measure m w k a = decided_at (held_after n measure m w k a m).place

unfoldable pub decide_says : ℕ → ℕ → List ℕ → ℕ → List ℕ → Decided
decide_says n measure w k a = decided_by (decision_verdict n measure w k a) (decision_report n measure (length w / n) w k a)

-- the needed words end zero, after yes and after no; refused: the area as it was
unfoldable pub decide_leaves : ℕ → ℕ → List ℕ → ℕ → List ℕ → List ℕ
decide_leaves n measure w k a = cond (eqb (decision_verdict n measure w k a) 0) (zeroed (needed measure n (length w / n)) a) a
