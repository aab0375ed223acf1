-- REQUEST A1 of document 02, "Will this length do?": the decision problem of source document 002 (its definition 3), over the definitions that the call's
-- promise cites. Which numbers the call gives, when, and that a refused call changes nothing: Condition1.
use Rattle.std.specs.Prelude.{◌≡◌, Bool, List, ℕ, ◌/◌, ◌≤◌, length, take}
use Rattle.lists.specs.Tab.{zeros}
use Rattle.verdicts.specs.Verdicts.{needed, whole_verdict}
use Rattle.calls.specs.Calls.{unions, whole_says}
use Rattle.decision.specs.Decisions.{decision_verdict, decide_says, decide_leaves}
use Rattle.law.specs.Correct.{Passes}
use Rattle.law.specs.Claim2.{lent_recording, list_cost}
use Rattle.law.specs.Decisions.{RightDecision, AgreesWithLength}
use Rattle.numbers.specs.Held.{hold, held_answer}
use Rattle.numbers.specs.Moved.{Tells}
use Rattle.numbers.specs.Lent.{Beyond}

-- YES AND NO. "Yes is given when all pass, else no, with both counts": for every recording and every area that no cause refuses, under all four measures;
-- "within 3(m - 1) compositions and m tests, plus the m - 1 of the list under measure 2" (`RightDecision`). The list is the union of all picks.
abbrev pub Decisions : Type 0
Decisions = (n measure : ℕ) (w : List ℕ) (k : ℕ) (a : List ℕ) → decision_verdict n measure w k a ≡ 0
    → RightDecision (Passes measure n (unions n w (length w / n)) (lent_recording n w)) (list_cost measure (length w / n)) (length w / n) k
    (decide_says n measure w k a)

-- THE COUNTS ARE THOSE OF THE WALK held at k (`numbers/specs/Held`: the request, sentence by sentence), its tests being answered as the meaning does, by
-- whatever does so; something does: Condition2.TestsDecidedWhole.
abbrev pub CountsHeld : Type 0
CountsHeld = (n measure : ℕ) (w : List ℕ) (k : ℕ) (a : List ℕ) → decision_verdict n measure w k a ≡ 0
    → (pass : ℕ → ℕ → Bool) → Tells pass measure n (unions n w (length w / n)) (lent_recording n w)
    → decide_says n measure w k a ≡ held_answer (hold pass k (list_cost measure (length w / n)) (length w / n))

-- AGAINST THE LENGTHS. Under measures 2 to 4, where the whole run answers a length, yes exactly when it is at most k; under measure 1 exactly when k is at
-- most the length; and where it is refused by 9, no for every k. In whatever two areas.
abbrev pub DecisionsAndLengths : Type 0
DecisionsAndLengths = (n measure : ℕ) (w : List ℕ) (k : ℕ) (a b : List ℕ) → decision_verdict n measure w k a ≡ 0 → whole_verdict n measure w b ≡ 0
    → AgreesWithLength measure k (decide_says n measure w k a) (whole_says n measure w b)

-- ---- lent words: "the area ends as after a length"

-- The answer, counts included, is the same in any two areas that are long enough.
abbrev pub DecisionInAnyArea : Type 0
DecisionInAnyArea = (n measure : ℕ) (w : List ℕ) (k : ℕ) (a b : List ℕ) → needed measure n (length w / n) ≤ length a
    → needed measure n (length w / n) ≤ length b → decide_says n measure w k a ≡ decide_says n measure w k b

-- After yes and after no the needed words are zero, whatever they held.
abbrev pub DecisionZero : Type 0
DecisionZero = (n measure : ℕ) (w : List ℕ) (k : ℕ) (a : List ℕ) → decision_verdict n measure w k a ≡ 0
    → take (needed measure n (length w / n)) (decide_leaves n measure w k a) ≡ zeros (needed measure n (length w / n))

-- Words beyond are untouched, answered or refused.
abbrev pub BeyondDecision : Type 0
BeyondDecision = (n measure : ℕ) (w : List ℕ) (k : ℕ) (a : List ℕ) → Beyond (needed measure n (length w / n)) a (decide_leaves n measure w k a)
