-- Request A1, proved. Assumes nothing.
use Rattle.law.proofs.Decisions.{decisions as right-decisions, agrees}
use Rattle.numbers.proofs.Held.{counts_held as held_counts, decision_anywhere}
use Rattle.numbers.proofs.Needed.{decision_zero as needed-zero, decision_beyond}
use Rattle.acceptance.specs.Decision.{Decisions, CountsHeld, DecisionsAndLengths, DecisionInAnyArea, DecisionZero, BeyondDecision}

pub decisions : Decisions
decisions = right-decisions

pub counts_held : CountsHeld
counts_held = held_counts

pub decisions_and_lengths : DecisionsAndLengths
decisions_and_lengths = agrees

-- ---- lent words

pub decision_in_any_area : DecisionInAnyArea
decision_in_any_area = decision_anywhere

pub decision_zero : DecisionZero
decision_zero = needed-zero

pub beyond_decision : BeyondDecision
beyond_decision = decision_beyond
