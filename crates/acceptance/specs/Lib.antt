-- The tender, stated once, to be read: each sentence of its conditions, and of 01's "Conditions for taking delivery", with the statement that says it.
-- Each statement is a type; `proofs/` has, in the module of the same name, the proof of each.
--
-- CONDITION 1
--   "Every answer is .. or one of the numbered refusals of document 01, for all input whatsoever": the contracts of the calls, none with a `requires`,
--       are equations with definitions that are total. Which numbers a call gives: Condition1.OpeningNumbers, PickNumbers, LengthNumbers, WholeNumbers,
--       DecisionNumbers, TableNumbers, ReadingNumbers, SavingNumbers. Exactly when none of them comes: Condition1.OpeningExactly, PickExactly, WholeExactly,
--       DecisionExactly, TableExactly, ReadingExactly, SavingExactly; of the length call LengthSixteen, LengthEight; of 18 SavingEighteen. Which cause has
--       which number, and which of several is named, is read off the definitions, in 01's order: `verdicts/specs/Verdicts`, `calls/specs/Calls.length_says`,
--       `decision/specs/Decisions`, `reach/specs/Tables`, `commands/specs`, `saving/specs/Answers`
--   "and it always comes": every function is proved to end
--   "A refused pick changes neither the place record nor the work area": Condition1.PickRefused; the other calls: OpeningRefused, WholeRefused,
--       DecisionRefused, TableRefused, ReadingRefused, SavingRefused
-- CONDITION 2
--   "After each pick taken .. each length equals the definition .. over all windows of the picks so far, .. and refusal 9 comes only when no such length
--       exists": Condition2.PickByPick; that there are such picks: Condition1.WhatFitsIsTaken; picks, refused picks and length calls in any order:
--       Condition2.InAnyOrder
--   "a length being from 1 to their number and document 01's link list serving as the footprint": `model/specs/Length` (low, high), `law/specs/Correct.Passes`
--       over the list that was handed over or, in a whole run, over the union of all picks (`law/specs/Claim2.Ran.footprint`)
--   "and at the end of each whole-recording run": Condition2.WholeRuns; in whatever area: Area.AnyArea
--   "the table of reach marks exactly the pairs joined by a journey": Condition2.TableMarks, TableRest
--   "provided, pick by pick, that record and area come back as the last call left them": `after_picks` of `law/specs/Claim2`, and the events of
--       `numbers/specs/Events`, hand each call what the last one left; stopped and started at any pick: Condition2.StopAndStart
--   "Compositions and tests are those of the walk in document 01": Condition2.CountsPickByPick, CountsWhole
--   "at most 4(m - 1) and 2m for m picks": Condition2.PickByPickBounded, WholeRunsBounded
--   "the controller budgets its turn by them", so what one pick costs: Condition2.OnePickBounded
-- CONDITION 3
--   Condition3.Condition3, both ways
--
-- 01, CONDITIONS FOR TAKING DELIVERY
--   1, a promise for each input on result, place and each lent word: the contracts, equations with `calls/specs/Calls`, `decision/specs/Decisions`,
--       `reach/specs/Tables`, `recording/specs/Answers` and `saving/specs/Answers`, of which everything here speaks; what each part of the area holds, and
--       which words are written and read at all: Area; what is read of a file: Condition1.ReadingAsWritten
--   2, versions that must be rejected: "right in its first window": Condition2.PickByPick, for every pick; "invented counts": Condition2.CountsPickByPick,
--       CountsWhole; "9 before a pick is looked at": Condition2.InAnyOrder (8 while none is taken) and WholeRuns; "one fixed length or one fixed
--       table": Condition2.PickByPick, WholeRuns, TableMarks; "leaves its area idle": Area.EachPart; "number 4 for everyone": Condition1.OpeningExactly and
--       the other five. docs/CLAIMS.md names the edit of each
--   3, the ten cases: Cases.CasesAnswered, CasesAnywhere, CasesRight
--   4, facts shared by the measures with the composition as a parameter: `law/specs/Faithful`, `Ladders`, `Invariants`, over any kit
--   5, condition 3 is there: Condition3.Condition3
--
-- MORE PICKS THAN WERE HANDED OVER
--   a design that is repeated, of which enough picks were handed over: Longer.RepeatedDesign; in whole runs: RepeatedRuns; in
--       decisions: RepeatedDecisions; under measure 1: RepeatedCommon
--   going on past the limit, by opening anew, walk after walk, and handing over the last picks again: Longer.GoingOn; under measure 1: GoingOnCommon
--
-- 02, THE REQUESTS
--   A1, "Will this length do?": "does every window of k picks pass, for any of the four measures. Yes is given when all pass, else no", "within 3(m - 1)
--       compositions and m tests, plus the m - 1 of the list under measure 2": Decision.Decisions; "with both counts": CountsHeld; "the area ends as after a
--       length": DecisionZero, BeyondDecision; in whatever area: DecisionInAnyArea; beside the lengths: DecisionsAndLengths; 17, and "condition 1 of the
--       mission takes in the answers that requests add": Condition1.DecisionNumbers, DecisionRefused, DecisionExactly
--   A2, "Saving a recording": "A lent sequence becomes a recording file": Saving.SavedIsTheFile; "With limit and output enough, the reader returns the same
--       n and words from it": SavedReadsBack; every file that is saved is one that the reader takes, to its last byte: SavedIsTaken; read, saved and read
--       again: ReadAndSaved; the order of its commands: SavedInOrder; "its length answered and later bytes left as they were": SavedBeyond; recording A:
--       SavesA; "A sequence without picks is written too": SavesNone; bytes that are always enough: BytesEnough; 18, and nothing written:
--       Condition1.SavingNumbers, SavingRefused, SavingExactly, SavingEighteen
pub mod Condition1
pub mod Condition2
pub mod Condition3
pub mod Cases
pub mod Area
pub mod Longer
pub mod Decision
pub mod Saving
