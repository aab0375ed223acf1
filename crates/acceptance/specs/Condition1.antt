-- CONDITION 1 of the tender: for all input whatsoever each call answers by an answer of the listed kinds or by one of its numbered refusals; a
-- refused call changes nothing; and no call refuses what its clauses let through. That each call meets these definitions for every input, and always
-- returns, is its proved contract: none has a `requires`.
use Rattle.std.specs.Prelude.{◌≡◌, ◌↔◌, false, List, [], ◌∷◌, ℕ, ◌≤◌, ◌<◌, length}
use Rattle.model.specs.Causes.{Among}
use Rattle.model.specs.Recording.{Recording}
use Rattle.place.specs.declared.Place.{Place}
use Rattle.place.specs.Places.{nowhere, Sound}
use Rattle.verdicts.specs.Verdicts.{whole_verdict}
use Rattle.calls.specs.Calls.{open_says, open_leaves, pick_says, pick_leaves, length_says, whole_says, whole_leaves}
use Rattle.decision.specs.Decisions.{decided, decision_verdict, decide_says, decide_leaves}
use Rattle.reach.specs.Tables.{table_verdict, table_leaves}
use Rattle.recording.specs.Answers.{read_says, read_leaves}
use Rattle.recording.specs.Grammar.{Reads, AsWritten}
use Rattle.saving.specs.Answers.{saved, lent_file, save_says, save_leaves}
use Rattle.saving.specs.May.{LentSequence, MaySave}
use Rattle.law.specs.Claim2.{open_state, EachTaken, Fits}
use Rattle.numbers.specs.Checks.{MayOpen, MayTake, MayRun, MayDecide, MayTable}

-- ---- which numbers a call gives; 0 is none

-- Opening gives 1, 2, 3, 10, 5, 4 or none.
abbrev pub OpeningNumbers : Type 0
OpeningNumbers = (n measure limit : ℕ) (footprint a : List ℕ) → Among (open_says n measure limit footprint a).refusal
    (1 ∷ 2 ∷ 3 ∷ 10 ∷ 5 ∷ 4 ∷ 0 ∷ [])

-- "Under the other measures no list is read and opening does not give 10 or 5": any two lists are answered alike and leave the same words
abbrev pub ListUnread : Type 0
ListUnread = (n measure limit : ℕ) (x y a : List ℕ) → (measure ≡ 2 → ⊥)
    → (open_says n measure limit x a ≡ open_says n measure limit y a) × (open_leaves n measure limit x a ≡ open_leaves n measure limit y a)

-- So under these it gives 1, 2, 3, 4 or none.
abbrev pub OpeningNumbersNoList : Type 0
OpeningNumbersNoList = (n measure limit : ℕ) (footprint a : List ℕ) → (measure ≡ 2 → ⊥)
    → Among (open_says n measure limit footprint a).refusal (1 ∷ 2 ∷ 3 ∷ 4 ∷ 0 ∷ [])

-- The call for a pick gives 16, 7, 10, 5, 4, 6 or none.
abbrev pub PickNumbers : Type 0
PickNumbers = (p : Place) (a w : List ℕ) → Among (pick_says p a w).refusal (16 ∷ 7 ∷ 10 ∷ 5 ∷ 4 ∷ 6 ∷ 0 ∷ [])

-- The length call gives 16, 8, 9 or none.
abbrev pub LengthNumbers : Type 0
LengthNumbers = (p : Place) → Among (length_says p).refusal (16 ∷ 8 ∷ 9 ∷ 0 ∷ [])

-- A whole run gives 1, 2, 10, 8, 3, 4, 5, 9 or none.
abbrev pub WholeNumbers : Type 0
WholeNumbers = (n measure : ℕ) (w a : List ℕ) → Among (whole_says n measure w a).refusal (1 ∷ 2 ∷ 10 ∷ 8 ∷ 3 ∷ 4 ∷ 5 ∷ 9 ∷ 0 ∷ [])

-- The decision gives 1, 2, 10, 8, 3, 4, 5, 17 or none.
abbrev pub DecisionNumbers : Type 0
DecisionNumbers = (n measure : ℕ) (w : List ℕ) (k : ℕ) (a : List ℕ) → Among (decide_says n measure w k a).refusal
    (1 ∷ 2 ∷ 10 ∷ 8 ∷ 3 ∷ 4 ∷ 5 ∷ 17 ∷ 0 ∷ [])

-- The table of reach gives 1, 10, 8, 3, 4, 5 or none.
abbrev pub TableNumbers : Type 0
TableNumbers = (n : ℕ) (w out : List ℕ) → Among (table_verdict n w out) (1 ∷ 10 ∷ 8 ∷ 3 ∷ 4 ∷ 5 ∷ 0 ∷ [])

-- Reading gives 3, 11, 12, 1, 4, 13, 14, 7, 15 or none.
abbrev pub ReadingNumbers : Type 0
ReadingNumbers = (limit : ℕ) (bytes out : List ℕ) → Among (read_says limit bytes out).refusal
    (3 ∷ 11 ∷ 12 ∷ 1 ∷ 4 ∷ 13 ∷ 14 ∷ 7 ∷ 15 ∷ 0 ∷ [])

-- Saving gives 1, 10, 3, 5, 18 or none.
abbrev pub SavingNumbers : Type 0
SavingNumbers = (n : ℕ) (w out : List ℕ) → Among (save_says n w out).refusal (1 ∷ 10 ∷ 3 ∷ 5 ∷ 18 ∷ 0 ∷ [])

-- ---- a refused call leaves everything as it was

-- A refused opening hands back the place of zeros and noes, and leaves the area as it was.
abbrev pub OpeningRefused : Type 0
OpeningRefused = (n measure limit : ℕ) (footprint a : List ℕ) → ((open_says n measure limit footprint a).refusal ≡ 0 → ⊥)
    → ((open_says n measure limit footprint a).place ≡ nowhere) × (open_leaves n measure limit footprint a ≡ a)

-- A refused pick changes neither place nor area.
abbrev pub PickRefused : Type 0
PickRefused = (p : Place) (a w : List ℕ) → ((pick_says p a w).refusal ≡ 0 → ⊥) → ((pick_says p a w).place ≡ p) × (pick_leaves p a w ≡ a)

-- A whole run that is refused by a check leaves the area as it was; 9 is no such refusal: its words end zero as after an answer
abbrev pub WholeRefused : Type 0
WholeRefused = (n measure : ℕ) (w a : List ℕ) → (whole_verdict n measure w a ≡ 0 → ⊥) → whole_leaves n measure w a ≡ a

-- A refused decision leaves the area as it was, and answers the number alone: no, with counts 0.
abbrev pub DecisionRefused : Type 0
DecisionRefused = (n measure : ℕ) (w : List ℕ) (k : ℕ) (a : List ℕ) → (decision_verdict n measure w k a ≡ 0 → ⊥)
    → (decide_says n measure w k a ≡ decided (decision_verdict n measure w k a) false 0 0) × (decide_leaves n measure w k a ≡ a)

-- A refused table leaves the output as it was.
abbrev pub TableRefused : Type 0
TableRefused = (n : ℕ) (w out : List ℕ) → (table_verdict n w out ≡ 0 → ⊥) → table_leaves n w out ≡ out

-- So does a refused reading.
abbrev pub ReadingRefused : Type 0
ReadingRefused = (limit : ℕ) (bytes out : List ℕ) → ((read_says limit bytes out).refusal ≡ 0 → ⊥) → read_leaves limit bytes out ≡ out

-- A refused saving leaves every byte of the output as it was, and answers the number alone: length 0.
abbrev pub SavingRefused : Type 0
SavingRefused = (n : ℕ) (w out : List ℕ) → ((save_says n w out).refusal ≡ 0 → ⊥)
    → (save_says n w out ≡ saved (save_says n w out).refusal 0) × (save_leaves n w out ≡ out)

-- ---- the checks say exactly when: no cause refuses a call where its clauses hold, by the meaning, and only there

-- Opening is answered by a place exactly where `MayOpen` holds.
abbrev pub OpeningExactly : Type 0
OpeningExactly = (n measure limit : ℕ) (footprint a : List ℕ)
    → ((open_says n measure limit footprint a).refusal ≡ 0) ↔ MayOpen n measure limit footprint a

-- A pick is taken, from any place, also one that was altered, exactly where `MayTake` holds.
abbrev pub PickExactly : Type 0
PickExactly = (p : Place) (a w : List ℕ) → ((pick_says p a w).refusal ≡ 0) ↔ MayTake p a w

-- The length call gives 16 exactly where the place is not sound; otherwise, but for 8, it answers: a length or 9.
abbrev pub LengthSixteen : Type 0
LengthSixteen = (p : Place) → ((length_says p).refusal ≡ 16 → ⊥) ↔ Sound p

-- It gives 8 exactly where the place is sound and has no pick.
abbrev pub LengthEight : Type 0
LengthEight = (p : Place) → ((length_says p).refusal ≡ 8) ↔ (Sound p × (p.window.taken.0 ≡ 0))

-- A whole run runs exactly where `MayRun` holds; 9 is no cause: it comes after a run.
abbrev pub WholeExactly : Type 0
WholeExactly = (n measure : ℕ) (w a : List ℕ) → (whole_verdict n measure w a ≡ 0) ↔ MayRun n measure w a

-- A decision is answered by yes or no exactly where `MayDecide` holds.
abbrev pub DecisionExactly : Type 0
DecisionExactly = (n measure : ℕ) (w : List ℕ) (k : ℕ) (a : List ℕ) → ((decide_says n measure w k a).refusal ≡ 0) ↔ MayDecide n measure w k a

-- The table of reach is written exactly where `MayTable` holds.
abbrev pub TableExactly : Type 0
TableExactly = (n : ℕ) (w out : List ℕ) → (table_verdict n w out ≡ 0) ↔ MayTable n w out

-- A file is read exactly where it is of the grammar (`recording/specs/Grammar`).
abbrev pub ReadingExactly : Type 0
ReadingExactly = (limit : ℕ) (bytes out : List ℕ) → ((read_says limit bytes out).refusal ≡ 0) ↔ Reads limit (length out) bytes

-- What is read is what the grammar says: n, as many picks as there are 50s, and at each just the links that are open then
abbrev pub ReadingAsWritten : Type 0
ReadingAsWritten = (limit : ℕ) (bytes out : List ℕ) (r : Reads limit (length out) bytes) → AsWritten limit bytes out r.n r.acts

-- A sequence is saved exactly where `MaySave` holds.
abbrev pub SavingExactly : Type 0
SavingExactly = (n : ℕ) (w out : List ℕ) → ((save_says n w out).refusal ≡ 0) ↔ MaySave n w out

-- 18 comes exactly where the output is shorter than the file, and nothing else is wrong.
abbrev pub SavingEighteen : Type 0
SavingEighteen = (n : ℕ) (w out : List ℕ) → ((save_says n w out).refusal ≡ 18) ↔ (LentSequence n w × (length out < length (lent_file n w)))

-- WHAT FITS IS TAKEN. From every opening that its clauses let through, every recording over n boards within the limit, and under measure 2 within the
-- footprint, is taken pick after pick. So the theorems of condition 2 are about something.
abbrev pub WhatFitsIsTaken : Type 0
WhatFitsIsTaken = (n measure limit : ℕ) (footprint a : List ℕ) → MayOpen n measure limit footprint a
    → (r : List (List ℕ)) → Recording n r → length r ≤ limit → Fits measure footprint r n → EachTaken (open_state n measure limit footprint a) r
