-- What each function of the C boundary answers and leaves, for every input. All is said by the definitions of the calls beneath; what the
-- boundary adds is the two flags of the place: one that is none is 16, with the place and the area as they were.
use Rattle.std.specs.Prelude.{List, cond, ℕ}
use Rattle.calls.specs.Answers.{Outcome, outcome}
use Rattle.calls.specs.Calls.{pick_says, pick_leaves, length_says}
use Rattle.crossing.specs.declared.PlaceWords.{PlaceWords}
use Rattle.crossing.specs.declared.HandedWords.{HandedWords}
use Rattle.crossing.specs.Words.{flags, place_of, handed_as, handed_words}

unfoldable pub pick_answers : PlaceWords → List ℕ → List ℕ → HandedWords
pick_answers p a w = cond (flags p) (handed_words (pick_says (place_of p) a w)) (handed_as 16 p)

unfoldable pub pick_keeps : PlaceWords → List ℕ → List ℕ → List ℕ
pick_keeps p a w = cond (flags p) (pick_leaves (place_of p) a w) a

unfoldable pub length_answers : PlaceWords → Outcome
length_answers p = cond (flags p) (length_says (place_of p)) (outcome 16 0 0 0)
