-- THE WORK AREA of document 01: which words are written and read, and what each part holds.
use Rattle.std.specs.Prelude.{◌≡◌, ◌&&◌, cond, List, [], ◌∷◌, ◌++◌, ℕ, ◌+◌, ◌*◌, ◌/◌, ◌≤◌, eqb, length, take}
use Rattle.lists.specs.Tab.{zeros}
use Rattle.area.specs.Parts.{width_of, part}
use Rattle.place.specs.declared.Place.{Place}
use Rattle.verdicts.specs.Verdicts.{needed, open_verdict, pick_verdict, whole_verdict}
use Rattle.calls.specs.Calls.{open_says, open_leaves, pick_says, pick_leaves, whole_says, whole_leaves}
use Rattle.recording.specs.Answers.{read_says, read_leaves}
use Rattle.law.specs.Claim2.{open_state, after_picks, EachTaken}
use Rattle.numbers.specs.Checks.{MayOpen}
use Rattle.numbers.specs.Lent.{needed_by, Beyond, SameWalk}
use Rattle.law.specs.Ladders.{last_entered}
use Rattle.numbers.specs.Parts.{PartsTell, AsBefore, LeftLadder}

-- ---- "Words beyond are untouched": for every place, area and words, altered ones included, taken or refused

-- Opening leaves the area as long as it was, and beyond the needed words as it was.
abbrev pub BeyondOpening : Type 0
BeyondOpening = (n measure limit : ℕ) (footprint a : List ℕ) → Beyond (needed measure n limit) a (open_leaves n measure limit footprint a)

-- So does the call for a pick.
abbrev pub BeyondPick : Type 0
BeyondPick = (p : Place) (a w : List ℕ) → Beyond (needed_by p) a (pick_leaves p a w)

-- And a whole run.
abbrev pub BeyondWhole : Type 0
BeyondWhole = (n measure : ℕ) (w a : List ℕ) → Beyond (needed measure n (length w / n)) a (whole_leaves n measure w a)

-- And reading: "pick p's words go from output word (p - 1) × n on, other words stay"; of a refused file picks and n are 0, so all words stay
abbrev pub BeyondReading : Type 0
BeyondReading = (limit : ℕ) (bytes out : List ℕ)
    → Beyond ((read_says limit bytes out).picks * (read_says limit bytes out).boards) out (read_leaves limit bytes out)

-- ---- nor are they read: two areas with the same needed words are answered alike, and their needed words are left alike

-- Opening reads no word beyond the needed ones.
abbrev pub NeededAloneOpening : Type 0
NeededAloneOpening = (n measure limit : ℕ) (footprint a b : List ℕ) → take (needed measure n limit) a ≡ take (needed measure n limit) b
    → (open_says n measure limit footprint a ≡ open_says n measure limit footprint b)
    × (take (needed measure n limit) (open_leaves n measure limit footprint a) ≡ take (needed measure n limit) (open_leaves n measure limit footprint b))

-- Nor does the call for a pick.
abbrev pub NeededAlonePick : Type 0
NeededAlonePick = (p : Place) (a b w : List ℕ) → take (needed_by p) a ≡ take (needed_by p) b
    → (pick_says p a w ≡ pick_says p b w)
    × (take (needed_by p) (pick_leaves p a w) ≡ take (needed_by p) (pick_leaves p b w))

-- Nor a whole run.
abbrev pub NeededAloneWhole : Type 0
NeededAloneWhole = (n measure : ℕ) (w a b : List ℕ) → take (needed measure n (length w / n)) a ≡ take (needed measure n (length w / n)) b
    → (whole_says n measure w a ≡ whole_says n measure w b)
    × (take (needed measure n (length w / n)) (whole_leaves n measure w a) ≡ take (needed measure n (length w / n)) (whole_leaves n measure w b))

-- ---- whatever the area held

-- A whole run's answer, counts included, is the same in any two areas that are long enough.
abbrev pub AnyArea : Type 0
AnyArea = (n measure : ℕ) (w a b : List ℕ) → needed measure n (length w / n) ≤ length a → needed measure n (length w / n) ≤ length b
    → whole_says n measure w a ≡ whole_says n measure w b

-- And so is a walk pick by pick: place, counts included, and needed words.
abbrev pub WalkInAnyArea : Type 0
WalkInAnyArea = (n measure limit : ℕ) (footprint a b : List ℕ) → MayOpen n measure limit footprint a → MayOpen n measure limit footprint b
    → (ws : List (List ℕ)) → EachTaken (open_state n measure limit footprint a) ws → SameWalk n measure limit footprint a b ws

-- "A whole-recording run ends with the needed words zero, refusal 9 included": wherever no cause before 9 refuses it.
abbrev pub WholeZero : Type 0
WholeZero = (n measure : ℕ) (w a : List ℕ) → whole_verdict n measure w a ≡ 0
    → take (needed measure n (length w / n)) (whole_leaves n measure w a) ≡ zeros (needed measure n (length w / n))

-- ---- "What a part (E words) then holds is defined part by part": in words of windows, links and journeys

-- "Opening sets the needed words to zero and writes the list of measure 2 to part limit + 3."
abbrev pub OpeningArea : Type 0
OpeningArea = (n measure limit : ℕ) (footprint a : List ℕ) → open_verdict n measure limit footprint a ≡ 0 → (i : ℕ) → 1 ≤ i → i ≤ limit + 4
    → part (width_of measure n) (open_leaves n measure limit footprint a) i
    ≡ cond (eqb measure 2 && eqb i (limit + 3)) footprint (zeros (width_of measure n))

-- Each part, for every opening that is answered by a place and all picks taken; after the end of measure 1 as the ending pick left it.
abbrev pub EachPart : Type 0
EachPart = (n measure limit : ℕ) (footprint a : List ℕ) → open_verdict n measure limit footprint a ≡ 0
    → (ws : List (List ℕ)) → EachTaken (open_state n measure limit footprint a) ws → 1 ≤ length ws
    → PartsTell measure n footprint ws (last_entered (after_picks (open_state n measure limit footprint a) ws).place)
    (after_picks (open_state n measure limit footprint a) ws).place (after_picks (open_state n measure limit footprint a) ws).area

-- "and otherwise what it held", from call to call: from any place and any words where a pick is taken.
abbrev pub OtherParts : Type 0
OtherParts = (p : Place) (a w : List ℕ) → pick_verdict p a w ≡ 0 → AsBefore p a w

-- Under measure 1 s can leave parts that the same call has written: what one pick makes of the left ladder, under every measure.
abbrev pub LeftLadders : Type 0
LeftLadders = (n measure limit : ℕ) (footprint a : List ℕ) → open_verdict n measure limit footprint a ≡ 0
    → (ws : List (List ℕ)) (w : List ℕ) → EachTaken (open_state n measure limit footprint a) (ws ++ (w ∷ []))
    → LeftLadder measure n (ws ++ (w ∷ [])) (after_picks (open_state n measure limit footprint a) ws).place
    (after_picks (open_state n measure limit footprint a) ws).area
    (after_picks (open_state n measure limit footprint a) (ws ++ (w ∷ []))).place (after_picks (open_state n measure limit footprint a) (ws ++ (w ∷ []))).area
