-- WHAT LENGTHS SAY OF MORE PICKS than were handed over: a design that is repeated, and going on past the limit. Under measures 2, 3 and 4 what is the
-- length of more picks; under measure 1 how many picks may be counted on.
use Rattle.std.specs.Prelude.{◌≡◌, List, [], ◌∷◌, ◌++◌, ℕ, zero, suc, max, ◌+◌, ◌≤◌, T, length, take}
use Rattle.model.specs.Length.{Every}
use Rattle.verdicts.specs.Verdicts.{open_verdict, whole_verdict}
use Rattle.calls.specs.Answers.{Outcome}
use Rattle.calls.specs.Calls.{length_says, whole_says}
use Rattle.decision.specs.Decisions.{decision_verdict, decide_says}
use Rattle.law.specs.Correct.{Passes, IsLength}
use Rattle.law.specs.Claim2.{open_state, after_picks, EachTaken, lent_recording}

-- the outcome is no refusal, and its length is k
abbrev pub SaysLength : Outcome → ℕ → Type 0
SaysLength o k = (o.refusal ≡ 0) × (o.length ≡ k)

-- ---- a design that is repeated

-- the design k times over
unfoldable pub rounds : ℕ → List (List ℕ) → List (List ℕ)
rounds zero design = []
rounds (suc k) design = design ++ rounds k design

-- the first m picks of its endless repetition: m rounds of a design with a pick have so many
unfoldable pub repetition : List (List ℕ) → ℕ → List (List ℕ)
repetition design m = take m (rounds m design)

-- A REPEATED DESIGN. With m picks handed over of a design of d picks, a length that is at most m - d + 1 is the length of every greater number of picks
-- of its repetition.
abbrev pub RepeatedDesign : Type 0
RepeatedDesign = (n measure : ℕ) (footprint : List ℕ) → 2 ≤ measure → (design : List (List ℕ)) → 1 ≤ length design
    → (m more k : ℕ) → m ≤ more → IsLength measure (Passes measure n footprint (repetition design m)) m k → k + length design ≤ m + 1
    → IsLength measure (Passes measure n footprint (repetition design more)) more k

-- So it is with whole runs, whose footprint is the union of their own picks: the run over more picks of the repetition answers the same length.
abbrev pub RepeatedRuns : Type 0
RepeatedRuns = (n measure : ℕ) → 2 ≤ measure → (design : List (List ℕ)) → 1 ≤ length design → (m more k : ℕ) → m ≤ more
    → (w a : List ℕ) → whole_verdict n measure w a ≡ 0 → lent_recording n w ≡ repetition design m
    → SaysLength (whole_says n measure w a) k → k + length design ≤ m + 1
    → (x b : List ℕ) → whole_verdict n measure x b ≡ 0 → lent_recording n x ≡ repetition design more
    → SaysLength (whole_says n measure x b) k

-- And with decisions, under every measure: a yes for windows of at most m - d + 1 picks is a yes for every greater number of picks of the repetition.
abbrev pub RepeatedDecisions : Type 0
RepeatedDecisions = (n measure : ℕ) (design : List (List ℕ)) → 1 ≤ length design → (m more k : ℕ) → m ≤ more
    → (w a : List ℕ) → decision_verdict n measure w k a ≡ 0 → lent_recording n w ≡ repetition design m
    → T (decide_says n measure w k a).yes → length design + k ≤ m + 1
    → (x b : List ℕ) → decision_verdict n measure x k b ≡ 0 → lent_recording n x ≡ repetition design more
    → T (decide_says n measure x k b).yes

-- Under measure 1 every window passes, in every greater number of picks, of as many picks as are at most the length of the m and at most m - d + 1.
abbrev pub RepeatedCommon : Type 0
RepeatedCommon = (n : ℕ) (footprint : List ℕ) (design : List (List ℕ)) → 1 ≤ length design → (m more k l : ℕ) → m ≤ more
    → IsLength 1 (Passes 1 n footprint (repetition design m)) m k → 1 ≤ l → l ≤ k → l + length design ≤ m + 1
    → Every (Passes 1 n footprint (repetition design more)) more l

-- ---- going on past the limit

-- a walk is opened and takes the picks ws, and the length call then answers k
pub record WalkAnswers (n measure limit : ℕ) (footprint a : List ℕ) (ws : List (List ℕ)) (k : ℕ) : Type 0 where
  pub opened : open_verdict n measure limit footprint a ≡ 0
  pub taken : EachTaken (open_state n measure limit footprint a) ws
  pub says : SaysLength (length_says (after_picks (open_state n measure limit footprint a) ws).place) k

-- Walk after walk: each has a limit and an area of its own, and is first handed the last `overlap` picks of all till then. ws are all picks together, ks
-- the lengths that the walks answered, the latest first.
pub data GoneOn (n measure : ℕ) (footprint : List ℕ) (overlap : ℕ) : List (List ℕ) → List ℕ → Type 0 where
  one-walk : {limit k : ℕ} {a : List ℕ} {ws : List (List ℕ)} → WalkAnswers n measure limit footprint a ws k → GoneOn n measure footprint overlap ws (k ∷ [])
  next-walk : {limit k : ℕ} {a : List ℕ} {ks : List ℕ} (before last after : List (List ℕ)) → GoneOn n measure footprint overlap (before ++ last) ks
      → length last ≡ overlap → WalkAnswers n measure limit footprint a (last ++ after) k
      → GoneOn n measure footprint overlap (before ++ (last ++ after)) (k ∷ ks)

-- the greatest of some lengths
abbrev pub greatest : List ℕ → ℕ
greatest [] = 0
greatest (k ∷ ks) = max k (greatest ks)

-- l is at most each of them
abbrev pub AtMostEach : ℕ → List ℕ → Type 0
AtMostEach l [] = Unit {0}
AtMostEach l (k ∷ ks) = (l ≤ k) × AtMostEach l ks

-- GOING ON. The greatest of the lengths is the length of all picks together, where it is at most one more than the picks that are handed over again.
abbrev pub GoingOn : Type 0
GoingOn = (n measure : ℕ) (footprint : List ℕ) → 2 ≤ measure → (overlap : ℕ) (ws : List (List ℕ)) (ks : List ℕ) → GoneOn n measure footprint overlap ws ks
    → greatest ks ≤ overlap + 1 → IsLength measure (Passes measure n footprint ws) (length ws) (greatest ks)

-- Under measure 1 every window of all picks together passes, of as many picks as are at most each of the lengths and at most one more than are handed
-- over again.
abbrev pub GoingOnCommon : Type 0
GoingOnCommon = (n : ℕ) (footprint : List ℕ) (overlap : ℕ) (ws : List (List ℕ)) (ks : List ℕ) → GoneOn n 1 footprint overlap ws ks
    → (l : ℕ) → 1 ≤ l → AtMostEach l ks → l ≤ overlap + 1 → Every (Passes 1 n footprint ws) (length ws) l
