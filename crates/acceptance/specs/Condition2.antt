-- CONDITION 2 of the tender, over the definitions that the calls' promises cite.
use Rattle.std.specs.Prelude.{◌≡◌, ◌≢◌, ◌↔◌, List, [], ◌∷◌, ◌++◌, ℕ, ◌+◌, ◌-◌, ◌*◌, ◌/◌, ◌≤◌, Bool, T, length, take}
use Rattle.model.specs.Recording.{link}
use Rattle.model.specs.Journey.{unlimited, Journey}
use Rattle.place.specs.declared.Place.{Place}
use Rattle.calls.specs.Answers.{Outcome}
use Rattle.verdicts.specs.Verdicts.{open_verdict, whole_verdict}
use Rattle.steps.specs.Walk.{State}
use Rattle.calls.specs.Calls.{length_says, unions, whole_says}
use Rattle.reach.specs.Tables.{table_verdict, table_leaves}
use Rattle.law.specs.Claim2.{open_state, after_picks, EachTaken, Walked, lent_recording, Ran}
use Rattle.numbers.specs.Moved.{Tells, Moved, RunMoved, TestsDecided}
use Rattle.numbers.specs.Events.{Event, asked, after_events, event_answers, InOrder, Resumed}
use Rattle.numbers.specs.Lent.{TableWords}

-- PICK BY PICK. For every opening that is answered by a place and every sequence of picks that are taken, record and area coming back as the last
-- call left them: the length call answers the length over all windows of the picks so far (`Walked.right`), 9 only where none exists, with the
-- walk's counts within the bounds (`.counted`).
abbrev pub PickByPick : Type 0
PickByPick = (n measure limit : ℕ) (footprint a : List ℕ) → open_verdict n measure limit footprint a ≡ 0
    → (ws : List (List ℕ)) → EachTaken (open_state n measure limit footprint a) ws → 1 ≤ length ws
    → Walked n measure limit footprint ws (after_picks (open_state n measure limit footprint a) ws).place

-- WHOLE RUNS. For every recording lent as words and every area that no cause refuses, whatever the area held.
abbrev pub WholeRuns : Type 0
WholeRuns = (n measure : ℕ) (w a : List ℕ) → whole_verdict n measure w a ≡ 0 → Ran n measure w (whole_says n measure w a)

-- THE TABLE. For all u and v: bit v of word u of the n words written is set exactly when u is not v and a journey leads from u to v in the whole
-- recording.
abbrev pub TableMarks : Type 0
TableMarks = (n : ℕ) (w out : List ℕ) → table_verdict n w out ≡ 0 → (u v : ℕ)
    → T (link (take n (table_leaves n w out)) u v) ↔ ((u ≢ v) × Journey (lent_recording n w) unlimited 1 (length w / n) u v)

-- So bits n and above and own bits are clear; and the words beyond are what was there.
abbrev pub TableRest : Type 0
TableRest = (n : ℕ) (w out : List ℕ) → table_verdict n w out ≡ 0 → TableWords n w out

-- THE COUNTS ARE THOSE OF THE WALK. After any picks taken, every number and mark of the place, and the answer of the length call, is that of the walk on
-- numbers (`numbers/specs/Walk`: 01's section "The walk", sentence by sentence), its tests being answered as the meaning does, by whatever does so.
abbrev pub CountsPickByPick : Type 0
CountsPickByPick = (n measure limit : ℕ) (footprint a : List ℕ) → open_verdict n measure limit footprint a ≡ 0
    → (ws : List (List ℕ)) → EachTaken (open_state n measure limit footprint a) ws → (pass : ℕ → ℕ → Bool) → Tells pass measure n footprint ws
    → Moved n measure limit (length ws) pass (after_picks (open_state n measure limit footprint a) ws).place

-- The same of whole runs, after each pick and at the end; under measure 2 m - 1 compositions are spent before pick 1.
abbrev pub CountsWhole : Type 0
CountsWhole = (n measure : ℕ) (w a : List ℕ) → whole_verdict n measure w a ≡ 0
    → (pass : ℕ → ℕ → Bool) → Tells pass measure n (unions n w (length w / n)) (lent_recording n w) → RunMoved n measure (length w / n) w a pass

-- And something answers the tests so, pick by pick.
abbrev pub TestsDecidedPickByPick : Type 0
TestsDecidedPickByPick = (n measure limit : ℕ) (footprint a : List ℕ) → open_verdict n measure limit footprint a ≡ 0
    → (ws : List (List ℕ)) → EachTaken (open_state n measure limit footprint a) ws → TestsDecided measure n footprint ws

-- And in whole runs.
abbrev pub TestsDecidedWhole : Type 0
TestsDecidedWhole = (n measure : ℕ) (w a : List ℕ) → whole_verdict n measure w a ≡ 0
    → TestsDecided measure n (unions n w (length w / n)) (lent_recording n w)

-- THE BOUNDS. For m picks at most 4(m - 1) compositions and 2m tests.
abbrev pub Bounded : ℕ → Outcome → Type 0
Bounded m o = (o.compositions ≤ 4 * (m - 1)) × (o.tests ≤ 2 * m)

-- Pick by pick the counts are within the bounds, under every measure.
abbrev pub PickByPickBounded : Type 0
PickByPickBounded = (n measure limit : ℕ) (footprint a : List ℕ) → open_verdict n measure limit footprint a ≡ 0
    → (ws : List (List ℕ)) → EachTaken (open_state n measure limit footprint a) ws → 1 ≤ length ws
    → Bounded (length ws) (length_says (after_picks (open_state n measure limit footprint a) ws).place)

-- So are those of whole runs.
abbrev pub WholeRunsBounded : Type 0
WholeRunsBounded = (n measure : ℕ) (w a : List ℕ) → whole_verdict n measure w a ≡ 0 → Bounded (length w / n) (whole_says n measure w a)

-- What a pick charges, the m-th taken, from the place p that it is handed to the place q that it leaves.
pub record Spent (measure m : ℕ) (p q : Place) : Type 0 where
  pub compositions : q.counts.compositions.0 ≤ p.counts.compositions.0 + (m - 1)
  pub tests : q.counts.tests.0 ≤ p.counts.tests.0 + m
  pub one-test : measure ≢ 1 → q.counts.tests.0 ≡ p.counts.tests.0 + 1

-- ONE PICK. The m-th pick taken makes at most m - 1 compositions and at most m tests; under measures 2 to 4 exactly one test.
abbrev pub OnePickBounded : Type 0
OnePickBounded = (n measure limit : ℕ) (footprint a : List ℕ) → open_verdict n measure limit footprint a ≡ 0
    → (ws : List (List ℕ)) (w : List ℕ) → EachTaken (open_state n measure limit footprint a) (ws ++ (w ∷ []))
    → Spent measure (length ws + 1) (after_picks (open_state n measure limit footprint a) ws).place
    (after_picks (open_state n measure limit footprint a) (ws ++ (w ∷ []))).place

-- ANY ORDER OF CALLS. After every list of picks, taken or refused, and length calls, place and area are those of the picks taken so far, and a length call
-- answers for these.
abbrev pub InAnyOrder : Type 0
InAnyOrder = (n measure limit : ℕ) (footprint a : List ℕ) → open_verdict n measure limit footprint a ≡ 0
    → (xs : List Event) → InOrder n measure limit footprint (open_state n measure limit footprint a) xs

-- Each length call of a list of calls is such a one: it is answered of the state after the calls before it.
abbrev pub EachAnswer : Type 0
EachAnswer = (st : State) (xs ys : List Event)
    → event_answers st (xs ++ (asked ∷ ys)) ≡ event_answers st xs ++ (length_says (after_events st xs).place ∷ event_answers (after_events st xs) ys)

-- STOP AND START, at any pick: what was taken before the stop and after it is one recording, and the lengths answered are those of this recording.
abbrev pub StopAndStart : Type 0
StopAndStart = (n measure limit : ℕ) (footprint a : List ℕ) → open_verdict n measure limit footprint a ≡ 0
    → (xs ys : List Event) → Resumed n measure limit footprint (open_state n measure limit footprint a) xs ys
