-- What CONDITION 2 of the mission says, over the definitions that the calls promise: of picks taken one after the other, and of whole runs.
use Rattle.std.specs.Prelude.{◌≡◌, ◌↔◌, List, [], ◌∷◌, cond, ℕ, ◌-◌, ◌/◌, ◌≤◌, T, eqb, length}
use Rattle.model.specs.Recording.{link, Clean, Recording}
use Rattle.model.specs.Measures.{SomeLink, Listed}
use Rattle.checks.specs.Lent.{lent_picks}
use Rattle.place.specs.declared.Place.{Place}
use Rattle.place.specs.Places.{Sound}
use Rattle.steps.specs.Walk.{State, state, kit_of, stepped}
use Rattle.calls.specs.Answers.{Outcome}
use Rattle.verdicts.specs.Verdicts.{pick_verdict, whole_verdict, open_verdict}
use Rattle.calls.specs.Calls.{open_says, open_leaves, pick_state, length_says, unions, whole_says, whole_leaves}
use Rattle.law.specs.Correct.{Passes, Right, Counted}

-- ---- pick by pick

-- the state that an opening hands over
abbrev pub open_state : ℕ → ℕ → ℕ → List ℕ → List ℕ → State
open_state n measure limit footprint a = state (open_says n measure limit footprint a).place (open_leaves n measure limit footprint a)

-- the state that the call for a pick leaves
abbrev pub picked : State → List ℕ → State
picked st w = pick_state st.place st.area w

-- the state after picks ws
unfoldable pub after_picks : State → List (List ℕ) → State
after_picks st [] = st
after_picks st (w ∷ ws) = after_picks (picked st w) ws

-- each of them is taken
abbrev pub EachTaken : State → List (List ℕ) → Type 0
EachTaken st [] = Unit {0}
EachTaken st (w ∷ ws) = (pick_verdict st.place st.area w ≡ 0) × EachTaken (picked st w) ws

-- under measure 2 the footprint is clean, and the picks have links of it only
abbrev pub Fits : ℕ → List ℕ → List (List ℕ) → ℕ → Type 0
Fits measure footprint r n = measure ≡ 2 → Clean n footprint × Listed r footprint

-- what holds after the picks ws were taken
pub record Walked (n measure limit : ℕ) (footprint : List ℕ) (ws : List (List ℕ)) (p : Place) : Type 0 where
  -- they are a recording over n boards, within the limit; under measure 2 the footprint has their links
  pub recorded : Recording n ws
  pub within : length ws ≤ limit
  pub fits : Fits measure footprint ws n
  -- the place is never 16
  pub sound : Sound p
  -- the length call answers the length over all windows of the picks so far, or 9 where there is none, with counts within the bounds
  pub right : Right measure (Passes measure n footprint ws) (length ws) (length_says p)
  pub counted : Counted measure 0 (length ws) (length_says p)

-- CONDITION 2, pick by pick. For every opening that is answered by a place and every sequence of picks that are taken.
abbrev pub OnlineClaim : Type 0
OnlineClaim = (n measure limit : ℕ) (footprint a : List ℕ) → open_verdict n measure limit footprint a ≡ 0
    → (ws : List (List ℕ)) → EachTaken (open_state n measure limit footprint a) ws → 1 ≤ length ws
    → Walked n measure limit footprint ws (after_picks (open_state n measure limit footprint a) ws).place

-- A pick that no check refuses is taken: it makes one step of the walk.
abbrev pub TakenPickClaim : Type 0
TakenPickClaim = (st : State) (w : List ℕ) → pick_verdict st.place st.area w ≡ 0 → picked st w ≡ stepped (kit_of st.place.settings) w st

-- A refused pick leaves place and area as they were.
abbrev pub RefusedPickClaim : Type 0
RefusedPickClaim = (st : State) (w : List ℕ) → (pick_verdict st.place st.area w ≡ 0 → ⊥) → picked st w ≡ st

-- ---- whole runs

-- the picks lent as words, m of them
abbrev pub lent_recording : ℕ → List ℕ → List (List ℕ)
lent_recording n w = lent_picks n w (length w / n)

-- what a whole run charges before pick 1
abbrev pub list_cost : ℕ → ℕ → ℕ
list_cost measure m = cond (eqb measure 2) (m - 1) 0

-- what holds of a whole run that no cause refuses
pub record Ran (n measure : ℕ) (w : List ℕ) (o : Outcome) : Type 0 where
  pub recorded : Recording n (lent_recording n w)
  pub picks : length (lent_recording n w) ≡ length w / n
  -- under measure 2 the footprint has exactly the links open at some pick
  pub footprint : (u v : ℕ) → T (link (unions n w (length w / n)) u v) ↔ SomeLink (lent_recording n w) 1 (length w / n) u v
  pub right : Right measure (Passes measure n (unions n w (length w / n)) (lent_recording n w)) (length w / n) o
  pub counted : Counted measure (list_cost measure (length w / n)) (length w / n) o

-- CONDITION 2 for whole runs: in any area, dirty or not, that no cause refuses.
abbrev pub WholeClaim : Type 0
WholeClaim = (n measure : ℕ) (w a : List ℕ) → whole_verdict n measure w a ≡ 0 → Ran n measure w (whole_says n measure w a)

-- Under measure 2 a whole run is never refused by 9: the window of all picks passes.
abbrev pub WholeFootprintClaim : Type 0
WholeFootprintClaim = (n : ℕ) (w a : List ℕ) → whole_verdict n 2 w a ≡ 0 → (whole_says n 2 w a).refusal ≡ 0

-- A refused whole run leaves the area as it was; one that runs leaves the needed words zero and the others as they were (`whole_leaves`).
abbrev pub RefusedRunClaim : Type 0
RefusedRunClaim = (n measure : ℕ) (w a : List ℕ) → (whole_verdict n measure w a ≡ 0 → ⊥) → whole_leaves n measure w a ≡ a
