-- THE WALK of document 01 on a place and the words of an area, step by step, over a kit. It is defined for every place and every area: altered
-- words are composed as they are found. m is `taken`, s is `start`, b is `boundary`; 01's chains are 002's ladders.
use Rattle.std.specs.Prelude.{ℕ, zero, suc, ◌+◌, ◌-◌, Bool, true, false, ◌&&◌, not, cond, List, eqb, leb, ltb}
use Rattle.std.proofs.Math.Option.{Option, none, some}
use Rattle.model.specs.Journey.{val}
use Rattle.measures.specs.Kit.{Kit, hops01, turn01, kit_with}
use Rattle.area.specs.Parts.{table_at, compose_at, copy_at, zero_at, own_at}
use Rattle.place.specs.declared.Settings.{Settings}
use Rattle.place.specs.declared.Place.{Place}
use Rattle.place.specs.Places.{picks_taken, start_moved, boundary_moved, charged, tested}

-- ---- the place with its area: all the state there is

pub record State : Type 0 where
  pub place : Place
  pub area : List ℕ

abbrev pub state : Place → List ℕ → State
state p a = record { place = p; area = a }

-- the kit of a place's settings, with document 01's of the two that a place does not hold
abbrev pub kit_of : Settings → Kit
kit_of s = kit_with hops01 turn01 s.measure s.boards

-- ---- the ladders

-- the left ladder over the k + 1 parts that end at part j: each part below j composed with the next one, downwards
unfoldable pub ladder : Kit → List ℕ → ℕ → ℕ → List ℕ
ladder K a j zero = a
ladder K a j (suc k) = compose_at K (ladder K a j k) (j - suc k) (j - suc k) (j - suc k + 1)

-- b becomes m, the left ladder is built over s to m, costing m - s, and the right ladder is empty
unfoldable pub rebuilt : Kit → State → State
rebuilt K st = state (charged (boundary_moved st.place) (st.place.window.taken.0 - st.place.window.start.0))
    (zero_at K (ladder K st.area st.place.window.taken.0 (st.place.window.taken.0 - st.place.window.start.0)) (st.place.settings.limit + 1))

-- the right ladder holds picks before m
abbrev pub more : Place → Bool
more p = ltb (p.window.boundary.0 + 1) p.window.taken.0

-- pick m joins the right ladder
unfoldable pub joined_area : Kit → Bool → Place → List ℕ → List ℕ
joined_area K true p a = compose_at K a (p.settings.limit + 1) (p.settings.limit + 1) p.window.taken.0
joined_area K false p a = copy_at K a (p.settings.limit + 1) p.window.taken.0

-- which costs one where it was not empty
unfoldable pub joined : Kit → State → State
joined K st = state (charged st.place (val (more st.place))) (joined_area K (more st.place) st.place st.area)

-- s exceeds b + 1
abbrev pub far : Place → Bool
far p = ltb (p.window.boundary.0 + 1) p.window.start.0

unfoldable pub extended_by : Kit → Bool → State → State
extended_by K true st = rebuilt K st
extended_by K false st = joined K st

-- the ladders take in pick m
unfoldable pub extended : Kit → State → State
extended K st = extended_by K (far st.place) st

-- ---- a new pick

-- the pick w is taken, the start moved by k, and w's own table written to its part
unfoldable pub written : Kit → ℕ → List ℕ → State → State
written K k w st = state (start_moved (picks_taken st.place 1) k) (own_at K st.area (st.place.window.taken.0 + 1) w)

unfoldable pub entered : Kit → ℕ → List ℕ → State → State
entered K k w st = extended K (written K k w st)

-- ---- a test

-- s is at most b; the right ladder is not empty
abbrev pub on_left : Place → Bool
on_left p = leb p.window.start.0 p.window.boundary.0

abbrev pub on_right : Place → Bool
on_right p = ltb p.window.boundary.0 p.window.taken.0

-- the window s to m goes to part limit + 2: from both ladders, from the left one, or from the right one
unfoldable pub window_area : Kit → Bool → Bool → Place → List ℕ → List ℕ
window_area K true true p a = compose_at K a (p.settings.limit + 2) p.window.start.0 (p.settings.limit + 1)
window_area K true false p a = copy_at K a (p.settings.limit + 2) p.window.start.0
window_area K false y p a = copy_at K a (p.settings.limit + 2) (p.settings.limit + 1)

-- which costs one where it is from both
unfoldable pub windowed : Kit → State → State
windowed K st = state (charged st.place (val (on_left st.place && on_right st.place))) (window_area K (on_left st.place) (on_right st.place)
    st.place st.area)

-- the table of part limit + 2 is tested against the footprint in part limit + 3
unfoldable pub judged : Kit → State → State
judged K st = state (tested st.place (K.pass (table_at K st.area (st.place.settings.limit + 3)) (table_at K st.area
    (st.place.settings.limit + 2)))) st.area

-- one test of the window s to m
unfoldable pub tried : Kit → State → State
tried K st = judged K (windowed K st)

-- part limit + 4 is zero after each pick taken
unfoldable pub cleared : Kit → State → State
cleared K st = state st.place (zero_at K st.area (st.place.settings.limit + 4))

-- ---- measures 2, 3 and 4: minimisation

-- s rises by one if the last test passed; one test follows
unfoldable pub min_step : Kit → List ℕ → State → State
min_step K w st = cleared K (tried K (entered K (val st.place.marks.passed) w st))

-- ---- measure 1: maximisation

-- after a failure s rises by one; where it then exceeds b + 1, the left ladder is built
unfoldable pub raised_by : Kit → Bool → State → State
raised_by K true st = rebuilt K st
raised_by K false st = st

unfoldable pub raised : Kit → State → State
raised K st = raised_by K (far (start_moved st.place 1)) (state (start_moved st.place 1) st.area)

-- and the test is repeated
unfoldable pub again : Kit → State → State
again K st = tried K (raised K st)

-- until one passes or the window s = m fails: k = m - s rises are left
unfoldable pub climb : Kit → ℕ → State → State
climb K zero st = st
climb K (suc k) st = cond st.place.marks.passed st (climb K k (again K st))

unfoldable pub climbed : Kit → State → State
climbed K st = climb K (st.place.window.taken.0 - st.place.window.start.0) st

-- none for good: m is 1 or more and the last test not passed
abbrev pub ended : Place → Bool
ended p = ltb 0 p.window.taken.0 && not p.marks.passed

-- s stays while no test has failed yet, else rises by one; after the end a pick raises m only
unfoldable pub max_step : Kit → List ℕ → State → State
max_step K w st =
    cond (ended st.place) (state (picks_taken st.place 1) st.area) (cleared K (climbed K (tried K (entered K (val st.place.marks.failed) w st))))

-- ---- a pick taken, and the length

unfoldable pub stepped : Kit → List ℕ → State → State
stepped K w st = cond (eqb st.place.settings.measure 1) (max_step K w st) (min_step K w st)

-- Passed: m - s + 1. Failed with s above 1, measures 2 to 4: m - s + 2. Else none.
unfoldable pub reported : Place → Option ℕ
reported p =
    cond p.marks.passed (some (p.window.taken.0 + 1 - p.window.start.0))
    (cond (not (eqb p.settings.measure 1) && ltb 1 p.window.start.0) (some (p.window.taken.0 + 2 - p.window.start.0)) none)
