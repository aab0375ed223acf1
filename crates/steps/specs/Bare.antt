-- THE STEPS OF A WHOLE RUN, whose area nobody looks at afterwards: under measures 2 to 4 a window is put into its part only where a test needs it
-- there, and part limit + 4 is not cleared. `Rattle.steps.proofs.Bare` shows that the places are those of the walk.
use Rattle.std.specs.Prelude.{Bool, ◌&&◌, ◌||◌, cond, List, ℕ, eqb}
use Rattle.model.specs.Journey.{val}
use Rattle.measures.specs.Kit.{Kit}
use Rattle.place.specs.declared.Settings.{Settings}
use Rattle.place.specs.declared.Place.{Place}
use Rattle.steps.specs.Walk.{State, state, on_left, on_right, entered, tried, stepped}

-- the window is composed: under measure 4, where it lies on both ladders. Else it is judged where it lies, or without being written.
abbrev pub composes : Place → Bool
composes p = eqb p.settings.measure 4 && (on_left p && on_right p)

-- one test
unfoldable pub bare_tried : Kit → State → State
bare_tried K st = state (tried K st).place (cond (composes st.place) (tried K st).area st.area)

-- the measures whose steps are shorter so: 2, 3 and 4, which make one test a pick
abbrev pub spared : Settings → Bool
spared s = eqb s.measure 2 || (eqb s.measure 3 || eqb s.measure 4)

-- one test under any measure
unfoldable pub bare_tested : Kit → State → State
bare_tested K st = cond (spared st.place.settings) (bare_tried K st) (tried K st)

-- one step
unfoldable pub bare_step : Kit → List ℕ → State → State
bare_step K w st = cond (spared st.place.settings) (bare_tried K (entered K (val st.place.marks.passed) w st)) (stepped K w st)
