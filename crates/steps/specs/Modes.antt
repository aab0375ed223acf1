-- HOW A STEP IS MADE: with all parts kept, in a run whose area nobody looks at afterwards, or so with the window held at k picks (request A1 of document 02).
use Rattle.std.specs.Prelude.{ℕ, Bool, true, false, cond, List, ◌≡◌, leb, ltb}
use Rattle.model.specs.Journey.{val}
use Rattle.measures.specs.Kit.{Kit}
use Rattle.place.specs.declared.Place.{Place}
use Rattle.steps.specs.declared.Mode.{Mode}
use Rattle.steps.specs.declared.Mode.TheVariants.{Kept, Unkept, Held}
use Rattle.steps.specs.Walk.{State, entered, stepped}
use Rattle.steps.specs.Alike.{finished}
use Rattle.steps.specs.Bare.{bare_tested, bare_step}
use Rattle.steps.specs.Fit.{rise, Entry}

-- ---- the window held at k: the ladders of document 01, with windows of k picks one after the other

-- what the start moves by at a new pick: one, once k picks are taken. So at pick p it is the greater of 1 and p - k + 1.
abbrev pub held_rise : ℕ → Place → ℕ
held_rise k p = val (leb k p.window.taken.0)

-- no test before pick k, then one a pick
unfoldable pub tested_from : ℕ → (State → State) → State → State
tested_from k test st = cond (leb k st.place.window.taken.0) (test st) st

-- one pick: the ladders take it in, and the window of the last k picks is tested. How, is a parameter: by the walk's own test (`tried`), or by that of a
-- run whose area nobody looks at afterwards (`bare_tested`).
unfoldable pub held_step : (State → State) → Kit → ℕ → List ℕ → State → State
held_step test K k w st = tested_from k test (entered K (held_rise k st.place) w st)

-- ---- by the mode

-- all parts are kept
abbrev pub kept_by : Mode → Bool
kept_by Kept = true
kept_by Unkept = false
kept_by (Held k) = false

-- the window is held
abbrev pub held_by : Mode → Bool
held_by Kept = false
held_by Unkept = false
held_by (Held k) = true

-- a pick raises m only
abbrev pub over_by : Mode → Place → Bool
over_by mode p = cond (held_by mode) false (finished p)

-- what the start moves by
abbrev pub rise_by : Mode → Place → ℕ
rise_by Kept p = rise p
rise_by Unkept p = rise p
rise_by (Held k) p = held_rise k p

-- no test follows
abbrev pub untested_by : Mode → Place → Bool
untested_by Kept q = false
untested_by Unkept q = false
untested_by (Held k) q = ltb q.window.taken.0 k

-- the step
abbrev pub step_by : Mode → Kit → List ℕ → State → State
step_by Kept K w st = stepped K w st
step_by Unkept K w st = bare_step K w st
step_by (Held k) K w st = held_step (bare_tested K) K k w st

-- a place that takes a pick of `links` words in this mode
pub record Enters (mode : Mode) (p : Place) (links : ℕ) : Type 0 where
  pub entry : Entry p (rise_by mode p)
  pub shape : p.settings.boards ≡ links
