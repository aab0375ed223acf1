-- THE WALK HELD AT k, request A1 of document 02: the steps of `steps/specs/Modes`, one after the other, up to the first failure. How a window is tested is
-- a parameter: by the walk's own test (`tried`), or by that of a run whose area nobody looks at afterwards (`bare_tested`).
use Rattle.std.specs.Prelude.{ℕ, zero, suc, cond, List}
use Rattle.links.specs.Picks.{lent_pick}
use Rattle.measures.specs.Kit.{Kit}
use Rattle.steps.specs.Walk.{State}
use Rattle.steps.specs.Modes.{held_step}

-- it stops at the first failure: a state in which a test has failed stays
unfoldable pub unless_failed : (State → State) → State → State
unless_failed f st = cond st.place.marks.failed st (f st)

-- the first j picks of those lent, from st on
unfoldable pub held_steps : (State → State) → Kit → ℕ → ℕ → List ℕ → ℕ → State → State
held_steps test K k n w zero st = st
held_steps test K k n w (suc j) st = unless_failed (held_step test K k (lent_pick n w j)) (held_steps test K k n w j st)
