-- What a step leaves of a walk that code makes.
use Rattle.std.specs.Prelude.{ℕ, ◌≡◌, List}
use Rattle.measures.specs.Kit.{Kit}
use Rattle.steps.specs.declared.Walk.{Walk}
use Rattle.steps.specs.Walk.{State, state, kit_of}

abbrev pub walk_kit : Walk → Kit
walk_kit w = kit_of w.place.settings

-- the walk w has become v, which is at the state st, in the area where it lay
pub record Became (w v : Walk) (st : State) : Type 0 where
  pub there : v.area.ghost_name ≡ w.area.ghost_name
  pub made : (v.place ≡ st.place) × (v.area.now ≡ st.area)

-- as the step f says
abbrev pub Makes : (State → State) → Walk → Walk → Type 0
Makes f w v = Became w v (f (state w.place w.area.now))

-- these words are written, and the place stays
abbrev pub Wrote : List ℕ → Walk → Walk → Type 0
Wrote a w v = Became w v (state w.place a)
