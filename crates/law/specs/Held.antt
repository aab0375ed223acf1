-- THE WALK HELD AT k over a course, and its invariant, over any kit: P says when a window passes.
use Rattle.std.specs.Prelude.{◌≡◌, List, ℕ, zero, suc, ◌+◌, ◌-◌, ◌*◌, ◌≤◌, ◌<◌, T, length}
use Rattle.model.specs.Recording.{pick_at}
use Rattle.measures.specs.Kit.{Kit}
use Rattle.place.specs.Places.{settings_of}
use Rattle.steps.specs.Walk.{State, tried}
use Rattle.steps.specs.Modes.{held_step}
use Rattle.decision.specs.Held.{unless_failed}
use Rattle.law.specs.Ladders.{m_of, s_of, b_of, WindowTables, Laddered}
use Rattle.law.specs.Course.{Course, kit_in, PassesIn, tables, start}

-- the state after the first j picks of r, from st on
unfoldable pub held_from : Kit → ℕ → List (List ℕ) → State → ℕ → State
held_from K k r st zero = st
held_from K k r st (suc j) = unless_failed (held_step (tried K) K k (pick_at r (suc j))) (held_from K k r st j)

-- over a course, x compositions being charged before pick 1
abbrev pub held_at : Course → ℕ → ℕ → ℕ → State
held_at c x k j = held_from (kit_in c) k c.picks (start c x) j

-- THE INVARIANT, after each pick: the window s to m is that of the last k picks, or of all while there are fewer. `c` compositions were charged before pick 1.
pub record HeldInvariant (X : WindowTables) (P : ℕ → ℕ → Type 0) (k c : ℕ) (st : State) : Type 0 where
  pub ladders : Laddered X st
  pub held : s_of st ≡ 1 + (m_of st - k)
  -- windows of k picks that end before pick m pass
  pub before : (i j : ℕ) → 1 ≤ i → j < m_of st → suc j ≡ i + k → P i j
  -- so does that which ends there, unless a test has failed; that test was its
  pub good : (T st.place.marks.failed → ⊥) → k ≤ m_of st → P (s_of st) (m_of st)
  pub tested : T st.place.marks.failed → k ≤ m_of st
  pub bad : T st.place.marks.failed → P (s_of st) (m_of st) → ⊥
  pub count_tests : st.place.counts.tests.0 ≡ m_of st + 1 - k
  pub count_comps : st.place.counts.compositions.0 ≤ c + 2 * (m_of st - 1) + (b_of st - 1)

-- what holds after j picks of a course: it has stopped at the first failure, or has taken them all
pub record HeldCourse (c : Course) (x k j : ℕ) (st : State) : Type 0 where
  pub invariant : HeldInvariant (tables c) (PassesIn c) k x st
  pub settings : st.place.settings ≡ settings_of c.measure c.n c.limit
  pub few : m_of st ≤ j
  pub all : (T st.place.marks.failed → ⊥) → m_of st ≡ j

-- The walk held at k keeps its invariant, pick after pick.
abbrev pub HeldClaim : Type 0
HeldClaim = (c : Course) (x k : ℕ) → 1 ≤ k → (j : ℕ) → j ≤ length c.picks → HeldCourse c x k j (held_at c x k j)
