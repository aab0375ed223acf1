-- THE INVARIANTS of the walk, after each pick, over any kit: P says when a window passes.
use Rattle.std.specs.Prelude.{◌≡◌, ◌⊎◌, List, ℕ, suc, ◌+◌, ◌-◌, ◌*◌, ◌≤◌, ◌<◌, not, T, eqb, length}
use Rattle.area.specs.Parts.{part_size}
use Rattle.std.proofs.Math.Option.{Option, none, some}
use Rattle.model.specs.Length.{Smallest, NoLength, Upward, Largest, Downward}
use Rattle.model.specs.Journey.{val}
use Rattle.place.specs.Places.{window_as}
use Rattle.steps.specs.Walk.{State, min_step, reported, state, max_step}
use Rattle.law.specs.Correct.{Fails}
use Rattle.law.specs.Ladders.{m_of, s_of, b_of, limit_of, WindowTables, holds, Zero, Law, Decides, Laddered}
use Rattle.place.specs.declared.Place.{Place}

-- ---- minimisation: measures 2, 3 and 4

-- what a report of the smallest length says
abbrev pub MinAnswer : (ℕ → ℕ → Type 0) → ℕ → Option ℕ → Type 0
MinAnswer P m none = NoLength P m
MinAnswer P m (some k) = Smallest P m k

-- THE INVARIANT of minimisation, after each pick: the row of the last window tested is m - s + 1. `c` compositions were charged before pick 1.
pub record MinInvariant (X : WindowTables) (P : ℕ → ℕ → Type 0) (c : ℕ) (st : State) : Type 0 where
  pub ladders : Laddered X st
  pub ahead : s_of st + val st.place.marks.passed ≤ m_of st + 1
  pub inside : 1 ≤ m_of st → s_of st ≤ m_of st
  -- part limit + 2 is the last window tested, s to m, and part limit + 4 is zero
  pub window : 1 ≤ m_of st → holds X st (limit_of st + 2) ≡ X.win (s_of st) (m_of st)
  pub spare : Zero X st (limit_of st + 4)
  pub good : T st.place.marks.passed → P (s_of st) (m_of st)
  pub bad : 1 ≤ m_of st → (T st.place.marks.passed → ⊥) → P (s_of st) (m_of st) → ⊥
  -- windows of this row that begin before s pass
  pub before : (i : ℕ) → 1 ≤ i → i < s_of st → P i (i + (m_of st - s_of st))
  -- and one of the row below fails
  pub below : s_of st < m_of st → Fails P (m_of st) (m_of st - s_of st)
  pub count_tests : st.place.counts.tests.0 ≡ m_of st
  pub count_comps : st.place.counts.compositions.0 ≤ c + 2 * (m_of st - 1) + (b_of st - 1)

-- One pick keeps it.
abbrev pub MinKeepsClaim : Type 1
MinKeepsClaim = (X : WindowTables) → Law X → (P : ℕ → ℕ → Type 0) → Decides X P → Upward P X.most
    → (c : ℕ) (w : List ℕ) (st : State) → m_of st + 1 ≤ X.most
    → m_of st + 1 ≤ limit_of st → X.kit.own (m_of st + 1) w ≡ X.own (m_of st + 1) → MinInvariant X P c st
    → MinInvariant X P c (min_step X.kit w st)

-- Where it holds, the walk reports the smallest length, or none where there is none.
abbrev pub MinReportsClaim : Type 1
MinReportsClaim = (X : WindowTables) → Law X → (P : ℕ → ℕ → Type 0) → Decides X P → Upward P X.most → (c : ℕ) (st : State)
    → m_of st ≤ X.most → 1 ≤ m_of st
    → T (not (eqb st.place.settings.measure 1)) → MinInvariant X P c st → MinAnswer P (m_of st) (reported st.place)

-- ---- maximisation: measure 1

-- what a report of the largest length says
abbrev pub MaxAnswer : (ℕ → ℕ → Type 0) → ℕ → Option ℕ → Type 0
MaxAnswer P m none = NoLength P m
MaxAnswer P m (some k) = Largest P m k

-- what holds while a length exists, after each pick: row m - s + 1 is the largest
pub record MaxGoing (X : WindowTables) (P : ℕ → ℕ → Type 0) (st : State) : Type 0 where
  pub ladders : Laddered X st
  pub ahead : s_of st + val st.place.marks.failed ≤ m_of st + 1
  pub inside : 1 ≤ m_of st → s_of st ≤ m_of st
  pub window : 1 ≤ m_of st → holds X st (limit_of st + 2) ≡ X.win (s_of st) (m_of st)
  pub spare : Zero X st (limit_of st + 4)
  pub good : 1 ≤ m_of st → T st.place.marks.passed
  -- every window up to this row passes
  pub upto : (i j : ℕ) → 1 ≤ i → i ≤ j → j ≤ m_of st → suc j ≤ i + (m_of st + 1 - s_of st) → P i j
  -- and one of the row above fails, if a test has failed; else this is the whole
  pub above : T st.place.marks.failed → Fails P (m_of st) (m_of st + 2 - s_of st)
  pub whole : (T st.place.marks.failed → ⊥) → s_of st ≡ 1
  pub count_tests : st.place.counts.tests.0 + 1 ≤ m_of st + s_of st
  pub count_comps : st.place.counts.compositions.0 ≤ (s_of st - 1) + 2 * (m_of st - 1) + (b_of st - 1)

-- the place as the ending pick left it: s = m there, and later picks raise m only
unfoldable pub at_end : Place → Place
at_end p = window_as p (record { taken = p.window.start; start = p.window.start; boundary = p.window.boundary })

-- what holds once a window of one pick has failed: the parts are as the ending pick left them
pub record MaxEnded (X : WindowTables) (P : ℕ → ℕ → Type 0) (st : State) : Type 0 where
  pub some_pick : 1 ≤ m_of st
  pub start : 1 ≤ s_of st
  pub near : s_of st ≤ b_of st + 1
  pub bound : b_of st ≤ m_of st
  pub inside : s_of st ≤ m_of st
  pub room : (limit_of st + 4) * part_size X.kit ≤ length st.area
  pub ladders : Laddered X (state (at_end st.place) st.area)
  pub window : holds X st (limit_of st + 2) ≡ X.win (s_of st) (s_of st)
  pub spare : Zero X st (limit_of st + 4)
  pub bad : T st.place.marks.passed → ⊥
  pub single : Fails P (m_of st) 1
  pub count_tests : st.place.counts.tests.0 ≤ 2 * m_of st
  pub count_comps : st.place.counts.compositions.0 ≤ 4 * (m_of st - 1)

-- THE INVARIANT of maximisation
abbrev pub MaxInvariant : WindowTables → (ℕ → ℕ → Type 0) → State → Type 0
MaxInvariant X P st = MaxGoing X P st ⊎ MaxEnded X P st

-- One pick keeps it.
abbrev pub MaxKeepsClaim : Type 1
MaxKeepsClaim = (X : WindowTables) → Law X → (P : ℕ → ℕ → Type 0) → Decides X P → Downward P X.most → (w : List ℕ) (st : State)
    → m_of st + 1 ≤ X.most
    → m_of st + 1 ≤ limit_of st → X.kit.own (m_of st + 1) w ≡ X.own (m_of st + 1) → MaxInvariant X P st → MaxInvariant X P (max_step X.kit w st)

-- Where it holds, the walk reports the largest length, or none where there is none.
abbrev pub MaxReportsClaim : Type 1
MaxReportsClaim = (X : WindowTables) → Law X → (P : ℕ → ℕ → Type 0) → Decides X P → Downward P X.most → (st : State)
    → m_of st ≤ X.most → 1 ≤ m_of st
    → T (eqb st.place.settings.measure 1) → MaxInvariant X P st → MaxAnswer P (m_of st) (reported st.place)
