-- THE LADDERS, on the words of the area: what the parts hold, over any kit; all that is asked of its tables is `Law`.
use Rattle.std.specs.Prelude.{◌≡◌, ◌↔◌, List, ℕ, ◌+◌, ◌-◌, ◌*◌, ◌≤◌, ◌<◌, ◌&&◌, not, cond, length, T, eqb}
use Rattle.lists.specs.Tab.{zeros}
use Rattle.measures.specs.Kit.{Kit, Wide}
use Rattle.area.specs.Parts.{part_size, part, table_at}
use Rattle.steps.specs.Walk.{State}
use Rattle.place.specs.declared.Place.{Place}

-- m, s and b of a state, and its limit
abbrev pub m_of : State → ℕ
m_of st = st.place.window.taken.0

abbrev pub s_of : State → ℕ
s_of st = st.place.window.start.0

abbrev pub b_of : State → ℕ
b_of st = st.place.window.boundary.0

abbrev pub limit_of : State → ℕ
limit_of st = st.place.settings.limit

-- what a walk composes, over so many picks at most: a kit, pick i's own table, the table of the window i to j, and the list that is tested against
pub record WindowTables : Type 0 where
  pub kit : Kit
  pub own : ℕ → List ℕ
  pub win : ℕ → ℕ → List ℕ
  pub list : List ℕ
  pub most : ℕ

-- the table that part i holds
abbrev pub holds : WindowTables → State → ℕ → List ℕ
holds X st i = table_at X.kit st.area i

-- part i is zero
abbrev pub Zero : WindowTables → State → ℕ → Type 0
Zero X st i = part (part_size X.kit) st.area i ≡ zeros (part_size X.kit)

-- what is asked of them: tables of one size, and the split law
pub record Law (X : WindowTables) : Type 0 where
  pub wide : Wide X.kit
  pub own_wide : (i : ℕ) → 1 ≤ i → i ≤ X.most → length (X.own i) ≡ X.kit.size
  pub single : (i : ℕ) → 1 ≤ i → i ≤ X.most → X.own i ≡ X.win i i
  pub split : (i k j : ℕ) → 1 ≤ i → i ≤ k → k < j → j ≤ X.most → X.kit.join (X.win i k) (X.win (k + 1) j) ≡ X.win i j

-- P says when a window passes: it is what the test of its table tells
abbrev pub Decides : WindowTables → (ℕ → ℕ → Type 0) → Type 0
Decides X P = (i j : ℕ) → 1 ≤ i → i ≤ j → j ≤ X.most → T (X.kit.pass X.list (X.win i j)) ↔ P i j

-- the frame: room for the parts, and the list in its part
pub record Framed (X : WindowTables) (st : State) : Type 0 where
  pub start : 1 ≤ s_of st
  pub top : m_of st ≤ limit_of st
  pub room : (limit_of st + 4) * part_size X.kit ≤ length st.area
  pub list : holds X st (limit_of st + 3) ≡ X.list

-- what the parts hold between steps, part by part
pub record Laddered (X : WindowTables) (st : State) : Type 0 where
  pub frame : Framed X st
  pub bound : b_of st ≤ m_of st
  pub near : s_of st ≤ b_of st + 1
  pub lefts : (i : ℕ) → s_of st ≤ i → i ≤ b_of st → holds X st i ≡ X.win i (b_of st)
  pub owns : (i : ℕ) → b_of st < i → i ≤ m_of st → holds X st i ≡ X.own i
  pub rights : b_of st < m_of st → holds X st (limit_of st + 1) ≡ X.win (b_of st + 1) (m_of st)
  pub empty : b_of st ≡ m_of st → Zero X st (limit_of st + 1)

-- and when a pick is written, and has not yet joined
pub record Unjoined (X : WindowTables) (st : State) : Type 0 where
  pub frame : Framed X st
  pub bound : b_of st < m_of st
  pub lefts : (i : ℕ) → s_of st ≤ i → i ≤ b_of st → holds X st i ≡ X.win i (b_of st)
  pub owns : (i : ℕ) → b_of st < i → i ≤ m_of st → holds X st i ≡ X.own i
  pub rights : b_of st + 1 < m_of st → holds X st (limit_of st + 1) ≡ X.win (b_of st + 1) (m_of st - 1)

-- What the parts hold once pick m is taken in, part by part: compositions i to b for i from s to b, own tables above b, the right ladder, the last
-- window tested, the footprint, and zero.
pub record Holds (X : WindowTables) (m : ℕ) (st : State) : Type 0 where
  pub lefts : (i : ℕ) → s_of st ≤ i → i ≤ b_of st → holds X st i ≡ X.win i (b_of st)
  pub owns : (i : ℕ) → b_of st < i → i ≤ m → holds X st i ≡ X.own i
  pub rights : b_of st < m → holds X st (limit_of st + 1) ≡ X.win (b_of st + 1) m
  pub empty : b_of st ≡ m → Zero X st (limit_of st + 1)
  pub window : holds X st (limit_of st + 2) ≡ X.win (s_of st) m
  pub list : holds X st (limit_of st + 3) ≡ X.list
  pub spare : Zero X st (limit_of st + 4)

-- the last pick that was entered: m, and after the end of measure 1 the ending pick, which is s
abbrev pub last_entered : Place → ℕ
last_entered p = cond (eqb p.settings.measure 1 && not p.marks.passed) p.window.start.0 p.window.taken.0
