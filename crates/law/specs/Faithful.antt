-- What the measures share, with the composition and the own tables as parameters: tables that tell the truth of single picks, and whose
-- composition tells it of two adjacent windows.
use Rattle.std.specs.Prelude.{◌≡◌, List, ℕ, suc, ◌≤◌, ◌<◌, length}
use Rattle.model.specs.Recording.{pick_at, window}
use Rattle.links.specs.Composed.{composed}

-- `Tells i j t` says that t is the table of the window i to j of r.
pub record Faithful (join : List ℕ → List ℕ → List ℕ) (own : ℕ → List ℕ → List ℕ) (r : List (List ℕ))
    (Tells : ℕ → ℕ → List ℕ → Type 0) : Type 0 where
  -- a pick's own table is the table of its window
  pub own_tells : (i : ℕ) → 1 ≤ i → i ≤ length r → Tells i i (own i (pick_at r i))
  -- two adjacent windows compose to the joined window
  pub join_tells : (i k j : ℕ) (s t : List ℕ) → 1 ≤ i → i ≤ k → k < j → j ≤ length r → Tells i k s → Tells (suc k) j t
      → Tells i j (join s t)
  -- there is one table
  pub tells_once : (i j : ℕ) (s t : List ℕ) → 1 ≤ i → Tells i j s → Tells i j t → s ≡ t

-- the table of the window i to j, composed from its first pick on
unfoldable pub table_of_window : (List ℕ → List ℕ → List ℕ) → (ℕ → List ℕ → List ℕ) → List (List ℕ) → ℕ → ℕ → List ℕ
table_of_window join own r i j = composed join own i (window r i j)

-- The composed table of a window tells the truth of it.
abbrev pub WindowTellsClaim : Type 1
WindowTellsClaim = (join : List ℕ → List ℕ → List ℕ) (own : ℕ → List ℕ → List ℕ) (r : List (List ℕ))
    (Tells : ℕ → ℕ → List ℕ → Type 0)
    → Faithful join own r Tells → (i j : ℕ) → 1 ≤ i → i ≤ j → j ≤ length r → Tells i j (table_of_window join own r i j)

-- The split law: composing the tables of two adjacent windows gives the table of the joined window.
abbrev pub SplitClaim : Type 1
SplitClaim = (join : List ℕ → List ℕ → List ℕ) (own : ℕ → List ℕ → List ℕ) (r : List (List ℕ))
    (Tells : ℕ → ℕ → List ℕ → Type 0)
    → Faithful join own r Tells → (i k j : ℕ) → 1 ≤ i → i ≤ k → k < j → j ≤ length r
    → join (table_of_window join own r i k) (table_of_window join own r (suc k) j) ≡ table_of_window join own r i j
