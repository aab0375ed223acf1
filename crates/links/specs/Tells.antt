-- What a table of links tells: which pairs it marks.
use Rattle.std.specs.Prelude.{◌≢◌, ◌↔◌, List, ℕ, ◌<◌, T}
use Rattle.model.specs.Recording.{link, Clean}
use Rattle.model.specs.Journey.{Limit, Journey}

-- a journey leads from a board to a different one
abbrev pub Reaches : List (List ℕ) → Limit → ℕ → ℕ → ℕ → ℕ → Type 0
Reaches r L i j u v = (u ≢ v) × Journey r L i j u v

-- The table t has no forbidden bit, and marks exactly the pairs of R. Of the window i to j, R is `CommonLink r i j` for measure 1,
-- `SomeLink r i j` for measure 2 and `Reaches r L i j` for measure 3.
pub record Marks (n : ℕ) (R : ℕ → ℕ → Type 0) (t : List ℕ) : Type 0 where
  pub clean : Clean n t
  pub marks : (u v : ℕ) → u < n → v < n → T (link t u v) ↔ R u v
