-- The table of picks in a row, composed from the first one on. `join` is the composition and `own` gives pick i's own table: parameters, so
-- that it is said once for all measures.
use Rattle.std.specs.Prelude.{List, [], ◌∷◌, ℕ, suc}
use Rattle.links.specs.Tables.{compose, within}

module _ (join : List ℕ → List ℕ → List ℕ) (own : ℕ → List ℕ → List ℕ) where
  -- the table t of the picks before i, composed with those from i on
  unfoldable pub composed_from : ℕ → List ℕ → List (List ℕ) → List ℕ
  composed_from i t [] = t
  composed_from i t (p ∷ ps) = composed_from (suc i) (join t (own i p)) ps

  -- the table of picks numbered from i on
  unfoldable pub composed : ℕ → List (List ℕ) → List ℕ
  composed i [] = []
  composed i (p ∷ ps) = composed_from (suc i) (own i p) ps

-- THE TABLE OF REACH of a recording, with at most h links crossed in one pick
unfoldable pub reach : ℕ → ℕ → List (List ℕ) → List ℕ
reach n h r = composed (compose n) (λ i. within n h) 1 r
