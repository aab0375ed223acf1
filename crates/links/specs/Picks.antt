-- Picks lent as words, n words a pick, one pick after the other, and their union.
use Rattle.std.specs.Prelude.{List, ℕ, zero, suc, ◌+◌, ◌*◌, take, drop}
use Rattle.links.specs.Tables.{union}

-- the pick with k picks before it
unfoldable pub lent_pick : ℕ → List ℕ → ℕ → List ℕ
lent_pick n w k = take n (drop (k * n) w)

-- the table t, united with each of k picks: those after the first i
unfoldable pub united_picks : ℕ → List ℕ → List ℕ → ℕ → ℕ → List ℕ
united_picks n t w i zero = t
united_picks n t w i (suc k) = union n (united_picks n t w i k) (lent_pick n w (i + k))
