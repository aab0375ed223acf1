-- Picks lent as words (`links/Picks`): as a recording, and what the checks say of them.
use Rattle.std.specs.Prelude.{Bool, List, [], ◌∷◌, ◌++◌, ℕ, zero, suc}
use Rattle.lists.specs.Tab.{every}
use Rattle.links.specs.Picks.{lent_pick}
use Rattle.checks.specs.Checks.{clean, listed}

-- the first k picks, as a recording
unfoldable pub lent_picks : ℕ → List ℕ → ℕ → List (List ℕ)
lent_picks n w zero = []
lent_picks n w (suc k) = lent_picks n w k ++ (lent_pick n w k ∷ [])

-- the pick with k picks before it has no forbidden bit
unfoldable pub clean_pick : ℕ → List ℕ → ℕ → Bool
clean_pick n w k = clean n (lent_pick n w k)

-- none of the first k picks has one
unfoldable pub clean_picks : ℕ → List ℕ → ℕ → Bool
clean_picks n w k = every (clean_pick n w) k

-- every link of the pick with k picks before it is in the list
unfoldable pub listed_pick : ℕ → List ℕ → List ℕ → ℕ → Bool
listed_pick n list w k = listed n list (lent_pick n w k)

unfoldable pub listed_picks : ℕ → List ℕ → List ℕ → ℕ → Bool
listed_picks n list w k = every (listed_pick n list w) k
