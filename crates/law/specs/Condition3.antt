-- CONDITION 3 of the mission over the definitions: two recordings have equal tables of reach exactly when no part before and no part after tells them
-- apart by a reach length.
use Rattle.std.specs.Prelude.{◌≡◌, ◌↔◌, List, ◌++◌, ℕ, ◌≤◌, ◌<◌, length, get_or}
use Rattle.model.specs.Recording.{Recording}
use Rattle.model.specs.Journey.{Limit, at_most, unlimited}
use Rattle.model.specs.Measures.{PassesReach}
use Rattle.model.specs.Length.{NoLength, HasSmallest}
use Rattle.links.specs.Composed.{reach}
use Rattle.links.specs.Tells.{Marks, Reaches}
use Rattle.measures.specs.Kit.{hops01}

-- a reach length exists, and none does
abbrev pub HasReach : ℕ → Limit → List (List ℕ) → Type 0
HasReach n L r = HasSmallest (PassesReach r n L) (length r)

abbrev pub NoReach : ℕ → Limit → List (List ℕ) → Type 0
NoReach n L r = NoLength (PassesReach r n L) (length r)

-- the tables of reach are equal in every word
abbrev pub SameTables : ℕ → ℕ → List (List ℕ) → List (List ℕ) → Type 0
SameTables n h x y = (u : ℕ) → u < n → get_or (reach n h x) u 0 ≡ get_or (reach n h y) u 0

-- a recording set before both and a recording set after both: a pick or more each, and each joined recording at most 4,096
pub record Around (n : ℕ) (x y before after : List (List ℕ)) : Type 0 where
  pub before_recorded : Recording n before
  pub after_recorded : Recording n after
  pub some_before : 1 ≤ length before
  pub some_after : 1 ≤ length after
  pub fits_first : length (before ++ x ++ after) ≤ 4096
  pub fits_second : length (before ++ y ++ after) ≤ 4096

-- it never happens that one joined recording has a reach length and the other none
abbrev pub NeverApart : ℕ → Limit → List (List ℕ) → List (List ℕ) → Type 0
NeverApart n L x y = (before after : List (List ℕ)) → Around n x y before after
    → ((HasReach n L (before ++ x ++ after) × NoReach n L (before ++ y ++ after)) → ⊥)
    × ((HasReach n L (before ++ y ++ after) × NoReach n L (before ++ x ++ after)) → ⊥)

-- with at most h links in one pick the tables are equal exactly when, journeys having the limit L, no parts tell the two apart
abbrev pub Exactly : ℕ → Limit → Type 0
Exactly h L = (n : ℕ) → 2 ≤ n → n ≤ 32 → (x y : List (List ℕ)) → Recording n x → Recording n y
    → 1 ≤ length x → length x ≤ 4094 → 1 ≤ length y → length y ≤ 4094
    → SameTables n h x y ↔ NeverApart n L x y

-- CONDITION 3 of the mission over the definitions, one claim, both ways, whatever number of links is the most in one pick.
abbrev pub Condition3Claim : Type 0
Condition3Claim = (h : ℕ) → 1 ≤ h → Exactly h (at_most h)

-- CONDITION 3 of the mission, as document 01 has journeys: no limit.
abbrev pub UnlimitedClaim : Type 0
UnlimitedClaim = Exactly hops01 unlimited

-- The table of reach marks exactly the pairs of different boards joined by a journey in the whole recording.
abbrev pub ReachClaim : Type 0
ReachClaim = (n : ℕ) → n ≤ 32 → (r : List (List ℕ)) → Recording n r → 1 ≤ length r
    → Marks n (Reaches r unlimited 1 (length r)) (reach n hops01 r)
