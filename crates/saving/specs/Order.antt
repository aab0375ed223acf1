-- THE ORDER of a saved file, said of its commands alone, without the definition of the file.
use Rattle.std.specs.Prelude.{◌≡◌, ◌⊎◌, true, false, List, [], ◌∷◌, ℕ, ◌<◌, length, get_or}
use Rattle.recording.specs.Grammar.{Act, sets, pick, spell_file, is_open, befores, Follow}

-- which command may stand right before which: "the links that shut, ascending by from and then to, then those that open in the same order, then 50"
abbrev pub Before : Act → Act → Type 0
Before (sets x a b) (sets y c d) = ((x ≡ false) × (y ≡ true)) ⊎ ((x ≡ y) × ((a < c) ⊎ ((a ≡ c) × (b < d))))
Before (sets x a b) pick = Unit {0}
Before pick y = Unit {0}

-- each command and the one behind it; e stands before them
unfoldable pub Ordered : Act → List Act → Type 0
Ordered e [] = Unit {0}
Ordered e (x ∷ xs) = Before e x × Ordered x xs

-- the last command, e where there is none
unfoldable pub last_of : Act → List Act → Act
last_of e [] = e
last_of e (x ∷ xs) = last_of x xs

-- of the acts before a pick, the last of them first, those after the pick before it: each has left its link so
unfoldable pub Lasting : List Act → List Act → Type 0
Lasting earlier [] = Unit {0}
Lasting earlier (sets x a b ∷ xs) = (is_open earlier a b ≡ x) × Lasting earlier xs
Lasting earlier (pick ∷ xs) = Unit {0}

-- a file in the order of the request
pub record InOrder (n : ℕ) (bytes : List ℕ) : Type 0 where
  pub acts : List Act
  pub spelled : bytes ≡ spell_file n acts
  pub ordered : Ordered pick acts
  -- a link is named only where it shuts, or opens, from pick to pick: it was not so before the command, and at the pick it is
  pub follow : Follow n [] acts
  pub lasting : (k : ℕ) → k < length (befores [] acts) → Lasting (get_or (befores [] acts) k []) (get_or (befores [] acts) k [])
  -- no command stands behind the last 50
  pub last : last_of pick acts ≡ pick
