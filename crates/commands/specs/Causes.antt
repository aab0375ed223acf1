-- The causes to refuse a command, in 01's order; the open links are n words.
use Rattle.std.specs.Prelude.{Bool, true, false, not, ◌||◌, Result, Ok, Err, List, [], ◌∷◌, ◌++◌, ℕ, ◌*◌, eqb, ltb, leb}
use Rattle.model.specs.Recording.{link}
use Rattle.model.specs.declared.Refusal.{Refusal}
use Rattle.model.specs.declared.Refusal.TheVariants as cause
use Rattle.commands.specs.declared.Command.{Command}
use Rattle.commands.specs.declared.Command.TheVariants.{Boards, Later}
use Rattle.commands.specs.declared.Item.{Item}
use Rattle.commands.specs.declared.Item.TheVariants.{Link, Pick, End}
use Rattle.model.specs.Causes.{between, RefusalCauses, first_or}
use Rattle.commands.specs.Commands.{unreadable, spelled_at}

-- link operands equal, or n or above
abbrev pub no_link : ℕ → ℕ → ℕ → Bool
no_link n a b = eqb a b || (leb n a || leb n b)

-- opening an open link or shutting a shut one
abbrev pub unchanged : Bool → Bool → Bool
unchanged true is_open = is_open
unchanged false is_open = not is_open

-- of the first command: 1, 4
abbrev pub boards_causes : ℕ → ℕ → Command → RefusalCauses
boards_causes limit room (Boards n) = (not (between 2 n 32), cause.Boards) ∷ (ltb room (limit * n), cause.Room) ∷ []
boards_causes limit room (Later i) = []

-- of a later command, with n boards, `count` picks so far and the open links: 13, 14; 7 at a 50 beyond the limit
abbrev pub later_causes : ℕ → ℕ → ℕ → List ℕ → Command → RefusalCauses
later_causes n limit count links (Later (Link a b v)) =
    (no_link n a.0 b.0, cause.Operands) ∷ (unchanged v (link links a.0 b.0), cause.Unchanged) ∷ []
later_causes n limit count links (Later Pick) = (leb limit count, cause.Full) ∷ []
later_causes n limit count links (Later End) = []
later_causes n limit count links (Boards m) = []

-- what is taken of the first command and of a later one; neither stands in the other's place, which is 11
abbrev pub boards_in : Command → Result ℕ Refusal
boards_in (Boards n) = Ok n
boards_in (Later i) = Err cause.Command

abbrev pub item_in : Command → Result Item Refusal
item_in (Later i) = Ok i
item_in (Boards n) = Err cause.Command

-- n, unless 3; then 11, 12, 1, 4
unfoldable pub head_at : ℕ → ℕ → List ℕ → ℕ → Result ℕ Refusal
head_at limit room bytes start =
    first_or Err ((not (between 1 limit 4096), cause.Picks) ∷ (unreadable true bytes start ++ boards_causes limit room (spelled_at bytes start)))
    (boards_in (spelled_at bytes start))

-- what stands there, unless 11, 12, then 13, 14 or 7
unfoldable pub next : List ℕ → ℕ → ℕ → ℕ → ℕ → List ℕ → Result Item Refusal
next bytes n limit at count links =
    first_or Err (unreadable false bytes at ++ later_causes n limit count links (spelled_at bytes at)) (item_in (spelled_at bytes at))
