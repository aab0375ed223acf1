-- The commands of a recording file: 01's table of operand counts, and a command taken apart at a place of the file.
use Rattle.std.specs.Prelude.{Bool, true, false, not, ◌&&◌, ◌||◌, cond, Option, Some, None, Result, Ok, Err, List, [], ◌∷◌, ℕ, ◌+◌, eqb, ltb}
use Rattle.std.specs.Prelude.{length, get_or}
use Rattle.std.specs.Option.{option_map}
use Rattle.std.specs.List.{find}
use Rattle.model.specs.Causes.{RefusalCauses, first_or}
use Rattle.model.specs.declared.Refusal.{Refusal}
use Rattle.model.specs.declared.Refusal.TheVariants as cause
use Rattle.commands.specs.declared.Shape.{Shape}
use Rattle.commands.specs.declared.Command.{Command}
use Rattle.commands.specs.declared.Command.TheVariants.{Boards, Later}
use Rattle.commands.specs.declared.Item.TheVariants.{Link, Pick, End}

-- command byte and operand count
abbrev pub shapes : List Shape
shapes =
    record { byte = 0x42; operands = 1 }
    ∷ record { byte = 0x4F; operands = 2 }
    ∷ record { byte = 0x53; operands = 2 }
    ∷ record { byte = 0x50; operands = 0 }
    ∷ record { byte = 0x45; operands = 0 }
    ∷ []

-- the operand count of the first entry with that byte
unfoldable pub lookup : List Shape → ℕ → Option ℕ
lookup ss b = option_map (λ s. s.operands) (find (λ s. eqb s.byte b) ss)

unfoldable pub arity_of : ℕ → Option ℕ
unfolding lookup
arity_of b = lookup shapes b

-- a known command byte with its operands; 4F opens a link, 53 shuts it
unfoldable pub command_of : ℕ → ℕ → ℕ → Command
command_of b x y =
    cond (eqb b 0x42) (Boards x)
    (cond (eqb b 0x4F) (Later (Link (record { 0 = x }) (record { 0 = y }) true))
    (cond (eqb b 0x53) (Later (Link (record { 0 = x }) (record { 0 = y }) false))
    (cond (eqb b 0x50) (Later Pick) (Later End))))

-- 42 stands first, and only there
abbrev pub misplaced : Bool → ℕ → Bool
misplaced true b = not (eqb b 0x42)
misplaced false b = eqb b 0x42

abbrev pub is_unknown : Option ℕ → Bool
is_unknown (Some k) = false
is_unknown None = true

abbrev pub operands_of : Option ℕ → ℕ
operands_of (Some k) = k
operands_of None = 0

-- 11: a byte is there, and it is unknown or not in its place; 12: the file stops before it or inside its operands
abbrev pub unreadable : Bool → List ℕ → ℕ → RefusalCauses
unreadable first bytes at =
    (ltb at (length bytes) && (misplaced first (get_or bytes at 0) || is_unknown (arity_of (get_or bytes at 0))), cause.Command)
    ∷ (ltb (length bytes) (at + 1 + operands_of (arity_of (get_or bytes at 0))), cause.Stopped)
    ∷ []

-- what the bytes at a place of the file say, where nothing refuses them
abbrev pub spelled_at : List ℕ → ℕ → Command
spelled_at bytes at = command_of (get_or bytes at 0) (get_or bytes (at + 1) 0) (get_or bytes (at + 2) 0)

-- the command at a place of the file, taken apart
unfoldable pub command_at : Bool → List ℕ → ℕ → Result Command Refusal
command_at first bytes at = first_or Err (unreadable first bytes at) (Ok (spelled_at bytes at))

-- ---- the rule of the table

-- how many operands a command has
abbrev pub operands_in : Command → ℕ
operands_in (Boards n) = 1
operands_in (Later (Link a b v)) = 2
operands_in (Later Pick) = 0
operands_in (Later End) = 0

abbrev pub is_arity : Option ℕ → ℕ → Bool
is_arity (Some k) m = eqb k m
is_arity None m = false

-- an entry is found by its byte, and its count is that of the byte's command, whatever the operands
unfoldable pub ruled : ℕ → ℕ → Shape → Bool
ruled x y s = is_arity (arity_of s.byte) s.operands && eqb (operands_in (command_of s.byte x y)) s.operands

abbrev pub every_shape : (Shape → Bool) → List Shape → Bool
every_shape f [] = true
every_shape f (s ∷ ss) = f s && every_shape f ss
