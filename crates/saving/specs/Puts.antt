-- What the functions that write promise.
use Rattle.std.specs.Prelude.{◌≡◌, Bool, List, [], ◌∷◌, ◌++◌, ℕ, ◌+◌, length}
use Rattle.model.specs.Recording.{bit}
use Rattle.lists.specs.Tab.{splice}
use Rattle.recording.specs.Grammar.{Act, spell}
use Rattle.saving.specs.File.{becomes}

-- the bytes of commands, one after the other
unfoldable pub bytes_of : List Act → List ℕ
bytes_of [] = []
bytes_of (x ∷ xs) = spell x ++ bytes_of xs

-- the bytes of the commands stand from `at` on, `behind` is the place behind them, and the other bytes are as they were
pub record Puts (out after : List ℕ) (at behind : ℕ) (acts : List Act) : Type 0 where
  pub ends : behind ≡ at + length (bytes_of acts)
  pub made : after ≡ splice at (length (bytes_of acts)) (bytes_of acts) out

-- the links of a word that was so, and is so now, that open (true) or shut (false)
abbrev pub Changed : Bool → ℕ → ℕ → ℕ → Type 0
Changed x was is r = (b : ℕ) → bit r b ≡ becomes x (bit was b) (bit is b)
