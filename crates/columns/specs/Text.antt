-- Numbers and dashes as text, in columns.
use Rattle.std.specs.Prelude.{cond, List, [], ◌∷◌, ◌++◌, ◌≡◌, ℕ, zero, suc, ◌+◌, ◌/◌, ◌%◌, ltb, length}
use Rattle.lists.specs.Tab.{splice}
use Rattle.columns.specs.declared.Cell.{Cell}
use Rattle.columns.specs.declared.Cell.TheVariants.{Number, Dash, File}

-- the decimal digits of x, in at most f + 1 places
unfoldable pub decimal : ℕ → ℕ → List ℕ
decimal zero x = (48 + x) ∷ []
decimal (suc f) x = cond (ltb x 10) ((48 + x) ∷ []) (decimal f (x / 10) ++ ((48 + x % 10) ∷ []))

-- a number has no more places than its value
unfoldable pub decimal_of : ℕ → List ℕ
decimal_of x = decimal x x

-- a dash is byte 45; `file` in its four letters
abbrev pub cell_text : Cell → List ℕ
cell_text (Number x) = decimal_of x
cell_text Dash = 45 ∷ []
cell_text File = 102 ∷ 105 ∷ 108 ∷ 101 ∷ []

-- five cells with a blank between, and a line end
unfoldable pub line5 : Cell → Cell → Cell → Cell → Cell → List ℕ
line5 a b c d e =
    ((((cell_text a ++ (32 ∷ []))
    ++ (cell_text b ++ (32 ∷ [])))
    ++ (cell_text c ++ (32 ∷ [])))
    ++ (cell_text d ++ (32 ∷ [])))
    ++ (cell_text e ++ (10 ∷ []))

-- after xs is put at a place: the place behind it, and the buffer
pub record Put (buf : List ℕ) (at : ℕ) (xs : List ℕ) (next : ℕ) (left : List ℕ) : Type 0 where
  pub behind : next ≡ at + length xs
  pub bytes : left ≡ splice at (length xs) xs buf
