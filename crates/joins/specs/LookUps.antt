-- Tables of the unions of four rows each, as the composition looks them up: entry i of a table has the union of those of its rows that i has the
-- bit of. `proofs/LookUps` has the law.
use Rattle.std.specs.Prelude.{Bool, List, [], ◌∷◌, ℕ, zero, suc, ◌+◌, ◌-◌, ◌*◌, ◌/◌, ◌%◌, ◌^◌, eqb, get_or}
use Rattle.std.specs.Int.Bits.{bit_and, bit_or}
use Rattle.model.specs.Recording.{bit}
use Rattle.lists.specs.Tab.{tab, kept}
use Rattle.links.specs.Tables.{without}

-- the union of those of four rows that i has the bit of
unfoldable pub four_of : ℕ → ℕ → ℕ → ℕ → ℕ → ℕ
four_of a b c d i = bit_or (bit_or (bit_or (kept (bit i 0) a) (kept (bit i 1) b)) (kept (bit i 2) c)) (kept (bit i 3) d)

-- the table of rows k to k + 3
unfoldable pub unions_of : List ℕ → ℕ → List ℕ
unions_of rows k = tab (four_of (get_or rows k 0) (get_or rows (k + 1) 0) (get_or rows (k + 2) 0) (get_or rows (k + 3) 0)) 16

-- j tables, from row k on
unfoldable pub tables_from : List ℕ → ℕ → ℕ → List (List ℕ)
tables_from rows k zero = []
tables_from rows k (suc j) = unions_of rows k ∷ tables_from rows (k + 4) j

-- `row`, united with what the first j tables have for it: table i for its bits from 4 i on
unfoldable pub looked : List (List ℕ) → ℕ → ℕ → ℕ
looked ts row zero = row
looked ts row (suc j) = bit_or (looked ts row j) (get_or (get_or ts j []) (row / 2 ^ (4 * j) % 16) 0)

-- the word x of board u with its own bit, united with what the eight tables have for it
unfoldable pub looked_word : List (List ℕ) → ℕ → ℕ → ℕ
looked_word ts x u = looked ts (bit_or x (2 ^ u)) 8

-- row u of the composition
unfoldable pub looked_row : List (List ℕ) → List ℕ → ℕ → ℕ
looked_row ts s u = without (looked_word ts (get_or s u 0) u) u

-- row u of the composition has the bits of all boards, its own counted in
unfoldable pub looked_full : ℕ → List (List ℕ) → List ℕ → ℕ → Bool
looked_full n ts s u = eqb (bit_and (looked_word ts (get_or s u 0) u) (2 ^ n - 1)) (2 ^ n - 1)
