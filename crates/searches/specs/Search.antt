-- Searches from board 0, as the code makes them: a word holds the boards found. `proofs/Search` has the laws.
use Rattle.std.specs.Prelude.{Bool, false, true, List, ℕ, zero, suc, get_or}
use Rattle.std.specs.Int.Bits.{bit_and, bit_or}
use Rattle.lists.specs.Tab.{every}
use Rattle.links.specs.Tables.{mark_of, pair_full}

-- s, with each of the first k boards whose row has a board of s
unfoldable pub collect : List ℕ → ℕ → ℕ → ℕ
collect t s zero = s
collect t s (suc k) = bit_or (collect t s k) (mark_of (bit_and (get_or t k 0) s) k)

-- the pair from board 0 to v is marked, or with `back` the pair from v to board 0
abbrev pub side_pair : Bool → List ℕ → ℕ → Bool
side_pair false t v = pair_full t 0 v
side_pair true t v = pair_full t v 0

unfoldable pub side_full : Bool → ℕ → List ℕ → Bool
side_full back n t = every (side_pair back t) n
