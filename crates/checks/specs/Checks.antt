-- What a pick or a footprint may hold.
use Rattle.std.specs.Prelude.{ℕ, ◌-◌, ◌^◌, Bool, ◌&&◌, not, List, eqb, leb, get_or}
use Rattle.std.specs.Int.Bits.{bit_or}
use Rattle.model.specs.Recording.{link}
use Rattle.lists.specs.Tab.{tab, every}
use Rattle.links.specs.Tables.{without}

-- the allowed bits over n boards: those below n
unfoldable pub allowed : ℕ → ℕ
allowed n = 2 ^ n - 1

-- word u has no bit of board n or above, and not its own
unfoldable pub clean_row : ℕ → List ℕ → ℕ → Bool
clean_row n w u = leb (get_or w u 0) (allowed n) && not (link w u u)

-- none of the n words has a forbidden bit
unfoldable pub clean : ℕ → List ℕ → Bool
clean n w = every (clean_row n w) n

-- word u has no link that the footprint has not
unfoldable pub listed_row : List ℕ → List ℕ → ℕ → Bool
listed_row footprint w u = eqb (bit_or (get_or w u 0) (get_or footprint u 0)) (get_or footprint u 0)

unfoldable pub listed : ℕ → List ℕ → List ℕ → Bool
listed n footprint w = every (listed_row footprint w) n

-- the pick with all links open: each row has the allowed bits, but for its own
unfoldable pub all_open : ℕ → List ℕ
all_open n = tab (without (allowed n)) n
