-- What the columns of the composition add, and what one pass within a pick adds.
use Rattle.std.specs.Prelude.{List, ℕ, ◌/◌, ◌^◌, get_or, drop}
use Rattle.std.specs.Int.Bits.{bit_or}
use Rattle.model.specs.Recording.{link}
use Rattle.lists.specs.Tab.{kept}
use Rattle.links.specs.Tables.{gathered}

-- word u of `out`, united with `row` where word u of s has bit w: what a pass adds
unfoldable pub column_row : List ℕ → List ℕ → ℕ → ℕ → ℕ → ℕ
column_row out s row w u = bit_or (get_or out u 0) (kept (link s u w) row)

-- word u of `out`, united with each of the m words of t from word w on that word u of s has the bit of
unfoldable pub columns_row : List ℕ → List ℕ → List ℕ → ℕ → ℕ → ℕ → ℕ
columns_row out s t w m u = gathered (get_or out u 0) (get_or s u 0 / 2 ^ w) (drop w t) m
