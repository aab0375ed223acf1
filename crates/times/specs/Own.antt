-- A row of a pick's own table. The contracts of the private functions cite these.
use Rattle.std.specs.Prelude.{ℕ, ◌^◌}
use Rattle.model.specs.Recording.{bit}
use Rattle.lists.specs.Tab.{kept}

-- the word with the bit of board v alone
unfoldable pub board_bit : ℕ → ℕ
board_bit v = 2 ^ v

-- pick i, where the word has the bit of board v
unfoldable pub own_word : ℕ → ℕ → ℕ → ℕ
own_word i word v = kept (bit word v) i
