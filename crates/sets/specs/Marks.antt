-- Sets of boards, as words. A table has n rows of n times, 0 for none.
use Rattle.std.specs.Prelude.{List, ℕ, zero, suc, ◌^◌, get_or}
use Rattle.std.specs.Int.Bits.{bit_and, bit_or}
use Rattle.lists.specs.Tab.{any_of}
use Rattle.links.specs.Tables.{mark_of}
use Rattle.times.specs.Times.{cell}

-- which of the first k times are some
unfoldable pub marks : (ℕ → ℕ) → ℕ → ℕ
marks f zero = 0
marks f (suc k) = bit_or (marks f k) (mark_of (f k) k)

-- which rows hold a time
unfoldable pub some_of : ℕ → List ℕ → ℕ
some_of n t = marks (λ w. any_of (cell n t w) n) n

-- the rows that row u takes in, where f v is its time at v: of the boards it reaches and of u itself, but for rows without a time
unfoldable pub set_of : (ℕ → ℕ) → ℕ → ℕ → ℕ → ℕ
set_of f n some u = bit_and (bit_or (marks f n) (2 ^ u)) some

-- ---- the sets of columns, made row by row

-- set v, with board w where its time at v, f v, is some
unfoldable pub marked_row : List ℕ → (ℕ → ℕ) → ℕ → ℕ → ℕ
marked_row sets f w v = bit_or (get_or sets v 0) (mark_of (f v) w)

-- set u with its own board, but for those that are not in `some`
unfoldable pub own_row : List ℕ → ℕ → ℕ → ℕ
own_row sets some u = bit_and (bit_or (get_or sets u 0) (2 ^ u)) some
