-- The test of a table, and how many are out of time, with each pair of boards looked at once. The contracts of the private functions cite these.
use Rattle.std.specs.Prelude.{ℕ, ◌+◌, Bool, not, ◌&&◌, List, ◌==◌, nat_le}
use Rattle.model.specs.Journey.{val}
use Rattle.lists.specs.Tab.{every, how_many}
use Rattle.times.specs.Times.{in_time, not_in_time}

-- x is a time, and y is `turn` or more after it
unfoldable pub no_later : ℕ → ℕ → ℕ → Bool
no_later turn x y = not (x == 0) && nat_le (x + turn) y

-- u and v are in time from either side
unfoldable pub pair_in_time : ℕ → ℕ → List ℕ → ℕ → ℕ → Bool
pair_in_time n turn t u v = in_time n turn t u v && in_time n turn t v u

-- so is u with each board below it
unfoldable pub below_in_time : ℕ → ℕ → List ℕ → ℕ → Bool
below_in_time n turn t u = every (pair_in_time n turn t u) u

-- 1 where y is not `turn` or more after x
unfoldable pub too_late : ℕ → ℕ → ℕ → ℕ
too_late turn x y = val (not (nat_le (x + turn) y))

-- how many of the two ways round of u and v are out of time
unfoldable pub pair_out_of_time : ℕ → ℕ → List ℕ → ℕ → ℕ → ℕ
pair_out_of_time n turn t u v = val (not_in_time n turn t u v) + val (not_in_time n turn t v u)

-- the same, of u with all of the first k boards: from u, and to u
unfoldable pub below_out_of_time : ℕ → ℕ → List ℕ → ℕ → ℕ → ℕ
below_out_of_time n turn t u k = how_many (not_in_time n turn t u) k + how_many (λ v. not_in_time n turn t v u) k
