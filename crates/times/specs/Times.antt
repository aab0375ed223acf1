-- Tables of times, measure 4: n × n words of earliest arrivals, then n × n words of latest departures, each at word from × n + to; 0 where
-- there is no journey. Each operation is defined on the words as they are found, each half by itself; own entries are written as 0.
use Rattle.std.specs.Prelude.{ℕ, zero, suc, ◌+◌, ◌*◌, Bool, cond, not, ◌&&◌, ◌||◌, List, [], ◌++◌, drop, ◌==◌, nat_le, slice_index}
use Rattle.model.specs.Recording.{link}
use Rattle.lists.specs.Tab.{tab, kept, every, how_many_pairs}

-- ---- n × n words in rows

-- the word of u, v
abbrev pub cell : ℕ → List ℕ → ℕ → ℕ → ℕ
cell n half u v = slice_index half (u * n + v)

-- rows 0 to k - 1 of n words: f u v at u × n + v
unfoldable pub rows : ℕ → (ℕ → ℕ → ℕ) → ℕ → List ℕ
rows n f zero = []
rows n f (suc u) = rows n f u ++ tab (f u) n

-- the words of a table of times: arrivals, then departures
abbrev pub times_words : ℕ → ℕ
times_words n = n * n + n * n

-- the two halves of a table
abbrev pub arr : ℕ → List ℕ → ℕ → ℕ → ℕ
arr n t u v = cell n t u v

abbrev pub dep : ℕ → List ℕ → ℕ → ℕ → ℕ
dep n t u v = cell n (drop (n * n) t) u v

-- ---- times, where 0 is none

-- the earlier of two times
unfoldable pub sooner : ℕ → ℕ → ℕ
sooner x y = cond (x == 0) y (cond (y == 0) x (cond (nat_le x y) x y))

-- the later of two times
unfoldable pub later : ℕ → ℕ → ℕ
later x y = cond (nat_le x y) y x

-- the time y, where x is one
unfoldable pub after : ℕ → ℕ → ℕ
after x y = cond (x == 0) 0 y

-- x, but 0 where u is v
unfoldable pub apart : ℕ → ℕ → ℕ → ℕ
apart u v x = cond (u == v) 0 x

-- ---- composition

module _ (n : ℕ) (s t : List ℕ) where
  -- the earliest arrival from u at v: of the earlier part, of the later part, or of the later part from one of the first k boards w, where
  -- the earlier part leads from u to w
  unfoldable pub arrive_by : ℕ → ℕ → ℕ → ℕ
  arrive_by zero u v = sooner (cell n s u v) (cell n t u v)
  arrive_by (suc k) u v = sooner (arrive_by k u v) (after (cell n s u k) (cell n t k v))

  -- the latest departure from u to v: of either part, or of the earlier part to one of the first k boards w, where the later part leads from
  -- w to v
  unfoldable pub depart_by : ℕ → ℕ → ℕ → ℕ
  depart_by zero u v = later (cell n s u v) (cell n t u v)
  depart_by (suc k) u v = later (depart_by k u v) (after (cell n t k v) (cell n s u k))

  unfoldable pub arrival : ℕ → ℕ → ℕ
  arrival u v = apart u v (arrive_by n u v)

  unfoldable pub departure : ℕ → ℕ → ℕ
  departure u v = apart u v (depart_by n u v)

  -- the halves
  unfoldable pub arrivals : List ℕ
  arrivals = rows n arrival n

  unfoldable pub departures : List ℕ
  departures = rows n departure n

unfoldable pub compose_times : ℕ → List ℕ → List ℕ → List ℕ
compose_times n s t = arrivals n s t ++ departures n (drop (n * n) s) (drop (n * n) t)

-- ---- pick i's own table, where w marks the pairs joined within it: i for each of them, in both halves

unfoldable pub own_time : ℕ → List ℕ → ℕ → ℕ → ℕ
own_time i w u v = kept (link w u v) i

unfoldable pub own_times : ℕ → ℕ → List ℕ → List ℕ
own_times n i w = rows n (own_time i w) n ++ rows n (own_time i w) n

-- ---- test

-- both journeys exist, and the departure of v to u is `turn` picks or more after the arrival of u to v
unfoldable pub in_time : ℕ → ℕ → List ℕ → ℕ → ℕ → Bool
in_time n turn t u v = u == v || (not (arr n t u v == 0) && (not (arr n t v u == 0) && nat_le (arr n t u v + turn) (dep n t v u)))

unfoldable pub row_in_time : ℕ → ℕ → List ℕ → ℕ → Bool
row_in_time n turn t u = every (in_time n turn t u) n

unfoldable pub all_in_time : ℕ → ℕ → List ℕ → Bool
all_in_time n turn t = every (row_in_time n turn t) n

-- ---- how many conditions are unmet (request A3 of document 02)

-- u and v are different boards, and not in time
unfoldable pub not_in_time : ℕ → ℕ → List ℕ → ℕ → ℕ → Bool
not_in_time n turn t u v = not (in_time n turn t u v)

-- the ordered pairs of different boards that are not in time
unfoldable pub out_of_time : ℕ → ℕ → List ℕ → ℕ
out_of_time n turn t = how_many_pairs (not_in_time n turn t) n n
