-- The composition of one half of two tables of times, as it is defined and by folds over sets of boards. `late` is for departures, where the
-- later time is the better one; for arrivals it is the earlier one.
use Rattle.std.specs.Prelude.{◌≡◌, ℕ, zero, suc, ◌+◌, ◌-◌, ◌*◌, ◌^◌, ◌<◌, ◌≤◌, Bool, true, false, List, length, take, drop, slice_index, slice_index_or}
use Rattle.model.specs.Recording.{bit}
use Rattle.lists.specs.Tab.{kept}
use Rattle.times.specs.Times.{cell, sooner, later, after, apart}
use Rattle.sets.specs.Marks.{some_of, set_of}

-- op of the words at v
abbrev pub each : (ℕ → ℕ → ℕ) → List ℕ → List ℕ → ℕ → ℕ
each op xs ys v = op (slice_index xs v) (slice_index ys v)

-- row u of n words, as it is lent
abbrev pub row_at : ℕ → List ℕ → ℕ → List ℕ
row_at n t u = take (u * n + n - u * n) (drop (u * n) t)

-- the better of two times, 0 for none
unfoldable pub better : Bool → ℕ → ℕ → ℕ
better true x y = later x y
better false x y = sooner x y

-- the same, where y is to be taken in
abbrev pub better_if : Bool → Bool → ℕ → ℕ → ℕ
better_if late on x y = better late x (kept on y)

-- ---- the definition: of the row itself, of the other table's row, or of the other table's row of one of the first k boards that is reached

module _ (late : Bool) (n : ℕ) (s t : List ℕ) where
  unfoldable pub cross_by : ℕ → ℕ → ℕ → ℕ
  cross_by zero u v = better late (cell n s u v) (cell n t u v)
  cross_by (suc k) u v = better late (cross_by k u v) (after (cell n s u k) (cell n t k v))

  unfoldable pub crossed : ℕ → ℕ → ℕ
  crossed u v = apart u v (cross_by n u v)

-- ---- folds

-- the best time at v in those of the first k rows that are in the set
unfoldable pub gather : Bool → ℕ → List ℕ → ℕ → ℕ → ℕ → ℕ
gather late n t set zero v = 0
gather late n t set (suc k) v = better_if late (bit set k) (gather late n t set k v) (cell n t k v)

-- the words of a row, with the best times of the rows that are in the set
unfoldable pub with_fold : Bool → ℕ → List ℕ → ℕ → List ℕ → ℕ → ℕ
with_fold late n t set row v = better late (slice_index row v) (gather late n t set n v)

-- the fold of row u
abbrev pub fold_of : Bool → ℕ → List ℕ → List ℕ → ℕ → ℕ → ℕ
fold_of late n t sets u v = gather late n t (slice_index sets u) n v

-- a row with its fold
abbrev pub joined_row : Bool → (ℕ → ℕ) → (ℕ → ℕ) → ℕ → ℕ → ℕ
joined_row late f g u v = apart u v (better late (f v) (g v))

-- ---- departures

-- rows and columns exchanged
abbrev pub transposed : ℕ → List ℕ → ℕ → ℕ → ℕ
transposed n half u v = cell n half v u

-- the set of column u of t, where far is the other table, transposed
abbrev pub column_set : ℕ → List ℕ → List ℕ → ℕ → ℕ
column_set n t far u = set_of (transposed n t u) n (some_of n far) u

-- ---- what the loops rely on

-- sets of boards below n
pub record Small (n : ℕ) (sets : List ℕ) : Type 0 where
  pub small : (u : ℕ) → u < n → slice_index sets u < 2 ^ n

-- what the fold of row u relies on: the folds below it are made
pub record Shared (late : Bool) (n : ℕ) (t sets : List ℕ) (u : ℕ) (folds : List ℕ) : Type 0 where
  pub few : n ≤ 32
  pub below : u < n
  pub words : n ≤ length sets
  pub table : n * n ≤ length t
  pub room : n * n ≤ length folds
  pub small : slice_index_or sets u 0 < 2 ^ n
  pub made : (k v : ℕ) → k < u → v < n → cell n folds k v ≡ fold_of late n t sets k v
