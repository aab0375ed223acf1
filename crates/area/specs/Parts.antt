-- Parts of a lent area: part i of document 01, of E words, begins at word (i - 1) × E. What is written is one table, into its own part.
use Rattle.std.specs.Prelude.{List, ℕ, ◌-◌, ◌*◌, ◌≤◌, take, drop}
use Rattle.lists.specs.Tab.{zeros, splice}
use Rattle.measures.specs.Kit.{Kit, size_of}

-- ---- what a part stores of a table. A table is the words that compositions and tests speak of; a part stores these words and nothing more. Only what
-- writes or reads a part knows of it: nothing outside of this crate unfolds these three, but for the computed cases of `acceptance`.

-- the words of a part, for a table of k words
unfoldable pub stored_size : ℕ → ℕ
stored_size k = k

-- what a part stores for the table t
unfoldable pub stored : Kit → List ℕ → List ℕ
stored K t = t

-- the table of k words in the words of a part
unfoldable pub table : ℕ → List ℕ → List ℕ
table k w = w

-- E of document 01, of a kit and of a measure
abbrev pub part_size : Kit → ℕ
part_size K = stored_size K.size

abbrev pub width_of : ℕ → ℕ → ℕ
width_of measure n = stored_size (size_of measure n)

-- ---- parts

-- part i lies in an area of `words` words
pub record Has (E words i : ℕ) : Type 0 where
  pub from : 1 ≤ i
  pub upto : i * E ≤ words

-- part i
unfoldable pub part : ℕ → List ℕ → ℕ → List ℕ
part E a i = take E (drop ((i - 1) * E) a)

-- the area with the E words t as its part i
abbrev pub put_part : ℕ → List ℕ → ℕ → List ℕ → List ℕ
put_part E a i t = splice ((i - 1) * E) E t a

-- ---- tables in parts

-- the table in part i
abbrev pub table_at : Kit → List ℕ → ℕ → List ℕ
table_at K a i = table K.size (part (part_size K) a i)

-- the area with the table t in its part i
abbrev pub put_table : Kit → List ℕ → ℕ → List ℕ → List ℕ
put_table K a i t = put_part (part_size K) a i (stored K t)

-- the tables of parts l and r composed into part d
unfoldable pub compose_at : Kit → List ℕ → ℕ → ℕ → ℕ → List ℕ
compose_at K a d l r = put_table K a d (K.join (table_at K a l) (table_at K a r))

-- the table of part l copied to part d
unfoldable pub copy_at : Kit → List ℕ → ℕ → ℕ → List ℕ
copy_at K a d l = put_table K a d (table_at K a l)

-- pick i's own table written to part i
unfoldable pub own_at : Kit → List ℕ → ℕ → List ℕ → List ℕ
own_at K a i w = put_table K a i (K.own i w)

-- part d set to zero
unfoldable pub zero_at : Kit → List ℕ → ℕ → List ℕ
zero_at K a d = put_part (part_size K) a d (zeros (part_size K))

-- the first k words zero
abbrev pub zeroed : ℕ → List ℕ → List ℕ
zeroed k a = splice 0 k (zeros k) a
