-- Warshall's closure, as the code makes it: after k passes a bit says that links lead there over boards below k. `proofs/Closure` has the law:
-- it is `within n most_links`.
use Rattle.std.specs.Prelude.{List, ℕ, zero, suc, ◌<◌, T, get_or}
use Rattle.model.specs.Recording.{bit, link}
use Rattle.lists.specs.Tab.{tab}
use Rattle.links.specs.Tables.{without}
use Rattle.joins.specs.Columns.{column_row}

-- pass k: each row that links to k takes in row k
unfoldable pub pass : ℕ → List ℕ → ℕ → List ℕ
pass n t k = tab (column_row t t (get_or t k 0) k) n

-- passes 0 to k - 1
unfoldable pub passes : ℕ → List ℕ → ℕ → List ℕ
passes n t zero = t
passes n t (suc k) = pass n (passes n t k) k

-- row u with its own bit clear
unfoldable pub clear_row : List ℕ → ℕ → ℕ
clear_row t u = without (get_or t u 0) u

unfoldable pub closed : ℕ → List ℕ → List ℕ
closed n t = tab (clear_row (passes n t n)) n

-- the rows below n link to boards of `into` alone
pub record Into (n : ℕ) (t : List ℕ) (into : ℕ) : Type 0 where
  pub led : (u w : ℕ) → u < n → T (link t u w) → T (bit into w)
