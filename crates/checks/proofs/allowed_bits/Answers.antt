-- `checks::allowed_bits` meets its contract: the table's rule is one test that is computed over its 33 entries.
-- Assumes nothing.
-- 2 ^ i - 1 and on: it computes to the source's own array, so the numbers are not written out again
use mathlib.Core.Bool.{Bool}
use mathlib.Core.List.{List, [], ◌∷◌}
use Prim.Native.Nat.{ℕ, zero, suc, ◌+◌, ◌-◌, ◌^◌}
use lib.Dec.{eqb, eqb→eq}
use lib.ListN.{get_or}
use Rattle.checks.specs.Checks.{allowed}
use Rattle.checks.proofs.Table.{at}
use Rattle.std.proofs.Common.{rules}
use Rattle.checks.proofs.allowed_bits.Goals as goal

abbrev ones : ℕ → ℕ → List ℕ
ones zero i = []
ones (suc k) i = (2 ^ i - 1) ∷ ones k (i + 1)

right : ℕ → ℕ → Bool
right k x = eqb x (2 ^ k - 1)

pub returns : goal.returns
unfolding right allowed
returns c = eqb→eq (get_or (ones 33 0) c.args.n 0) (2 ^ c.args.n - 1) (at right (ones 33 0) tt c.args.n (search rules))
