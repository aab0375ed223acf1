-- `joins::tables` meets its contract: the tables before table j are made. Assumes nothing.
use Rattle.std.proofs.Common.{◌≡◌, ℕ, ◌*◌, ◌<◌, [], length, get_or}
use Rattle.joins.specs.LookUps.{unions_of}
use Rattle.joins.proofs.tables.Given as goal

abbrev pub invariant-loop-j : goal.invariant-loop-j
invariant-loop-j l = (length l.table-items ≡ 8) × ((k : ℕ) → k < l.j → get_or l.table-items k [] ≡ unions_of l.rows (4 * k))
