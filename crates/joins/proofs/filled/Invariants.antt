-- `joins::filled` ends: the count is at most the index, so that it fits. Assumes nothing.
use Rattle.std.proofs.Common.{◌≤◌}
use Rattle.joins.proofs.filled.Given as goal

abbrev pub invariant-loop-row : goal.invariant-loop-row
invariant-loop-row l = l.k ≤ l.row-index
