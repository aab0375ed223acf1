-- `searches::is_full` meets its contract: the loop returns at the first row with a board missing. A row is tested as a whole word (`row-full`).
-- Assumes nothing.
use Rattle.std.proofs.Common.{◌≡◌, true, length}
use Rattle.lists.specs.Tab.{every}
use Rattle.links.specs.Tables.{row_full}
use Rattle.searches.proofs.is_full.Given as goal

abbrev pub invariant-loop-u : goal.invariant-loop-u
invariant-loop-u l = every (row_full (length l.t) l.t) l.u ≡ true
