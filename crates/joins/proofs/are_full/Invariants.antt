-- `joins::are_full` meets its contract: the loop returns at the first row with a board missing. Assumes nothing.
use Rattle.std.proofs.Common.{◌≡◌, true, length}
use Rattle.lists.specs.Tab.{every}
use Rattle.joins.specs.LookUps.{looked_full}
use Rattle.joins.proofs.are_full.Given as goal

abbrev pub invariant-loop-u : goal.invariant-loop-u
invariant-loop-u l = every (looked_full (length l.left) l.ts l.left) l.u ≡ true
