-- `inputs::read_full` stays within buf: what was read is no more than it holds. Each read fills some of what is left.
-- Assumes nothing.
use Rattle.std.proofs.Common.{◌≤◌, ◌-◌, length}
use Rattle.inputs.proofs.read_full.Given as goal

abbrev pub invariant-loop-n : goal.invariant-loop-n
invariant-loop-n g l = l.done ≤ length l.buf

abbrev pub decreases-loop-n : goal.decreases-loop-n
decreases-loop-n g l = length l.buf - l.done
