-- `compare_walks::compare_picks` is safe and ends: behind k picks m is k.
-- Assumes nothing.
use Rattle.std.proofs.Common.{◌≡◌, length}
use Rattle.compare_walks.proofs.compare_picks.Given as goal

abbrev pub invariant-loop-k : goal.invariant-loop-k
invariant-loop-k l =
    goal.iterator-loop-k.can_next l.k-iterator × goal.iterator-loop-k.is_finite l.k-iterator × (l.x.m ≡ length l.yielded)
