-- `naive_walk::Walk::held` meets its contract: a pick is taken in each turn, so that none is beyond 4096.
-- Assumes nothing.
use Rattle.std.proofs.Common.{◌≡◌}
use Rattle.naive_walk.proofs.Walk.held.Given as goal

abbrev pub invariant-loop : goal.invariant-loop
invariant-loop l = l.x.m ≡ l.counter
