-- `searches::backward` meets its contract. The invariant is the definition at `w`. Assumes nothing.
use Rattle.std.proofs.Common.{◌≡◌}
use Rattle.searches.specs.Search.{collect}
use Rattle.searches.proofs.backward.Given as goal

abbrev pub invariant-loop-w : goal.invariant-loop-w
invariant-loop-w l = l.s ≡ collect l.t l.seen l.w
