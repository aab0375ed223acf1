-- `links::unite_picks` meets its contract: the picks before pick k are united. Assumes nothing.
use Rattle.std.proofs.Common.{◌≡◌, ◌+◌, ◌-◌, ◌≤◌, length}
use Rattle.links.specs.Picks.{united_picks}
use Rattle.links.proofs.unite_picks.Given as goal

abbrev pub invariant-loop-k : goal.invariant-loop-k
invariant-loop-k l =
    (l.made ≤ l.m - l.from) × (l.k ≡ l.from + l.made) × (l.n ≡ length l.out)
    × (l.out ≡ united_picks l.n l.initial.out l.words l.from l.made)
