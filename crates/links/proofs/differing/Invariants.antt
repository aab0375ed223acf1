-- `links::differing` meets its contract: the bits of each word that differ are its links (`differing_turn`), so that the sum is theirs.
-- Assumes nothing.
use Rattle.std.proofs.Common.{◌≡◌}
use Rattle.lists.specs.Tab.{how_many_pairs}
use Rattle.links.specs.Tables.{link_differs}
use Rattle.links.proofs.differing.Given as goal

abbrev pub invariant-loop-u : goal.invariant-loop-u
invariant-loop-u l = l.k ≡ how_many_pairs (link_differs l.left l.right) 32 l.u
