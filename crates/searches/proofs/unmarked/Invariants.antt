-- `searches::unmarked` meets its contract: the bits that a row lacks are its pairs that are not marked (`row_unmarked`).
-- Assumes nothing.
use Rattle.std.proofs.Common.{◌≡◌, length}
use Rattle.lists.specs.Tab.{how_many_pairs}
use Rattle.links.specs.Tables.{pair_unmarked}
use Rattle.searches.proofs.unmarked.Given as goal

abbrev pub invariant-loop-u : goal.invariant-loop-u
invariant-loop-u l = l.k ≡ how_many_pairs (pair_unmarked l.t) (length l.t) l.u
