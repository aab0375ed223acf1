-- `links::is_union` meets its contract: the bits gathered are none exactly when each word so far is the same as the union's (`bad_turn_union`).
-- Assumes nothing.
use Rattle.std.proofs.Common.{◌≡◌, eqb, length}
use Rattle.lists.specs.Tab.{every}
use Rattle.links.specs.Tables.{union, row_same}
use Rattle.links.proofs.is_union.Given as goal

abbrev pub invariant-loop-u : goal.invariant-loop-u
invariant-loop-u l = eqb l.bad 0 ≡ every (row_same l.list (union (length l.list) l.left l.right)) l.u
