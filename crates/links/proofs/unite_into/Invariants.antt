-- `links::unite_into` meets its contract. The invariant is `Made`; word u is read before it is written.
-- Assumes nothing.
use Rattle.lists.proofs.Tab.{Made}
use Rattle.links.specs.Tables.{either_row}
use Rattle.links.proofs.unite_into.Given as goal

abbrev pub invariant-loop-u : goal.invariant-loop-u
invariant-loop-u l = Made (either_row l.initial.t l.right) l.initial.t l.t l.u
