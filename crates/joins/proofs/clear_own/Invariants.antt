-- `joins::clear_own` meets its contract. The invariant is `Made`; word u is read before it is written.
-- Assumes nothing.
use Rattle.lists.proofs.Tab.{Made}
use Rattle.joins.specs.Warshall.{clear_row}
use Rattle.joins.proofs.clear_own.Given as goal

abbrev pub invariant-loop-u : goal.invariant-loop-u
invariant-loop-u l = Made (clear_row l.initial.t) l.initial.t l.t l.u
