-- `joins::join_rows` meets its contract. The invariant is `Made`; word u is read before it is written.
-- Assumes nothing.
use Rattle.lists.proofs.Tab.{Made}
use Rattle.joins.specs.LookUps.{looked_row}
use Rattle.joins.proofs.join_rows.Given as goal

abbrev pub invariant-loop-u : goal.invariant-loop-u
invariant-loop-u l = Made (looked_row l.ts l.initial.t) l.initial.t l.t l.u
