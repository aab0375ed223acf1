-- `joins::add_some` meets its contract. The invariant is `Made`; word u is read before it is written. Rows of zero return at once (`no_columns`).
-- Assumes nothing.
use Rattle.lists.proofs.Tab.{Made}
use Rattle.joins.specs.Columns.{columns_row}
use Rattle.joins.proofs.add_some.Given as goal

abbrev pub invariant-loop-u : goal.invariant-loop-u
invariant-loop-u g l = Made (columns_row l.initial.out l.left l.right l.w g.row.N) l.initial.out l.out l.u
