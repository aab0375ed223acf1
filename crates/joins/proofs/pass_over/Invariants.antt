-- `joins::pass_over` meets its contract. The invariant is `Made`; word u is read before it is written. A row of zero returns at
-- once (`no_column`). Assumes nothing.
use Rattle.lists.proofs.Tab.{Made}
use Rattle.joins.specs.Columns.{column_row}
use Rattle.joins.proofs.pass_over.Given as goal

abbrev pub invariant-loop-word : goal.invariant-loop-word
invariant-loop-word l = Made (column_row l.initial.t l.initial.t l.row l.w) l.initial.t l.t l.word-index
