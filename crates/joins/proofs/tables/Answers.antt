-- `joins::tables` meets its contract: the tables before table j are made. Assumes nothing.
use Rattle.std.proofs.Common.{rules}
use Rattle.joins.proofs.LookUps.{tables_by}
use Rattle.joins.proofs.tables.Goals as goal

pub returns : goal.returns
returns c = tables_by _ _ 8 c.loop-j.invariant.0 (search rules)
