-- `joins::add_some` meets its contract. A turn adds what the lent rows add (`lent_columns`). Assumes nothing.
use Rattle.std.proofs.Common.{arith, le_refl, ◌∙◌}
use Rattle.lists.proofs.Tab.{made_turn}
use Rattle.joins.specs.Columns.{columns_row}
use Rattle.joins.proofs.Rows.{lent_columns}
use Rattle.joins.proofs.add_some.Goals as goal

pub loop-u-preserved : goal.loop-u-preserved
unfolding columns_row
loop-u-preserved g c =
    made_turn c.loop-u.invariant (omega (arith, c.loop-u-test.true))
    (c.with_rows.ensures ∙ rw (c.loop-u.invariant.left c.loop-u.u (le_refl _)) (lent_columns _ _ c.args.b.0 g.row.N c.args.right.now c.requires.3))
