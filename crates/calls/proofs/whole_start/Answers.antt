-- `calls::whole_start` meets its contract.
-- Assumes nothing.
use mathlib.Core.Path.{sym}
use native.Mathlib.Omega.{arith}
use Rattle.measures.proofs.Words.{size_links}
use Rattle.measures.specs.Kit.{kit}
use Rattle.area.proofs.Stored.{table_put}
use Rattle.calls.proofs.Loops.{start_other, start_footprint}
use Rattle.calls.proofs.whole_start.Goals as goal

pub returns-then-measure-ne2 : goal.returns-then-measure-ne2
returns-then-measure-ne2 c = start_other _ _ _ _ _ c.requires c.if-measure-ne2.true c.open-p.ensures c.zero_part.ensures

pub returns : goal.returns
returns c =
    let two = c.if-measure-ne2.false in
    let size = size_links c.args.measure c.args.lent.now.n (λ x. omega arith) in
    start_footprint _ _ _ _ _ c.requires two c.open-p.ensures c.charged.ensures c.make_footprint-made.ensures
    (table_put (kit c.args.measure c.args.lent.now.n) _ _ c.start-at.ensures.first (sym size) _)
