-- `area::joined_passes` meets its contract, measure by measure.
-- Assumes nothing.
use mathlib.Core.Path.{◌∙◌}
use Rattle.measures.proofs.Words.{size_links, pass-reach, pass-union}
use Rattle.area.proofs.joined_passes.Goals as goal

pub returns-then-kit-eq3 : goal.returns-then-kit-eq3
returns-then-kit-eq3 c =
    let k = size_links c.args.kit.measure c.args.kit.n c.requires.0 in
    rw (c.table-earlier.ensures.size, k, c.table-earlier.ensures.table, c.table-later.ensures.table) at c.joins_full.ensures
    ∙ pass-reach _ _ _ _ _ _ c.if-kit-eq3.true

pub returns : goal.returns
returns c =
    let k = size_links c.args.kit.measure c.args.kit.n c.requires.0 in
    rw (c.table.ensures.size, k, c.table.ensures.table, c.table-earlier.ensures.table, c.table-later.ensures.table) at c.is_union.ensures
    ∙ pass-union _ _ _ _ _ _ (c.requires.1 c.if-kit-eq3.false)
