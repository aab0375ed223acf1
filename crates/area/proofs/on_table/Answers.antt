-- `area::on_table` meets its contract: what is lent is the table of the part.
-- Assumes nothing.
use mathlib.Core.Path.{sym, ◌∙◌}
use Rattle.area.proofs.Stored.{table_lent, table_put}
use Rattle.area.proofs.Lent.{lent_words}
use Rattle.area.proofs.on_table.Goals as goal

pub returns : goal.returns
returns g c =
    let p = c.start-at.ensures.first in
    let e = c.size-k.ensures.words in
    let long = lent_words _ _ c.args.area.now (rw (sym e) at c.start-at.ensures.table) ∙ e in
    (_, _, c.f.ensures, table_lent _ _ _ p e, long, table_put _ _ _ p e _)
