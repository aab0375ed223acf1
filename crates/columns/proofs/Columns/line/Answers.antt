-- `Columns::line` meets its contract: each cell is put behind the one before. Assumes nothing.
use Rattle.columns.specs.Text.{line5}
use Rattle.columns.proofs.Appends.{appends_then}
use Rattle.columns.proofs.Columns.line.Goals as goal

pub returns-clause-put : goal.returns-clause-put
unfolding line5
returns-clause-put c =
    appends_then (appends_then (appends_then (appends_then c.cell.ensures.put c.cell-2.ensures.put) c.cell-3.ensures.put) c.cell-4.ensures.put)
    c.cell-5.ensures.put
