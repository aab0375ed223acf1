-- `Change::write_table` meets its contract. The invariant: the commands of the rows passed are put.
-- Assumes nothing.
use mathlib.Core.Path.{refl, ◌∙◌}
use Rattle.saving.specs.File.{table_acts}
use Rattle.saving.proofs.Put.{wrote_start, wrote_room, wrote_turn, wrote_all}
use Rattle.saving.proofs.Change.write_table.Goals as goal

pub loop-a-init : goal.loop-a-init
unfolding table_acts
loop-a-init c = record { there = refl; wrote = wrote_start c.requires }

pub write_row-requires-clause-room : goal.write_row-requires-clause-room
write_row-requires-clause-room c = wrote_room c.loop-a.invariant.wrote c.loop-a-test.true

pub loop-a-preserved : goal.loop-a-preserved
loop-a-preserved c = let i = c.loop-a.invariant in let e = c.write_row.ensures in
    record { there = e.there ∙ i.there; wrote = wrote_turn i.wrote c.loop-a-test.true e.made }

pub returns : goal.returns
unfolding table_acts
returns c = let i = c.loop-a.invariant in record { there = i.there; made = wrote_all i.wrote c.loop-a-test.false }
