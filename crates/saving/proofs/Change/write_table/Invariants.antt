-- `Change::write_table` meets its contract. The invariant: the commands of the rows passed are put.
-- Assumes nothing.
use mathlib.Core.Path.{◌≡◌}
use lib.ListN.{length}
use Rattle.saving.specs.File.{row_acts}
use Rattle.saving.proofs.Put.{Wrote}
use Rattle.saving.proofs.Change.write_table.Given as goal

abbrev pub invariant-loop-a : goal.invariant-loop-a
invariant-loop-a l = let n = length l.self.was.now in record {
  there : l.out.bytes.ghost_name ≡ l.initial.out.bytes.ghost_name;
  wrote : Wrote (row_acts l.opens l.self.was.now l.self.is.now n) n l.initial.out.at l.initial.out.bytes.now l.out.bytes.now l.out.at l.a;
}
