-- `Change::write_row` meets its contract. The invariant is `Passed`; the measure is the word of the links still to be written.
-- Assumes nothing.
use mathlib.Core.Path.{◌≡◌}
use lib.ListN.{length}
use Rattle.saving.proofs.Rest.{Passed}
use Rattle.saving.proofs.Change.write_row.Given as goal

abbrev pub invariant-loop-rest : goal.invariant-loop-rest
invariant-loop-rest l = record {
  there : l.out.bytes.ghost_name ≡ l.initial.out.bytes.ghost_name;
  passed : Passed l.opens l.self.was.now l.self.is.now (length l.self.was.now) l.a l.initial.out.at l.initial.out.bytes.now l.out.bytes.now l.out.at l.rest;
}

abbrev pub decreases-loop-rest : goal.decreases-loop-rest
decreases-loop-rest l = l.rest
