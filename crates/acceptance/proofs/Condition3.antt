-- Condition 3, proved. Assumes nothing.
use Rattle.law.proofs.Condition3Runs.{condition_3_runs}
use Rattle.acceptance.specs.Condition3.{Condition3}

pub condition_3 : Condition3
condition_3 = condition_3_runs
