-- `joins::through` meets its contract: the tables before table j are looked up. Assumes nothing.
use Rattle.std.proofs.Common.{◌≡◌}
use Rattle.joins.specs.LookUps.{looked}
use Rattle.joins.proofs.through.Given as goal

abbrev pub invariant-loop-j : goal.invariant-loop-j
invariant-loop-j l = l.all ≡ looked l.ts l.row l.j
