-- `checks::is_listed` meets its contract: the bits gathered are none exactly when each word so far is listed (`listed_turn`).
-- Assumes nothing.
use Rattle.std.proofs.Common.{◌≡◌, eqb}
use Rattle.lists.specs.Tab.{every}
use Rattle.checks.specs.Checks.{listed_row}
use Rattle.checks.proofs.is_listed.Given as goal

abbrev pub invariant-loop-u : goal.invariant-loop-u
invariant-loop-u l = eqb l.bad 0 ≡ every (listed_row l.footprint l.words) l.u
