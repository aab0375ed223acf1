-- `checks::is_clean` meets its contract: the bits gathered are none exactly when each word so far is clean (`clean_turn`).
-- Assumes nothing.
use Rattle.std.proofs.Common.{◌≡◌, eqb, length}
use Rattle.lists.specs.Tab.{every}
use Rattle.checks.specs.Checks.{clean_row}
use Rattle.checks.proofs.is_clean.Given as goal

abbrev pub invariant-loop-u : goal.invariant-loop-u
invariant-loop-u l = eqb l.bad 0 ≡ every (clean_row (length l.words) l.words) l.u
