-- `joins::with_rows` meets its contract. The invariant is the definition at `k`. Assumes nothing.
use Rattle.std.proofs.Common.{◌≡◌}
use Rattle.links.specs.Tables.{gathered}
use Rattle.joins.proofs.with_rows.Given as goal

abbrev pub invariant-loop-k : goal.invariant-loop-k
invariant-loop-k l = l.all ≡ gathered l.x l.l l.rows l.k
