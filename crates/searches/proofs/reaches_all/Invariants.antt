-- `searches::reaches_all` meets its contract. The invariant is `Gone`: `rest` becomes less with each board whose links are followed.
-- Assumes nothing.
use Rattle.std.proofs.Common.{length}
use Rattle.searches.proofs.Search.{Gone}
use Rattle.searches.proofs.reaches_all.Given as goal

abbrev pub invariant-loop-s : goal.invariant-loop-s
invariant-loop-s l = Gone (length l.t) l.t l.s l.rest

abbrev pub decreases-loop-s : goal.decreases-loop-s
decreases-loop-s l = l.rest
