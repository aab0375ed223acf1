-- `sets::row_marks` meets its contract. The invariant is the definition at v. Assumes nothing.
use Rattle.std.proofs.Common.{◌≡◌, get_or}
use Rattle.sets.specs.Marks.{marks}
use Rattle.sets.proofs.row_marks.Given as goal

abbrev pub invariant-loop-v : goal.invariant-loop-v
invariant-loop-v l = l.set ≡ marks (λ i. get_or l.row i 0) l.v
