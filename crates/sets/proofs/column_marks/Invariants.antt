-- `sets::column_marks` meets its contract. The invariant is the definition at w; a turn is `columns_next`. Assumes nothing.
use Rattle.std.proofs.Common.{◌≡◌}
use Rattle.lists.specs.Tab.{tab}
use Rattle.times.specs.Times.{cell}
use Rattle.sets.specs.Marks.{marks}
use Rattle.sets.proofs.column_marks.Given as goal

abbrev pub invariant-loop-w : goal.invariant-loop-w
invariant-loop-w l = l.sets ≡ tab (λ u. marks (λ i. cell l.half.n l.half.words.now i u) l.w) l.half.n
