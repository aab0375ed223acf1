-- `sets::some_rows` meets its contract. The invariant is the definition at w; a lent row is `any_lent`. Assumes nothing.
use Rattle.std.proofs.Common.{◌≡◌}
use Rattle.lists.specs.Tab.{any_of}
use Rattle.times.specs.Times.{cell}
use Rattle.sets.specs.Marks.{marks}
use Rattle.sets.proofs.some_rows.Given as goal

abbrev pub invariant-loop-w : goal.invariant-loop-w
invariant-loop-w l = l.set ≡ marks (λ i. any_of (cell l.half.n l.half.words.now i) l.half.n) l.w
