-- `sets::write` meets its contract. The invariant is `Made`; a lent row is `set_lent`.
-- Assumes nothing.
use Rattle.lists.proofs.Tab.{Made}
use Rattle.times.specs.Times.{cell}
use Rattle.sets.specs.Marks.{set_of}
use Rattle.sets.proofs.write.Given as goal

abbrev pub invariant-loop-u : goal.invariant-loop-u
invariant-loop-u l = Made (λ i. set_of (cell l.half.n l.half.words.now i) l.half.n l.some i) l.initial.sets l.sets l.u
