-- `sets::add_marks` meets its contract. The invariant is `Made`; word v is read before it is written.
-- Assumes nothing.
use lib.ListN.{get_or}
use Rattle.lists.proofs.Tab.{Made}
use Rattle.sets.specs.Marks.{marked_row}
use Rattle.sets.proofs.add_marks.Given as goal

abbrev pub invariant-loop-v : goal.invariant-loop-v
invariant-loop-v l = Made (marked_row l.initial.sets (λ i. get_or l.row i 0) l.b.0) l.initial.sets l.sets l.v
