-- `sets::with_own` meets its contract. The invariant is `Made`; word u is read before it is written.
-- Assumes nothing.
use Rattle.lists.proofs.Tab.{Made}
use Rattle.sets.specs.Marks.{own_row}
use Rattle.sets.proofs.with_own.Given as goal

abbrev pub invariant-loop-u : goal.invariant-loop-u
invariant-loop-u l = Made (own_row l.initial.sets l.some) l.initial.sets l.sets l.u
