-- `links::fill_rows` meets its contract. The invariant is `Made`.
-- Assumes nothing.
use Rattle.lists.proofs.Tab.{Made}
use Rattle.links.specs.Tables.{without}
use Rattle.links.proofs.fill_rows.Given as goal

abbrev pub invariant-loop-u : goal.invariant-loop-u
invariant-loop-u l = Made (without l.boards) l.initial.out l.out l.u
