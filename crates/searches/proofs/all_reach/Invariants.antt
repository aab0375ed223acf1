-- `searches::all_reach` meets its contract. The invariant is `Seen`; a turn that finds no more ends it (`seen_stays`).
-- Assumes nothing.
use Rattle.std.proofs.Common.{true, length}
use Rattle.searches.proofs.Search.{Seen}
use Rattle.searches.proofs.all_reach.Given as goal

abbrev pub invariant-loop-turn : goal.invariant-loop-turn
invariant-loop-turn l = Seen true (length l.t) l.t l.s l._turn
