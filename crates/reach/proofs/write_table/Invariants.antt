-- `reach::write_table` meets its contract. The invariant is the table of the first picks, and the words of the others are left.
-- Assumes nothing.
use mathlib.Core.Path.{◌≡◌}
use Prim.Native.Nat.{ℕ}
use lib.ListN.{length}
use Rattle.measures.specs.Kit.{hops01}
use Rattle.reach.proofs.Picks.{Reached}
use Rattle.reach.proofs.write_table.Given as goal

abbrev pub invariant-loop-pick : goal.invariant-loop-pick
invariant-loop-pick l =
    (l.pick-iterator.size ≡ l.lent.n) × (length l.out ≡ l.lent.n)
    × ((k : ℕ) × Reached l.lent.n hops01 l.lent.m l.lent.words.now k l.pick-iterator.rest.now l.out)
