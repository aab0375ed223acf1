-- `File::size` meets its contract: after k picks, their bytes and three.
-- Assumes nothing.
use mathlib.Core.Path.{◌≡◌}
use Prim.Native.Nat.{ℕ, ◌+◌, ◌*◌, ◌≤◌}
use lib.ListN.{length}
use Rattle.saving.specs.File.{each, acts_at}
use Rattle.saving.specs.Puts.{bytes_of}
use Rattle.saving.specs.Changes.{picks_of}
use Rattle.saving.proofs.Lends.{Passing}
use Rattle.saving.proofs.File.size.Given as goal

abbrev pub invariant-loop-pick : goal.invariant-loop-pick
invariant-loop-pick l = (k : ℕ) × record {
  at : Passing l.self k l.pick-iterator.size l.pick-iterator.rest.now l.was;
  sum : l.size ≡ 3 + length (bytes_of (each (acts_at l.self.lent.n (picks_of l.self)) k));
  few : l.size ≤ 3 + 3073 * k;
}
