-- `File::write` meets its contract: 42 and n, the picks, and the 45, one behind the other.
-- Assumes nothing.
use mathlib.Core.Path.{◌≡◌}
use Prim.Native.Nat.{ℕ}
use Rattle.saving.specs.File.{acts_at}
use Rattle.saving.specs.Changes.{picks_of}
use Rattle.saving.proofs.Lends.{Passing}
use Rattle.saving.proofs.Put.{Wrote}
use Rattle.saving.proofs.File.write.Given as goal

abbrev pub invariant-loop-pick : goal.invariant-loop-pick
invariant-loop-pick l = (k : ℕ) × record {
  at : Passing l.self k l.pick-iterator.size l.pick-iterator.rest.now l.was;
  there : l.out.bytes.ghost_name ≡ l.initial.out.bytes.ghost_name;
  wrote : Wrote (acts_at l.self.lent.n (picks_of l.self)) l.self.lent.m l.initial.out.at l.initial.out.bytes.now l.out.bytes.now l.out.at k;
}
