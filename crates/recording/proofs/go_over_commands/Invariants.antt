-- `recording::go_over_commands` meets its contract. The invariant is `Underway`: its laws answer a command that is refused and each arm.
-- Assumes nothing.
use mathlib.Core.List.{[]}
use Prim.Native.Nat.{◌-◌}
use lib.ListN.{length}
use Rattle.recording.specs.Format.{commands}
use Rattle.recording.proofs.Written.{Underway}
use Rattle.recording.proofs.go_over_commands.Given as goal

abbrev pub invariant-loop-at : goal.invariant-loop-at
invariant-loop-at l = let n = length l.initial.links in
    Underway l.bytes n l.limit (commands l.bytes n l.limit (length l.bytes) l.start [] l.initial.links) l.writes l.initial.out l.at l.picks l.links l.out

abbrev pub decreases-loop-at : goal.decreases-loop-at
decreases-loop-at l = length l.bytes - l.at
