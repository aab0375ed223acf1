-- `Walk::climb` meets its contract. The loop's invariant: the rises that are left from here make the whole climb.
-- Assumes nothing.
use mathlib.Core.Path.{◌≡◌, ◌∙◌}
use Prim.Native.Nat.{◌+◌, ◌-◌}
use native.Mathlib.Omega.{arith}
use Rattle.steps.proofs.Rises.{climb_turn, climb_passed, climb_over}
use Rattle.steps.proofs.Walk.climb.Goals as goal

pub returns-then-self : goal.returns-then-self
returns-then-self c = let i = c.loop.invariant in record { there = i.0; made = climb_passed i.1 c.if-self.true }

pub loop-preserved : goal.loop-preserved
loop-preserved c =
    let i = c.loop.invariant in
    let d = c.again.ensures in
    let m = c.args.self.now.place.window.taken.0 in
    let less : m - (c.loop.counter + 1) ≡ m - c.loop.counter - 1 = omega arith in
    (d.there ∙ i.0, rw less (climb_turn i.1 (omega arith) c.if-self.false d.made))

pub returns : goal.returns
returns c = let i = c.loop.invariant in record { there = i.0; made = climb_over i.1 (omega arith) }
