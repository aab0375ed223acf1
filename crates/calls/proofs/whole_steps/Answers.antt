-- `calls::whole_steps` meets its contract. The invariant: the state is that of k steps, the words of the other picks are left, and `AfterPicks`.
-- Assumes nothing.
use mathlib.Core.Path.{refl, sym, ap, ◌∙◌}
use Prim.Native.Nat.{ℕ, ◌+◌, ◌-◌}
use Rattle.place.specs.Places.{picks_taken}
use Rattle.steps.proofs.Closes.{takes_enters}
use Rattle.calls.proofs.Loops.{along_finished, bared_start, bared_turn, bared_takes, bared_next, bared_end}
use Rattle.calls.proofs.whole_steps.Goals as goal

pub loop-pick-init : goal.loop-pick-init
loop-pick-init c = rw c.into_iter-pick-iterator.ensures.into_iter_gives (
  c.picks-pick-items.ensures.size ∙ c.requires.1,
  refl,
  (0, rw (c.picks-pick-items.ensures.rest, c.requires.1) (bared_start c.requires.0)),
)

pub returns-then-is_finished : goal.returns-then-is_finished
returns-then-is_finished c =
    let i = c.loop-pick.invariant in
    let v = i.2.1 in
    let r = along_finished v.after v.stepped v.after.low (sym c.is_finished.ensures ∙ c.if-is_finished.true)
    (c.picks_taken-walk.ensures ∙ ap (λ (x : ℕ). picks_taken c.loop-pick.walk.place (c.args.lent.now.m - x)) v.after.taken) in
    (record { there = i.1; made = r.0 }, r.1)

pub step-requires : goal.step-requires
step-requires c =
    let i = c.loop-pick.invariant in
    let v = i.2.1 in
    let s = c.in-Some.ensures.steps in
    let t = bared_turn v (rw c.requires.1 at c.args.lent.now.some) s.1.0 (s.1.1 ∙ i.0) in
    takes_enters _ _ refl (bared_takes v t)

pub loop-pick-preserved : goal.loop-pick-preserved
loop-pick-preserved c =
    let i = c.loop-pick.invariant in
    let v = i.2.1 in
    let s = c.in-Some.ensures.steps in
    let t = bared_turn v (rw c.requires.1 at c.args.lent.now.some) s.1.0 (s.1.1 ∙ i.0) in
    (s.0 ∙ i.0, c.step.ensures.there ∙ i.1, (i.2.0 + 1, bared_next v t c.step.ensures.made))

pub returns : goal.returns
returns c =
    let i = c.loop-pick.invariant in
    let r = bared_end i.2.1 (rw i.0 at c.in-None.ensures.steps.1.0) in
    (record { there = i.1; made = r.0 }, r.1)
