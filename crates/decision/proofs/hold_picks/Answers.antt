-- `decision::hold_picks` meets its contract. The invariant: the state is that of j picks, the words of the others are left, `AfterPicks`, and where the
-- window begins. Assumes nothing.
use mathlib.Core.Path.{refl, ◌∙◌}
use Prim.Native.Nat.{◌+◌}
use Rattle.decision.proofs.Held.{held_failed, holding_start, holding_turn, holding_enters, holding_next, holding_end}
use Rattle.decision.proofs.hold_picks.Goals as goal

pub loop-pick-init : goal.loop-pick-init
loop-pick-init c = rw c.into_iter-pick-iterator.ensures.into_iter_gives (
  c.picks-pick-items.ensures.size ∙ c.requires.2,
  refl,
  (0, rw (c.picks-pick-items.ensures.rest, c.requires.2) (holding_start c.args.k c.requires.0)),
)

pub returns-then-walk : goal.returns-then-walk
returns-then-walk c = let i = c.loop-pick.invariant in let v = i.2.1 in (i.1, held_failed _ v.after v.stepped c.if-walk.true)

pub step-requires : goal.step-requires
step-requires c =
    let i = c.loop-pick.invariant in
    let v = i.2.1 in
    let s = c.in-Some.ensures.steps in
    let t = holding_turn c.requires.1 v (rw c.requires.2 at c.args.lent.now.some) s.1.0 (s.1.1 ∙ i.0) in
    holding_enters c.requires.1 v t

pub loop-pick-preserved : goal.loop-pick-preserved
loop-pick-preserved c =
    let i = c.loop-pick.invariant in
    let v = i.2.1 in
    let s = c.in-Some.ensures.steps in
    let d = c.step.ensures in
    let t = holding_turn c.requires.1 v (rw c.requires.2 at c.args.lent.now.some) s.1.0 (s.1.1 ∙ i.0) in
    (s.0 ∙ i.0, d.there ∙ i.1, (i.2.0 + 1, holding_next c.requires.1 v t c.if-walk.false d.made))

pub returns : goal.returns
returns c = let i = c.loop-pick.invariant in (i.1, holding_end c.requires.1 i.2.1 (rw i.0 at c.in-None.ensures.steps.1.0))
