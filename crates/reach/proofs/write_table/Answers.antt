-- `reach::write_table` meets its contract. The invariant is the table of the first picks, and the words of the others are left.
-- Assumes nothing.
use mathlib.Core.Path.{sym, ◌∙◌}
use Prim.Native.Nat.{◌+◌}
use Rattle.reach.proofs.Picks.{reached_first, reached_turn, reached_all}
use Rattle.reach.proofs.write_table.Goals as goal

pub loop-pick-init : goal.loop-pick-init
loop-pick-init c =
    let s = c.in-Some.ensures.steps in
    let l = c.args.lent.now in
    rw c.into_iter-pick-iterator.ensures.into_iter_gives (
      s.0 ∙ c.picks-picks.ensures.size,
      c.close_over.auto.out ∙ sym c.requires.1,
      (1, reached_first _ l.room l.some c.picks-picks.ensures.rest s.1.0 (s.1.1 ∙ c.picks-picks.ensures.size) c.close_over.ensures),
    )

pub loop-pick-preserved : goal.loop-pick-preserved
loop-pick-preserved c =
    let i = c.loop-pick.invariant in
    let s = c.in-Some-pick.ensures.steps in (
      s.0 ∙ i.0,
      c.add_pick.auto.out ∙ i.1,
      (i.2.0 + 1, reached_turn _ c.args.lent.now.room c.args.lent.now.some i.2.1 s.1.0 (s.1.1 ∙ i.0) c.add_pick.ensures),
    )

pub returns : goal.returns
returns c =
    let i = c.loop-pick.invariant in reached_all c.args.lent.now.room i.2.1 (rw i.0 at c.in-None.ensures.steps.1.0)
