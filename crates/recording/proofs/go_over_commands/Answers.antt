-- `recording::go_over_commands` meets its contract. The invariant is `Underway`: its laws answer a command that is refused and each arm.
-- In the answers `c.in-Link` and the like are the arms of the `match`, `c.in_ok-from` and `c.in_err-from` those of the `?`, and `c.loop-at` the loop's head.
-- Assumes nothing.
use mathlib.Core.Path.{ap, ◌∙◌}
use native.Mathlib.Omega.{arith}
use Rattle.std.specs.Prelude.{Ok}
use Rattle.std.proofs.lemmas.Result.{err_from_is_err_and}
use Rattle.recording.proofs.Written.{has_room, underway_start, underway_able, underway_within, underway_link, underway_pick}
use Rattle.recording.proofs.Written.{underway_end, underway_refused, underway_stop}
use Rattle.recording.proofs.go_over_commands.Goals as goal

pub loop-at-init : goal.loop-at-init
loop-at-init c = underway_start _ _ _ _ _ _ _

pub returns-in_err-from : goal.returns-in_err-from
returns-in_err-from c = let p = err_from_is_err_and c.from_residual.result c.from_residual.ensures.1 in
    rw (p.1, p.2) (underway_refused c.loop-at.invariant c.next.ensures c.loop-at.auto.links c.loop-at-test.true c.requires.2 c.in_err-from.was)

pub flip-requires : goal.flip-requires
flip-requires c = underway_able c.loop-at.invariant c.next.ensures c.loop-at.auto.links c.loop-at-test.true (c.in_ok-from.was ∙ ap Ok c.in-Link.is) c.requires.0

pub loop-at-preserved-in-Link : goal.loop-at-preserved-in-Link
loop-at-preserved-in-Link c = rw c.flip.ensures
    (underway_link c.loop-at.invariant c.next.ensures c.loop-at.auto.links c.loop-at-test.true (c.in_ok-from.was ∙ ap Ok c.in-Link.is))

pub put_pick-requires : goal.put_pick-requires
put_pick-requires c =
    let h = underway_within c.loop-at.invariant c.next.ensures c.loop-at.auto.links c.loop-at-test.true (c.in_ok-from.was ∙ ap Ok c.in-Pick.is) in
    rw (c.loop-at.auto.links, c.loop-at.auto.out) (has_room _ h c.requires.1)

pub overflow_add-picks : goal.overflow_add-picks
overflow_add-picks c =
    let h = underway_within c.loop-at.invariant c.next.ensures c.loop-at.auto.links c.loop-at-test.true (c.in_ok-from.was ∙ ap Ok c.in-Pick.is) in
    omega (arith, c.ranges.limit)

pub loop-at-preserved : goal.loop-at-preserved
loop-at-preserved c = rw c.put_pick.ensures
    (underway_pick c.loop-at.invariant c.next.ensures c.loop-at.auto.links c.loop-at-test.true (c.in_ok-from.was ∙ ap Ok c.in-Pick.is))

pub returns-in-End : goal.returns-in-End
returns-in-End c = underway_end c.loop-at.invariant c.next.ensures c.loop-at.auto.links c.loop-at-test.true (c.in_ok-from.was ∙ ap Ok c.in-End.is)

pub returns : goal.returns
returns c = underway_stop c.loop-at.invariant c.requires.2 c.loop-at-test.false
