-- `calls::pick`: the step relies on what the verdict let through. Assumes nothing.
use mathlib.Core.Path.{refl}
use Rattle.std.proofs.Common.{rules, ◌≡◌}
use Rattle.verdicts.specs.Verdicts.{pick_verdict}
use Rattle.verdicts.proofs.Verdicts.{pick_sound}
use Rattle.steps.proofs.Closes.{takes_enters}
use Rattle.calls.proofs.Taken.{admitted_able, admitted_takes}
use Rattle.calls.proofs.pick.Goals as goal

pub invariant_of-walk : goal.invariant_of-walk
invariant_of-walk c =
    let e : pick_verdict c.args.p c.args.area.now c.args.words.now ≡ 0 = search rules in
    record { able = admitted_able (pick_sound _ _ _ e) }

pub step-requires : goal.step-requires
step-requires c =
    let e : pick_verdict c.args.p c.args.area.now c.args.words.now ≡ 0 = search rules in
    takes_enters _ _ refl (admitted_takes (pick_sound _ _ _ e))
