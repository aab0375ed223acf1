-- `Walk::build_left` meets its contract. The loop's invariant: the ladder stands in parts i to m.
-- Assumes nothing.
use native.Mathlib.Omega.{arith}
use mathlib.Core.Path.{refl, ◌∙◌}
use Rattle.std.proofs.Common.{rules}
use Rattle.steps.proofs.Fit.{ladder_none, ladder_turn}
use Rattle.steps.proofs.Walk.build_left.Goals as goal

pub loop-i-init : goal.loop-i-init
loop-i-init c = (search rules, search rules, record { there = refl; made = (refl, ladder_none _ _ _) })

pub loop-i-preserved : goal.loop-i-preserved
loop-i-preserved c =
    let v = c.loop-i.invariant.2 in
    let k = c.compose_at.ensures in (
      search rules,
      search rules,
      record {
        there = k.there ∙ v.there;
        made = (k.made.0 ∙ v.made.0, ladder_turn _ _ _ c.loop-i.i (omega arith) (omega arith) v.made.1 (rw v.made.0 at k.made.1));
      },
    )
