-- `Walk::join` meets its contract, by the test of its branch.
-- Assumes nothing.
use mathlib.Core.Path.{refl, ◌∙◌}
use borrow.Author.Tests.{lt-ltb, le-ltb}
use Rattle.steps.specs.Walk.{joined, joined_area}
use Rattle.steps.proofs.Fit.{charged_none}
use Rattle.steps.proofs.Walk.join.Goals as goal

pub returns-then-b-m : goal.returns-then-b-m
unfolding joined joined_area
returns-then-b-m c =
    simp (lt-ltb _ _ c.if-b-m.true)
    record { there = refl; made = (c.charged-self.ensures, rw (c.kit-kit.ensures.0, c.kit-kit.ensures.1) at c.compose_own.ensures) }

pub returns : goal.returns
unfolding joined joined_area
returns c =
    let m = c.copy_at.ensures in
    simp (le-ltb _ _ c.if-b-m.false) record { there = m.there; made = (m.made.0 ∙ charged_none _, m.made.1) }
