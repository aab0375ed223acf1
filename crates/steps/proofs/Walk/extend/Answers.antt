-- `Walk::extend` meets its contract, by the test of its branch.
-- Assumes nothing.
use borrow.Author.Tests.{lt-ltb, le-ltb}
use Rattle.steps.specs.Walk.{extended, extended_by}
use Rattle.steps.proofs.Walk.extend.Goals as goal

pub returns-then-b-s : goal.returns-then-b-s
unfolding extended extended_by
returns-then-b-s c = simp (lt-ltb _ _ c.if-b-s.true) c.rebuild.ensures

pub returns : goal.returns
unfolding extended extended_by
returns c = simp (le-ltb _ _ c.if-b-s.false) c.join.ensures
