-- `Walk::again` meets its contract: the rise and the test make the step.
-- Assumes nothing.
use Rattle.steps.specs.Walk.{raised, tried, again}
use Rattle.steps.proofs.Grown.{raise_tries, raised_grown}
use Rattle.steps.proofs.Makes.{makes_then}
use Rattle.steps.proofs.Walk.again.Goals as goal

pub try_window-requires : goal.try_window-requires
try_window-requires c = raise_tries _ _ c.args.self.now.able.cap c.requires.0 c.requires.1 c.raise.ensures.made

pub returns : goal.returns
unfolding again
returns c = makes_then raised tried (raised_grown _ _).settings c.raise.ensures c.try_window.ensures
