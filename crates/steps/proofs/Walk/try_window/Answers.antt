-- `Walk::try_window` meets its contract. What `window` leaves is fit for the test.
-- Assumes nothing.
use native.Mathlib.Omega.{arith}
use Rattle.steps.proofs.Grown.{grown_fit, windowed_grown}
use Rattle.steps.proofs.Makes.{makes_then}
use Rattle.steps.specs.Walk.{tried, judged, windowed}
use Rattle.steps.proofs.Walk.try_window.Goals as goal

pub judge-requires : goal.judge-requires
judge-requires c =
    let i = c.requires.inside in
    grown_fit c.window.ensures.made.0 (windowed_grown _ _) (omega arith) (omega arith) (omega arith) c.requires

pub returns : goal.returns
unfolding tried
returns c = makes_then windowed judged (windowed_grown _ _).settings c.window.ensures c.judge.ensures
