-- `Walk::raise` meets its contract, by the test of its branch.
-- Assumes nothing.
use mathlib.Core.Path.{refl}
use borrow.Author.Tests.{lt-ltb, le-ltb}
use Rattle.place.specs.Places.{start_moved}
use Rattle.steps.specs.Walk.{raised, raised_by, rebuilt}
use Rattle.steps.proofs.Fit.{fit_at, moved_fit, does_at}
use Rattle.steps.proofs.Walk.raise.Goals as goal

pub rebuild-requires : goal.rebuild-requires
rebuild-requires c = fit_at c.start_moved-self.ensures (moved_fit _ c.requires.0 c.requires.1)

pub returns-then-b-s : goal.returns-then-b-s
unfolding raised raised_by start_moved
returns-then-b-s c =
    let r = c.rebuild.ensures in
    simp (lt-ltb _ _ c.if-b-s.true) record { there = r.there; made = does_at rebuilt c.start_moved-self.ensures refl r.made }

pub returns : goal.returns
unfolding raised raised_by start_moved
returns c = simp (le-ltb _ _ c.if-b-s.false) record { there = refl; made = (c.start_moved-self.ensures, refl) }
