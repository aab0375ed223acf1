-- `Walk::rebuild` meets its contract: the ladder, the part set to zero and the charge, one after the other.
-- Assumes nothing.
use mathlib.Core.Path.{◌∙◌}
use Rattle.steps.specs.Walk.{rebuilt}
use Rattle.steps.proofs.Walk.rebuild.Goals as goal

pub returns : goal.returns
unfolding rebuilt
returns c = let l = c.build_left.ensures in let z = c.zero_at.ensures in record {
  there = z.there ∙ l.there;
  made = (rw (c.charged-self.ensures, c.boundary_moved-q.ensures, z.made.0, l.made.0), z.made.1 ∙ rw (l.made.0, l.made.1));
}
