-- `calls::make_footprint` meets its contract: the first pick, and onto it those after it.
-- Assumes nothing.
use mathlib.Core.Path.{sym, ◌∙◌}
use Rattle.links.proofs.Chunks.{behind_all, behind_turn}
use Rattle.calls.proofs.Loops.{unions_made}
use Rattle.calls.proofs.make_footprint.Goals as goal

pub returns : goal.returns
returns c =
    let l = c.args.lent.now in
    let s = c.in-Some.ensures.steps in
    let t = behind_turn l.room (behind_all l.n l.m l.words.now) l.some (sym c.picks.ensures.rest ∙ s.1.0) (s.1.1 ∙ c.picks.ensures.size) in
    (c.unite_picks.ensures.0, unions_made _ _ _ _ _ c.requires.1 (c.copy_from_slice.ensures.after ∙ t.pick) c.unite_picks.ensures.1)
