-- `Walk::window` meets its contract, by the tests of its branches.
-- Assumes nothing.
use mathlib.Core.Path.{ap, ◌∙◌}
use borrow.Author.Tests.{lt-ltb, le-ltb, lt-leb, le-leb}
use Rattle.place.specs.declared.Place.{Place}
use Rattle.place.specs.Places.{charged}
use Rattle.steps.proofs.Fit.{charged_none, window_copied}
use Rattle.steps.specs.Walk.{windowed, window_area}
use Rattle.steps.proofs.Walk.window.Goals as goal

pub returns-then-b-s : goal.returns-then-b-s
unfolding windowed window_area
returns-then-b-s c =
    let e = lt-leb _ _ c.if-b-s.true in
    let m = c.copy_at.ensures in
    simp e record { there = m.there; made = (m.made.0 ∙ charged_none _, simp (e, c.first_part-from.ensures) at m.made.1) }

pub returns-then-m-b : goal.returns-then-m-b
unfolding windowed window_area
returns-then-m-b c =
    let e = le-leb _ _ c.if-b-s.false in
    let m = c.copy_at.ensures in
    simp (e, le-ltb _ _ c.if-m-b.true)
    record { there = m.there; made = (m.made.0 ∙ charged_none _, simp (e, c.first_part-from.ensures) at m.made.1) }

pub returns : goal.returns
unfolding windowed window_area
returns c =
    let e = le-leb _ _ c.if-b-s.false in
    let m = c.copy_at.ensures in
    let k = c.compose_at.ensures in
    simp (e, lt-ltb _ _ c.if-m-b.false) record {
      there = k.there ∙ m.there;
      made = (
        c.charged-self.ensures ∙ ap (λ (x : Place). charged x 1) (k.made.0 ∙ m.made.0),
        window_copied _ _ c.args.self.now.able c.requires (simp (e, c.first_part-from.ensures) at m.made.1) (rw m.made.0 at k.made.1),
      );
    }
