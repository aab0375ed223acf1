-- `Walk::enter` meets its contract. The place with the pick taken and the start moved is fit for the ladders.
-- Assumes nothing.
use mathlib.Core.Path.{◌∙◌, ap}
use native.Mathlib.Omega.{arith}
use Rattle.place.specs.declared.Place.{Place}
use Rattle.place.specs.Places.{picks_taken, start_moved}
use Rattle.steps.specs.Walk.{extended, entered, written}
use Rattle.steps.proofs.Fit.{fit_less, fit_at, entry_fit, entry_owns, does_at}
use Rattle.steps.proofs.Walk.enter.Goals as goal

pub start_moved-self-requires : goal.start_moved-self-requires
unfolding picks_taken
start_moved-self-requires c =
    let h = c.requires in
    (rw c.picks_taken-q.ensures (omega (arith, h.0.start, h.0.ahead, h.0.top, c.args.self.now.able.cap)), h.1)

pub extend-requires : goal.extend-requires
extend-requires c =
    let h = c.requires in
    let e = c.start_moved-self.ensures ∙ ap (λ (x : Place). start_moved x c.args.k) c.picks_taken-q.ensures in (
      fit_at e (fit_less 0 (omega arith) (entry_fit h.0)),
      entry_owns c.args.self.now.area.now e (rw (c.kit-kit.ensures.0, c.kit-kit.ensures.1) at c.own_part.ensures) c.args.self.now.able h.0 h.2,
    )

pub returns : goal.returns
unfolding entered written start_moved picks_taken
returns c = let d = c.extend.ensures in record {
  there = d.there;
  made = does_at extended (c.start_moved-self.ensures ∙ ap (λ (x : Place). start_moved x c.args.k) c.picks_taken-q.ensures)
      (rw (c.kit-kit.ensures.0, c.kit-kit.ensures.1) at c.own_part.ensures) d.made;
}
