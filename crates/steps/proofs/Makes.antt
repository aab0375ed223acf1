-- One step of a walk after another. Assumes nothing.
use mathlib.Core.Path.{◌≡◌, ◌∙◌}
use Rattle.measures.specs.Kit.{Kit}
use Rattle.steps.specs.Walk.{State, state}
use Rattle.steps.specs.declared.Walk.{Walk}
use Rattle.steps.specs.Makes.{walk_kit, Makes}
use Rattle.steps.proofs.Fit.{does_at, does_kit}

pub makes_then : (f g : Kit → State → State) {w v u : Walk}
    → (f (walk_kit w) (state w.place w.area.now)).place.settings ≡ w.place.settings
    → Makes (f (walk_kit w)) w v → Makes (g (walk_kit v)) v u → Makes (λ (st : State). g (walk_kit w) (f (walk_kit w) st)) w u
makes_then f g {w} e d l = record {
  there = l.there ∙ d.there;
  made = does_kit g (f (walk_kit w) (state w.place w.area.now)).place w.place e (does_at g d.made.0 d.made.1 l.made);
}
