-- What the picks of a decision leave.
use Rattle.std.specs.Prelude.{◌≡◌, List, ℕ, ◌+◌, ◌*◌, drop}
use Rattle.area.specs.Parts.{part_size}
use Rattle.place.specs.declared.Place.{Place}
use Rattle.steps.specs.Walk.{kit_of}
use Rattle.steps.specs.Bare.{bare_tested}
use Rattle.steps.specs.Fit.{Does}
use Rattle.decision.specs.Held.{held_steps}

-- m picks from the place p and the area a on, with tests whose windows are not kept; the words beyond the parts stay
pub record Leaves (p : Place) (k m : ℕ) (w a : List ℕ) (q : Place) (b : List ℕ) : Type 0 where
  pub does : Does (held_steps (bare_tested (kit_of p.settings)) (kit_of p.settings) k p.settings.boards w m) p a q b
  pub beyond : drop ((p.settings.limit + 4) * part_size (kit_of p.settings)) b ≡ drop ((p.settings.limit + 4) * part_size (kit_of p.settings)) a
