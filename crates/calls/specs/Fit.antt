-- What the steps of a whole run rely on, and what they leave.
use Rattle.std.specs.Prelude.{List, ◌≡◌, ℕ, ◌+◌, ◌*◌, ◌≤◌, length, drop}
use Rattle.area.specs.Parts.{part_size}
use Rattle.place.specs.declared.Place.{Place}
use Rattle.place.specs.Places.{per_pick}
use Rattle.verdicts.specs.Verdicts.{needed}
use Rattle.steps.specs.Walk.{kit_of}
use Rattle.steps.specs.Fit.{Ready}
use Rattle.steps.specs.Alike.{Alike}
use Rattle.calls.specs.Calls.{whole_start}

-- what they rely on: a place that has taken no pick, and words for m of them
pub record Starts (p : Place) (m : ℕ) (w a : List ℕ) : Type 0 where
  pub ready : Ready p (length a)
  pub none_taken : p.window.taken.0 ≡ 0
  pub limit : p.settings.limit ≡ m
  pub words : m * p.settings.boards ≤ length w
  pub comps : p.counts.compositions.0 ≤ per_pick
  pub tests : p.counts.tests.0 ≤ per_pick

-- what they start from: the place of `whole_start`, and an area that they cannot tell from its own, with the words beyond the parts as they were
pub record Begins (n measure m : ℕ) (w a : List ℕ) (p : Place) (b : List ℕ) : Type 0 where
  pub place : p ≡ (whole_start n measure m w a).place
  pub alike : Alike p b (whole_start n measure m w a).area
  pub beyond : drop (needed measure n m) b ≡ drop (needed measure n m) a

-- what they leave, besides the state
pub record Ends (p : Place) (m : ℕ) (a : List ℕ) (q : Place) (b : List ℕ) : Type 0 where
  pub inside : 1 ≤ m → q.window.start.0 ≤ q.window.taken.0
  pub all-taken : q.window.taken.0 ≡ m
  pub beyond : drop ((p.settings.limit + 4) * part_size (kit_of p.settings)) b ≡ drop ((p.settings.limit + 4) * part_size (kit_of p.settings)) a
