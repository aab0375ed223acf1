-- What a step of the walk requires of a place and of the words of its area, and what it means that code makes a step.
use Rattle.std.specs.Prelude.{ℕ, ◌+◌, ◌*◌, ◌≤◌, ◌≡◌, false, cond, List, eqb, length}
use Rattle.model.specs.Journey.{val}
use Rattle.area.specs.Parts.{part_size, table_at}
use Rattle.place.specs.declared.Settings.{Settings}
use Rattle.place.specs.declared.Place.{Place}
use Rattle.place.specs.Places.{per_pick, most_counted}
use Rattle.steps.specs.Walk.{State, state, kit_of, on_left}

-- an area of `words` words has the parts that the settings ask for
pub record Able (s : Settings) (words : ℕ) : Type 0 where
  pub few : s.boards ≤ 32
  pub cap : s.limit ≤ 4096
  pub room : (s.limit + 4) * part_size (kit_of s) ≤ words

-- part i is one of them
pub record In (s : Settings) (i : ℕ) : Type 0 where
  pub low : 1 ≤ i
  pub high : i ≤ s.limit + 4

-- the part of the last pick has the own table of its words w
pub record Owns (p : Place) (a w : List ℕ) : Type 0 where
  pub shape : p.settings.boards ≡ length w
  pub own : table_at (kit_of p.settings) a p.window.taken.0 ≡ (kit_of p.settings).own p.window.taken.0 w

-- the window s to m is one of picks taken, and d more of each may be charged
pub record Fit (p : Place) (d : ℕ) : Type 0 where
  pub start : 1 ≤ p.window.start.0
  pub inside : p.window.start.0 ≤ p.window.taken.0
  pub top : p.window.taken.0 ≤ p.settings.limit
  pub bound : p.window.boundary.0 ≤ p.window.taken.0
  pub comps : p.counts.compositions.0 + d ≤ most_counted
  pub tests : p.counts.tests.0 + d ≤ most_counted

-- the part that the window begins in: part s where that is on the left ladder, else the right ladder's
abbrev pub first_part : Place → ℕ
first_part p = cond (on_left p) p.window.start.0 (p.settings.limit + 1)

-- what the start moves by at a new pick: one, under measure 1 once a test has failed, under the others after a test that passed
abbrev pub rise : Place → ℕ
rise p = val (cond (eqb p.settings.measure 1) p.marks.failed p.marks.passed)

-- a place that takes a pick and moves its start by k
pub record Entry (p : Place) (k : ℕ) : Type 0 where
  pub start : 1 ≤ p.window.start.0
  pub ahead : p.window.start.0 + k ≤ p.window.taken.0 + 1
  pub top : p.window.taken.0 + 1 ≤ p.settings.limit
  pub bound : p.window.boundary.0 ≤ p.window.taken.0
  pub comps : p.counts.compositions.0 + per_pick ≤ most_counted
  pub tests : p.counts.tests.0 + per_pick ≤ most_counted

-- a place that takes a pick of `links` words, whatever its measure
pub record Takes (p : Place) (links : ℕ) : Type 0 where
  pub passed : Entry p (val p.marks.passed)
  pub failed : Entry p (val p.marks.failed)
  pub shape : p.settings.boards ≡ links

-- What every place keeps that a walk comes to, whatever its counts; `Rattle.steps.proofs.Ready` leads from it to `Takes`, and from step to step.
pub record Ready (p : Place) (words : ℕ) : Type 0 where
  pub able : Able p.settings words
  pub start : 1 ≤ p.window.start.0
  pub near : p.window.start.0 ≤ p.window.boundary.0 + 1
  pub bound : p.window.boundary.0 ≤ p.window.taken.0
  pub inside : 1 ≤ p.window.taken.0 → p.window.start.0 ≤ p.window.taken.0
  pub none_failed : p.window.taken.0 ≡ 0 → p.marks.failed ≡ false
  pub none_passed : p.window.taken.0 ≡ 0 → p.marks.passed ≡ false

-- from the place p and the area a code comes to r and b, as the step f says
abbrev pub Does : (State → State) → Place → List ℕ → Place → List ℕ → Type 0
Does f p a r b = (r ≡ (f (state p a)).place) × (b ≡ (f (state p a)).area)
