-- What a walk reads of its area: the tables of the picks taken, the right ladder where a pick is taken, and the footprint. Part limit + 2, the
-- window's, is written before it is read; part limit + 4 is only cleared.
use Rattle.std.specs.Prelude.{ℕ, ◌+◌, ◌≤◌, Bool, ◌&&◌, ◌≡◌, List, eqb}
use Rattle.area.specs.Parts.{table_at}
use Rattle.place.specs.declared.Place.{Place}
use Rattle.steps.specs.Walk.{kit_of, ended}

-- Two areas that a walk at the place p cannot tell apart. Steps within a pick keep this as it stands; from pick to pick it is kept up to the end of
-- measure 1, after which m rises and no part is written: `StillAlike` of the proofs is what a whole run keeps.
pub record Alike (p : Place) (a b : List ℕ) : Type 0 where
  pub picks : (i : ℕ) → 1 ≤ i → i ≤ p.window.taken.0 → table_at (kit_of p.settings) a i
      ≡ table_at (kit_of p.settings) b i
  pub right : 1 ≤ p.window.taken.0 → table_at (kit_of p.settings) a (p.settings.limit + 1)
      ≡ table_at (kit_of p.settings) b (p.settings.limit + 1)
  pub footprint : table_at (kit_of p.settings) a (p.settings.limit + 3)
      ≡ table_at (kit_of p.settings) b (p.settings.limit + 3)

-- measure 1 after its end: a pick raises m only, and its own part is not written
abbrev pub finished : Place → Bool
finished p = eqb p.settings.measure 1 && ended p
