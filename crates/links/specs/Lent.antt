-- Picks as they are lent to a function that works on all of them.
use Rattle.std.specs.Prelude.{◌≡◌, List, ℕ, ◌/◌, length}
use Rattle.links.specs.declared.LentPicks.{LentPicks}

-- those of a recording that is lent whole, n words a pick: as many as there are words for
pub record HasPicks (l : LentPicks) (n : ℕ) (w : List ℕ) : Type 0 where
  pub words : l.words.now ≡ w
  pub boards : l.n ≡ n
  pub count : l.m ≡ length w / n
