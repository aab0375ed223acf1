-- What the effects of the calls rely on: what holds where the checks find no cause.
use Rattle.std.specs.Prelude.{List, ◌≡◌, ℕ, ◌*◌, ◌≤◌, ◌<◌, T, length}
use Rattle.checks.specs.Checks.{clean, listed}
use Rattle.checks.specs.Lent.{clean_picks}
use Rattle.place.specs.declared.Place.{Place}
use Rattle.place.specs.Places.{Sound}
use Rattle.verdicts.specs.Verdicts.{needed, footprint_in}

-- of the area that a walk starts from
pub record Clears (n measure limit : ℕ) (footprint a : List ℕ) : Type 0 where
  pub few : n ≤ 32
  pub cap : limit ≤ 4096
  pub room : needed measure n limit ≤ length a
  pub list : measure ≡ 2 → n ≡ length footprint

-- of an opening
pub record Opens (n measure limit : ℕ) (footprint a : List ℕ) : Type 0 where
  pub some_boards : 2 ≤ n
  pub few : n ≤ 32
  pub measure_low : 1 ≤ measure
  pub measure_high : measure ≤ 4
  pub some_picks : 1 ≤ limit
  pub cap : limit ≤ 4096
  pub room : needed measure n limit ≤ length a
  pub list : measure ≡ 2 → n ≡ length footprint
  pub clean : measure ≡ 2 → T (clean n footprint)

-- of a pick
pub record Admitted (p : Place) (a w : List ℕ) : Type 0 where
  pub sound : Sound p
  pub below : p.window.taken.0 < p.settings.limit
  pub shape : length w ≡ p.settings.boards
  pub clean : T (clean p.settings.boards w)
  pub room : needed p.settings.measure p.settings.boards p.settings.limit ≤ length a
  pub listed : p.settings.measure ≡ 2 → T (listed p.settings.boards (footprint_in p a) w)

-- of a whole run; m picks are lent
pub record Runs (n measure m : ℕ) (w a : List ℕ) : Type 0 where
  pub some_boards : 2 ≤ n
  pub few : n ≤ 32
  pub measure_low : 1 ≤ measure
  pub measure_high : measure ≤ 4
  pub words : length w ≡ m * n
  pub some_picks : 1 ≤ m
  pub cap : m ≤ 4096
  pub room : needed measure n m ≤ length a
  pub clean : T (clean_picks n w m)
