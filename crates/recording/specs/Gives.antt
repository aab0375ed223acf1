-- What a caller may rely on once a recording was read.
use Rattle.std.specs.Prelude.{◌≡◌, List, ℕ, ◌*◌, ◌≤◌, length, get_or}
use Rattle.model.specs.Recording.{Recording}
use Rattle.checks.specs.Lent.{lent_picks}

-- n boards and `count` picks, read with the output words `out`, which now are `left`
pub record Gives (limit n count : ℕ) (out left : List ℕ) : Type 0 where
  pub low : 2 ≤ n
  pub high : n ≤ 32
  pub few : count ≤ limit
  pub room_for : count * n ≤ length left
  -- the words are a recording over n boards: no forbidden bit
  pub recording : Recording n (lent_picks n left count)
  pub long : length left ≡ length out
  -- the words beyond those of the picks stay
  pub beyond : (i : ℕ) → count * n ≤ i → get_or left i 0 ≡ get_or out i 0
