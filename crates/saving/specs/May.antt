-- What holds exactly when no cause refuses the call, by the meaning; and a limit and an output that are enough to read the file.
use Rattle.std.specs.Prelude.{◌≡◌, List, ℕ, ◌*◌, ◌/◌, ◌≤◌, length}
use Rattle.model.specs.Recording.{Recording}
use Rattle.checks.specs.Lent.{lent_picks}
use Rattle.saving.specs.Answers.{lent_file}

-- a lent sequence: n words for each of up to 4,096 picks, also for none, without a forbidden bit
pub record LentSequence (n : ℕ) (w : List ℕ) : Type 0 where
  pub boards : (2 ≤ n) × (n ≤ 32)
  pub words : length w ≡ length w / n * n
  pub picks : length w / n ≤ 4096
  pub recorded : Recording n (lent_picks n w (length w / n))

-- and its file fits the output
pub record MaySave (n : ℕ) (w out : List ℕ) : Type 0 where
  pub lent : LentSequence n w
  pub room : length (lent_file n w) ≤ length out

-- "with limit and output enough": m picks over n boards can be read
pub record Enough (n m limit : ℕ) (into : List ℕ) : Type 0 where
  pub some : 1 ≤ limit
  pub most : limit ≤ 4096
  pub few : m ≤ limit
  pub room : limit * n ≤ length into
