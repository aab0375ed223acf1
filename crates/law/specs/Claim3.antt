-- What CONDITION 3 of the mission says of two recordings lent as words, over the definitions that the call for the table and the whole run promise.
use Rattle.std.specs.Prelude.{◌≡◌, List, ◌++◌, ℕ, ◌+◌, ◌*◌, ◌≤◌, ◌<◌, T, length, get_or, ◌↔◌}
use Rattle.checks.specs.Lent.{clean_picks}
use Rattle.calls.specs.Calls.{whole_says}
use Rattle.reach.specs.Tables.{table_leaves}

-- w is a recording of m picks over n boards, lent as words
pub record Lent (n m : ℕ) (w : List ℕ) : Type 0 where
  pub words : length w ≡ m * n
  pub clean : T (clean_picks n w m)

-- the tables that the call writes are equal in every word, in whatever outputs
abbrev pub SameWritten : ℕ → List ℕ → List ℕ → Type 0
SameWritten n x y = (o p : List ℕ) → n ≤ length o → n ≤ length p → (u : ℕ) → u < n
    → get_or (table_leaves n x o) u 0 ≡ get_or (table_leaves n y p) u 0

-- words set before and after recordings of i and of j picks: b and a picks, one or more each, and each joined recording at most 4,096
pub record Between (n i j : ℕ) (before after : List ℕ) : Type 0 where
  pub b : ℕ
  pub a : ℕ
  pub before_lent : Lent n b before
  pub after_lent : Lent n a after
  pub some_before : 1 ≤ b
  pub some_after : 1 ≤ a
  pub fits_first : b + i + a ≤ 4096
  pub fits_second : b + j + a ≤ 4096

-- in whatever two areas, dirty or short, it never happens that v has a reach length and w is refused by 9 (a short area is refused by 4)
abbrev pub RunsNeverApart : ℕ → List ℕ → List ℕ → Type 0
RunsNeverApart n v w = (a b : List ℕ) → (whole_says n 3 v a).refusal ≡ 0 → (whole_says n 3 w b).refusal ≡ 9 → ⊥

-- CONDITION 3 of the mission over the calls: the tables that the call writes for two recordings are equal exactly when no words before and after tell
-- the two apart by whole runs under measure 3.
abbrev pub RunsClaim : Type 0
RunsClaim = (n : ℕ) → 2 ≤ n → n ≤ 32 → (x y : List ℕ) (i j : ℕ) → Lent n i x → Lent n j y → 1 ≤ i → i ≤ 4094 → 1 ≤ j
    → j ≤ 4094
    → SameWritten n x y ↔ ((before after : List ℕ) → Between n i j before after
    → RunsNeverApart n (before ++ x ++ after) (before ++ y ++ after) × RunsNeverApart n (before ++ y ++ after) (before ++ x ++ after))
