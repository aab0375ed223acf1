-- CONDITION 3 of the tender: one claim, both ways, over the definitions that the call for the table and the whole run promise.
use Rattle.std.specs.Prelude.{◌↔◌, List, ◌++◌, ℕ, ◌≤◌}
use Rattle.law.specs.Claim3.{Lent, SameWritten, Between, RunsNeverApart}

-- Whatever two recordings over n boards are lent, of 1 to 4,094 picks each: the tables that the call writes are equal in every word exactly when,
-- whatever recording is set before both and whatever recording after both, the whole run under measure 3 never answers a reach length for one
-- joined recording and refusal 9 for the other, in whatever two areas.
abbrev pub Condition3 : Type 0
Condition3 = (n : ℕ) → 2 ≤ n → n ≤ 32 → (x y : List ℕ) (i j : ℕ) → Lent n i x → Lent n j y → 1 ≤ i → i ≤ 4094 → 1 ≤ j
    → j ≤ 4094
    → SameWritten n x y ↔ ((before after : List ℕ) → Between n i j before after
    → RunsNeverApart n (before ++ x ++ after) (before ++ y ++ after) × RunsNeverApart n (before ++ y ++ after) (before ++ x ++ after))
