-- COUNTING, by the meaning: how many numbers below a bound have a property, and how many pairs of boards.
use Rattle.std.specs.Prelude.{ℕ, suc, ◌+◌}

-- c of the numbers below k are such that R holds: each is looked at once
pub data Count (R : ℕ → Type 0) : ℕ → ℕ → Type 0 where
  none : Count R 0 0
  one_more : {k c : ℕ} → Count R k c → R k → Count R (suc k) (suc c)
  no_more : {k c : ℕ} → Count R k c → (R k → ⊥) → Count R (suc k) c

-- c of the pairs (u, v) with u below k and v below n: row after row
pub data CountRows (n : ℕ) (R : ℕ → ℕ → Type 0) : ℕ → ℕ → Type 0 where
  no_row : CountRows n R 0 0
  one_row : {k c x : ℕ} → CountRows n R k c → Count (R k) n x → CountRows n R (suc k) (c + x)

-- k is the number of pairs (u, v) below n of which R holds
abbrev pub NumberOfPairs : ℕ → (ℕ → ℕ → Type 0) → ℕ → Type 0
NumberOfPairs n R k = CountRows n R n k
