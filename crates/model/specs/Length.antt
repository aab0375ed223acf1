-- Lengths over all windows of the picks 1 to m, for any measure. `P i j` says that the window of the picks i to j passes.
use Rattle.std.specs.Prelude.{◌≡◌, ℕ, suc, ◌+◌, ◌≤◌, ◌<◌}

-- every window of k of the picks 1 to m passes
abbrev pub Every : (ℕ → ℕ → Type 0) → ℕ → ℕ → Type 0
Every P m k = (i j : ℕ) → 1 ≤ i → j ≤ m → suc j ≡ i + k → P i j

-- k is the length of measures 2, 3 and 4, the smallest: definition 2 of source document 002
pub record Smallest (P : ℕ → ℕ → Type 0) (m k : ℕ) : Type 0 where
  pub low : 1 ≤ k
  pub high : k ≤ m
  pub every : Every P m k
  pub least : (l : ℕ) → 1 ≤ l → l < k → Every P m l → ⊥

-- k is the length of measure 1, the largest: definition 1 of source document 002
pub record Largest (P : ℕ → ℕ → Type 0) (m k : ℕ) : Type 0 where
  pub low : 1 ≤ k
  pub high : k ≤ m
  pub every : Every P m k
  pub greatest : (l : ℕ) → k < l → l ≤ m → Every P m l → ⊥

-- no length exists
abbrev pub NoLength : (ℕ → ℕ → Type 0) → ℕ → Type 0
NoLength P m = (k : ℕ) → 1 ≤ k → k ≤ m → Every P m k → ⊥

-- a smallest length exists
abbrev pub HasSmallest : (ℕ → ℕ → Type 0) → ℕ → Type 0
HasSmallest P m = (k : ℕ) × Smallest P m k

-- requirement 3' of source document 002: where a window passes, any window within it passes
abbrev pub Downward : (ℕ → ℕ → Type 0) → ℕ → Type 0
Downward P m = (i j a b : ℕ) → 1 ≤ i → i ≤ a → a ≤ b → b ≤ j → j ≤ m → P i j → P a b

-- requirement 3'': any window around it passes
abbrev pub Upward : (ℕ → ℕ → Type 0) → ℕ → Type 0
Upward P m = (i j a b : ℕ) → 1 ≤ a → a ≤ i → i ≤ j → j ≤ b → b ≤ m → P i j → P a b
