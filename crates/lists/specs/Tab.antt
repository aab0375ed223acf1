-- Lists made by index, as a loop that goes up writes them, and tests over the numbers below n, as a loop that returns at the first failure.
use Rattle.std.specs.Prelude.{Bool, true, false, ◌&&◌, List, [], ◌∷◌, ◌++◌, ℕ, zero, suc, ◌+◌, take, drop, replicate}
use Rattle.std.specs.Int.Bits.{bit_or}
use Rattle.model.specs.Journey.{val}

-- f 0, f 1, .., f (k - 1)
unfoldable pub tab : (ℕ → ℕ) → ℕ → List ℕ
tab f zero = []
tab f (suc k) = tab f k ++ (f k ∷ [])

-- x where b holds, else 0
abbrev pub kept : Bool → ℕ → ℕ
kept true x = x
kept false x = 0

-- k zeros. It is shut, so that a goal does not write them out.
unfoldable pub zeros : ℕ → List ℕ
zeros k = replicate k 0

-- the words a, with xs in place of the e words from word k on. It is shut: `proofs/Splice` has its laws.
unfoldable pub splice : ℕ → ℕ → List ℕ → List ℕ → List ℕ
splice k e xs a = take k a ++ (xs ++ drop e (drop k a))

-- f 0, .., f (k - 1), or-ed
unfoldable pub any_of : (ℕ → ℕ) → ℕ → ℕ
any_of f zero = 0
any_of f (suc k) = bit_or (any_of f k) (f k)

-- f holds of each number below k
unfoldable pub every : (ℕ → Bool) → ℕ → Bool
every f zero = true
every f (suc k) = every f k && f k

-- how many numbers below k f holds of
unfoldable pub how_many : (ℕ → Bool) → ℕ → ℕ
how_many f zero = 0
how_many f (suc k) = how_many f k + val (f k)

-- how many pairs of a number below k and one below n f holds of
unfoldable pub how_many_pairs : (ℕ → ℕ → Bool) → ℕ → ℕ → ℕ
how_many_pairs f n zero = 0
how_many_pairs f n (suc k) = how_many_pairs f n k + how_many (f k) n
