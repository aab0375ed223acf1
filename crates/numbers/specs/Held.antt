-- THE WALK HELD AT k on numbers and marks alone: request A1 of document 02, sentence by sentence, over the steps of the walk on numbers.
-- `pass i j` answers the test of the window of the picks i to j.
use Rattle.std.specs.Prelude.{ℕ, zero, suc, ◌+◌, ◌-◌, max, Bool, not, cond, leb}
use Rattle.decision.specs.Decisions.{Decided, decided}
use Rattle.numbers.specs.Walk.{WalkNumbers, numbers_at, numbers_first, one_more, take_in, test}

-- "with the window held at k": at pick m the start is the greater of 1 and m - k + 1
abbrev pub start_held : ℕ → WalkNumbers → WalkNumbers
start_held k x = numbers_at x.m (max 1 (x.m - k + 1)) x.b x.failed x.passed x.compositions x.tests

-- "testing from pick k on"
unfoldable pub test_from : (ℕ → ℕ → Bool) → ℕ → WalkNumbers → WalkNumbers
test_from pass k x = cond (leb k x.m) (test pass x) x

-- a new pick: "The chains are those of document 01"
unfoldable pub hold_pick : (ℕ → ℕ → Bool) → ℕ → WalkNumbers → WalkNumbers
hold_pick pass k x = test_from pass k (take_in (start_held k (one_more x)))

-- "and stopping at the first failure": after j picks, c compositions having been spent before pick 1
unfoldable pub hold : (ℕ → ℕ → Bool) → ℕ → ℕ → ℕ → WalkNumbers
hold pass k c zero = numbers_first c
hold pass k c (suc j) = cond (hold pass k c j).failed (hold pass k c j) (hold_pick pass k (hold pass k c j))

-- "Yes is given when all pass, else no, with both counts"
abbrev pub held_answer : WalkNumbers → Decided
held_answer x = decided 0 (not x.failed) x.compositions x.tests
