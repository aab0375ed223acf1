-- What the walk on numbers says of a place and of an answer, its tests being answered by the meaning.
use Rattle.std.specs.Prelude.{◌≡◌, ◌↔◌, Bool, List, ℕ, ◌≤◌, T, length}
use Rattle.place.specs.declared.Place.{Place}
use Rattle.calls.specs.Calls.{length_says, whole_after, whole_says}
use Rattle.law.specs.Correct.{Passes}
use Rattle.law.specs.Claim2.{list_cost}
use Rattle.numbers.specs.Walk.{WalkNumbers, numbers_at, walk, answer}
use Rattle.place.specs.Places.{settings_of}

-- the place of these numbers, for n boards, a measure and a limit
abbrev pub placed : ℕ → ℕ → ℕ → WalkNumbers → Place
placed n measure limit x = record {
  settings = settings_of measure n limit;
  window = record { taken = record { 0 = x.m }; start = record { 0 = x.s }; boundary = record { 0 = x.b } };
  marks = record { failed = x.failed; passed = x.passed };
  counts = record { compositions = record { 0 = x.compositions }; tests = record { 0 = x.tests } };
}

-- and the numbers of a place
abbrev pub numbers_of : Place → WalkNumbers
numbers_of p =
    numbers_at p.window.taken.0 p.window.start.0 p.window.boundary.0 p.marks.failed p.marks.passed p.counts.compositions.0
    p.counts.tests.0

-- `pass` answers the test of each window of r as the meaning does
abbrev pub Tells : (ℕ → ℕ → Bool) → ℕ → ℕ → List ℕ → List (List ℕ) → Type 0
Tells pass measure n footprint r = (i j : ℕ) → 1 ≤ i → i ≤ j → j ≤ length r → T (pass i j) ↔ Passes measure n footprint r i j

-- The place p is the fresh place moved by the walk on numbers over k picks, every field, counts included; and the length call answers what that walk
-- answers.
pub record Moved (n measure limit k : ℕ) (pass : ℕ → ℕ → Bool) (p : Place) : Type 0 where
  pub place : p ≡ placed n measure limit (walk measure pass 0 k)
  pub answered : 1 ≤ k → length_says p ≡ answer measure (walk measure pass 0 k)

-- The same of a whole run of m picks: its place after each pick, and its answer, 9 included. Under measure 2 m - 1 compositions are spent before pick 1.
pub record RunMoved (n measure m : ℕ) (w a : List ℕ) (pass : ℕ → ℕ → Bool) : Type 0 where
  pub place : (k : ℕ) → k ≤ m → (whole_after n measure m w a k).place ≡ placed n measure m (walk measure pass (list_cost measure m) k)
  pub answered : whole_says n measure w a ≡ answer measure (walk measure pass (list_cost measure m) m)

-- something answers the tests as the meaning does
pub record TestsDecided (measure n : ℕ) (footprint : List ℕ) (r : List (List ℕ)) : Type 0 where
  pub pass : ℕ → ℕ → Bool
  pub tells : Tells pass measure n footprint r
