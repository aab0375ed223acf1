-- The causes that may refuse a call, as data: each a test and its number, in the order in which document 01 lists them.
use Rattle.std.specs.Prelude.{ℕ, Bool, true, false, ◌&&◌, cond, List, [], ◌∷◌, ◌≡◌, leb}
use Rattle.model.specs.declared.Refusal.{Refusal}
use Rattle.model.specs.Refusals.{number}

-- low to high: a range that a cause asks for
unfoldable pub between : ℕ → ℕ → ℕ → Bool
between low x high = leb low x && leb x high

abbrev pub Causes : Type 0
Causes = List (Bool × ℕ)

-- the number of the first whose test holds, 0 for none. It is shut, so that a goal keeps the tests.
unfoldable pub first_of : Causes → ℕ
first_of [] = 0
first_of (c ∷ cs) = cond c.0 c.1 (first_of cs)

-- every test is false
abbrev pub NoneHolds : Causes → Type 0
NoneHolds [] = Unit {0}
NoneHolds (c ∷ cs) = (c.0 ≡ false) × NoneHolds cs

-- no number is 0, which says that there is no cause
abbrev pub numbered : Causes → Bool
numbered [] = true
numbered (c ∷ cs) = leb 1 c.1 && numbered cs

-- the numbers, and those that come where no cause refuses
abbrev pub answers : Causes → List ℕ → List ℕ
answers [] xs = xs
answers (c ∷ cs) xs = c.1 ∷ answers cs xs

-- x is one of the numbers listed
pub data Among (x : ℕ) : List ℕ → Type 0 where
  is_first : {y : ℕ} {ys : List ℕ} → x ≡ y → Among x (y ∷ ys)
  is_later : {y : ℕ} {ys : List ℕ} → Among x ys → Among x (y ∷ ys)

-- ---- the same for an answer that carries its refusal

abbrev pub RefusalCauses : Type 0
RefusalCauses = List (Bool × Refusal)

-- what the first whose test holds makes of the answer, which stands where there is none
unfoldable pub first_or : {A : Type 0} → (Refusal → A) → RefusalCauses → A → A
first_or refused [] a = a
first_or refused (c ∷ cs) a = cond c.0 (refused c.1) (first_or refused cs a)

-- each by its number
abbrev pub by_number : RefusalCauses → Causes
by_number [] = []
by_number (c ∷ cs) = (c.0, number c.1) ∷ by_number cs
