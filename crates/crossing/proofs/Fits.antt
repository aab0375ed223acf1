-- Numbers that a word of 32 bits holds, and places that are words again. Assumes nothing.
use mathlib.Core.Path.{◌≡◌, refl}
use mathlib.Core.Bool.{true}
use Prim.Native.Nat.{ℕ, zero, suc, ◌≤◌, ◌<◌, ◌^◌}
use native.Mathlib.Nat.{lt_of_le_of_lt}
use native.Mathlib.Omega.{arith}
use lib.Dec.{eqb, lit<}
use borrow.Author.Tests.{leb-true}
use Rattle.model.specs.Journey.{val}
use Rattle.place.specs.Places.{most_counted}
use Rattle.place.proofs.Laws.{and_left, and_right}
use Rattle.crossing.specs.declared.PlaceWords.{PlaceWords}
use Rattle.crossing.specs.Words.{flag, flags, place_of, words_of}

-- far below what a word holds
pub small : {x : ℕ} → x ≤ most_counted → x < 2 ^ 32
small h = lt_of_le_of_lt h (lit< tt)

-- ---- places as words

flag_back : (x : ℕ) → flag x ≡ true → val (eqb x 1) ≡ x
flag_back zero e = refl
flag_back (suc zero) e = refl
flag_back (suc (suc x)) e = let h = leb-true (suc (suc x)) 1 e in absurd (omega arith)

-- ten words are those of the place they stand for
pub words_back : (p : PlaceWords) → flags p ≡ true → words_of (place_of p) ≡ p
unfolding place_of words_of
words_back p e = simp (flag_back p.failed (and_left _ _ e), flag_back p.passed (and_right (flag p.failed) _ e))
