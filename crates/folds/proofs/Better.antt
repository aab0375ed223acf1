-- The better of two times: the words of it, and its laws. Assumes nothing.
use Rattle.std.proofs.Common.{◌≡◌, ℕ, zero, suc, ◌+◌, ◌-◌, ◌%◌, ◌^◌, ◌<◌, ◌≤◌, min, max, Bool, true, false, cond, eqb, leb, sym, refl, ◌∙◌, arith, eqb-true, le-leb, leb-false, leb-true}
use lib.Dec.{eqb-suc-zero, leb-suc-zero}
use borrow.Author.Tests.{eqb-false, lt-leb}
use Rattle.times.specs.Times.{sooner, later}
use Rattle.folds.specs.Folds.{better}

-- ---- the earlier time, by words less one

-- x less one, as a word: where x is 0 it is the greatest one
abbrev less_one : ℕ → ℕ
less_one x = (x + (2 ^ 32 - 1)) % 2 ^ 32

module _ (x y : ℕ) (hx : x < 2 ^ 32) (hy : y < 2 ^ 32) where
  pub earlier_first : less_one x ≤ less_one y → better false x y ≡ x
  unfolding better sooner
  earlier_first h = by (eqb x 0) refl (eqb y 0) refl
    where
      by : (p : Bool) → eqb x 0 ≡ p → (q : Bool) → eqb y 0 ≡ q → cond p y (cond q x (cond (leb x y) x y)) ≡ x
      by true e q f = let z = eqb-true x 0 e in omega arith
      by false e true f = refl
      by false e false f = let k = eqb-false x 0 e in let l = eqb-false y 0 f in simp (le-leb x y (omega arith))

  pub earlier_second : less_one y < less_one x → better false x y ≡ y
  unfolding better sooner
  earlier_second h = by (eqb x 0) refl (eqb y 0) refl
    where
      by : (p : Bool) → eqb x 0 ≡ p → (q : Bool) → eqb y 0 ≡ q → cond p y (cond q x (cond (leb x y) x y)) ≡ y
      by true e q f = refl
      by false e true f = let z = eqb-true y 0 f in absurd (omega arith)
      by false e false f = let k = eqb-false x 0 e in let l = eqb-false y 0 f in simp (lt-leb x y (omega arith))

-- ---- none is no better

pub sooner_none : (x : ℕ) → sooner x 0 ≡ x
unfolding sooner
sooner_none zero = refl
sooner_none (suc x) = rw eqb-suc-zero

pub later_none : (x : ℕ) → later x 0 ≡ x
unfolding later
later_none zero = refl
later_none (suc x) = rw leb-suc-zero

pub better_none : (late : Bool) (x : ℕ) → better late x 0 ≡ x
unfolding better
better_none true x = later_none x
better_none false x = sooner_none x

-- ---- the better time is associative, commutative, and itself of itself

later-max : (x y : ℕ) → later x y ≡ max x y
unfolding later
later-max x y = by (leb x y) refl
  where
    by : (p : Bool) → leb x y ≡ p → cond p y x ≡ max x y
    by true e = let h = leb-true x y e in omega arith
    by false e = let h = leb-false x y e in omega arith

sooner_suc : (a b : ℕ) → sooner (suc a) (suc b) ≡ suc (min a b)
unfolding sooner
sooner_suc a b = by (leb (suc a) (suc b)) refl
  where
    by : (p : Bool) → leb (suc a) (suc b) ≡ p → cond (eqb (suc a) 0) (suc b) (cond (eqb (suc b) 0) (suc a) (cond p (suc a) (suc b))) ≡ suc (min a b)
    by true e = let h = leb-true (suc a) (suc b) e in simp eqb-suc-zero (omega arith)
    by false e = let h = leb-false (suc a) (suc b) e in simp eqb-suc-zero (omega arith)

none_sooner : (y : ℕ) → sooner 0 y ≡ y
unfolding sooner
none_sooner y = refl

sooner_assoc : (x y z : ℕ) → sooner (sooner x y) z ≡ sooner x (sooner y z)
sooner_assoc zero y z = simp none_sooner
sooner_assoc (suc a) zero z = simp (none_sooner, sooner_none)
sooner_assoc (suc a) (suc b) zero = simp sooner_none
sooner_assoc (suc a) (suc b) (suc c) = simp sooner_suc (omega arith)

sooner_comm : (x y : ℕ) → sooner x y ≡ sooner y x
sooner_comm zero y = none_sooner y ∙ sym (sooner_none y)
sooner_comm (suc a) zero = sooner_none (suc a) ∙ sym (none_sooner (suc a))
sooner_comm (suc a) (suc b) = simp sooner_suc (omega arith)

sooner_self : (x : ℕ) → sooner x x ≡ x
sooner_self zero = none_sooner 0
sooner_self (suc a) = sooner_suc a a ∙ omega arith

pub better_assoc : (late : Bool) (x y z : ℕ) → better late (better late x y) z ≡ better late x (better late y z)
unfolding better
better_assoc true x y z = simp later-max (omega arith)
better_assoc false x y z = sooner_assoc x y z

pub better_comm : (late : Bool) (x y : ℕ) → better late x y ≡ better late y x
unfolding better
better_comm true x y = simp later-max (omega arith)
better_comm false x y = sooner_comm x y

pub better_self : (late : Bool) (x : ℕ) → better late x x ≡ x
unfolding better
better_self true x = later-max x x ∙ omega arith
better_self false x = sooner_self x

pub better_late : (x y : ℕ) → better true x y ≡ max x y
unfolding better
better_late x y = later-max x y

-- what the two choices stand on
pub ruleset bests = (earlier_first, earlier_second, better_late)
