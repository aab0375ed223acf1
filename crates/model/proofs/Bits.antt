-- Bits of words: words are equal by their bits, and the bits of what code does to words. Assumes nothing.
use mathlib.Core.Path.{◌≡◌, refl, sym, ap, ap₂, ◌∙◌, subst}
use Prim.Native.Nat.{ℕ, zero, suc, ◌-◌, ◌*◌, ◌+◌, ◌/◌, ◌%◌, ◌^◌, ◌≤◌, ◌<◌, suc-le-suc, min, max}
use native.Mathlib.Nat.{le_of_suc-le-suc, not-suc-le-zero, mod-lt, div-div-eq-div-mul, pow-succ', div-one, div-eq_of_lt, zero-lt-suc}
use native.Mathlib.Omega.{arith}
use mathlib.Core.Bool.{Bool, true, false, ◌||◌, ◌&&◌, not, cond}
use lib.Dec.{T, eqb, eqb-zero-suc, eqb-suc-zero, eqb-suc-suc}
use lib.Bits.{bit_or, bit_and, bit_xor, or_step, and_step, or_shr, and_shr, xor_shr, xor_mod, or_add_and, and_le_l, and_le_r}
use lib.Arith.{digits_mod}
use lib.Pow.{pow_pos}
use Rattle.model.specs.Recording.{bit}
use Rattle.model.specs.Journey.{val}

pub bit_zero : (w : ℕ) → bit w 0 ≡ eqb (w % 2) 1
unfolding bit
bit_zero w = ap (λ (x : ℕ). eqb (x % 2) 1) (div-one w)

pub bit_suc : (w b : ℕ) → bit w (suc b) ≡ bit (w / 2) b
unfolding bit
bit_suc w b = ap (λ (x : ℕ). eqb (x % 2) 1) (ap (λ (x : ℕ). w / x) (pow-succ' 2 b) ∙ sym (div-div-eq-div-mul w 2 (2 ^ b)))

pub bit_high : (w b : ℕ) → w < 2 ^ b → bit w b ≡ false
unfolding bit
bit_high w b h = ap (λ (x : ℕ). eqb (x % 2) 1) (div-eq_of_lt h)

pub val_le : (b : Bool) → val b ≤ 1
val_le true = omega arith
val_le false = omega arith

-- words of n bits are equal when their bits are
pub bits_ext : (n w x : ℕ) → w < 2 ^ n → x < 2 ^ n → ((b : ℕ) → b < n → bit w b ≡ bit x b) → w ≡ x
bits_ext zero w x hw hx h = omega arith
bits_ext (suc n) w x hw hx h =
    let top : w / 2 ≡ x / 2 = bits_ext n (w / 2) (x / 2) (omega arith) (omega arith) (λ b l. sym (bit_suc w b) ∙ h (suc b) (suc-le-suc l)
    ∙ bit_suc x b) in
    let bot : w % 2 ≡ x % 2 = digit (w % 2) (x % 2) (mod-lt w (zero-lt-suc 1)) (mod-lt x (zero-lt-suc 1))
    (sym (bit_zero w) ∙ h 0 (zero-lt-suc n) ∙ bit_zero x) in
    omega arith
  where
    digit : (a c : ℕ) → a < 2 → c < 2 → eqb a 1 ≡ eqb c 1 → a ≡ c
    digit zero zero p q e = refl
    digit zero (suc c) p q e = let z : suc c ≡ 1 = omega arith in absurd (subst T (sym e) (subst (λ (k : ℕ). T (eqb k 1)) (sym z) tt))
    digit (suc a) zero p q e = let z : suc a ≡ 1 = omega arith in absurd (subst T e (subst (λ (k : ℕ). T (eqb k 1)) (sym z) tt))
    digit (suc a) (suc c) p q e = omega arith

-- ---- the operations of code, by their bits

digit_or : (a b : ℕ) → a < 2 → b < 2 → eqb (max a b) 1 ≡ eqb a 1 || eqb b 1
digit_or zero zero p q = refl
digit_or zero (suc b) p q = let z : suc b ≡ 1 = omega arith in subst (λ (k : ℕ). eqb (max 0 k) 1 ≡ eqb 0 1 || eqb k 1) (sym z) refl
digit_or (suc a) zero p q = let z : suc a ≡ 1 = omega arith in subst (λ (k : ℕ). eqb (max k 0) 1 ≡ eqb k 1 || eqb 0 1) (sym z) refl
digit_or (suc a) (suc b) p q =
    let y : suc a ≡ 1 = omega arith in
    let z : suc b ≡ 1 = omega arith in
    subst (λ (k : ℕ). eqb (max k (suc b)) 1 ≡ eqb k 1 || eqb (suc b) 1) (sym y) (subst (λ (k : ℕ). eqb (max 1 k) 1 ≡ eqb 1 1 || eqb k 1) (sym z) refl)

digit_and : (a b : ℕ) → a < 2 → b < 2 → eqb (min a b) 1 ≡ eqb a 1 && eqb b 1
digit_and zero zero p q = refl
digit_and zero (suc b) p q = let z : suc b ≡ 1 = omega arith in subst (λ (k : ℕ). eqb (min 0 k) 1 ≡ eqb 0 1 && eqb k 1) (sym z) refl
digit_and (suc a) zero p q = let z : suc a ≡ 1 = omega arith in subst (λ (k : ℕ). eqb (min k 0) 1 ≡ eqb k 1 && eqb 0 1) (sym z) refl
digit_and (suc a) (suc b) p q =
    let y : suc a ≡ 1 = omega arith in
    let z : suc b ≡ 1 = omega arith in
    subst (λ (k : ℕ). eqb (min k (suc b)) 1 ≡ eqb k 1 && eqb (suc b) 1) (sym y) (subst (λ (k : ℕ). eqb (min 1 k) 1 ≡ eqb 1 1 && eqb k 1) (sym z) refl)

pub bit-or : (a b k : ℕ) → bit (bit_or a b) k ≡ bit a k || bit b k
bit-or a b zero =
    let m : max (a % 2) (b % 2) < 2 = omega arith in
    let e : (bit_or (a / 2) (b / 2) * 2 + max (a % 2) (b % 2)) % 2 ≡ max (a % 2) (b % 2) = digits_mod (bit_or (a / 2) (b / 2)) m in
    bit_zero (bit_or a b) ∙ ap (λ (x : ℕ). eqb (x % 2) 1) (or_step a b) ∙ ap (λ (x : ℕ). eqb x 1) e
    ∙ digit_or (a % 2) (b % 2) (mod-lt a (zero-lt-suc 1)) (mod-lt b (zero-lt-suc 1)) ∙ sym (ap₂ ◌||◌ (bit_zero a) (bit_zero b))
bit-or a b (suc k) =
    bit_suc (bit_or a b) k ∙ ap (λ (x : ℕ). bit x k) (or_shr a b 1) ∙ bit-or (a / 2) (b / 2) k ∙ sym (ap₂ ◌||◌ (bit_suc a k) (bit_suc b k))

pub bit-and : (a b k : ℕ) → bit (bit_and a b) k ≡ bit a k && bit b k
bit-and a b zero =
    let m : min (a % 2) (b % 2) < 2 = omega arith in
    let e : (bit_and (a / 2) (b / 2) * 2 + min (a % 2) (b % 2)) % 2 ≡ min (a % 2) (b % 2) = digits_mod (bit_and (a / 2) (b / 2)) m in
    bit_zero (bit_and a b) ∙ ap (λ (x : ℕ). eqb (x % 2) 1) (and_step a b) ∙ ap (λ (x : ℕ). eqb x 1) e
    ∙ digit_and (a % 2) (b % 2) (mod-lt a (zero-lt-suc 1)) (mod-lt b (zero-lt-suc 1)) ∙ sym (ap₂ ◌&&◌ (bit_zero a) (bit_zero b))
bit-and a b (suc k) =
    bit_suc (bit_and a b) k ∙ ap (λ (x : ℕ). bit x k) (and_shr a b 1) ∙ bit-and (a / 2) (b / 2) k ∙ sym (ap₂ ◌&&◌ (bit_suc a k) (bit_suc b k))

-- the digits of two words, and of their difference
abbrev Digit : ℕ → ℕ → Type 0
Digit d e = eqb (bit_xor d e) 1 ≡ cond (eqb d 1) (not (eqb e 1)) (eqb e 1)

digit_xor : (d e : ℕ) → d < 2 → e < 2 → Digit d e
digit_xor zero e h i = refl
digit_xor (suc d) zero h i = let z : suc d ≡ 1 = omega arith in subst (λ (x : ℕ). Digit x 0) (sym z) refl
digit_xor (suc d) (suc e) h i =
    let y : suc d ≡ 1 = omega arith in
    let z : suc e ≡ 1 = omega arith in
    subst (λ (x : ℕ). Digit x (suc e)) (sym y) (subst (Digit 1) (sym z) refl)

pub bit-xor : (a b k : ℕ) → bit (bit_xor a b) k ≡ cond (bit a k) (not (bit b k)) (bit b k)
unfolding bit
bit-xor a b k =
    ap (λ (d : ℕ). eqb d 1) (ap (λ (z : ℕ). z % 2) (xor_shr a b k) ∙ xor_mod (a / 2 ^ k) (b / 2 ^ k) 1)
    ∙ digit_xor (a / 2 ^ k % 2) (b / 2 ^ k % 2) (mod-lt _ (zero-lt-suc 1)) (mod-lt _ (zero-lt-suc 1))

-- a bit as a digit
pub bit_digit : (w b : ℕ) → w / 2 ^ b % 2 ≡ val (bit w b)
unfolding bit
bit_digit w b = digit_val (w / 2 ^ b % 2) (mod-lt _ (zero-lt-suc 1))
  where
    digit_val : (d : ℕ) → d < 2 → d ≡ val (eqb d 1)
    digit_val zero h = refl
    digit_val (suc d) h = let z : suc d ≡ 1 = omega arith in subst (λ (x : ℕ). x ≡ val (eqb x 1)) (sym z) refl

-- the word of bit b alone: `1 << b`
pub bit-one : (b k : ℕ) → bit (2 ^ b) k ≡ eqb b k
bit-one zero zero = bit_zero 1
bit-one zero (suc k) = bit_suc 1 k ∙ bit_high 0 k (pow_pos k) ∙ sym (eqb-zero-suc k)
bit-one (suc b) zero = bit_zero (2 ^ suc b) ∙ ap (λ (x : ℕ). eqb x 1) (let e : 2 ^ suc b % 2 ≡ 0 = omega arith in e) ∙ sym (eqb-suc-zero b)
bit-one (suc b) (suc k) = bit_suc (2 ^ suc b) k ∙ ap (λ (x : ℕ). bit x k) (let e : 2 ^ suc b / 2 ≡ 2 ^ b = omega arith in e) ∙ bit-one b k
    ∙ sym (eqb-suc-suc b k)

-- the word of the other bits below k: `!x` at k bits
pub bit_complement : (k x b : ℕ) → x < 2 ^ k → b < k → bit (2 ^ k - 1 - x) b ≡ not (bit x b)
bit_complement zero x b h l = absurd (not-suc-le-zero l)
bit_complement (suc k) x zero h l =
    bit_zero (2 ^ suc k - 1 - x) ∙ ap (λ (y : ℕ). eqb y 1) (let e : (2 ^ suc k - 1 - x) % 2 ≡ 1 - x % 2 = omega (arith, pow_pos k) in e)
    ∙ digit (x % 2) (mod-lt x (zero-lt-suc 1)) ∙ ap not (sym (bit_zero x))
  where
    digit : (a : ℕ) → a < 2 → eqb (1 - a) 1 ≡ not (eqb a 1)
    digit zero p = refl
    digit (suc a) p = let z : suc a ≡ 1 = omega arith in subst (λ (y : ℕ). eqb (1 - y) 1 ≡ not (eqb y 1)) (sym z) refl
bit_complement (suc k) x (suc b) h l =
    bit_suc (2 ^ suc k - 1 - x) b ∙ ap (λ (y : ℕ). bit y b) (let e : (2 ^ suc k - 1 - x) / 2 ≡ 2 ^ k - 1 - x / 2 = omega (arith, pow_pos k) in e)
    ∙ bit_complement k (x / 2) b (omega arith) (le_of_suc-le-suc l) ∙ ap not (sym (bit_suc x b))

-- words or-ed together are 0 only where each is
pub or_none : (a b : ℕ) → bit_or a b ≡ 0 → (a ≡ 0) × (b ≡ 0)
or_none a b z = let e = or_add_and a b in let l = and_le_l a b in let r = and_le_r a b in (omega arith, omega arith)
