-- The word of the bits below n, 2 ^ n - 1, and the words that have them all. Assumes nothing.
use mathlib.Core.Path.{◌≡◌, sym, ap, ◌∙◌}
use mathlib.Core.Bool.{not}
use Prim.Native.Nat.{ℕ, ◌+◌, ◌-◌, ◌/◌, ◌^◌, ◌≤◌, ◌<◌}
use native.Mathlib.Nat.{sub-zero}
use native.Mathlib.Omega.{arith}
use lib.Bits.{bit_and, mask_lt}
use lib.Dec.{T}
use lib.Pow.{pow_pos, ones_lt, ones_split, high}
use Rattle.model.specs.Recording.{bit}
use Rattle.model.proofs.Logic.{tr, bool_ext, and_both, and_l}
use Rattle.model.proofs.Bits.{bit_high, bit-and, bit_complement, bits_ext}

-- the word of 32 ones, shifted down until n are left
pub low_ones : (n : ℕ) → n ≤ 32 → (2 ^ 32 - 1) / 2 ^ (32 - n) ≡ 2 ^ n - 1
low_ones n h =
    let e : n + (32 - n) ≡ 32 = omega arith in
    ap (λ (x : ℕ). x / 2 ^ (32 - n)) (ap (λ (k : ℕ). 2 ^ k - 1) (sym e) ∙ ones_split n (32 - n)) ∙ high (2 ^ n - 1) (32 - n) (ones_lt (32 - n))

-- the word of the bits below n has them
pub bit_low : (n v : ℕ) → v < n → T (bit (2 ^ n - 1) v)
bit_low n v h = tr (sym (ap (λ (x : ℕ). bit x v) (sym (sub-zero (2 ^ n - 1))) ∙ bit_complement n 0 v (pow_pos n) h
    ∙ ap not (bit_high 0 v (pow_pos v)))) tt

-- a word has all bits below n
pub all_in : (n y : ℕ) → ((v : ℕ) → v < n → T (bit y v)) → bit_and y (2 ^ n - 1) ≡ 2 ^ n - 1
all_in n y f =
    bits_ext n (bit_and y (2 ^ n - 1)) (2 ^ n - 1) (mask_lt y n) (ones_lt n) (λ v h. bool_ext (bit (bit_and y (2 ^ n - 1)) v) (bit (2 ^ n - 1) v)
    (λ b. bit_low n v h) (λ b. tr (sym (bit-and y (2 ^ n - 1) v)) (and_both (bit y v) (bit (2 ^ n - 1) v) (f v h) b)))

pub all_out : (n y : ℕ) → bit_and y (2 ^ n - 1) ≡ 2 ^ n - 1 → (v : ℕ) → v < n → T (bit y v)
all_out n y e v h = and_l (bit y v) (bit (2 ^ n - 1) v) (tr (ap (λ (x : ℕ). bit x v) (sym e) ∙ bit-and y (2 ^ n - 1) v) (bit_low n v h))
