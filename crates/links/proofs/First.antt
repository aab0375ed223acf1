-- The first board of a set: as many zeros stand below it. Assumes nothing.
use mathlib.Core.Path.{◌≡◌, sym, subst, ◌∙◌}
use mathlib.Core.Bool.{false}
use mathlib.Core.Logic.{◌≢◌, ⊎_elim}
use Prim.Native.Nat.{ℕ, zero, suc, ◌/◌, ◌%◌, ◌^◌, ◌<◌}
use native.Mathlib.Nat.{not-suc-le-zero, le_of_suc-le-suc}
use native.Mathlib.Omega.{arith}
use lib.Count.{count_trailing_zeros, under}
use lib.Dec.{T}
use Rattle.model.specs.Recording.{bit}
use Rattle.model.proofs.Logic.{tr, eq_or, eq_refl}
use Rattle.model.proofs.Bits.{bit_zero, bit_suc}

-- t is the number of the lowest set digit of x, which has k
abbrev Lowest : ℕ → ℕ → ℕ → Type 0
Lowest k x t = (t < k) × T (bit x t) × ((b : ℕ) → b < t → bit x b ≡ false)

-- its number is below that of the digits, its bit is set, and none below it is
pub first_bit : (k x : ℕ) → x < 2 ^ k → x ≢ 0 → Lowest k x (count_trailing_zeros k x)
unfolding count_trailing_zeros
first_bit zero x h ne = absurd (ne (omega arith))
first_bit (suc k) x h ne =
    ⊎_elim (λ (e : x % 2 ≡ 1). odd e)
    (λ (e : x % 2 ≢ 1). let z : x % 2 ≡ 0 = omega arith in even z (first_bit k (x / 2) (omega arith) (λ q. ne (omega arith)))) (eq_or (x % 2) 1)
  where
    odd : x % 2 ≡ 1 → Lowest (suc k) x (under (x % 2) (count_trailing_zeros k (x / 2)))
    odd e =
        subst (λ (d : ℕ). Lowest (suc k) x (under d (count_trailing_zeros k (x / 2)))) (sym e)
        (omega arith, tr (sym (bit_zero x)) (eq_refl e), λ b l. absurd (not-suc-le-zero l))

    below : x % 2 ≡ 0 → (t : ℕ) → ((b : ℕ) → b < t → bit (x / 2) b ≡ false) → (b : ℕ) → b < suc t → bit x b ≡ false
    below e t q zero l = bit_zero x ∙ rw e
    below e t q (suc b) l = bit_suc x b ∙ q b (le_of_suc-le-suc l)

    even : x % 2 ≡ 0 → Lowest k (x / 2) (count_trailing_zeros k (x / 2)) → Lowest (suc k) x (under (x % 2) (count_trailing_zeros k (x / 2)))
    even e q =
        let l : count_trailing_zeros k (x / 2) < k = q.0 in
        subst (λ (d : ℕ). Lowest (suc k) x (under d (count_trailing_zeros k (x / 2)))) (sym e)
        (omega arith, tr (sym (bit_suc x (count_trailing_zeros k (x / 2)))) q.1, below e (count_trailing_zeros k (x / 2)) q.2)
