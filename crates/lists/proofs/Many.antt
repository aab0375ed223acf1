-- Laws of counts: a turn of the loop that counts, bounds, what is counted where a test holds, and the set bits of a word. Assumes nothing.
use mathlib.Core.Path.{◌≡◌, refl, ap, ap₂, ◌∙◌, sym, subst}
use mathlib.Core.Logic.{◌↔◌}
use mathlib.Core.Bool.{Bool, true, false, not}
use Prim.Native.Nat.{ℕ, zero, suc, ◌+◌, ◌*◌, ◌/◌, ◌%◌, ◌^◌, ◌≤◌, ◌<◌, zero-le}
use native.Mathlib.Nat.{add_assoc, add-zero, suc-mul, div-one, one-mul, mod-eq_of_lt}
use lib.Pow.{pow-lt}
use native.Mathlib.Numerals.{add-one}
use native.Mathlib.Omega.{arith}
use lib.Count.{ones, ones_step}
use lib.Dec.{T, eqb, eqb→eq}
use Rattle.model.specs.Count.{Count, none, one_more, no_more, CountRows, no_row, one_row}
use Rattle.model.specs.Journey.{val}
use Rattle.model.specs.Recording.{bit}
use Rattle.model.proofs.Bits.{bit_suc, bit_digit, val_le}
use Rattle.model.proofs.Count.{rows_none}
use Rattle.model.proofs.Logic.{tr, bool_ext, eq_refl, not_out}
use Rattle.lists.specs.Tab.{every, how_many, how_many_pairs}
use Rattle.lists.proofs.Tab.{every_in, every_out}

-- ---- a loop that counts

pub many_next : (f : ℕ → Bool) (k : ℕ) → how_many f (k + 1) ≡ how_many f k + val (f k)
unfolding how_many
many_next f k = rw add-one

pub pairs_none_yet : (f : ℕ → ℕ → Bool) (n : ℕ) → how_many_pairs f n 0 ≡ 0
unfolding how_many_pairs
pairs_none_yet f n = refl

pub pairs_next : (f : ℕ → ℕ → Bool) (n k : ℕ) → how_many_pairs f n (k + 1) ≡ how_many_pairs f n k + how_many (f k) n
unfolding how_many_pairs
pairs_next f n k = rw add-one

-- ---- bounds

pub many_le : (f : ℕ → Bool) (k : ℕ) → how_many f k ≤ k
unfolding how_many
many_le f zero = zero-le
many_le f (suc k) = omega (arith, many_le f k, val_le (f k))

pub pairs_le : (f : ℕ → ℕ → Bool) (n k : ℕ) → how_many_pairs f n k ≤ k * n
unfolding how_many_pairs
pairs_le f n zero = zero-le
pairs_le f n (suc k) = let e : suc k * n ≡ k * n + n = suc-mul k n in omega (arith, pairs_le f n k, many_le (f k) n)

-- a turn of a loop over rows, which adds the number x of row u
module _ (f : ℕ → ℕ → Bool) (n u : ℕ) {k x : ℕ} (e : k ≡ how_many_pairs f n u) (g : x ≡ how_many (f u) n) where
  pub row_counted : k + x ≡ how_many_pairs f n (u + 1)
  row_counted = ap₂ ◌+◌ e g ∙ sym (pairs_next f n u)

-- ---- tests that agree

pub many_ext : (f g : ℕ → Bool) (k : ℕ) → ((i : ℕ) → i < k → f i ≡ g i) → how_many f k ≡ how_many g k
unfolding how_many
many_ext f g zero h = refl
many_ext f g (suc k) h = ap₂ (λ (x : ℕ) (b : Bool). x + val b) (many_ext f g k (λ i l. h i (omega arith))) (h k (omega arith))

-- none from n on
pub many_above : (f : ℕ → Bool) (n d : ℕ) → ((i : ℕ) → n ≤ i → f i ≡ false) → how_many f (n + d) ≡ how_many f n
unfolding how_many
many_above f n zero h = ap (how_many f) (add-zero n)
many_above f n (suc d) h =
    let e : n + suc d ≡ suc (n + d) = omega arith in
    rw e (ap₂ (λ (x : ℕ) (b : Bool). x + val b) (many_above f n d h) (h (n + d) (omega arith)) ∙ add-zero (how_many f n))

pub pairs_ext : (f g : ℕ → ℕ → Bool) (m n k : ℕ) → ((u : ℕ) → u < k → how_many (f u) m ≡ how_many (g u) n) → how_many_pairs f m k ≡ how_many_pairs g n k
unfolding how_many_pairs
pairs_ext f g m n zero h = refl
pairs_ext f g m n (suc k) h = ap₂ ◌+◌ (pairs_ext f g m n k (λ u l. h u (omega arith))) (h k (omega arith))

-- ---- the number, by the meaning

counted_by : {R : ℕ → Type 0} {k c : ℕ} (b : Bool) → T b ↔ R k → Count R k c → Count R (suc k) (c + val b)
counted_by {R} {k} {c} true e a = subst (Count R (suc k)) (sym (add-one c)) (one_more a (e.0 tt))
counted_by {R} {k} {c} false e a = subst (Count R (suc k)) (sym (add-zero c)) (no_more a e.1)

pub counted : (f : ℕ → Bool) (R : ℕ → Type 0) (k : ℕ) → ((v : ℕ) → v < k → T (f v) ↔ R v) → Count R k (how_many f k)
unfolding how_many
counted f R zero e = none
counted f R (suc k) e = counted_by (f k) (e k (omega arith)) (counted f R k (λ v h. e v (omega arith)))

pub counted_rows : (f : ℕ → ℕ → Bool) (R : ℕ → ℕ → Type 0) (n k : ℕ) → ((u v : ℕ) → u < k → v < n → T (f u v) ↔ R u v)
    → CountRows n R k (how_many_pairs f n k)
unfolding how_many_pairs
counted_rows f R n zero e = no_row
counted_rows f R n (suc k) e = one_row (counted_rows f R n k (λ u v h. e u v (omega arith))) (counted (f k) (R k) n (λ v h. e k v (omega arith) h))

-- nothing is counted exactly where no test holds
pub pairs_zero : (f : ℕ → ℕ → Bool) (n k : ℕ) → (how_many_pairs f n k ≡ 0) ↔ ((u v : ℕ) → u < k → v < n → T (f u v) → ⊥)
pairs_zero f n k = rows_none (counted_rows f (λ u v. T (f u v)) n k (λ u v h g. (λ x. x, λ x. x)))

-- where g denies f, nothing is counted exactly where f holds of every pair
pub none_denied : (f g : ℕ → ℕ → Bool) (n k : ℕ) → ((u v : ℕ) → g u v ≡ not (f u v)) → eqb (how_many_pairs g n k) 0 ≡ every (λ u. every (f u) n) k
none_denied f g n k e =
    bool_ext (eqb (how_many_pairs g n k) 0) (every (λ u. every (f u) n) k)
    (λ z. every_in (λ u. every (f u) n) k (λ u hu. every_in (f u) n (λ v hv. denied_not (f u v) (λ x. (pairs_zero g n k).0
    (eqb→eq (how_many_pairs g n k) 0 z) u v hu hv (tr (sym (e u v)) x)))))
    (λ m. eq_refl ((pairs_zero g n k).1 (λ u v hu hv x. not_out (f u v) (tr (e u v) x) (every_out (f u) n (every_out (λ u. every (f u) n) k m u hu) v hv))))
  where
    denied_not : (a : Bool) → (T (not a) → ⊥) → T a
    denied_not true h = tt
    denied_not false h = absurd (h tt)

-- ---- the set bits of a word

-- the word of bit v alone, as a shift gives it
pub one_bit : (v : ℕ) → v < 32 → 1 * 2 ^ v % 2 ^ 32 ≡ 2 ^ v
one_bit v h = simp (one-mul, mod-eq_of_lt (pow-lt {j = 32} h))

many_first : (f : ℕ → Bool) (k : ℕ) → how_many f (suc k) ≡ val (f 0) + how_many (λ i. f (suc i)) k
unfolding how_many
many_first f zero = omega arith
many_first f (suc k) =
    ap (λ (x : ℕ). x + val (f (suc k))) (many_first f k) ∙ add_assoc (val (f 0)) (how_many (λ i. f (suc i)) k) (val (f (suc k)))

none_set : ones 0 ≡ 0
unfolding ones
none_set = refl

low_digit : (x : ℕ) → x % 2 ≡ val (bit x 0)
low_digit x = ap (λ (y : ℕ). y % 2) (sym (div-one x)) ∙ bit_digit x 0

pub ones_bits : (k x : ℕ) → x < 2 ^ k → ones x ≡ how_many (bit x) k
unfolding how_many
ones_bits zero x h = let e : x ≡ 0 = omega arith in rw e none_set
ones_bits (suc k) x h =
    ones_step x
    ∙ ap₂ ◌+◌ (low_digit x) (ones_bits k (x / 2) (omega arith) ∙ many_ext (bit (x / 2)) (λ i. bit x (suc i)) k (λ i l. sym (bit_suc x i)))
    ∙ sym (many_first (bit x) k)
