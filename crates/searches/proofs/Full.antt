-- The test of a row by whole words, and the bits that it lacks. Assumes nothing.
use mathlib.Core.Path.{◌≡◌, refl, sym, ap, ap₂, ◌∙◌}
use mathlib.Core.Logic.{◌≢◌}
use mathlib.Core.Bool.{Bool, true, false, ◌||◌, ◌&&◌, not}
use mathlib.Core.List.{List}
use Prim.Native.Nat.{ℕ, ◌+◌, ◌-◌, ◌^◌, ◌≤◌, ◌<◌}
use native.Mathlib.Omega.{arith}
use lib.Bits.{bit_and, bit_or, and_le_l, or_lt}
use lib.Count.{ones}
use lib.Dec.{T, eqb, eqb→eq}
use lib.ListN.{get_or}
use borrow.Author.Tests.{ne_eqb}
use Rattle.std.proofs.Common.{Fits, w32}
use lib.Pow.{pow_pos, pow-lt}
use Rattle.model.specs.Recording.{bit, link}
use Rattle.model.proofs.Logic.{tr, T→≡, bool_ext, eq_refl}
use Rattle.model.proofs.Bits.{bit-or, bit-and, bit-one, bit_complement}
use Rattle.model.proofs.Ones.{bit_low, all_in, all_out}
use Rattle.lists.specs.Tab.{every, how_many, how_many_pairs}
use Rattle.lists.proofs.Tab.{every_in, every_out, every_none, every-next, every_stop}
use Rattle.lists.proofs.Many.{many_ext, ones_bits, pairs_none_yet, pairs_le, row_counted}
use Rattle.links.specs.Tables.{pair_full, row_full, pair_unmarked}

-- the bits of a row with its own
own_bit : (x u v : ℕ) → bit (bit_or x (2 ^ u)) v ≡ eqb u v || bit x v
own_bit x u v = bit-or x (2 ^ u) v ∙ ap (λ (b : Bool). bit x v || b) (bit-one u v) ∙ or_comm (bit x v) (eqb u v)
  where
    or_comm : (a b : Bool) → a || b ≡ b || a
    or_comm true true = refl
    or_comm true false = refl
    or_comm false true = refl
    or_comm false false = refl

-- a row with its own bit has all bits below n exactly when it marks each pair
pub row-full : (n : ℕ) (t : List ℕ) (u : ℕ) → row_full n t u ≡ eqb (bit_and (bit_or (get_or t u 0) (2 ^ u)) (2 ^ n - 1)) (2 ^ n - 1)
unfolding row_full pair_full link
row-full n t u =
    bool_ext (every (pair_full t u) n) (eqb (bit_and y (2 ^ n - 1)) (2 ^ n - 1))
    (λ m. eq_refl (all_in n y (λ v h. into v (every_out (pair_full t u) n m v h))))
    (λ m. every_in (pair_full t u) n (λ v h. out v (all_out n y (eqb→eq (bit_and y (2 ^ n - 1)) (2 ^ n - 1) m) v h)))
  where
    y : ℕ
    y = bit_or (get_or t u 0) (2 ^ u)

    into : (v : ℕ) → T (eqb u v || bit (get_or t u 0) v) → T (bit y v)
    into v m = tr (sym (own_bit (get_or t u 0) u v)) m

    out : (v : ℕ) → T (bit y v) → T (eqb u v || bit (get_or t u 0) v)
    out v m = tr (own_bit (get_or t u 0) u v) m

-- the boards below n that a row lacks, but for its own, are the pairs that it does not mark
pub row_unmarked : (n : ℕ) (t : List ℕ) (u : ℕ) → n ≤ 32 → u < 32 → get_or t u 0 < 2 ^ 32
    → ones (bit_and (2 ^ n - 1) (2 ^ 32 - 1 - bit_or (get_or t u 0) (2 ^ u))) ≡ how_many (pair_unmarked t u) n
unfolding pair_unmarked pair_full link
row_unmarked n t u n32 h w =
    let y : ℕ = bit_or (get_or t u 0) (2 ^ u) in
    let z : ℕ = 2 ^ 32 - 1 - y in
    let small : bit_and (2 ^ n - 1) z < 2 ^ n = let a = and_le_l (2 ^ n - 1) z in let b = pow_pos n in omega arith in
    ones_bits n (bit_and (2 ^ n - 1) z) small
    ∙ many_ext (bit (bit_and (2 ^ n - 1) z)) (pair_unmarked t u) n (λ v l.
    bit-and (2 ^ n - 1) z v
    ∙ ap₂ ◌&&◌ (T→≡ (bit (2 ^ n - 1) v) (bit_low n v l))
    (bit_complement 32 y v (or_lt 32 (get_or t u 0) (2 ^ u) w (pow-lt {j = 32} h)) (omega arith) ∙ ap not (own_bit (get_or t u 0) u v)))

-- ---- a turn of the loops over the rows

module _ (n : ℕ) (t : List ℕ) (u : ℕ) (h : u < n) (n32 : n ≤ 32) where
  pub full_turn : every (row_full n t) u ≡ true → bit_and (bit_or (get_or t u 0) (2 ^ u)) (2 ^ n - 1) ≡ 2 ^ n - 1 → every (row_full n t) (u + 1) ≡ true
  full_turn e q = every-next (row_full n t) u e (row-full n t u ∙ T→≡ _ (eq_refl q))

  pub full_stop : (bit_and (bit_or (get_or t u 0) (2 ^ u)) (2 ^ n - 1) ≢ 2 ^ n - 1) → every (row_full n t) n ≡ false
  full_stop q = every_stop (row_full n t) n u h (row-full n t u ∙ ne_eqb _ _ q)

  pub unmarked_turn : (k : ℕ) → k ≡ how_many_pairs (pair_unmarked t) n u → Fits w32 (get_or t u 0)
      → k + ones (bit_and (2 ^ n - 1) (2 ^ 32 - 1 - bit_or (get_or t u 0) (2 ^ u))) ≡ how_many_pairs (pair_unmarked t) n (u + 1)
  unmarked_turn k e a = row_counted (pair_unmarked t) n u e (row_unmarked n t u n32 (omega arith) (omega arith))

pub ruleset full_turns = (every_none, full_turn, full_stop)

pub ruleset unmarked_turns = (pairs_none_yet, pairs_le, unmarked_turn)
