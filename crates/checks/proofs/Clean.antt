-- The checks say what the meaning says. Assumes nothing.
use mathlib.Core.Path.{◌≡◌, sym, subst}
use mathlib.Core.Logic.{◌↔◌}
use mathlib.Core.Bool.{not}
use mathlib.Core.List.{List}
use Prim.Native.Nat.{ℕ, ◌-◌, ◌^◌, ◌≤◌, ◌<◌}
use native.Mathlib.Decide.{dec_lt}
use native.Mathlib.Omega.{arith}
use lib.Bits.{bit_or}
use lib.Dec.{T, eqb→eq, leb, leb→le, le→leb}
use lib.ListN.{length, get_or, get_or-eq_default}
use lib.Pow.{pow_pos}
use Rattle.model.specs.Recording.{link, Clean}
use Rattle.model.proofs.Logic.{and_both, and_l, and_r, not_in, not_out, eq_refl}
use Rattle.model.proofs.Links.{link_from}
use Rattle.lists.proofs.Tab.{every_in, every_out}
use Rattle.checks.specs.Checks.{allowed, clean_row, clean, listed_row, listed}
use Rattle.checks.proofs.Masks.{or_in, or_out}

-- n words are let through exactly when they have no forbidden bit
pub clean_is : (n : ℕ) (w : List ℕ) → length w ≡ n → T (clean n w) ↔ Clean n w
unfolding clean clean_row allowed
clean_is n w e = (
  λ t. record { words = record { size = e; small = λ u. small t u (dec_lt u n) }; loopless = λ u m. own t u m (dec_lt u n) },
  λ k. every_in (clean_row n w) n (λ u h. and_both (leb (get_or w u 0) (2 ^ n - 1)) (not (link w u u))
      (le→leb (get_or w u 0) (2 ^ n - 1) (omega (arith, k.words.small u))) (not_in (link w u u) (k.loopless u))),
)
  where
    small : T (clean n w) → (u : ℕ) → Dec (u < n) → get_or w u 0 < 2 ^ n
    small t u (yes h) =
        let l = leb→le (get_or w u 0) (2 ^ n - 1) (and_l (leb (get_or w u 0) (2 ^ n - 1)) (not (link w u u)) (every_out (clean_row n w) n t u h)) in
        omega (arith, pow_pos n)
    small t u (no h) = let k : length w ≤ u = omega arith in subst (λ (x : ℕ). x < 2 ^ n) (sym (get_or-eq_default w 0 k)) (pow_pos n)

    own : T (clean n w) → (u : ℕ) → T (link w u u) → Dec (u < n) → ⊥
    own t u m (yes h) = not_out (link w u u) (and_r (leb (get_or w u 0) (2 ^ n - 1)) (not (link w u u)) (every_out (clean_row n w) n t u h)) m
    own t u m (no h) = h (link_from n w (record { size = e; small = λ x. small t x (dec_lt x n) }) u u m)

-- a pick without a forbidden bit is let through by a footprint, whatever words it has, exactly when the footprint has each of its links
pub listed_is : (n : ℕ) (footprint w : List ℕ) → Clean n w → T (listed n footprint w) ↔ ((u v : ℕ) → T (link w u v) → T (link footprint u v))
unfolding listed listed_row link
listed_is n l w k = (
  λ t u v m. let e = eqb→eq (bit_or (get_or w u 0) (get_or l u 0)) (get_or l u 0) (every_out (listed_row l w) n t u (link_from n w k.words u v m)) in
      or_out (get_or w u 0) (get_or l u 0) e v m,
  λ f. every_in (listed_row l w) n (λ u h. eq_refl (or_in (get_or w u 0) (get_or l u 0) (f u))),
)
