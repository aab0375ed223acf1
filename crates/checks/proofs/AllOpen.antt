-- A pick has no forbidden bit exactly when its links are among those of the pick with all links open. Assumes nothing.
use mathlib.Core.Path.{◌≡◌, refl, sym, ap, ◌∙◌, subst}
use mathlib.Core.Logic.{⊎_elim}
use mathlib.Core.Bool.{◌||◌, ◌&&◌, not}
use mathlib.Core.List.{List}
use Prim.Native.Nat.{ℕ, ◌+◌, ◌-◌, ◌^◌, ◌≤◌, ◌<◌}
use native.Mathlib.Nat.{lt_of_lt_of_le}
use native.Mathlib.Omega.{arith}
use lib.Bits.{bit_and, bit_or, or_lt, or_add_and, and_le_l, and_le_r}
use lib.Dec.{T, eqb, eqb→eq, leb, leb→le, le→leb}
use lib.ListN.{length, get_or}
use Rattle.std.proofs.Common.{Fits, w32}
use Rattle.lists.specs.Tab.{every}
use Rattle.links.proofs.Gather.{bad_turn}
use lib.Pow.{pow_pos, lt_of_le_ones}
use Rattle.model.specs.Recording.{bit, link}
use Rattle.model.proofs.Logic.{tr, bool_ext, or_l, or_r, or_cases, and_both, and_l, and_r, not_in, not_out, eqb_ne, ne_eqb, eq_refl}
use Rattle.model.proofs.Bits.{bit-or, bits_ext}
use Rattle.model.proofs.Ones.{bit_low}
use Rattle.lists.proofs.Tab.{length-tab, get_or-tab, every_none, every_ext}
use Rattle.links.specs.Tables.{without}
use Rattle.links.proofs.Bits.{bit-without, without_lt, without_32}
use Rattle.checks.specs.Checks.{allowed, clean_row, clean, listed_row, listed, all_open}
use Rattle.links.specs.Picks.{lent_pick}
use Rattle.checks.specs.Lent.{clean_pick, clean_picks, listed_pick, listed_picks}
use Rattle.checks.proofs.Masks.{listed_word}

module _ (n u : ℕ) (n32 : n ≤ 32) (h : u < n) where
  -- row u of the pick with all links open
  abbrev row : ℕ
  row = without (allowed n) u

  -- its bits
  row_bit : (v : ℕ) → v < n → bit row v ≡ bit (allowed n) v && not (eqb u v)
  row_bit v hv = bit-without (allowed n) u v (lt_of_lt_of_le h n32) (lt_of_lt_of_le hv n32)

  small : row < 2 ^ n
  unfolding allowed
  small = without_lt n (2 ^ n - 1) u (omega (arith, pow_pos n))

  row_allowed : row ≤ allowed n
  unfolding without
  row_allowed = and_le_l (allowed n) (2 ^ 32 - 1 - 2 ^ u)

  -- a word whose links are in the row
  into : (x : ℕ) → bit_or x row ≡ row → T (leb x (allowed n) && not (bit x u))
  into x e =
      let s = or_add_and x row in
      let r = and_le_r x row in
      let b = row_allowed in
      and_both (leb x (allowed n)) (not (bit x u)) (le→leb x (allowed n) (omega arith))
      (not_in (bit x u) (λ t. ne_eqb u u (and_r (bit (allowed n) u) (not (eqb u u))
      (tr (row_bit u h) (tr (ap (λ (y : ℕ). bit y u) e) (tr (sym (bit-or x row u)) (or_l (bit x u) (bit row u) t))))) refl))

  out : (x : ℕ) → T (leb x (allowed n) && not (bit x u)) → bit_or x row ≡ row
  unfolding allowed
  out x t =
      let k : x < 2 ^ n = lt_of_le_ones n (leb→le x (2 ^ n - 1) (and_l (leb x (2 ^ n - 1)) (not (bit x u)) t)) in
      bits_ext n (bit_or x row) row (or_lt n x row k small) small (λ v hv. bit-or x row v ∙ bool_ext (bit x v || bit row v) (bit row v)
      (λ b. ⊎_elim (λ (c : T (bit x v)). tr (sym (row_bit v hv)) (and_both (bit (2 ^ n - 1) v) (not (eqb u v)) (bit_low n v hv)
      (eqb_ne u v (λ e. not_out (bit x u) (and_r (leb x (2 ^ n - 1)) (not (bit x u)) t) (subst (λ (y : ℕ). T (bit x y)) (sym e) c)))))
      (λ (c : T (bit row v)). c) (or_cases (bit x v) (bit row v) b))
      (or_r (bit x v) (bit row v)))

  row_clean : (w : List ℕ) → listed_row (all_open n) w u ≡ clean_row n w u
  unfolding listed_row clean_row all_open link
  row_clean w =
      let x = get_or w u 0 in
      ap (λ (y : ℕ). eqb (bit_or x y) y) (get_or-tab (without (allowed n)) n u h) ∙ bool_ext (eqb (bit_or x row) row) (leb x (allowed n) && not (bit x u))
      (λ t. into x (eqb→eq (bit_or x row) row t)) (λ t. eq_refl (out x t))

-- what a word has outside its row is none exactly when it has no forbidden bit
pub clean_word : (n : ℕ) (w : List ℕ) (u : ℕ) → n ≤ 32 → u < n → get_or w u 0 < 2 ^ 32
    → eqb (bit_and (get_or w u 0) (2 ^ 32 - 1 - without (allowed n) u)) 0 ≡ clean_row n w u
unfolding all_open
clean_word n w u n32 h hx =
    let e = get_or-tab (without (allowed n)) n u h in
    subst (λ (y : ℕ). eqb (bit_and (get_or w u 0) (2 ^ 32 - 1 - y)) 0 ≡ clean_row n w u) e
    (listed_word (all_open n) w u hx (subst (λ (y : ℕ). y < 2 ^ 32) (sym e) (without_32 (allowed n) u)) ∙ row_clean n u n32 h w)

-- a turn of the loop that gathers the forbidden bits
pub clean_turn : (n : ℕ) (w : List ℕ) (u bad : ℕ) → n ≤ 32 → u < n → eqb bad 0 ≡ every (clean_row n w) u → Fits w32 (get_or w u 0)
    → eqb (bit_or bad (bit_and (get_or w u 0) (2 ^ 32 - 1 - without (allowed n) u))) 0 ≡ every (clean_row n w) (u + 1)
clean_turn n w u bad n32 h e a =
    bad_turn (clean_row n w) u bad (bit_and (get_or w u 0) (2 ^ 32 - 1 - without (allowed n) u)) e (clean_word n w u n32 h (omega arith))

pub ruleset clean_turns = (every_none, clean_turn)

listed-clean : (n : ℕ) (w : List ℕ) → n ≤ 32 → listed n (all_open n) w ≡ clean n w
unfolding listed clean
listed-clean n w n32 = every_ext (listed_row (all_open n) w) (clean_row n w) n (λ u h. row_clean n u n32 h w)

-- THEOREM. So many picks are checked against one list.
pub listed-clean_picks : (n : ℕ) (w : List ℕ) (m : ℕ) → n ≤ 32 → listed_picks n (all_open n) w m ≡ clean_picks n w m
unfolding listed_picks clean_picks listed_pick clean_pick
listed-clean_picks n w m n32 = every_ext (listed_pick n (all_open n) w) (clean_pick n w) m (λ k h. listed-clean n (lent_pick n w k) n32)

pub length_open : (n : ℕ) → length (all_open n) ≡ n
unfolding all_open
length_open n = length-tab (without (allowed n)) n
