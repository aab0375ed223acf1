-- A word of a row of a pick's own table, by the bit of its board. Assumes nothing.
use Rattle.std.proofs.Common.{◌≡◌, ℕ, suc, ◌+◌, ◌-◌, ◌*◌, ◌^◌, ◌<◌, Bool, true, false, not, ◌&&◌, eqb, List, ◌++◌, length, get_or, take, sym, refl, ap, ◌∙◌, lt_of_le_of_lt, arith, pow_pos, eq-eqb, ne_eqb, eqb-true}
use lib.Bits.{bit_and, and_comm, and_le_r}
use lib.Pow.{pow-lt}
use Rattle.model.specs.Recording.{bit, link}
use Rattle.model.proofs.Logic.{tr}
use Rattle.model.proofs.Bits.{bit_high, bit-and, bit-one, bits_ext}
use Rattle.lists.specs.Tab.{tab, kept}
use Rattle.lists.proofs.Tab.{length-tab, get_or-tab, made_all}
use Rattle.times.specs.Times.{rows, own_time}
use Rattle.times.specs.Own.{board_bit, own_word}
use Rattle.times.proofs.Cells.{length-rows}
use Rattle.times.proofs.Rows.{Rowed, rows_none, rowed_turn, half_few}
use Rattle.std.proofs.lemmas.Grind.{common_steps}
use Rattle.std.proofs.Common.{drop}

-- ---- one word

-- a word has the bit of a board, or no bit in common with it
board-bit : (x v : ℕ) → eqb (bit_and x (2 ^ v)) 0 ≡ not (bit x v)
board-bit x v = by (bit x v) refl
  where
    common : (k : ℕ) → bit (bit_and x (2 ^ v)) k ≡ eqb v k && bit x k
    common k = ap (λ (y : ℕ). bit y k) (and_comm x (2 ^ v)) ∙ bit-and (2 ^ v) x k ∙ ap (λ (b : Bool). b && bit x k) (bit-one v k)

    none : (k : ℕ) → bit x v ≡ false → (b : Bool) → eqb v k ≡ b → b && bit x k ≡ false
    none k e true q = rw (sym (eqb-true v k q), e)
    none k e false q = refl

    by : (b : Bool) → bit x v ≡ b → eqb (bit_and x (2 ^ v)) 0 ≡ not b
    by true e =
        let q : bit (bit_and x (2 ^ v)) v ≡ true = common v ∙ rw (e, eq-eqb v v refl) in
        ne_eqb (bit_and x (2 ^ v)) 0 (λ z. tr (sym q ∙ ap (λ (y : ℕ). bit y v) z ∙ bit_high 0 v (pow_pos v)) tt)
    by false e =
        eq-eqb (bit_and x (2 ^ v)) 0
        (bits_ext (suc v) (bit_and x (2 ^ v)) 0 (lt_of_le_of_lt (and_le_r x (2 ^ v)) (pow-lt {j = suc v} (omega arith))) (pow_pos (suc v))
        (λ k h. common k ∙ none k e (eqb v k) refl ∙ sym (bit_high 0 k (pow_pos k))))

-- a word of a row, by the bit of its board
pub own_is : (p x v : ℕ) (bits : List ℕ) → bits ≡ tab board_bit 32 → v < 32
    → kept (not (eqb (bit_and x (get_or bits v 0)) 0)) p ≡ own_word p x v
unfolding own_word board_bit
own_is p x v bits e h = rw (e, get_or-tab board_bit 32 v h, board-bit x v) (by (bit x v))
  where
    by : (b : Bool) → kept (not (not b)) p ≡ kept b p
    by true = refl
    by false = refl

-- the table of bits, as code reads it
pub length_bits : (bits : List ℕ) → bits ≡ tab board_bit 32 → length bits ≡ 32
length_bits bits e = ap length e ∙ length-tab board_bit 32

pub ruleset own_rows = (common_steps, own_is, length_bits, made_all)

-- a turn of the loop over the rows
pub own_turn : (i n u : ℕ) (w t₀ t row : List ℕ) → u < n → Rowed n (own_time i w) t₀ t u → row ≡ tab (own_word i (get_or w u 0)) n
    → take (u * n) t ++ (row ++ drop (u * n + n - u * n) (drop (u * n) t)) ≡ rows n (own_time i w) (u + 1) ++ drop ((u + 1) * n) t₀
unfolding own_word own_time link
own_turn i n u w t₀ t row h e q = rowed_turn n u (own_time i w) t₀ t row e q

pub ruleset own_turns = (common_steps, rows_none, own_turn, length-rows, half_few)
