-- Bits outside a mask, as the checks gather them: what they are in one word. Assumes nothing.
use mathlib.Core.Path.{◌≡◌, sym, ap, ◌∙◌}
use mathlib.Core.Logic.{⊎_elim}
use mathlib.Core.Bool.{◌||◌}
use mathlib.Core.List.{List}
use Prim.Native.Nat.{ℕ, ◌+◌, ◌-◌, ◌^◌, ◌<◌}
use native.Mathlib.Nat.{lt_of_le_of_lt, lt_of_lt_of_le}
use native.Mathlib.Omega.{arith}
use lib.Bits.{bit_and, bit_or, or_lt, and_le_l}
use lib.Dec.{T, eqb, eqb→eq}
use lib.ListN.{get_or}
use Rattle.std.proofs.Common.{Fits, w32}
use Rattle.lists.specs.Tab.{every}
use Rattle.lists.proofs.Tab.{every_none}
use Rattle.links.proofs.Gather.{bad_turn}
use lib.Pow.{pow_pos, pow_mono}
use Rattle.links.proofs.Bits.{below_pow, bit_below}
use Rattle.model.specs.Recording.{bit}
use Rattle.model.proofs.Logic.{tr, F→≡, cases, bool_ext, or_l, or_r, or_cases, and_both, and_l, and_r, not_in, not_out, eq_refl}
use Rattle.model.proofs.Bits.{bit_high, bit-or, bit-and, bit_complement, bits_ext}
use Rattle.checks.specs.Checks.{listed_row}

-- w and m have no bit in common
disjoint : (w m : ℕ) → bit_and w m ≡ 0 → (v : ℕ) → T (bit w v) → T (bit m v) → ⊥
disjoint w m e v a b = tr (sym (bit-and w m v) ∙ ap (λ (x : ℕ). bit x v) e ∙ bit_high 0 v (pow_pos v)) (and_both (bit w v) (bit m v) a b)

disjoint_in : (w m : ℕ) → w < 2 ^ 32 → ((v : ℕ) → v < 32 → T (bit w v) → T (bit m v) → ⊥) → bit_and w m ≡ 0
disjoint_in w m h f =
    bits_ext 32 (bit_and w m) 0 (lt_of_le_of_lt (and_le_l w m) h) (pow_pos 32)
    (λ v hv. F→≡ (bit (bit_and w m) v) (λ t. let b = tr (bit-and w m v) t in f v hv (and_l (bit w v) (bit m v) b) (and_r (bit w v) (bit m v) b))
    ∙ sym (bit_high 0 v (pow_pos v)))

-- the bits of w outside m
outside : (w m : ℕ) → w < 2 ^ 32 → m < 2 ^ 32 → bit_and w (2 ^ 32 - 1 - m) ≡ 0 → (v : ℕ) → v < 32 → T (bit w v) → T (bit m v)
outside w m hw hm e v hv t =
    ⊎_elim (λ (b : T (bit m v)). b)
    (λ (b : T (bit m v) → ⊥). absurd (disjoint w (2 ^ 32 - 1 - m) e v t (tr (sym (bit_complement 32 m v hm hv)) (not_in (bit m v) b)))) (cases (bit m v))

-- or-ed with m, a word gives m exactly when m has each of its bits
pub or_out : (x m : ℕ) → bit_or x m ≡ m → (v : ℕ) → T (bit x v) → T (bit m v)
or_out x m e v t = tr (sym (bit-or x m v) ∙ ap (λ (y : ℕ). bit y v) e) (or_l (bit x v) (bit m v) t)

pub or_in : (x m : ℕ) → ((v : ℕ) → T (bit x v) → T (bit m v)) → bit_or x m ≡ m
or_in x m f =
    let b = x + m in
    let hx : x < 2 ^ b = lt_of_lt_of_le (below_pow x) (pow_mono (omega arith)) in
    let hm : m < 2 ^ b = lt_of_lt_of_le (below_pow m) (pow_mono (omega arith)) in
    bits_ext b (bit_or x m) m (or_lt b x m hx hm) hm (λ v hv. bit-or x m v ∙ bool_ext (bit x v || bit m v) (bit m v)
    (λ t. ⊎_elim (f v) (λ (z : T (bit m v)). z) (or_cases (bit x v) (bit m v) t)) (or_r (bit x v) (bit m v)))

-- a word has no link outside the footprint's
pub listed_word : (l w : List ℕ) (u : ℕ) → get_or w u 0 < 2 ^ 32 → get_or l u 0 < 2 ^ 32
    → eqb (bit_and (get_or w u 0) (2 ^ 32 - 1 - get_or l u 0)) 0 ≡ listed_row l w u
unfolding listed_row
listed_word l w u hx hm = bool_ext (eqb (bit_and x (2 ^ 32 - 1 - m)) 0) (eqb (bit_or x m) m) (λ t. eq_refl (one (eqb→eq (bit_and x (2 ^ 32 - 1 - m)) 0 t)))
    (λ t. eq_refl (two (eqb→eq (bit_or x m) m t)))
  where
    x : ℕ
    x = get_or w u 0

    m : ℕ
    m = get_or l u 0

    one : bit_and x (2 ^ 32 - 1 - m) ≡ 0 → bit_or x m ≡ m
    one e = or_in x m (λ v t. outside x m hx hm e v (bit_below x hx t) t)

    two : bit_or x m ≡ m → bit_and x (2 ^ 32 - 1 - m) ≡ 0
    two e =
        disjoint_in x (2 ^ 32 - 1 - m) hx (λ v hv a b. not_out (bit m v) (tr (bit_complement 32 m v hm hv) b)
        (or_out x m e v a))

-- a turn of the loop that gathers the links outside the footprint
pub listed_turn : (l w : List ℕ) (u bad : ℕ) → eqb bad 0 ≡ every (listed_row l w) u → Fits w32 (get_or w u 0) → Fits w32 (get_or l u 0)
    → eqb (bit_or bad (bit_and (get_or w u 0) (2 ^ 32 - 1 - get_or l u 0))) 0 ≡ every (listed_row l w) (u + 1)
listed_turn l w u bad e a b =
    bad_turn (listed_row l w) u bad (bit_and (get_or w u 0) (2 ^ 32 - 1 - get_or l u 0)) e (listed_word l w u (omega arith) (omega arith))

pub ruleset listed_turns = (every_none, listed_turn)
