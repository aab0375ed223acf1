-- The union of the picks has a bit exactly where some pick has it, so that it is listed exactly when all of them are. Assumes nothing.
use mathlib.Core.Path.{◌≡◌, sym, ap, ◌∙◌}
use mathlib.Core.Logic.{⊎_elim}
use mathlib.Core.Bool.{Bool, true, ◌&&◌}
use mathlib.Core.List.{List}
use Prim.Native.Nat.{ℕ, zero, suc, ◌≤◌, ◌<◌, zero-le}
use native.Mathlib.Nat.{zero-add}
use native.Mathlib.Omega.{arith}
use lib.Bits.{bit_or, or_zero_l}
use lib.Dec.{eqb, eqb→eq}
use lib.ListN.{get_or, take, get_or-replicate}
use Rattle.model.specs.Recording.{bit}
use Rattle.model.proofs.Logic.{tr, T→≡, bool_ext, or_l, or_r, or_cases, and_both, and_l, and_r, eq_refl}
use Rattle.model.proofs.Bits.{bit-or}
use Rattle.lists.specs.Tab.{zeros, every, splice}
use Rattle.lists.proofs.Splice.{read_inside}
use Rattle.lists.proofs.Zeros.{zeros_inside}
use Rattle.lists.proofs.Tab.{get_or-tab, length-zeros, every_in, every_out}
use Rattle.links.specs.Tables.{union, either_row}
use Rattle.links.specs.Picks.{lent_pick, united_picks}
use Rattle.links.proofs.Picks.{length_united}
use Rattle.checks.specs.Checks.{listed_row, listed, all_open}
use Rattle.checks.specs.Lent.{listed_pick, listed_picks, clean_picks}
use Rattle.std.proofs.lemmas.Grind.{common_steps}
use Rattle.checks.proofs.Masks.{or_in, or_out}
use Rattle.checks.proofs.AllOpen.{listed-clean_picks, length_open}

-- ---- one row

-- m has the bits of a and b or-ed exactly when it has those of each
both_words : (a b m : ℕ) → eqb (bit_or (bit_or a b) m) m ≡ eqb (bit_or a m) m && eqb (bit_or b m) m
both_words a b m =
    bool_ext (eqb (bit_or (bit_or a b) m) m) (eqb (bit_or a m) m && eqb (bit_or b m) m)
    (λ t. let f = or_out (bit_or a b) m (eqb→eq (bit_or (bit_or a b) m) m t) in
    and_both (eqb (bit_or a m) m) (eqb (bit_or b m) m)
    (eq_refl (or_in a m (λ v h. f v (tr (sym (bit-or a b v)) (or_l (bit a v) (bit b v) h)))))
    (eq_refl (or_in b m (λ v h. f v (tr (sym (bit-or a b v)) (or_r (bit a v) (bit b v) h))))))
    (λ t. eq_refl (or_in (bit_or a b) m (λ v h. ⊎_elim
    (or_out a m (eqb→eq (bit_or a m) m (and_l (eqb (bit_or a m) m) (eqb (bit_or b m) m) t)) v)
    (or_out b m (eqb→eq (bit_or b m) m (and_r (eqb (bit_or a m) m) (eqb (bit_or b m) m) t)) v)
    (or_cases (bit a v) (bit b v) (tr (bit-or a b v) h)))))

row_union : (n : ℕ) (l s t : List ℕ) (u : ℕ) → u < n → listed_row l (union n s t) u ≡ listed_row l s u && listed_row l t u
unfolding listed_row union either_row
row_union n l s t u h =
    ap (λ (x : ℕ). eqb (bit_or x (get_or l u 0)) (get_or l u 0)) (get_or-tab (either_row s t) n u h) ∙ both_words (get_or s u 0) (get_or t u 0) (get_or l u 0)

-- ---- tables

every_both : (f g h : ℕ → Bool) (n : ℕ) → ((u : ℕ) → u < n → h u ≡ f u && g u) → every h n ≡ every f n && every g n
every_both f g h n e =
    bool_ext (every h n) (every f n && every g n)
    (λ t. and_both (every f n) (every g n)
    (every_in f n (λ u l. and_l (f u) (g u) (tr (e u l) (every_out h n t u l))))
    (every_in g n (λ u l. and_r (f u) (g u) (tr (e u l) (every_out h n t u l)))))
    (λ t. every_in h n (λ u l. tr (sym (e u l)) (and_both (f u) (g u)
    (every_out f n (and_l (every f n) (every g n) t) u l)
    (every_out g n (and_r (every f n) (every g n) t) u l))))

listed-union : (n : ℕ) (l s t : List ℕ) → listed n l (union n s t) ≡ listed n l s && listed n l t
unfolding listed
listed-union n l s t = every_both (listed_row l s) (listed_row l t) (listed_row l (union n s t)) n (row_union n l s t)

listed_none : (n : ℕ) (l : List ℕ) → listed n l (zeros n) ≡ true
unfolding listed listed_row zeros
listed_none n l =
    T→≡ (every (listed_row l (zeros n)) n)
    (every_in (listed_row l (zeros n)) n (λ u h. eq_refl (ap (λ (x : ℕ). bit_or x (get_or l u 0)) (get_or-replicate n u 0 0 h) ∙ or_zero_l (get_or l u 0))))

-- THEOREM. The union of picks is listed exactly when each of them is.
pub listed_united : (n : ℕ) (l w : List ℕ) (m : ℕ) → listed n l (united_picks n (zeros n) w 0 m) ≡ listed_picks n l w m
unfolding united_picks listed_picks every listed_pick
listed_united n l w zero = listed_none n l
listed_united n l w (suc m) =
    ap (λ (k : ℕ). listed n l (union n (united_picks n (zeros n) w 0 m) (lent_pick n w k))) (zero-add m)
    ∙ listed-union n l (united_picks n (zeros n) w 0 m) (lent_pick n w m) ∙ ap (λ (b : Bool). b && listed n l (lent_pick n w m)) (listed_united n l w m)

-- ---- the tables that code lends

-- the first n words of the pick with all links open, and zeros
pub lent_open : (n : ℕ) (x : List ℕ) → x ≡ splice 0 n (all_open n) (zeros 32) → take n x ≡ all_open n
lent_open n x e = rw e (read_inside 0 n (all_open n) (zeros 32) (length_open n) zero-le)

pub lent_zeros : (n : ℕ) → n ≤ 32 → take n (zeros 32) ≡ zeros n
lent_zeros n h = zeros_inside 0 n 32 (omega arith)

-- THEOREM. So many picks are checked at once: their union against all links.
pub union_clean : (n : ℕ) (w : List ℕ) (m : ℕ) → n ≤ 32 → listed n (all_open n) (united_picks n (zeros n) w 0 m) ≡ clean_picks n w m
union_clean n w m h = listed_united n (all_open n) w m ∙ listed-clean_picks n w m h

pub ruleset unions = (common_steps, lent_open, lent_zeros, union_clean, length_united, length-zeros, length_open)
