-- Laws of n × n words in rows, and of the two halves of a table. Assumes nothing.
use Rattle.std.proofs.Common.{◌≡◌, ℕ, zero, suc, ◌+◌, ◌-◌, ◌*◌, ◌/◌, ◌%◌, ◌<◌, ◌≤◌, List, ◌++◌, length, get_or, drop, sym, ◌∙◌, subst, ⊎_elim, le_of_suc-le-suc, not-suc-le-zero, mul-le-mul_right, mod-lt, suc-mul, div-lt_iff_lt-mul, eq-or-lt_of_le, div-add-mod', zero-mul, arith, length-append, get_or-drop, get_or-append-add, ext_get_or, drop_at}
use lib.ListN.{get_or-append}
use Rattle.model.proofs.Logic.{le_or_lt}
use Rattle.lists.specs.Tab.{tab}
use Rattle.lists.proofs.Tab.{length-tab, get_or-tab}
use Rattle.times.specs.Times.{cell, rows, times_words, arr, dep}

pub length-rows : (n : ℕ) (f : ℕ → ℕ → ℕ) (k : ℕ) → length (rows n f k) ≡ k * n
unfolding rows
length-rows n f zero = sym (zero-mul n)
length-rows n f (suc k) = rw (length-append, length-rows n f k, length-tab, suc-mul)

-- the words of row u come before row k
cell_before : (n k u v : ℕ) → u < k → v < n → u * n + v < k * n
cell_before n k u v h l = omega (arith, mul-le-mul_right n h, suc-mul u n)

pub cell-rows : (n : ℕ) (f : ℕ → ℕ → ℕ) (k u v : ℕ) → u < k → v < n → cell n (rows n f k) u v ≡ f u v
unfolding rows
cell-rows n f zero u v h l = absurd (not-suc-le-zero h)
cell-rows n f (suc k) u v h l =
    ⊎_elim (λ (e : u ≡ k). rw (e, ← length-rows n f k) (get_or-append-add (rows n f k) (tab (f k) n) v 0 ∙ get_or-tab (f k) n v l))
    (λ (m : u < k). get_or-append (rows n f k) (tab (f k) n) 0 (u * n + v) (rw (length-rows n f k) (cell_before n k u v m l)) ∙ cell-rows n f k u v m l)
    (eq-or-lt_of_le (le_of_suc-le-suc h))

-- the halves of a table made of two
pub arr-append : (n : ℕ) (x y : List ℕ) (u v : ℕ) → length x ≡ n * n → u < n → v < n → arr n (x ++ y) u v ≡ cell n x u v
arr-append n x y u v e hu hv = get_or-append x y 0 (u * n + v) (omega (arith, cell_before n n u v hu hv))

pub dep-append : (n : ℕ) (x y : List ℕ) (u v : ℕ) → length x ≡ n * n → dep n (x ++ y) u v ≡ cell n y u v
dep-append n x y u v e = rw (drop_at x y (n * n) e)

-- every number below n × n is u × n + v, for a u and a v below n
by_cell : (n : ℕ) (P : ℕ → Type 0) → ((u v : ℕ) → u < n → v < n → P (u * n + v)) → (i : ℕ) → i < n * n → P i
by_cell zero P h i l = absurd (omega (arith, zero-mul 0))
by_cell (suc n) P h i l =
    let pos : 0 < suc n = omega arith in
    subst P (div-add-mod' i (suc n)) (h (i / suc n) (i % suc n) ((div-lt_iff_lt-mul pos).1 l) (mod-lt i pos))

-- tables are equal when their words are
pub times_ext : (n : ℕ) (s t : List ℕ) → length s ≡ times_words n → length t ≡ times_words n
    → ((u v : ℕ) → u < n → v < n → arr n s u v ≡ arr n t u v) → ((u v : ℕ) → u < n → v < n → dep n s u v ≡ dep n t u v) → s ≡ t
times_ext n s t p q f g =
    ext_get_or 0 s t (p ∙ sym q)
    (λ i l. ⊎_elim (λ (h : n * n ≤ i).
    let e : n * n + (i - n * n) ≡ i = omega arith in
    simp (get_or-drop, e) at (by_cell n (λ i. get_or (drop (n * n) s) i 0 ≡ get_or (drop (n * n) t) i 0) g (i - n * n) (omega arith)))
    (λ (h : i < n * n). by_cell n (λ i. get_or s i 0 ≡ get_or t i 0) f i h) (le_or_lt (n * n) i))
