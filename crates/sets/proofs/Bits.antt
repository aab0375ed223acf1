-- Sets of boards as words: what is made of a row, and which bits it has. Assumes nothing.
use mathlib.Core.Path.{◌≡◌, refl, sym, ap, ap₂, ◌∙◌}
use mathlib.Core.Bool.{Bool, true, false, not, ◌&&◌, ◌||◌}
use mathlib.Core.List.{List}
use Prim.Native.Nat.{ℕ, zero, suc, ◌+◌, ◌^◌, ◌≤◌, ◌<◌}
use native.Mathlib.Nat.{le_refl, eq-or-lt_of_le, le_of_suc-le-suc, lt_of_le_of_lt}
use native.Mathlib.Numerals.{add-one}
use native.Mathlib.Omega.{arith}
use lib.Bits.{bit_and, bit_or, or_lt, and_le_r}
use lib.Pow.{pow_pos, pow-lt}
use mathlib.Core.Logic.{⊎_elim}
use borrow.Author.Tests.{eq-eqb, ne_eqb, eqb-true}
use Rattle.model.proofs.Bits.{bit_high, bit-or, bit-and, bit-one, or_none}
use Rattle.links.proofs.Bits.{bit_kept}
use lib.Dec.{eqb}
use lib.ListN.{length, get_or}
use Rattle.model.specs.Recording.{bit}
use Rattle.times.specs.Times.{cell}
use Rattle.lists.specs.Tab.{tab, kept, zeros, any_of}
use Rattle.links.specs.Tables.{mark_of}
use Rattle.lists.proofs.Tab.{length-tab, get_or-tab, tab_ext, tab_zero}
use Rattle.sets.specs.Marks.{marks, some_of, set_of, marked_row, own_row}

-- ---- the same of a row that is read as of the table

any_ext : (f g : ℕ → ℕ) (n : ℕ) → ((v : ℕ) → v < n → f v ≡ g v) → any_of f n ≡ any_of g n
unfolding any_of
any_ext f g zero h = refl
any_ext f g (suc n) h = ap₂ bit_or (any_ext f g n (λ v l. h v (omega arith))) (h n (omega arith))

marks_ext : (f g : ℕ → ℕ) (n : ℕ) → ((v : ℕ) → v < n → f v ≡ g v) → marks f n ≡ marks g n
unfolding marks
marks_ext f g zero h = refl
marks_ext f g (suc n) h = ap₂ (λ (x y : ℕ). bit_or x (mark_of y n)) (marks_ext f g n (λ v l. h v (omega arith))) (h n (omega arith))

pub any_row : (f : ℕ → ℕ) (n : ℕ) {row : List ℕ} → row ≡ tab f n → any_of (λ v. get_or row v 0) (length row) ≡ any_of f n
any_row f n e = rw (e, length-tab f n) (any_ext _ _ n (get_or-tab f n))

pub set_row : (f : ℕ → ℕ) (n some u : ℕ) {row : List ℕ} → row ≡ tab f n → set_of (λ v. get_or row v 0) (length row) some u ≡ set_of f n some u
unfolding set_of
set_row f n some u e = rw (e, length-tab f n) (ap (λ (x : ℕ). bit_and (bit_or x (2 ^ u)) some) (marks_ext _ _ n (get_or-tab f n)))

-- ---- the bits

any_none : (f : ℕ → ℕ) (n : ℕ) → any_of f n ≡ 0 → (v : ℕ) → v < n → f v ≡ 0
unfolding any_of
any_none f zero e v h = absurd (omega arith)
any_none f (suc n) e v h =
    let o = or_none (any_of f n) (f n) e in
    ⊎_elim (λ (q : v ≡ n). rw q o.1) (λ (l : v < n). any_none f n o.0 v l) (eq-or-lt_of_le (le_of_suc-le-suc h))

bit_mark : (x k v : ℕ) → bit (mark_of x k) v ≡ not (eqb x 0) && eqb k v
unfolding mark_of
bit_mark x k v = bit_kept (not (eqb x 0)) (2 ^ k) v ∙ ap (λ (b : Bool). not (eqb x 0) && b) (bit-one k v)

or_false : (b x : Bool) → (b || (x && false)) ≡ b
or_false true x = refl
or_false false true = refl
or_false false false = refl

-- no bit from k on
marks_above : (f : ℕ → ℕ) (k v : ℕ) → k ≤ v → bit (marks f k) v ≡ false
unfolding marks
marks_above f zero v h = bit_high 0 v (pow_pos v)
marks_above f (suc k) v h = simp (bit-or, bit_mark, ne_eqb k v (omega arith), or_false) (marks_above f k v (omega arith))

-- bit v, below k, says whether f v is a time
bit-marks : (f : ℕ → ℕ) (k v : ℕ) → v < k → bit (marks f k) v ≡ not (eqb (f v) 0)
unfolding marks
bit-marks f zero v h = absurd (omega arith)
bit-marks f (suc k) v h =
    ⊎_elim (λ (q : v ≡ k). rw q (simp (bit-or, bit_mark, marks_above f k k (le_refl k), eq-eqb k k refl) (and_true _)))
    (λ (l : v < k). simp (bit-or, bit_mark, ne_eqb k v (omega arith), or_false) (bit-marks f k v l)) (eq-or-lt_of_le (le_of_suc-le-suc h))
  where
    and_true : (x : Bool) → (x && true) ≡ x
    and_true true = refl
    and_true false = refl

-- a row that is no row of times
pub some_none : (n : ℕ) (t : List ℕ) (k v : ℕ) → k < n → v < n → bit (some_of n t) k ≡ false → cell n t k v ≡ 0
unfolding some_of
some_none n t k v h l e = any_none (cell n t k) n (eqb-true _ _ (not_false_is _ (sym (bit-marks (λ w. any_of (cell n t w) n) n k h) ∙ e))) v l
  where
    not_false_is : (x : Bool) → not x ≡ false → x ≡ true
    not_false_is true e = refl
    not_false_is false e = sym e

-- the rows that row u takes in
pub bit-set : (f : ℕ → ℕ) (n some u k : ℕ) → k < n → bit (set_of f n some u) k ≡ (not (eqb (f k) 0) || eqb u k) && bit some k
unfolding set_of
bit-set f n some u k h = simp (bit-and, bit-or, bit-one, bit-marks f n k h)

-- ---- the sets of columns

-- a set is made of the times below n
pub set_ext : (f g : ℕ → ℕ) (n some u : ℕ) → ((i : ℕ) → i < n → f i ≡ g i) → set_of f n some u ≡ set_of g n some u
unfolding set_of
set_ext f g n some u h = ap (λ (x : ℕ). bit_and (bit_or x (2 ^ u)) some) (marks_ext f g n h)

-- no board yet
pub columns_none : (n : ℕ) (half : List ℕ) → zeros n ≡ tab (λ u. marks (λ w. cell n half w u) 0) n
unfolding marks
columns_none n half = sym (tab_zero n) ∙ tab_ext _ _ n (λ v h. refl)

-- a turn: row w is read
pub columns_next : (n : ℕ) (half : List ℕ) (w : ℕ) {sets row : List ℕ} → sets ≡ tab (λ u. marks (λ i. cell n half i u) w) n → row ≡ tab (cell n half w) n
    → tab (marked_row sets (λ v. get_or row v 0) w) (length sets) ≡ tab (λ u. marks (λ i. cell n half i u) (w + 1)) n
unfolding marks marked_row
columns_next n half w {sets} e q =
    rw (ap length e ∙ length-tab _ n)
    (tab_ext _ _ n (λ v h.
    let a : get_or sets v 0 ≡ marks (λ i. cell n half i v) w = rw e (get_or-tab (λ u. marks (λ i. cell n half i u) w) n v h) in
    rw (add-one w) (ap₂ (λ (x y : ℕ). bit_or x (mark_of y w)) a (rw q (get_or-tab (cell n half w) n v h)))))

-- all of them
pub columns_own : (n some : ℕ) (half sets : List ℕ) → sets ≡ tab (λ u. marks (λ w. cell n half w u) n) n
    → tab (own_row sets some) n ≡ tab (λ u. set_of (λ w. cell n half w u) n some u) n
unfolding own_row set_of
columns_own n some half sets e =
    tab_ext _ _ n (λ u h.
    let a : get_or sets u 0 ≡ marks (λ w. cell n half w u) n = rw e (get_or-tab (λ i. marks (λ w. cell n half w i) n) n u h) in
    ap (λ (x : ℕ). bit_and (bit_or x (2 ^ u)) some) a)

-- ---- a set has boards below n alone

marks_lt : (f : ℕ → ℕ) (n k : ℕ) → k ≤ n → marks f k < 2 ^ n
unfolding marks mark_of
marks_lt f n zero h = pow_pos n
marks_lt f n (suc k) h = or_lt n (marks f k) (mark_of (f k) k) (marks_lt f n k (omega arith)) (by (not (eqb (f k) 0)))
  where
    by : (b : Bool) → kept b (2 ^ k) < 2 ^ n
    by true = pow-lt {j = n} h
    by false = pow_pos n

pub set_lt : (f : ℕ → ℕ) (n : ℕ) (t : List ℕ) (u : ℕ) → set_of f n (some_of n t) u < 2 ^ n
unfolding set_of some_of
set_lt f n t u = lt_of_le_of_lt (and_le_r (bit_or (marks f n) (2 ^ u)) (marks (λ w. any_of (cell n t w) n) n)) (marks_lt _ n n (le_refl n))
