-- What one turn of the loops over columns and passes adds. Assumes nothing.
use mathlib.Core.Path.{◌≡◌, refl, ap, ap₂, ◌∙◌, sym}
use mathlib.Core.Bool.{Bool, true, false}
use mathlib.Core.List.{List}
use Prim.Native.Nat.{ℕ, zero, suc, ◌+◌, ◌-◌, ◌/◌, ◌^◌, ◌≤◌, ◌<◌}
use native.Mathlib.Nat.{add-zero, add-suc, add-sub_cancel_left, le_refl}
use native.Mathlib.Omega.{arith}
use lib.Bits.{bit_or, or_zero_r}
use lib.ListN.{length, take, drop, length-drop, get_or}
use lib.Pow.{shr-shr}
use lib.Seq.{ext_get_or, get_or-take, get_or-drop, length-take-le}
use Rattle.model.specs.Recording.{bit, link}
use Rattle.model.proofs.Bits.{or_none}
use Rattle.lists.specs.Tab.{tab, kept, any_of}
use Rattle.lists.proofs.Tab.{tab_ext, length-tab, get_or-tab, made_all}
use Rattle.links.specs.Tables.{either_row, union, without, gathered, through_row, compose_row, compose}
use Rattle.joins.specs.Columns.{column_row, columns_row}
use Rattle.joins.specs.Warshall.{pass, clear_row}

-- before the first column the rows are those of the union
pub through_none : (s t : List ℕ) (n : ℕ) → union n s t ≡ tab (through_row s t 0) n
unfolding union through_row gathered
through_none s t n = tab_ext (either_row s t) (through_row s t 0) n (λ u h. refl)

-- columns add their boards
gathered_on : (x row k m : ℕ) (t : List ℕ) → gathered (gathered x row t k) (row / 2 ^ k) (drop k t) m ≡ gathered x row t (k + m)
unfolding gathered bit
gathered_on x row k zero t = rw add-zero
gathered_on x row k (suc m) t =
    rw add-suc (ap₂ bit_or (gathered_on x row k m t) (simp (shr-shr row k m, get_or-drop k t m 0)))

pub through_next : (s t : List ℕ) (n k m : ℕ) → tab (columns_row (tab (through_row s t k) n) s t k m) n ≡ tab (through_row s t (k + m)) n
unfolding through_row columns_row
through_next s t n k m =
    tab_ext (columns_row (tab (through_row s t k) n) s t k m) (through_row s t (k + m)) n
    (λ u h. rw (get_or-tab (through_row s t k) n u h) (gathered_on (either_row s t u) (get_or s u 0) k m t))

-- the rows as they are lent
lent_gathered : (x l k m : ℕ) (r t : List ℕ) → ((i : ℕ) → i < m → get_or r i 0 ≡ get_or t i 0) → k ≤ m → gathered x l r k ≡ gathered x l t k
unfolding gathered
lent_gathered x l zero m r t f h = refl
lent_gathered x l (suc k) m r t f h = ap₂ (λ (y z : ℕ). bit_or y (kept (bit l k) z)) (lent_gathered x l k m r t f (omega arith)) (f k (omega arith))

lent_length : (w m : ℕ) (t : List ℕ) → w + m ≤ length t → length (take (w + m - w) (drop w t)) ≡ m
lent_length w m t h = rw add-sub_cancel_left (length-take-le m (drop w t) (omega (arith, length-drop w t)))

pub lent_columns : (x l w m : ℕ) (t : List ℕ) → w + m ≤ length t
    → let r = take (w + m - w) (drop w t) in gathered x l r (length r) ≡ gathered x l (drop w t) m
lent_columns x l w m t h =
    rw (lent_length w m t h) (lent_gathered x l m m (take (w + m - w) (drop w t)) (drop w t)
    (λ i b. rw add-sub_cancel_left (get_or-take m (drop w t) i 0 b)) (le_refl m))

kept_none : (b : Bool) {x : ℕ} → x ≡ 0 → kept b x ≡ 0
kept_none true z = z
kept_none false z = refl

-- a row without links adds nothing
pub no_column : (out s : List ℕ) (row w n : ℕ) → row ≡ 0 → n ≡ length out → out ≡ tab (column_row out s row w) n
unfolding column_row
no_column out s row w n z e =
    let l = length-tab (column_row out s row w) n in
    ext_get_or 0 out (tab (column_row out s row w) n) (sym (l ∙ e))
    (λ u h. sym (get_or-tab (column_row out s row w) n u (omega arith) ∙ ap (bit_or (get_or out u 0)) (kept_none (link s u w) z) ∙ or_zero_r (get_or out u 0)))

-- rows without links add nothing
gathered_none : (x l k : ℕ) (r : List ℕ) → any_of (λ i. get_or r i 0) k ≡ 0 → gathered x l r k ≡ x
unfolding gathered any_of
gathered_none x l zero r z = refl
gathered_none x l (suc k) r z =
    let o = or_none (any_of (λ i. get_or r i 0) k) (get_or r k 0) z in
    ap₂ bit_or (gathered_none x l k r o.0) (kept_none (bit l k) o.1) ∙ or_zero_r x

pub no_columns : (out s t : List ℕ) (w m n : ℕ) → w + m ≤ length t → (let r = take (w + m - w) (drop w t) in any_of (λ i. get_or r i 0) (length r) ≡ 0)
    → n ≡ length out → out ≡ tab (columns_row out s t w m) n
unfolding columns_row
no_columns out s t w m n h z e =
    let f = columns_row out s t w m in
    ext_get_or 0 out (tab f n) (sym (length-tab f n ∙ e))
    (λ u b. sym (get_or-tab f n u (omega arith) ∙ sym (lent_columns (get_or out u 0) (get_or s u 0 / 2 ^ w) w m t h)
    ∙ gathered_none _ _ _ (take (w + m - w) (drop w t)) z))

-- own bits cleared after the last column
pub clear_through : (s t : List ℕ) (n : ℕ) → tab (clear_row (tab (through_row s t n) n)) n ≡ compose n s t
unfolding compose compose_row clear_row
clear_through s t n =
    tab_ext (clear_row (tab (through_row s t n) n)) (compose_row n s t) n (λ u h. ap (λ (x : ℕ). without x u) (get_or-tab (through_row s t n) n u h))

-- a pass is a column over the table itself
pub pass_is : (n : ℕ) (t : List ℕ) (k : ℕ) → pass n t k ≡ tab (column_row t t (get_or t k 0) k) n
unfolding pass
pass_is n t k = refl

pub ruleset columns = (made_all, no_column, pass_is)

pub ruleset some_columns = (made_all, lent_columns, no_columns)

pub ruleset column_turns = (through_none, through_next)
