-- Laws of tables in rows, the invariant of the loops that write them row by row, and what the loops over a row make. Assumes nothing.
use Rattle.std.proofs.Common.{zero-mul, ◌≡◌, ℕ, ◌+◌, ◌-◌, ◌*◌, ◌<◌, ◌≤◌, Bool, true, false, cond, eqb, List, ◌++◌, length, get_or, take, drop, set, sym, refl, ◌∙◌, mul-le-mul_right, suc-mul, mul-le-mul, add-one, arith, length-drop, length-set, length-take-le, get_or-set_other, get_or-set_same, get_or-take, get_or-drop, ext_get_or, drop_at, eqb-true, [], append_assoc}
use lib.Seq.{take_at, drop-drop}
use native.Mathlib.Nat.{add-sub_cancel_left}
use borrow.Author.Tests.{eqb-false}
use Rattle.lists.specs.Tab.{tab, splice}
use Rattle.lists.proofs.Splice.{written-part}
use Rattle.lists.proofs.Tab.{length-tab, get_or-tab, tab_of}
use Rattle.times.specs.Times.{cell, rows, apart}
use Rattle.times.proofs.Cells.{length-rows}

-- ---- places

-- a word's place is within a half
pub cell_lt : (n : ℕ) {a b : ℕ} → a < n → b < n → a * n + b < n * n
cell_lt n {a} {b} h l = omega (arith, suc-mul a n, mul-le-mul_right n h)

-- a row is within a half
pub row_le : (n : ℕ) {u : ℕ} → u < n → u * n + n ≤ n * n
row_le n {u} h = omega (arith, suc-mul u n, mul-le-mul_right n h)

-- a half has few words
pub half_few : {n : ℕ} → n ≤ 32 → n * n ≤ 1024
half_few h = mul-le-mul h h

-- a part from `at` on, of n words
pub part_length : (n at : ℕ) (xs : List ℕ) → at + n ≤ length xs → n ≡ length (take (at + n - at) (drop at xs))
part_length n at xs h = rw add-sub_cancel_left (sym (length-take-le n (drop at xs) (omega (arith, length-drop at xs))))

-- the row of u, as it is lent: its words, and all of them
pub row_cell : (n u : ℕ) (half : List ℕ) (v : ℕ) → v < n → get_or (take (u * n + n - u * n) (drop (u * n) half)) v 0 ≡ cell n half u v
row_cell n u half v h = rw (add-sub_cancel_left, get_or-take n (drop (u * n) half) v 0 h) (get_or-drop (u * n) half v 0)

pub row_lent : (n u : ℕ) (half : List ℕ) → u < n → n * n ≤ length half → take (u * n + n - u * n) (drop (u * n) half) ≡ tab (cell n half u) n
row_lent n u half h l = tab_of (cell n half u) n _ (sym (part_length n (u * n) half (omega (arith, row_le n h)))) (row_cell n u half)

-- what a read of a half stands on
pub ruleset row_reads = (row_le, row_lent)

-- ---- rows

-- The invariant of a loop that writes n rows of n words: t is t₀ with f's rows below u.
abbrev pub Rowed : ℕ → (ℕ → ℕ → ℕ) → List ℕ → List ℕ → ℕ → Type 0
Rowed n f t₀ t u = t ≡ rows n f u ++ drop (u * n) t₀

pub rows_none : (n : ℕ) (f : ℕ → ℕ → ℕ) → rows n f 0 ≡ []
unfolding rows
rows_none n f = refl

pub rowed_start : (n : ℕ) (f : ℕ → ℕ → ℕ) (t₀ : List ℕ) → Rowed n f t₀ t₀ 0
rowed_start n f t₀ = rw (rows_none n f, zero-mul n) refl

-- what the loop has not reached is as it was
pub rowed_read : (n u : ℕ) (f : ℕ → ℕ → ℕ) (t₀ t : List ℕ) → Rowed n f t₀ t u → drop (u * n) t ≡ drop (u * n) t₀
rowed_read n u f t₀ t e = rw e (drop_at (rows n f u) (drop (u * n) t₀) (u * n) (length-rows n f u))

-- a turn: row u is lent and written
pub rowed_turn : (n u : ℕ) (f : ℕ → ℕ → ℕ) (t₀ t row : List ℕ) → Rowed n f t₀ t u → row ≡ tab (f u) n
    → take (u * n) t ++ (row ++ drop (u * n + n - u * n) (drop (u * n) t)) ≡ rows n f (u + 1) ++ drop ((u + 1) * n) t₀
unfolding rows
rowed_turn n u f t₀ t row e q =
    let lent = take_at (rows n f u) (drop (u * n) t₀) (u * n) (length-rows n f u) in
    rw (rowed_read n u f t₀ t e, add-sub_cancel_left, add-one, suc-mul, drop-drop, q, e, lent, append_assoc)

-- the same, where it is put in its place
pub rowed_put : (n u : ℕ) (f : ℕ → ℕ → ℕ) (t₀ t : List ℕ) {s : List ℕ} → Rowed n f t₀ t u → s ≡ splice (u * n) n (tab (f u) n) t
    → s ≡ rows n f (u + 1) ++ drop ((u + 1) * n) t₀
rowed_put n u f t₀ t e q = q ∙ sym (written-part (u * n) n t refl) ∙ rowed_turn n u f t₀ t (tab (f u) n) e refl

-- ---- one row

-- a word of a row whose own entry was set to 0
row_word : (f : ℕ → ℕ) (n u v : ℕ) (b : Bool) → eqb u v ≡ b → u < n → v < n → get_or (set (tab f n) u 0) v 0 ≡ cond b 0 (f v)
row_word f n u v true e h l = rw (sym (eqb-true u v e)) (get_or-set_same (tab f n) u 0 0 (omega (arith, length-tab f n)))
row_word f n u v false e h l = get_or-set_other (tab f n) u v 0 0 (λ q. eqb-false u v e (sym q)) ∙ get_or-tab f n v l

-- the own entry
pub row_last : (f g : ℕ → ℕ) (n u : ℕ) (xs : List ℕ) → xs ≡ tab f n → u < n → ((v : ℕ) → apart u v (f v) ≡ g v)
    → set xs u 0 ≡ tab g n
unfolding apart
row_last f g n u xs e h q =
    let k : length (set (tab f n) u 0) ≡ n = length-set (tab f n) u 0 ∙ length-tab f n in
    rw e
    (ext_get_or 0 (set (tab f n) u 0) (tab g n) (k ∙ sym (length-tab g n))
    (λ v l. row_word f n u v (eqb u v) refl h (omega arith) ∙ q v ∙ sym (get_or-tab g n v (omega arith))))
