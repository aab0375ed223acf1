-- A part lent. Assumes nothing.
use mathlib.Core.Path.{◌≡◌, sym, ap, ◌∙◌}
use mathlib.Core.List.{List, ◌++◌}
use Prim.Native.Nat.{ℕ, zero, suc, ◌+◌, ◌-◌, ◌*◌, ◌≤◌, zero-le}
use native.Mathlib.Nat.{suc-mul, min-eq_left, le-mul_of_pos_right, add-sub_cancel_left}
use native.Mathlib.Omega.{arith}
use mathlib.Core.Logic.{◌≢◌, ⊎_elim}
use lib.ListN.{length, take, drop, length-take, length-drop}
use lib.Seq.{length-take-le}
use Rattle.lists.specs.Tab.{zeros}
use Rattle.lists.proofs.Splice.{written-part}
use Rattle.model.proofs.Logic.{eq_or}
use Rattle.measures.specs.Kit.{Kit, size_of, own_of, join_of, kit}
use Rattle.measures.proofs.Words.{size_times, size_links, own_words}
use Rattle.area.specs.Parts.{stored_size, part_size, Has, part, table_at, put_table, compose_at, zero_at}
use Rattle.area.proofs.Stored.{table_fits}

-- part i, from its first word to its last
ends : (E words i : ℕ) → Has E words i → (i - 1) * E + E ≤ words
ends E words zero h = absurd (omega (arith, h.from))
ends E words (suc i) h =
    let e : suc i - 1 ≡ i = omega arith in
    rw e (omega (arith, suc-mul i E, h.upto))

pub fits : {E words i : ℕ} → Has E words i → (i - 1) * E + E ≤ words
fits {E} {words} {i} h = ends E words i h

-- what is no longer than it is lent from where it begins
pub lies : {E e k s words i : ℕ} → e ≡ E → k ≡ s → s ≤ E → Has E words i → (i - 1) * e + k ≤ words
lies p q r h = rw p (omega (arith, fits h))

-- and its table lies in it
pub table_inside : (k : ℕ) {words i : ℕ} → Has (stored_size k) words i → (i - 1) * stored_size k + k ≤ words
table_inside k h = omega (arith, fits h, table_fits k)

le_square : (n : ℕ) → n ≤ n * n
le_square zero = zero-le
le_square (suc n) = le-mul_of_pos_right (suc n) (omega arith)

-- a table has n words at least
pub size_least : (measure n : ℕ) → n ≤ size_of measure n
size_least measure n =
    ⊎_elim (λ e. omega (arith, size_times measure n e, le_square n)) (λ e. omega (arith, size_links measure n e)) (eq_or measure 4)

-- the words of a table that is lent from within some words
pub lent_words : (at k : ℕ) (a : List ℕ) → at + k ≤ length a → length (take (at + k - at) (drop at a)) ≡ k
lent_words at k a h = rw add-sub_cancel_left (length-take-le k (drop at a) (omega (arith, length-drop at a)))

-- a part that is lent and set to zero
pub zero_put : (K : Kit) (a : List ℕ) (d : ℕ) {at e : ℕ} {z : List ℕ} → at ≡ (d - 1) * part_size K → e ≡ part_size K → at + part_size K ≤ length a
    → z ≡ zeros (length (take (at + e - at) (drop at a))) → take at a ++ (z ++ drop (at + e - at) (drop at a)) ≡ zero_at K a d
unfolding zero_at
zero_put K a d {at} {e} p q h f =
    written-part at e a (f ∙ ap zeros (lent_words at e a (omega arith))) ∙ rw (p, q)

pub part_long : {E : ℕ} (a : List ℕ) {i : ℕ} → Has E (length a) i → length (part E a i) ≡ E
unfolding part
part_long a h = simp (length-take, length-drop) (min-eq_left (omega (arith, fits h)))

-- ---- tables that compose word by word

pub links_short : (measure n : ℕ) {w : ℕ} → measure ≢ 4 → n ≡ w → size_of measure n ≤ w
links_short measure n f h = omega (arith, size_links measure n f)

pub links_join : (measure n : ℕ) (t w : List ℕ) → measure ≢ 4 → length t ≡ size_of measure n → join_of measure (length t) t w ≡ join_of measure n t w
links_join measure n t w f p = rw (p, size_links measure n f)

-- ---- a composition onto its earlier table

-- the later one is the own table of a pick, and that its words
pub onto_own : (hops measure n : ℕ) (a : List ℕ) (d r : ℕ) (w : List ℕ) → measure ≢ 4 → measure ≢ 3
    → table_at (kit measure n) a r ≡ own_of hops measure n r w
    → put_table (kit measure n) a d (join_of measure n (table_at (kit measure n) a d) w) ≡ compose_at (kit measure n) a d d r
unfolding compose_at
onto_own hops measure n a d r w f g e =
    ap (λ (t : List ℕ). put_table (kit measure n) a d (join_of measure n (table_at (kit measure n) a d) t)) (sym (own_words hops measure n r w f g) ∙ sym e)
