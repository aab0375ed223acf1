-- What a part stores of a table: all that the proofs above these laws know of it. Assumes nothing.
use mathlib.Core.Path.{◌≡◌, refl, sym, ap, ◌∙◌}
use mathlib.Core.List.{List, ◌++◌}
use Prim.Native.Nat.{ℕ, ◌+◌, ◌-◌, ◌*◌, ◌≤◌}
use native.Mathlib.Nat.{le_refl, add-sub_cancel_left}
use Rattle.std.proofs.lemmas.List.{take-append-drop}
use lib.ListN.{length, take, drop}
use Rattle.lists.specs.Tab.{splice}
use Rattle.lists.proofs.Splice.{written-part}
use Rattle.measures.specs.Kit.{Kit}
use Rattle.area.specs.Parts.{stored_size, stored, table, part_size, part, put_table, copy_at}

pub table_fits : (k : ℕ) → k ≤ stored_size k
unfolding stored_size
table_fits k = le_refl k

pub stored-size : (K : Kit) (t : List ℕ) → length t ≡ K.size → length (stored K t) ≡ part_size K
unfolding stored stored_size
stored-size K t e = e

pub table_size : (k : ℕ) (w : List ℕ) → length w ≡ stored_size k → length (table k w) ≡ k
unfolding table stored_size
table_size k w e = e

pub table-stored : (K : Kit) (t : List ℕ) → length t ≡ K.size → table K.size (stored K t) ≡ t
unfolding table stored
table-stored K t e = refl

-- a part is its table, and nothing more
pub table_is : (k : ℕ) (w : List ℕ) → table k w ≡ w
unfolding table
table_is k w = refl

-- ---- as code lends it: k words from word `at`, where a part begins

module _ (s : ℕ) (a : List ℕ) (i : ℕ) {at k : ℕ} (p : at ≡ (i - 1) * stored_size s) (q : k ≡ s) where
  pub table_from : take k (drop at a) ≡ table s (part (stored_size s) a i)
  unfolding table part stored_size
  table_from = rw (p, q)

  -- `&a[at..at + k]`
  pub table_lent : take (at + k - at) (drop at a) ≡ table s (part (stored_size s) a i)
  table_lent = rw add-sub_cancel_left table_from

module _ (K : Kit) (a : List ℕ) (i : ℕ) {at k : ℕ} (p : at ≡ (i - 1) * part_size K) (q : k ≡ K.size) (t : List ℕ) where
  pub stored_from : splice at k t a ≡ put_table K a i t
  unfolding stored stored_size
  stored_from = rw (p, q)

  -- what `&mut a[at..at + k]` leaves
  pub table_put : take at a ++ (t ++ drop (at + k - at) (drop at a)) ≡ put_table K a i t
  table_put = written-part at k a refl ∙ stored_from

-- a part that is copied onto itself
pub copy_self : (K : Kit) (a : List ℕ) (i l : ℕ) → i ≡ l → a ≡ copy_at K a i l
unfolding copy_at stored table part splice stored_size
copy_self K a i l q =
    rw q
    (sym (ap (λ (t : List ℕ). take ((l - 1) * K.size) a ++ t) (take-append-drop K.size (drop ((l - 1) * K.size) a)) ∙ take-append-drop ((l - 1) * K.size) a))
