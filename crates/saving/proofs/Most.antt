-- The most bytes that a file can have: for each pick three for each link and one, and three more. Assumes nothing.
use mathlib.Core.Path.{◌≡◌, refl, sym}
use mathlib.Core.Bool.{Bool, true, false}
use mathlib.Core.Logic.{⊎_elim}
use mathlib.Core.List.{List, []}
use Prim.Native.Nat.{ℕ, zero, suc, ◌+◌, ◌-◌, ◌*◌, ◌≤◌, ◌<◌}
use native.Mathlib.Nat.{zero-mul, suc-mul, not-suc-le-zero, eq-or-lt_of_le, le_of_suc-le-suc, le_refl}
use native.Mathlib.Omega.{arith}
use lib.ListN.{length, get_or}
use Rattle.model.specs.Recording.{link, Clean, Recording}
use Rattle.model.proofs.Logic.{F→≡}
use Rattle.model.proofs.Bits.{val_le}
use Rattle.links.specs.Tables.{link_differs}
use Rattle.saving.specs.File.{each, link_acts, row_acts, table_acts, change_acts, pick_acts, links_at, acts_at, file}
use Rattle.saving.specs.Puts.{bytes_of}
use Rattle.saving.proofs.Acts.{bytes_length}
use Rattle.saving.proofs.Size.{link_size, file-size}
use Rattle.saving.proofs.Lends.{before_clean, pick_clean}

module _ (n : ℕ) (old new : List ℕ) (c : Clean n old) (d : Clean n new) where
  own_none : (x : Bool) (a b : ℕ) → a ≡ b → link_acts x old new a b ≡ []
  unfolding link_acts
  own_none true a b e = rw (sym e, F→≡ (link old a a) (c.loopless a), F→≡ (link new a a) (d.loopless a))
  own_none false a b e = rw (sym e, F→≡ (link old a a) (c.loopless a))

  -- three bytes for each link of a row, none for its own
  row_most : (a k : ℕ)
      → let l = length (bytes_of (each (link_acts false old new a) k)) + length (bytes_of (each (link_acts true old new a) k)) in
      (k ≤ a → l ≤ 3 * k) × (a < k → l + 3 ≤ 3 * k)
  unfolding each bytes_of
  row_most a zero = (λ h. omega arith, λ h. absurd (not-suc-le-zero h))
  row_most a (suc k) =
      let i = row_most a k in
      let s = link_size old new a k in
      let v = val_le (link_differs old new a k) in (
        λ h. simp bytes_length (omega (arith, i.0 (omega arith))),
        λ h. simp bytes_length
            (⊎_elim (λ (e : a ≡ k). let x = own_none false a k e in let y = own_none true a k e in rw (x, y) (omega (arith, i.0 (omega arith))))
            (λ (l : a < k). omega (arith, i.1 l)) (eq-or-lt_of_le (le_of_suc-le-suc h))),
      )

  rows_most : (a : ℕ) → a ≤ n
      → length (bytes_of (each (row_acts false old new n) a)) + length (bytes_of (each (row_acts true old new n) a)) ≤ a * (3 * (n - 1))
  unfolding each row_acts bytes_of
  rows_most zero h = omega (arith, zero-mul (3 * (n - 1)))
  rows_most (suc a) h = simp bytes_length (omega (arith, rows_most a (omega arith), (row_most a n).1 h, suc-mul a (3 * (n - 1))))

  pick_most : length (bytes_of (pick_acts n old new)) ≤ n * (3 * (n - 1)) + 1
  unfolding pick_acts change_acts table_acts bytes_of
  pick_most = rw (bytes_length, bytes_length) (omega (arith, rows_most n (le_refl n)))

turns_most : (n : ℕ) (picks : List (List ℕ)) → Recording n picks → (k : ℕ) → k ≤ length picks
    → length (bytes_of (each (acts_at n picks) k)) ≤ k * (n * (3 * (n - 1)) + 1)
unfolding each acts_at bytes_of
turns_most n picks r zero h = omega arith
turns_most n picks r (suc k) h =
    let m = pick_most n (links_at n picks k) (get_or picks k []) (before_clean n picks r k (omega arith)) (pick_clean n picks r k h) in
    rw bytes_length (omega (arith, turns_most n picks r k (omega arith), suc-mul k (n * (3 * (n - 1)) + 1)))

pub file_most : (n : ℕ) (picks : List (List ℕ)) → Recording n picks → length (file n picks) ≤ 3 + length picks * (n * (3 * (n - 1)) + 1)
file_most n picks r = rw (sym (file-size n picks (length picks) refl)) (omega (arith, turns_most n picks r (length picks) (le_refl (length picks))))
