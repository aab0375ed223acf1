-- A part of zeros is zeros. Assumes nothing.
use mathlib.Core.Path.{◌≡◌, sym}
use mathlib.Core.List.{List, ◌++◌}
use Prim.Native.Nat.{ℕ, ◌+◌, ◌-◌, ◌≤◌}
use native.Mathlib.Nat.{sub-zero}
use native.Mathlib.Omega.{arith}
use lib.ListN.{length, take, drop, replicate-append-replicate}
use lib.Seq.{take_at, drop_at}
use Rattle.lists.specs.Tab.{zeros}
use Rattle.lists.proofs.Tab.{length-zeros}

zeros-add : (k m : ℕ) → zeros (k + m) ≡ zeros k ++ zeros m
unfolding zeros
zeros-add k m = sym (replicate-append-replicate k m 0)

pub zeros_inside : (k m n : ℕ) → k + m ≤ n → take m (drop k (zeros n)) ≡ zeros m
zeros_inside k m n h =
    let e : n ≡ k + (m + (n - (k + m))) = omega arith in
    rw (e, zeros-add k (m + (n - (k + m))), drop_at (zeros k) (zeros (m + (n - (k + m)))) k (length-zeros k), zeros-add m (n - (k + m)))
    (take_at (zeros m) (zeros (n - (k + m))) m (length-zeros m))

-- the first n of a local array of m zeros, as a loan of `&mut links[0..n]` has them
module _ (n m : ℕ) (r : List ℕ) (e : r ≡ zeros m) (h : n ≤ m) where
  pub lent : take (n - 0) r ≡ zeros n
  lent = rw (e, sub-zero) (zeros_inside 0 n m (omega arith))

  pub lent_length : n ≡ length (take (n - 0) r)
  lent_length = rw lent (sym (length-zeros n))
