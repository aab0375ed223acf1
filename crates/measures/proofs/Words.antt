-- The words of a table and the composition, as tests of the measure say them. Assumes nothing.
use mathlib.Core.Path.{◌≡◌}
use mathlib.Core.Logic.{◌≢◌, ⊎_elim}
use mathlib.Core.List.{List}
use Prim.Native.Nat.{ℕ, ◌≤◌, zero-le}
use native.Mathlib.Nat.{mul-le-mul}
use lib.ListN.{take}
use Rattle.model.proofs.Logic.{eq_or}
use Rattle.lists.specs.Tab.{splice, zeros}
use Rattle.lists.proofs.Splice.{read_inside}
use Rattle.links.proofs.Ways.{length-within}
use native.Mathlib.Omega.{arith}
use borrow.Author.Tests.{eq-eqb, ne_eqb}
use Rattle.links.specs.Tables.{union, compose, within, full, same}
use Rattle.times.specs.Times.{times_words}
use Rattle.measures.specs.Kit.{size_of, own_of, join_of, pass_of, hops01}

pub size_times : (measure n : ℕ) → measure ≡ 4 → size_of measure n ≡ times_words n
unfolding size_of
size_times measure n e = simp (eq-eqb _ _ e)

pub size_links : (measure n : ℕ) → (measure ≡ 4 → ⊥) → size_of measure n ≡ n
unfolding size_of
size_links measure n e = simp (ne_eqb _ _ e)

-- a table has 2048 words at most
pub size_most : (measure n : ℕ) → n ≤ 32 → size_of measure n ≤ 2048
size_most measure n h =
    ⊎_elim (λ e. omega (arith, size_times measure n e, mul-le-mul h h)) (λ e. omega (arith, size_links measure n e)) (eq_or measure 4)

-- the own table of a pick, where it is the pick's words
pub own_words : (hops measure n i : ℕ) (w : List ℕ) → measure ≢ 4 → measure ≢ 3 → own_of hops measure n i w ≡ w
unfolding own_of
own_words hops measure n i w f g = simp (ne_eqb measure 4 f, ne_eqb measure 3 g)

-- ---- the test of a composition

pub pass-reach : (turn measure n : ℕ) (f s t : List ℕ) → measure ≡ 3 → full n (compose n s t) ≡ pass_of turn measure n f (join_of measure n s t)
unfolding pass_of join_of
pass-reach turn measure n f s t e = simp (ne_eqb measure 4 (λ g. omega arith), eq-eqb measure 3 e)

pub pass-union : (turn measure n : ℕ) (f s t : List ℕ) → measure ≡ 2 → same n f (union n s t) ≡ pass_of turn measure n f (join_of measure n s t)
unfolding pass_of join_of
pass-union turn measure n f s t e = simp (ne_eqb measure 4 (λ g. omega arith), ne_eqb measure 3 (λ g. omega arith), eq-eqb measure 2 e)

-- ---- the pairs joined within a pick, as code lends them

pub lent_within : (n : ℕ) (w x : List ℕ) → x ≡ splice 0 n (within n hops01 w) (zeros 32) → take n x ≡ within n hops01 w
lent_within n w x e = rw e (read_inside 0 n (within n hops01 w) (zeros 32) (length-within n hops01 w) zero-le)

-- what the own table of measure 4 stands on
pub ruleset lent_joined = (lent_within, length-within)
