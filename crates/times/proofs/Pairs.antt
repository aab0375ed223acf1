-- The test of a table, and the count of the pairs out of time, with each pair of boards looked at once. Assumes nothing.
use Rattle.std.proofs.Common.{◌≡◌, ℕ, zero, suc, ◌+◌, ◌%◌, ◌^◌, ◌<◌, ◌≤◌, Bool, true, false, cond, not, ◌&&◌, T, eqb, ltb, leb, ◌≢◌, ◌↔◌, List, sym, refl, ap, ◌∙◌, ⊎_elim, mod-eq_of_lt, suc-add, add-one, arith, le-ltb, ne_eqb}
use lib.Dec.{eqb-suc-zero}
use Rattle.model.specs.Journey.{val}
use Rattle.model.proofs.Bits.{val_le}
use Rattle.model.proofs.Logic.{T→≡, bool_ext, and_both, and_l, and_r, eq_or, eq_refl, or_l, le_or_lt}
use Rattle.lists.specs.Tab.{every, how_many, how_many_pairs}
use Rattle.lists.proofs.Tab.{every_out, every_in}
use Rattle.lists.proofs.Many.{many_next, many_le, pairs_none_yet, pairs_next, pairs_le}
use Rattle.times.proofs.Rows.{half_few}
use Rattle.times.specs.Times.{arr, dep, in_time, row_in_time, all_in_time, not_in_time}
use Rattle.times.specs.Pairs.{no_later, pair_in_time, below_in_time, too_late, pair_out_of_time, below_out_of_time}

-- a comparison with the word before x, which is the greatest one where x is 0
pub no_later_is : (r x y turn : ℕ) → (r + 1) % 2 ^ 32 ≡ x → r < 2 ^ 32 → y < 2 ^ 32 → ltb (r + turn) y ≡ no_later turn x y
unfolding no_later
no_later_is r x y turn e hr hy =
    ⊎_elim
    (λ (h : 2 ^ 32 ≤ r + 1).
    let q : r + 1 ≡ 2 ^ 32 = omega arith in
    let z : x ≡ 0 = sym e ∙ ap (λ (k : ℕ). k % 2 ^ 32) q in
    rw z (le-ltb (r + turn) y (omega arith)))
    (λ (h : r + 1 < 2 ^ 32). rw (sym e ∙ mod-eq_of_lt h, add-one, eqb-suc-zero, suc-add))
    (le_or_lt (2 ^ 32) (r + 1))

-- what both ways round ask, and what the code asks
both_ways : (a b c d : Bool) → (a && c) && (b && d) ≡ (a && (b && c)) && (b && (a && d))
both_ways false b c d = refl
both_ways true true c d = refl
both_ways true false true d = refl
both_ways true false false d = refl

pub pair_is : (n turn : ℕ) (t : List ℕ) (u v : ℕ) → v < u
    → pair_in_time n turn t u v ≡ no_later turn (arr n t u v) (dep n t v u) && no_later turn (arr n t v u) (dep n t u v)
unfolding no_later pair_in_time in_time
pair_is n turn t u v l =
    let a : Bool = not (eqb (arr n t u v) 0) in
    let b : Bool = not (eqb (arr n t v u) 0) in
    simp (ne_eqb u v (λ e. omega arith), ne_eqb v u (λ e. omega arith))
    (sym (both_ways a b (leb (arr n t u v + turn) (dep n t v u)) (leb (arr n t v u + turn) (dep n t u v))))

module _ (n turn : ℕ) (t : List ℕ) where
  pub own_in_time : (u v : ℕ) → u ≡ v → T (in_time n turn t u v)
  unfolding in_time
  own_in_time u v e = or_l (eqb u v) _ (eq_refl e)

  -- the test, as a statement
  pub all-in-time : T (all_in_time n turn t) ↔ ((u v : ℕ) → u < n → v < n → T (in_time n turn t u v))
  unfolding all_in_time row_in_time
  all-in-time = (
    λ h u v hu hv. every_out (in_time n turn t u) n (every_out (row_in_time n turn t) n h u hu) v hv,
    λ f. every_in (row_in_time n turn t) n (λ u hu. every_in (in_time n turn t u) n (λ v hv. f u v hu hv)),
  )

  pair_of : T (every (below_in_time n turn t) n) → (u v : ℕ) → u < n → v < u → T (pair_in_time n turn t u v)
  unfolding below_in_time
  pair_of h u v hu hv = every_out (pair_in_time n turn t u) u (every_out (below_in_time n turn t) n h u hu) v hv

  -- each pair of boards has one that is below the other
  all_of : T (every (below_in_time n turn t) n) → (u v : ℕ) → u < n → v < n → T (in_time n turn t u v)
  unfolding pair_in_time
  all_of h u v hu hv =
      ⊎_elim (own_in_time u v)
      (λ (ne : u ≢ v). ⊎_elim (λ (l : u ≤ v). and_r (in_time n turn t v u) (in_time n turn t u v) (pair_of h v u hv (omega arith)))
      (λ (l : v < u). and_l (in_time n turn t u v) (in_time n turn t v u) (pair_of h u v hu l)) (le_or_lt u v)) (eq_or u v)

  pub below_all : every (below_in_time n turn t) n ≡ all_in_time n turn t
  unfolding below_in_time pair_in_time
  below_all =
      bool_ext (every (below_in_time n turn t) n) (all_in_time n turn t) (λ h. all-in-time.1 (all_of h))
      (λ h. every_in (below_in_time n turn t) n (λ u hu. every_in (pair_in_time n turn t u) u (λ v hv.
      let hv : v < n = omega arith in
      and_both (in_time n turn t u v) (in_time n turn t v u) (all-in-time.0 h u v hu hv) (all-in-time.0 h v u hv hu))))

-- ---- how many are out of time

-- what both ways round ask, and what the code adds up
both_counted : (p q c d : Bool) → cond p 2 (cond q 2 (val (not c) + val (not d)))
    ≡ val (not (not p && (not q && c))) + val (not (not q && (not p && d)))
both_counted true true c d = refl
both_counted true false c d = refl
both_counted false true c d = refl
both_counted false false c d = refl

pub pair_counted : (n turn : ℕ) (t : List ℕ) (u v : ℕ) → v < u
    → cond (eqb (arr n t u v) 0) 2 (cond (eqb (arr n t v u) 0) 2 (too_late turn (arr n t u v) (dep n t v u) + too_late turn (arr n t v u) (dep n t u v)))
    ≡ pair_out_of_time n turn t u v
unfolding too_late pair_out_of_time not_in_time in_time
pair_counted n turn t u v l =
    simp (ne_eqb u v (λ e. omega arith), ne_eqb v u (λ e. omega arith))
    (both_counted (eqb (arr n t u v) 0) (eqb (arr n t v u) 0) (leb (arr n t u v + turn) (dep n t v u)) (leb (arr n t v u + turn) (dep n t u v)))

pub too_late_le : (turn x y : ℕ) → too_late turn x y ≤ 1
unfolding too_late
too_late_le turn x y = omega (arith, val_le (not (leb (x + turn) y)))

-- one more column
column_next : (f : ℕ → ℕ → Bool) (n k : ℕ) → how_many_pairs f (n + 1) k ≡ how_many_pairs f n k + how_many (λ u. f u n) k
unfolding how_many_pairs how_many
column_next f n zero = refl
column_next f n (suc k) = omega (arith, column_next f n k, many_next (f k) n)

-- one more row and column
square_next : (f : ℕ → ℕ → Bool) (k : ℕ) → how_many_pairs f (k + 1) (k + 1) ≡ how_many_pairs f k k + (how_many (f k) k + how_many (λ u. f u k) k) + val (f k k)
square_next f k = omega (arith, pairs_next f (k + 1) k, column_next f k k, many_next (f k) k)

module _ (n turn : ℕ) (t : List ℕ) (u : ℕ) where
  -- the loop over the boards below u, and that its sum is a small word
  pub below_none : below_out_of_time n turn t u 0 ≡ 0
  unfolding below_out_of_time how_many
  below_none = refl

  pub below_next : (v : ℕ) → below_out_of_time n turn t u (v + 1) ≡ below_out_of_time n turn t u v + pair_out_of_time n turn t u v
  unfolding below_out_of_time pair_out_of_time
  below_next v = omega (arith, many_next (not_in_time n turn t u) v, many_next (λ v. not_in_time n turn t v u) v)

  pub pair_small : (v : ℕ) → pair_out_of_time n turn t u v ≤ 2
  unfolding pair_out_of_time
  pair_small v = omega (arith, val_le (not_in_time n turn t u v), val_le (not_in_time n turn t v u))

  pub below_small : (v : ℕ) → below_out_of_time n turn t u v ≤ v + v
  unfolding below_out_of_time
  below_small v = omega (arith, many_le (not_in_time n turn t u) v, many_le (λ v. not_in_time n turn t v u) v)

  -- the loop over u: the pairs of the boards below u, with those of u and one of them, are the pairs of the boards below u + 1
  pub square_counted : how_many_pairs (not_in_time n turn t) (u + 1) (u + 1) ≡ how_many_pairs (not_in_time n turn t) u u + below_out_of_time n turn t u u
  unfolding below_out_of_time not_in_time
  square_counted =
      let own : val (not (in_time n turn t u u)) ≡ 0 = rw (T→≡ (in_time n turn t u u) (own_in_time n turn t u u refl)) in
      omega (arith, square_next (not_in_time n turn t) u)

  pub square_small : u ≤ 32 → how_many_pairs (not_in_time n turn t) u u ≤ 1024
  square_small h = omega (arith, pairs_le (not_in_time n turn t) u u, half_few h)

-- what the functions that test and count stand on
pub ruleset pair_tests = (pair_is, pair_counted, too_late_le)

pub ruleset below_turns = (below_none, below_next, below_small, pair_small)

pub ruleset square_turns = (pairs_none_yet, square_counted, square_small, below_small)
