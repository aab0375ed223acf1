-- With n boards a limit of n - 1 links in one pick is no limit: a walk in one pick can be cut to one that visits no board twice.
-- Assumes nothing.
use mathlib.Core.Path.{◌≡◌, refl, sym, ap, subst}
use mathlib.Core.Logic.{◌≢◌, ◌⊎◌, inl, inr, ⊎_elim, ◌↔◌}
use Prim.Native.Nat.{ℕ, zero, suc, ◌+◌, ◌≤◌, ◌<◌, zero-le}
use native.Mathlib.Nat.{le_refl, le_trans, not-suc-le-zero}
use native.Mathlib.Omega.{arith}
use mathlib.Core.Bool.{Bool, true, false, ◌&&◌, not}
use mathlib.Core.List.{List, [], ◌∷◌}
use lib.ListN.{length}
use lib.Dec.{T, eqb}
use Rattle.model.specs.Recording.{link, Words, Recording, window}
use Rattle.model.specs.Journey.{Limit, unlimited, at_most, most_links, val, Journey}
use Rattle.model.proofs.Logic.{eq_or, and_both, and_l, and_r, eqb_ne, ne_eqb, T→≡}
use Rattle.model.proofs.Links.{link_to}
use Rattle.model.proofs.Windows.{rec_window}
use Rattle.model.proofs.Trips.{Walk, stop, step, Trip, walk_to, journey_trip}

-- how many of the boards below n are in a set
abbrev num : ℕ → (ℕ → Bool) → ℕ
num zero S = 0
num (suc n) S = val (S n) + num n S

num_all : (n : ℕ) → num n (λ w. true) ≡ n
num_all zero = refl
num_all (suc n) = let e = num_all n in omega arith

-- a set without u
abbrev less : (ℕ → Bool) → ℕ → ℕ → Bool
less S u w = S w && not (eqb w u)

val_mono : (a b : Bool) → (T a → T b) → val a ≤ val b
val_mono true true f = le_refl 1
val_mono true false f = absurd (f tt)
val_mono false b f = zero-le

num_le : (n : ℕ) (S : ℕ → Bool) (u : ℕ) → num n (less S u) ≤ num n S
num_le zero S u = zero-le
num_le (suc n) S u = omega (arith, num_le n S u, val_mono (less S u n) (S n) (λ t. and_l (S n) (not (eqb n u)) t))

val_out : (S : ℕ → Bool) (u n : ℕ) → n ≡ u → val (less S u n) ≡ 0
val_out S u n e = go (less S u n) (λ t. ne_eqb n u (and_r (S n) (not (eqb n u)) t) e)
  where
    go : (b : Bool) → (T b → ⊥) → val b ≡ 0
    go true f = absurd (f tt)
    go false f = refl

num_less : (n : ℕ) (S : ℕ → Bool) (u : ℕ) → u < n → T (S u) → num n (less S u) < num n S
num_less zero S u h t = absurd (not-suc-le-zero h)
num_less (suc n) S u h t =
    ⊎_elim (λ (e : n ≡ u). let a = val_out S u n e in let b : val (S n)
    ≡ 1 = ap val (T→≡ (S n) (subst (λ (k : ℕ). T (S k)) (sym e) t)) in omega (arith, num_le n S u))
    (λ (ne : n ≢ u). omega (arith, num_less n S u (omega arith) t, val_mono (less S u n) (S n) (λ k. and_l (S n) (not (eqb n u)) k))) (eq_or n u)

-- c steps of R lead from u to v
pub data Path (R : ℕ → ℕ → Type 0) : ℕ → ℕ → ℕ → Type 0 where
  end : {u : ℕ} → Path R 0 u u
  next : {c u w v : ℕ} → R u w → Path R c w v → Path R (suc c) u v

-- steps of R whose boards all lie in S
data PathIn (R : ℕ → ℕ → Type 0) (S : ℕ → Bool) : ℕ → ℕ → Type 0 where
  halt : {u : ℕ} → T (S u) → PathIn R S u u
  move : {u w v : ℕ} → T (S u) → R u w → PathIn R S w v → PathIn R S u v

module _ {R : ℕ → ℕ → Type 0} where
  anywhere : {c u v : ℕ} → Path R c u v → PathIn R (λ w. true) u v
  anywhere end = halt tt
  anywhere (next k s) = move tt k (anywhere s)

  starts : {S : ℕ → Bool} {u v : ℕ} → PathIn R S u v → T (S u)
  starts (halt t) = t
  starts (move t k s) = t

  -- after its last visit to u, a path goes on without u
  leave : {S : ℕ → Bool} {x v : ℕ} (u : ℕ) → u ≢ v → PathIn R S x v → PathIn R (less S u) x v ⊎ ((w : ℕ) × R u w × PathIn R (less S u) w v)
  leave {S = S} u ne (halt {u = v} t) = inl (halt (and_both (S v) (not (eqb v u)) t (eqb_ne v u (λ e. ne (sym e)))))
  leave {S} {v = v} u ne (move {u = x} {w = w} t k s) = go (leave u ne s)
    where
      go : PathIn R (less S u) w v ⊎ ((y : ℕ) × R u y × PathIn R (less S u) y v)
          → PathIn R (less S u) x v ⊎ ((y : ℕ) × R u y × PathIn R (less S u) y v)
      go (inr r) = inr r
      go (inl r) =
          ⊎_elim (λ (e : x ≡ u). inr (
            w,
            subst (λ (y : ℕ). R y w) e k,
            r,
          )) (λ (d : x ≢ u). inl (move (and_both (S x) (not (eqb x u)) t (eqb_ne x u d)) k r)) (eq_or x u)

  -- so a path in a set of at most k boards can be one of fewer than k steps
  cut : (n : ℕ) → ((u w : ℕ) → R u w → w < n) → (k : ℕ) (S : ℕ → Bool) → num n S ≤ k → (u v : ℕ) → u < n → PathIn R S u v
      → (c : ℕ) × (c < k) × Path R c u v
  cut n low zero S l u v hu s = absurd (not-suc-le-zero (le_trans (num_less n S u hu (starts s)) l))
  cut n low (suc k) S l u v hu s =
      ⊎_elim (λ (e : u ≡ v). (0, omega arith, subst (λ (y : ℕ). Path R 0 u y) e end))
      (λ (ne : u ≢ v). ⊎_elim
      (λ (a : PathIn R (less S u) u v). absurd (ne_eqb u u (and_r (S u) (not (eqb u u)) (starts a)) refl))
      (λ (a : (w : ℕ) × R u w × PathIn R (less S u) w v).
      let q = cut n low k (less S u) (omega (arith, num_less n S u hu (starts s))) a.0 v (low u a.0 a.1) a.2 in
      let b : q.0 < k = q.1 in
      (suc q.0, omega arith, next a.1 q.2))
      (leave u ne s)) (eq_or u v)

-- a path over boards below n can be one of fewer than n steps
pub path_short : {R : ℕ → ℕ → Type 0} {c u v : ℕ} (n : ℕ) → ((u w : ℕ) → R u w → w < n) → u < n → Path R c u v → (d : ℕ)
    × (d < n) × Path R d u v
path_short {u = u} {v} n low hu s = cut n low n (λ w. true) (omega (arith, num_all n)) u v hu (anywhere s)

-- walks in one pick are paths along its links
abbrev Linked : List ℕ → ℕ → ℕ → Type 0
Linked p u v = T (link p u v)

walk_path : {p : List ℕ} {c u v : ℕ} → Walk p c u v → Path (Linked p) c u v
walk_path stop = end
walk_path (step k s) = next k (walk_path s)

path_walk : (p : List ℕ) {c u v : ℕ} → Path (Linked p) c u v → Walk p c u v
path_walk p end = stop
path_walk p (next k s) = step k (path_walk p s)

pub walk_short : {n : ℕ} {p : List ℕ} {c u v : ℕ} → Words n p → u < n → Walk p c u v → (d : ℕ) × (d < n) × Walk p d u v
walk_short {n} {p} w hu s =
    let q = path_short n (λ u x l. link_to n p w u x l) hu (walk_path s) in
    (q.0, q.1, path_walk p q.2)

trip_any : (n g : ℕ) (L : Limit) → n ≤ suc g → (r : List (List ℕ)) → Recording n r → (u v : ℕ) → u < n → Trip L r u v
    → Trip (at_most g) r u v
trip_any n g L l [] k u v hu t = t
trip_any n g L l (p ∷ ps) k u v hu t =
    let q = walk_short k.0.words hu t.1.2 in
    let b : q.0 < n = q.1 in
    (t.0, (q.0, omega arith, q.2), trip_any n g L l ps k.1 t.0 v (walk_to k.0.words hu t.1.2) t.2)

-- THEOREM. With at most 32 boards `most_links` in one pick are no limit.
pub no_limit : (n : ℕ) → n ≤ 32 → (r : List (List ℕ)) → Recording n r → (i j u v : ℕ) → 1 ≤ i → i ≤ suc j → j ≤ length r → u < n
    → Journey r unlimited i j u v ↔ Journey r (at_most most_links) i j u v
no_limit n n32 r k i j u v a b c hu = (
  λ f. (journey_trip r (at_most most_links) i j u v a b c).1 (trip_any n most_links unlimited n32 (window r i j) (rec_window n i j r k) u v hu
      ((journey_trip r unlimited i j u v a b c).0 f)),
  λ f. record { picks = f.picks; crosses = f.crosses; hops = λ t. tt },
)
