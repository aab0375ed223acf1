-- Warshall's closure marks the pairs joined within a pick by at most `most_links`, on the words as they are found. Assumes nothing.
use mathlib.Core.Path.{◌≡◌, sym, ap, ◌∙◌, subst}
use mathlib.Core.Logic.{◌≢◌, ◌⊎◌, inl, inr, ⊎_elim, ◌↔◌}
use mathlib.Core.Bool.{Bool, false, ◌||◌, ◌&&◌, not}
use mathlib.Core.List.{List}
use Prim.Native.Nat.{ℕ, zero, suc, ◌-◌, ◌^◌, ◌≤◌, ◌<◌}
use native.Mathlib.Nat.{not-suc-le-zero, le_of_suc-le-suc, eq-or-lt_of_le, lt_of_lt_of_le, le_of_lt, le-suc, le_refl}
use native.Mathlib.Omega.{arith}
use lib.Bits.{bit_or, or_zero_r}
use lib.Dec.{T, eqb}
use lib.ListN.{length, get_or}
use lib.Seq.{ext_get_or}
use Rattle.model.specs.Recording.{bit, link}
use Rattle.model.specs.Journey.{most_links}
use Rattle.model.proofs.Logic.{tr, F→≡, bool_ext, or_l, or_r, or_cases, and_both, and_l, and_r, eqb_ne, ne_eqb}
use Rattle.model.proofs.Bits.{bits_ext, bit-or}
use Rattle.lists.specs.Tab.{tab, kept}
use Rattle.lists.proofs.Tab.{length-tab, get_or-tab}
use Rattle.links.specs.Tables.{within}
use Rattle.links.proofs.Bits.{link-tab, bit_kept, bit-without, without_32}
use Rattle.links.proofs.Ways.{Way, one, more, Led, onward, within_way, way_short, length-within, within_small}
use Rattle.joins.specs.Columns.{column_row}
use Rattle.joins.specs.Warshall.{pass, passes, clear_row, closed, Into}

-- ---- the passes

module _ {t : List ℕ} where
  wider : {b d c u v : ℕ} → b ≤ d → Way t b c u v → Way t d c u v
  wider h (one l) = one l
  wider h (more l k p) = more l (lt_of_lt_of_le k h) (wider h p)

  -- a way over boards below k + 1 does without k, or goes to k and on, without k
  parted : {k c u v : ℕ} → Way t (suc k) c u v → Led t k u v ⊎ (Led t k u k × Led t k k v)
  parted (one l) = inl (1, one l)
  parted {k} {v = v} (more {u = u} {w = w} l h p) =
      ⊎_elim
      (λ (e : w ≡ k). ⊎_elim (λ (q : Led t k w v). inr ((1, one (to e)), subst (λ (x : ℕ). Led t k x v) e q))
      (λ (q : Led t k w k × Led t k k v). inr ((1, one (to e)), q.1)) (parted p))
      (λ (h' : w < k). ⊎_elim (λ (q : Led t k w v). inl (suc q.0, more l h' q.1))
      (λ (q : Led t k w k × Led t k k v). inr ((suc q.0.0, more l h' q.0.1), q.1)) (parted p))
      (eq-or-lt_of_le (le_of_suc-le-suc h))
    where
      to : w ≡ k → T (link t u k)
      to e = subst (λ (x : ℕ). T (link t u x)) e l

-- what a pass does to a bit
pass-link : (n k u v : ℕ) (t : List ℕ) → u < n → link (pass n t k) u v ≡ link t u v || (link t u k && link t k v)
unfolding pass column_row link
pass-link n k u v t h =
    link-tab (column_row t t (get_or t k 0) k) n u v h ∙ bit-or (get_or t u 0) (kept (bit (get_or t u 0) k) (get_or t k 0)) v
    ∙ ap (λ (b : Bool). bit (get_or t u 0) v || b) (bit_kept (bit (get_or t u 0) k) (get_or t k 0) v)

-- a pass leads to no further board
pub into_pass : {n : ℕ} {t : List ℕ} {into : ℕ} (k : ℕ) → k < n → Into n t into → Into n (pass n t k) into
into_pass {n} {t} {into} k h m = record {
  led = λ u w l b. ⊎_elim (m.led u w l) (λ (a : T (link t u k && link t k w)). m.led k w h (and_r (link t u k) (link t k w) a)) (or_cases (link t u w)
      (link t u k && link t k w) (tr (pass-link n k u w t l) b));
}

-- where no row links to k it changes nothing
pub no_pass : {n : ℕ} {t : List ℕ} {into : ℕ} (k : ℕ) → Into n t into → bit into k ≡ false → n ≡ length t → t ≡ pass n t k
unfolding pass column_row
no_pass {n} {t} {into} k m z e =
    let l = length-tab (column_row t t (get_or t k 0) k) n in
    ext_get_or 0 t (tab (column_row t t (get_or t k 0) k) n) (sym (l ∙ e))
    (λ u h. let b : u < n = omega arith in
    sym (get_or-tab (column_row t t (get_or t k 0) k) n u b
    ∙ ap (λ (x : Bool). bit_or (get_or t u 0) (kept x (get_or t k 0))) (F→≡ (link t u k) (λ q. tr z (m.led u k b q))) ∙ or_zero_r (get_or t u 0)))

-- after k passes a bit is a way over boards below k
passes_way : (n : ℕ) (t : List ℕ) (k : ℕ) → k ≤ n → (u v : ℕ) → u < n → T (link (passes n t k) u v) ↔ Led t k u v
unfolding passes
passes_way n t zero h u v l = (λ m. (1, one m), λ s. go s.1)
  where
    go : {c x y : ℕ} → Way t zero c x y → T (link t x y)
    go (one m) = m
    go (more m k s) = absurd (not-suc-le-zero k)
passes_way n t (suc k) h u v l =
    let p = passes n t k in
    let e = pass-link n k u v p l in
    let ih = passes_way n t k (le_of_lt h) in (
      λ m. ⊎_elim (λ (a : T (link p u v)). let s = (ih u v l).0 a in (s.0, wider (le-suc k) s.1))
          (λ (a : T (link p u k && link p k v)).
          let s = (ih u k l).0 (and_l (link p u k) (link p k v) a) in
          let s' = (ih k v h).0 (and_r (link p u k) (link p k v) a) in
          onward (wider (le-suc k) s.1) (le_refl (suc k)) (s'.0, wider (le-suc k) s'.1)) (or_cases (link p u v) (link p u k && link p k v) (tr e m)),
      λ s. tr (sym e) (⊎_elim (λ (a : Led t k u v). or_l (link p u v) (link p u k && link p k v) ((ih u v l).1 a))
          (λ (a : Led t k u k × Led t k k v). or_r (link p u v) (link p u k && link p k v) (and_both (link p u k) (link p k v) ((ih u k l).1 a.0)
          ((ih k v h).1 a.1))) (parted s.1)),
    )

closed_way : (n : ℕ) (t : List ℕ) → n ≤ 32 → (u v : ℕ) → u < n → v < 32 → T (link (closed n t) u v) ↔ ((u ≢ v) × Led t n u v)
unfolding closed clear_row link
closed_way n t n32 u v hu hv =
    let p = passes n t n in
    let e : link (closed n t) u v ≡ bit (get_or p u 0) v && not (eqb u v) = link-tab (clear_row p) n u v hu
    ∙ bit-without (get_or p u 0) u v (lt_of_lt_of_le hu n32) hv in
    let w = passes_way n t n (le_refl n) u v hu in (
      λ m. (ne_eqb u v (and_r (bit (get_or p u 0) v) (not (eqb u v)) (tr e m)), w.0 (and_l (bit (get_or p u 0) v) (not (eqb u v)) (tr e m))),
      λ q. tr (sym e) (and_both (bit (get_or p u 0) v) (not (eqb u v)) (w.1 q.1) (eqb_ne u v q.0)),
    )

-- ---- both are one

length-closed : (n : ℕ) (t : List ℕ) → length (closed n t) ≡ n
unfolding closed
length-closed n t = length-tab (clear_row (passes n t n)) n

closed-bit : (n : ℕ) (t : List ℕ) → n ≤ 32 → (u v : ℕ) → u < n → v < 32 → link (closed n t) u v ≡ link (within n most_links t) u v
closed-bit n t n32 u v hu hv =
    let a = closed_way n t n32 u v hu hv in
    let b = within_way n most_links t n32 u v hu hv in
    bool_ext (link (closed n t) u v) (link (within n most_links t) u v)
    (λ m. let q = a.0 m in b.1 (q.0, way_short n32 hu hv q.0 q.1.1))
    (λ m. let q = b.0 m in a.1 (q.0, (q.1.0, q.1.2)))

closed_small : (n : ℕ) (t : List ℕ) (u : ℕ) → u < n → get_or (closed n t) u 0 < 2 ^ 32
unfolding closed clear_row
closed_small n t u h = subst (λ (x : ℕ). x < 2 ^ 32) (sym (get_or-tab (clear_row (passes n t n)) n u h)) (without_32 (get_or (passes n t n) u 0) u)

-- THEOREM. The closure is the table of the pairs joined by at most `most_links`: it knows no limit.
pub closed-within : (n : ℕ) (t : List ℕ) → n ≤ 32 → closed n t ≡ within n most_links t
unfolding link
closed-within n t n32 =
    let z = length-closed n t in
    ext_get_or 0 (closed n t) (within n most_links t) (z ∙ sym (length-within n most_links t))
    (λ u l. let h : u < n = omega arith in bits_ext 32 (get_or (closed n t) u 0) (get_or (within n most_links t) u 0) (closed_small n t u h)
    (within_small n (most_links - 1) t u h) (λ v hv. closed-bit n t n32 u v h hv))

pub ruleset closes = (closed-within)
