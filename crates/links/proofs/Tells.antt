-- The tables of links of one window tell what the meaning says: for each measure a pick's own table, the composition of two adjacent windows,
-- and the test. Assumes nothing.
use mathlib.Core.Path.{◌≡◌, refl, sym, ap, ◌∙◌, subst}
use mathlib.Core.Logic.{◌≢◌, ◌⊎◌, inl, inr, ⊎_elim, ◌↔◌}
use mathlib.Core.List.{List}
use Prim.Native.Nat.{ℕ, zero, suc, ◌≤◌, ◌<◌}
use native.Mathlib.Nat.{le_refl, lt_of_lt_of_le}
use native.Mathlib.Omega.{arith}
use lib.Dec.{T, eqb, eqb→eq}
use lib.ListN.{length, get_or}
use lib.Seq.{ext_get_or}
use Rattle.model.specs.Recording.{link, Words, Clean, Recording, pick_at}
use Rattle.model.specs.Journey.{Limit, at_most, most_links, Open, Journey}
use Rattle.model.specs.Measures.{EveryPair, CommonLink, Leads, here, along, SomeLink}
use Rattle.model.proofs.Logic.{tr, bool_ext, or_l, or_r, or_cases, and_both, and_l, and_r, eq_or, eq_refl, le_or_lt}
use Rattle.model.proofs.Links.{link_from, link_to, links_ext}
use Rattle.model.proofs.Windows.{pick-at}
use Rattle.model.proofs.Hops.{walk_short}
use Rattle.model.proofs.Trips.{Walk, stop, step, Hop, journey_one, journey_split, journey_to, journey_wider}
use Rattle.lists.proofs.Tab.{every_in, every_out}
use Rattle.links.specs.Tables.{intersection, union, compose, within, pair_full, row_full, full, connected, row_same, same}
use Rattle.links.specs.Tells.{Reaches, Marks}
use Rattle.links.proofs.Bits.{zeros-clean, compose-link, compose-clean, intersection-link, intersection-clean, union-link, union-clean}
use Rattle.links.proofs.Ways.{Way, one, more, Short, within_way}

-- a table that marks the same pairs is the same table
pub marks_once : {n : ℕ} {R : ℕ → ℕ → Type 0} {s t : List ℕ} → Marks n R s → Marks n R t → s ≡ t
marks_once {n} {R} {s} {t} a b =
    links_ext n s t a.clean.words b.clean.words
    (λ u v hu hv. bool_ext (link s u v) (link t u v) (λ m. (b.marks u v hu hv).1 ((a.marks u v hu hv).0 m))
    (λ m. (a.marks u v hu hv).1 ((b.marks u v hu hv).0 m)))

-- ---- measure 1

pub common_own : (n : ℕ) (r : List (List ℕ)) → Recording n r → (i : ℕ) → 1 ≤ i → i ≤ length r → Marks n (CommonLink r i i) (pick_at r i)
common_own n r k i a b = record {
  clean = pick-at n r k i a b;
  marks = λ u v hu hv. (λ m t p q. let e : i ≡ t = omega arith in subst (λ (x : ℕ). Open r x u v) e m, λ f. f i (le_refl i) (le_refl i));
}

pub common_join : (n : ℕ) (r : List (List ℕ)) (i k j : ℕ) (s t : List ℕ) → i ≤ k → k < j
    → Marks n (CommonLink r i k) s → Marks n (CommonLink r (suc k) j) t → Marks n (CommonLink r i j) (intersection n s t)
common_join n r i k j s t p q a b = record {
  clean = intersection-clean n s t a.clean b.clean.words;
  marks = λ u v hu hv.
      let e = intersection-link n s t u v hu in (
        λ m x y z. ⊎_elim (λ (l : x ≤ k). (a.marks u v hu hv).0 (and_l (link s u v) (link t u v) (tr e m)) x y l)
            (λ (l : k < x). (b.marks u v hu hv).0 (and_r (link s u v) (link t u v) (tr e m)) x l z) (le_or_lt x k),
        λ f. tr (sym e) (and_both (link s u v) (link t u v) ((a.marks u v hu hv).1 (λ x y z. f x y (omega arith)))
            ((b.marks u v hu hv).1 (λ x y z. f x (omega arith) z))),
      );
}

-- ---- measure 2

pub footprint_own : (n : ℕ) (r : List (List ℕ)) → Recording n r → (i : ℕ) → 1 ≤ i → i ≤ length r → Marks n (SomeLink r i i) (pick_at r i)
footprint_own n r k i a b = record {
  clean = pick-at n r k i a b;
  marks = λ u v hu hv. (
    λ m. (i, le_refl i, le_refl i, m),
    λ f. let x : i ≤ f.0 = f.1 in let y : f.0 ≤ i = f.2 in let e : f.0 ≡ i = omega arith in subst (λ (z : ℕ). Open r z u v) e f.3,
  );
}

pub footprint_join : (n : ℕ) (r : List (List ℕ)) (i k j : ℕ) (s t : List ℕ) → i ≤ k → k < j
    → Marks n (SomeLink r i k) s → Marks n (SomeLink r (suc k) j) t → Marks n (SomeLink r i j) (union n s t)
footprint_join n r i k j s t p q a b = record {
  clean = union-clean n s t a.clean b.clean;
  marks = λ u v hu hv.
      let e = union-link n s t u v hu in (
        λ m. ⊎_elim (λ (l : T (link s u v)). let f = (a.marks u v hu hv).0 l in let x : f.0 ≤ k = f.2 in (f.0, f.1, omega arith, f.3))
            (λ (l : T (link t u v)). let f = (b.marks u v hu hv).0 l in let x : suc k ≤ f.0 = f.1 in (f.0, omega arith, f.2, f.3))
            (or_cases (link s u v) (link t u v) (tr e m)),
        λ f. tr (sym e) (⊎_elim (λ (l : f.0 ≤ k). or_l (link s u v) (link t u v) ((a.marks u v hu hv).1 (f.0, f.1, l, f.3)))
            (λ (l : k < f.0). or_r (link s u v) (link t u v) ((b.marks u v hu hv).1 (f.0, l, f.2, f.3))) (le_or_lt f.0 k)),
      );
}

-- ---- measure 3

-- walks in a clean pick are ways over boards below n
way_walk : {p : List ℕ} {b c u v : ℕ} → Way p b c u v → Walk p c u v
way_walk (one l) = step l stop
way_walk (more l h s) = step l (way_walk s)

walk_way : {n : ℕ} {p : List ℕ} {c u w v : ℕ} → Words n p → T (link p u w) → Walk p c w v → Way p n (suc c) u v
walk_way k l stop = one l
walk_way {n} {p} {u = u} {w = w} k l (step m s) = more l (link_to n p k u w l) (walk_way k m s)

hop_short : {n h : ℕ} {p : List ℕ} {u v : ℕ} → Words n p → u ≢ v → Hop (at_most h) p u v → Short n h p u v
hop_short {n} {h} {p} {u} k ne a = (a.0, a.1, go ne a.2)
  where
    go : {c v : ℕ} → u ≢ v → Walk p c u v → Way p n c u v
    go ne stop = absurd (ne refl)
    go ne (step l s) = walk_way k l s

within-clean : (n h : ℕ) (p : List ℕ) → n ≤ 32 → Clean n p → Clean n (within n h p)
unfolding within
within-clean n zero p n32 k = zeros-clean n
within-clean n (suc h) p n32 k = compose-clean n (within n h p) p n32 (within-clean n h p n32 k).words k.words

pub reach_own : (n h : ℕ) (r : List (List ℕ)) → n ≤ 32 → Recording n r → (i : ℕ) → 1 ≤ i → i ≤ length r
    → Marks n (Reaches r (at_most h) i i) (within n h (pick_at r i))
reach_own n h r n32 k i a b =
    let p = pick_at r i in
    let c = pick-at n r k i a b in
    record {
      clean = within-clean n h p n32 c;
      marks = λ u v hu hv.
          let e = within_way n h p n32 u v hu (lt_of_lt_of_le hv n32) in
          let f = journey_one r (at_most h) i u v a b in (
            λ m. let q = e.0 m in (q.0, f.1 (q.1.0, q.1.1, way_walk q.1.2)),
            λ q. e.1 (q.0, hop_short c.words q.0 (f.0 q.1)),
          );
    }

pub reach_join : (n : ℕ) (L : Limit) (r : List (List ℕ)) → n ≤ 32 → Recording n r → (i k j : ℕ) (s t : List ℕ) → 1 ≤ i → i ≤ k
    → k < j → j ≤ length r
    → Marks n (Reaches r L i k) s → Marks n (Reaches r L (suc k) j) t → Marks n (Reaches r L i j) (compose n s t)
reach_join n L r n32 rec i k j s t hi hk hj hM a b = record {
  clean = compose-clean n s t n32 a.clean.words b.clean.words;
  marks = λ u v hu hv.
      let e = compose-link n s t u v n32 hu (lt_of_lt_of_le hv n32) in
      let c = journey_split r L i k j u v hi hk hj hM in (
        λ m. (
          (e.0 m).0,
          ⊎_elim (λ (l : T (link s u v)). journey_wider (le_refl i) (omega arith) ((a.marks u v hu hv).0 l).1)
              (λ (l : T (link t u v) ⊎ ((w : ℕ) × (w < n) × T (link s u w) × T (link t w v))).
              ⊎_elim (λ (x : T (link t u v)). journey_wider (omega arith) (le_refl j) ((b.marks u v hu hv).0 x).1)
              (λ (x : (w : ℕ) × (w < n) × T (link s u w) × T (link t w v)). c.1 (
                x.0,
                ((a.marks u x.0 hu x.1).0 x.2).1,
                ((b.marks x.0 v
                    x.1 hv).0 x.3).1,
              )) l) (e.0 m).1,
        ),
        λ q. let w = c.0 q.1 in
            let hw = journey_to n L r rec i k u w.0 hi (omega arith) (omega arith) hu w.1 in
            e.1 (
              q.0,
              ⊎_elim (λ (x : u ≡ w.0). inr (inl ((b.marks u v hu hv).1 (q.0, subst (λ (y : ℕ). Journey r L (suc k) j y v) (sym x) w.2))))
                  (λ (x : u ≢ w.0). ⊎_elim (λ (y : w.0 ≡ v). inl ((a.marks u v hu hv).1 (q.0, subst (λ (z : ℕ). Journey r L i k u z) y w.1)))
                  (λ (y : w.0 ≢ v). inr (inr (w.0, hw, (a.marks u w.0 hu hw).1 (x, w.1), (b.marks w.0 v hw hv).1 (y, w.2)))) (eq_or w.0 v))
                  (eq_or u w.0),
            ),
      );
}

-- ---- tests

pub full-test : (n : ℕ) (J : ℕ → ℕ → Type 0) (t : List ℕ) → ((u v : ℕ) → u < n → v < n → T (link t u v) ↔ ((u ≢ v) × J u v))
    → T (full n t) ↔ EveryPair n J
unfolding full row_full pair_full
full-test n J t f = (
  λ m u v hu hv ne. ⊎_elim (λ (e : T (eqb u v)). absurd (ne (eqb→eq u v e))) (λ (l : T (link t u v)). ((f u v hu hv).0 l).1)
      (or_cases (eqb u v) (link t u v) (every_out (pair_full t u) n (every_out (row_full n t) n m u hu) v hv)),
  λ g. every_in (row_full n t) n (λ u hu. every_in (pair_full t u) n (λ v hv.
      ⊎_elim (λ (e : u ≡ v). or_l (eqb u v) (link t u v) (eq_refl e)) (λ (ne : u ≢ v). or_r (eqb u v) (link t u v)
      ((f u v hu hv).1 (ne, g u v hu hv ne))) (eq_or u v))),
)

-- R joins boards below n alone
abbrev pub Below : ℕ → (ℕ → ℕ → Type 0) → Type 0
Below n R = (u v : ℕ) → R u v → (u < n) × (v < n)

-- measure 1: links of the table lead between two boards exactly when those of R do
pub within_leads : (n : ℕ) (R : ℕ → ℕ → Type 0) (t : List ℕ) → n ≤ 32 → Below n R → Marks n R t
    → (u v : ℕ) → u < n → v < n → T (link (within n most_links t) u v) ↔ ((u ≢ v) × Leads R u v)
within_leads n R t n32 low a u v hu hv =
    let e = within_way n most_links t n32 u v hu (lt_of_lt_of_le hv n32) in (
      λ m. let q = e.0 m in (q.0, leads hu (way_walk q.1.2)),
      λ q. e.1 (
        q.0,
        let s = walks hu q.1 in let d = walk_short a.clean.words hu s.1 in let l : d.0 < n = d.1 in hop_short a.clean.words
            q.0 (d.0, omega arith, d.2),
      ),
    )
  where
    leads : {c u v : ℕ} → u < n → Walk t c u v → Leads R u v
    leads hu stop = here
    leads hu (step {u = u} {w = w} x y) =
        let hw = link_to n t a.clean.words u w x in
        along ((a.marks u w hu hw).0 x) (leads hw y)

    walks : {u v : ℕ} → u < n → Leads R u v → (c : ℕ) × Walk t c u v
    walks hu here = (0, stop)
    walks hu (along {u = u} {w = w} x y) =
        let hw = (low u w x).1 in
        let q = walks hw y in
        (suc q.0, step ((a.marks u w hu hw).1 x) q.1)

-- so they lead everywhere exactly when those of R do
pub connected-test : (n : ℕ) (R : ℕ → ℕ → Type 0) (t : List ℕ) → n ≤ 32 → Below n R → Marks n R t
    → T (connected n t) ↔ EveryPair n (Leads R)
unfolding connected
connected-test n R t n32 low a = full-test n (Leads R) (within n most_links t) (within_leads n R t n32 low a)

-- tables whose words are found the same are equal
pub same_equal : (n : ℕ) (left right : List ℕ) → Words n left → Words n right → T (same n left right) → right ≡ left
unfolding same row_same
same_equal n l t p q m =
    let z = q.size in
    ext_get_or 0 t l (z ∙ sym p.size) (λ u h. eqb→eq (get_or t u 0) (get_or l u 0) (every_out (row_same l t) n m u (omega arith)))

-- measure 2: the words are those of the footprint exactly when R is
pub same_test : (n : ℕ) (R : ℕ → ℕ → Type 0) (footprint t : List ℕ) → Clean n footprint → Below n R → Marks n R t
    → T (same n footprint t) ↔ ((u v : ℕ) → R u v ↔ T (link footprint u v))
unfolding same row_same
same_test n R l t k low a = (
  λ m. let e = same_equal n l t k.words a.clean.words m in λ u v. (
    λ x. let h = low u v x in subst (λ (z : List ℕ). T (link z u v)) e ((a.marks u v h.0 h.1).1 x),
    λ x. (a.marks u v (link_from n l k.words u v x) (link_to n l k.words u v x)).0 (subst (λ (z : List ℕ). T (link z u v)) (sym e) x),
  ),
  λ f. let e : t ≡ l = marks_once a (record { clean = k; marks = λ u v hu hv. (λ x. (f u v).1 x, λ x. (f u v).0 x) }) in
      every_in (row_same l t) n (λ u hu. eq_refl (ap (λ (z : List ℕ). get_or z u 0) e)),
)
