-- CONDITION 3 of the mission over the definitions, with h, the most links in one pick, left open. Assumes nothing.
use mathlib.Core.Path.{◌≡◌, refl, sym, ap, ◌∙◌, subst}
use mathlib.Core.Logic.{◌≢◌, ⊎_elim, ◌↔◌}
use mathlib.Core.Bool.{Bool, true, false, ◌&&◌, not}
use mathlib.Core.List.{List, [], ◌∷◌, ◌++◌}
use Prim.Native.Nat.{ℕ, ◌-◌, ◌^◌, ◌≤◌, ◌<◌, zero-le}
use native.Mathlib.Omega.{arith}
use lib.Dec.{T, eqb, eqb→eq}
use lib.Pow.{pow_pos, pow-lt}
use Rattle.model.specs.Recording.{link, Words, Clean, bit, Recording}
use Rattle.model.specs.Journey.{at_most, Limit, Journey}
use Rattle.model.proofs.Logic.{tr, eq_or, eq_refl, eqb_ne, ne_eqb, bool_ext, cases, dec_of}
use Rattle.model.proofs.Bits.{bit-one, bit_complement}
use Rattle.model.proofs.Links.{link_from, link_to, links_ext}
use Rattle.model.proofs.Trips.{Walk, stop, step, Trip, trip_join, trip_split, trip_to, trip_stay, journey_all}
use Rattle.lists.specs.Tab.{tab, kept}
use Rattle.links.proofs.Bits.{link-tab, tab-words, bit_kept, kept_lt}
use native.Mathlib.Nat.{le_refl}
use lib.ListN.{length, get_or, length-append}
use Rattle.model.specs.Measures.{EveryPair, PassesReach}
use Rattle.model.proofs.Windows.{window_all, rec_append}
use Rattle.model.proofs.Lengths.{Decided, smallest_whole, none_whole}
use Rattle.model.proofs.Monotone.{reach_up}
use Rattle.links.specs.Tables.{compose, within, full}
use Rattle.links.specs.Composed.{reach}
use Rattle.links.specs.Tells.{Marks, Reaches}
use Rattle.links.proofs.Tells.{full-test}
use Rattle.law.specs.Condition3.{HasReach, NoReach, SameTables, Around, NeverApart, Condition3Claim}
use Rattle.law.specs.Faithful.{table_of_window}
use Rattle.law.proofs.Faithful.{window_tells}
use Rattle.law.proofs.Kits.{reach_faithful}

-- ---- two picks that tell tables of reach apart: one that leads every board to a, and one that leads from b to every board

into_row : ℕ → ℕ → ℕ
into_row a u = kept (not (eqb u a)) (2 ^ a)

-- every other board has its link to a
pub into : ℕ → ℕ → List ℕ
into n a = tab (into_row a) n

out_row : ℕ → ℕ → ℕ → ℕ
out_row n b u = kept (eqb u b) (2 ^ n - 1 - 2 ^ b)

-- b has its links to every other board
pub out_of : ℕ → ℕ → List ℕ
out_of n b = tab (out_row n b) n

and_T : (a b : Bool) → T (a && b) ↔ (T a × T b)
and_T true b = (λ t. (tt, t), λ p. p.1)
and_T false b = (λ t. absurd t, λ p. p.0)

pub into_link : (n a u v : ℕ) → u < n → T (link (into n a) u v) ↔ ((u ≢ a) × (a ≡ v))
unfolding into into_row
into_link n a u v hu =
    let e = link-tab (into_row a) n u v hu ∙ bit_kept (not (eqb u a)) (2 ^ a) v ∙ ap (λ (c : Bool). not (eqb u a) && c) (bit-one a v) in
    let f = and_T (not (eqb u a)) (eqb a v) in
    (λ m. let q = f.0 (tr e m) in (ne_eqb u a q.0, eqb→eq a v q.1), λ q. tr (sym e) (f.1 (eqb_ne u a q.0, eq_refl q.1)))

pub out_link : (n b u v : ℕ) → b < n → u < n → v < n → T (link (out_of n b) u v) ↔ ((u ≡ b) × (b ≢ v))
unfolding out_of out_row
out_link n b u v hb hu hv =
    let e = link-tab (out_row n b) n u v hu ∙ bit_kept (eqb u b) (2 ^ n - 1 - 2 ^ b) v
    ∙ ap (λ (c : Bool). eqb u b && c) (bit_complement n (2 ^ b) v (pow-lt {j = n} hb) hv ∙ ap not (bit-one b v)) in
    let f = and_T (eqb u b) (not (eqb b v)) in
    (λ m. let q = f.0 (tr e m) in (eqb→eq u b q.0, ne_eqb b v q.1), λ q. tr (sym e) (f.1 (eq_refl q.0, eqb_ne b v q.1)))

pub into_clean : (n a : ℕ) → a < n → Clean n (into n a)
unfolding into into_row
into_clean n a ha = record { words = w; loopless = λ u m. let q = (into_link n a u u (link_from n (into n a) w u u m)).0 m in q.0 (sym q.1) }
  where
    w : Words n (tab (into_row a) n)
    w = tab-words n (into_row a) (λ u h. kept_lt n (not (eqb u a)) (2 ^ a) (pow-lt {j = n} ha))

pub out_clean : (n b : ℕ) → b < n → Clean n (out_of n b)
unfolding out_of out_row
out_clean n b hb = record { words = w; loopless = λ u m. let h = link_from n (out_of n b) w u u m in let q = (out_link n b u u hb h h).0 m in q.1 (sym q.0) }
  where
    w : Words n (tab (out_row n b) n)
    w = tab-words n (out_row n b) (λ u h. kept_lt n (eqb u b) (2 ^ n - 1 - 2 ^ b) (omega (arith, pow_pos n)))

-- ---- trips over one such pick

pub into_trip : (n h a u : ℕ) → 1 ≤ h → u < n → Trip (at_most h) (into n a ∷ []) u a
into_trip n h a u l hu =
    ⊎_elim (λ (e : u ≡ a). (a, (0, zero-le, subst (λ (x : ℕ). Walk (into n a) 0 x a) (sym e) stop), refl))
    (λ (ne : u ≢ a). (a, (1, l, step ((into_link n a u a hu).1 (ne, refl)) stop), refl)) (eq_or u a)

pub out_trip : (n h b v : ℕ) → 1 ≤ h → b < n → v < n → Trip (at_most h) (out_of n b ∷ []) b v
out_trip n h b v l hb hv =
    ⊎_elim (λ (e : b ≡ v). (v, (0, zero-le, subst (λ (x : ℕ). Walk (out_of n b) 0 x v) (sym e) stop), refl))
    (λ (ne : b ≢ v). (v, (1, l, step ((out_link n b b v hb hb hv).1 (refl, ne)) stop), refl)) (eq_or b v)

-- in the pick before, a goes nowhere
into_walk : (n a : ℕ) → a < n → {c w : ℕ} → Walk (into n a) c a w → a ≡ w
into_walk n a ha stop = refl
into_walk n a ha (step {w = x} m s) = absurd (((into_link n a a x ha).0 m).0 refl)

pub into_stays : (n h a w : ℕ) → a < n → Trip (at_most h) (into n a ∷ []) a w → a ≡ w
into_stays n h a w ha t = into_walk n a ha t.1.2 ∙ t.2

-- in the pick after, nothing comes to b
out_walk : (n b : ℕ) → b < n → {c w z : ℕ} → b ≡ z → Walk (out_of n b) c w z → w ≡ z
out_walk n b hb e stop = refl
out_walk n b hb {z = z} e (step {u = u} {w = x} m s) =
    let k = (out_clean n b hb).words in
    let q = (out_link n b u x hb (link_from n (out_of n b) k u x m) (link_to n (out_of n b) k u x m)).0 m in
    absurd (q.1 (e ∙ sym (out_walk n b hb e s)))

pub out_stays : (n h b w : ℕ) → b < n → Trip (at_most h) (out_of n b ∷ []) w b → w ≡ b
out_stays n h b w hb t = out_walk n b hb (sym t.2) t.1.2 ∙ t.2

-- ---- the table of reach

-- THEOREM. The table of reach marks exactly the pairs of different boards joined by a journey in the whole recording.
pub reach-marks : (n h : ℕ) → n ≤ 32 → (r : List (List ℕ)) → Recording n r → 1 ≤ length r
    → Marks n (Reaches r (at_most h) 1 (length r)) (reach n h r)
unfolding reach table_of_window
reach-marks n h n32 r k l =
    let m = length r in
    rw window_all at (window_tells (compose n) (λ i. within n h) r _ (reach_faithful h 0 n n32 r k) 1 m (le_refl 1) l (le_refl m))

table_trip : (n h : ℕ) → n ≤ 32 → (r : List (List ℕ)) → Recording n r → 1 ≤ length r → (u v : ℕ) → u < n → v < n
    → T (link (reach n h r) u v)
    ↔ ((u ≢ v) × Trip (at_most h) r u v)
table_trip n h n32 r k l u v hu hv =
    let e = (reach-marks n h n32 r k l).marks u v hu hv in
    let f = journey_all r (at_most h) u v in
    (λ m. let q = e.0 m in (q.0, f.0 q.1), λ q. e.1 (q.0, f.1 q.1))

-- ---- a reach length exists exactly when trips over the whole recording join every pair

passes-decided : (n h : ℕ) → n ≤ 32 → (r : List (List ℕ)) → Recording n r → Decided (PassesReach r n (at_most h)) (length r)
passes-decided n h n32 r k i j a b c =
    let t = table_of_window (compose n) (λ i. within n h) r i j in
    let m = window_tells (compose n) (λ i. within n h) r (λ i j. Marks n (Reaches r (at_most h) i j)) (reach_faithful h 0 n n32 r k) i j a b c in
    let f = full-test n (Journey r (at_most h) i j) t m.marks in
    dec_of (full n t) f.0 f.1

module _ (n h : ℕ) (n32 : n ≤ 32) (r : List (List ℕ)) (k : Recording n r) (l : 1 ≤ length r) where
  has_reach : HasReach n (at_most h) r ↔ EveryPair n (Trip (at_most h) r)
  has_reach =
      let e = smallest_whole (PassesReach r n (at_most h)) (length r) (passes-decided n h n32 r k) (reach_up r n (at_most h) (length r)) l in (
        λ x u v hu hv ne. (journey_all r (at_most h) u v).0 (e.0 x u v hu hv ne),
        λ f. e.1 (λ u v hu hv ne. (journey_all r (at_most h) u v).1 (f u v hu hv ne)),
      )

  no_reach : NoReach n (at_most h) r ↔ (EveryPair n (Trip (at_most h) r) → ⊥)
  no_reach =
      let e = none_whole (PassesReach r n (at_most h)) (length r) (reach_up r n (at_most h) (length r)) l in (
        λ x f. e.0 x (λ u v hu hv ne. (journey_all r (at_most h) u v).1 (f u v hu hv ne)),
        λ x. e.1 (λ p. x (λ u v hu hv ne. (journey_all r (at_most h) u v).0 (p u v hu hv ne))),
      )

-- ---- joined recordings

pub joined_recorded : (n : ℕ) (p x s : List (List ℕ)) → Recording n p → Recording n x → Recording n s → Recording n (p ++ x ++ s)
joined_recorded n p x s a b c = rec_append n (p ++ x) s (rec_append n p x a b) c

joined_some : (p x s : List (List ℕ)) → 1 ≤ length p → 1 ≤ length (p ++ x ++ s)
joined_some p x s h = omega (arith, length-append (p ++ x) s, length-append p x)

joined_split : (L : Limit) (p x s : List (List ℕ)) (u v : ℕ) → Trip L (p ++ x ++ s) u v → (a b : ℕ) × Trip L p u a × Trip L x a b × Trip L s b v
joined_split L p x s u v t =
    let f = trip_split L (p ++ x) s u v t in
    let g = trip_split L p x u f.0 f.1 in
    (g.0, f.0, g.1, g.2, f.2)

joined_join : (L : Limit) (p x s : List (List ℕ)) (u a b v : ℕ) → Trip L p u a → Trip L x a b → Trip L s b v → Trip L (p ++ x ++ s) u v
joined_join L p x s u a b v f g k = trip_join L (p ++ x) s u b v (trip_join L p x u a b f g) k

-- ---- equal tables: the parts around cannot tell them apart

carry : (n h : ℕ) → n ≤ 32 → (x y : List (List ℕ)) → Recording n x → Recording n y → 1 ≤ length x → 1 ≤ length y
    → SameTables n h x y → (u v : ℕ) → u < n
    → Trip (at_most h) x u v → Trip (at_most h) y u v
unfolding link
carry n h n32 x y kx ky lx ly same u v hu t =
    ⊎_elim (λ (e : u ≡ v). subst (λ (z : ℕ). Trip (at_most h) y u z) e (trip_stay (at_most h) y u))
    (λ (ne : u ≢ v). let hv = trip_to n (at_most h) x kx u v hu t in
    ((table_trip n h n32 y ky ly u v hu hv).0 (subst (λ (w : ℕ). T (bit w v)) (same u hu) ((table_trip n h n32 x kx lx u v hu hv).1 (ne, t)))).1) (eq_or u v)

not-apart : (n h : ℕ) → n ≤ 32 → (x y p s : List (List ℕ)) → Recording n x → Recording n y → Recording n p → Recording n s
    → 1 ≤ length x → 1 ≤ length y
    → 1 ≤ length p
    → SameTables n h x y → HasReach n (at_most h) (p ++ x ++ s) → NoReach n (at_most h) (p ++ y ++ s) → ⊥
not-apart n h n32 x y p s kx ky kp ks lx ly lp same a b =
    (no_reach n h n32 (p ++ y ++ s) (joined_recorded n p y s kp ky ks) (joined_some p y s lp)).0 b (λ u v hu hv ne.
    let t = joined_split (at_most h) p x s u v ((has_reach n h n32 (p ++ x ++ s) (joined_recorded n p x s kp kx ks) (joined_some p x s lp)).0 a u v hu hv ne) in
    joined_join (at_most h) p y s u t.0 t.1 v t.2
    (carry n h n32 x y kx ky lx ly same t.0 t.1 (trip_to n (at_most h) p kp u t.0 hu t.2) t.3) t.4)

-- ---- different tables: two single picks tell them apart

module _ (n h : ℕ) (n32 : n ≤ 32) (pos : 1 ≤ h) (a b : ℕ) (ha : a < n) (hb : b < n) where
  abbrev P : List (List ℕ)
  P = into n a ∷ []

  abbrev S : List (List ℕ)
  S = out_of n b ∷ []

  k_p : Recording n P
  k_p = (into_clean n a ha, tt)

  k_s : Recording n S
  k_s = (out_clean n b hb, tt)

  -- with a journey from a to b in the middle, every pair has one
  marked : (x : List (List ℕ)) → Recording n x → 1 ≤ length x → T (link (reach n h x) a b) → HasReach n (at_most h) (P ++ x ++ S)
  marked x k l m =
      (has_reach n h n32 (P ++ x ++ S) (joined_recorded n P x S k_p k k_s) (joined_some P x S (le_refl 1))).1 (λ u v hu hv ne.
      joined_join (at_most h) P x S u a b v (into_trip n h a u pos hu) ((table_trip n h n32 x k l a b ha hb).0 m).1 (out_trip n h b v pos hb hv))

  -- without one, a and b have none
  unmarked : (y : List (List ℕ)) → Recording n y → 1 ≤ length y → a ≢ b → (T (link (reach n h y) a b) → ⊥)
      → NoReach n (at_most h) (P ++ y ++ S)
  unmarked y k l ne no-link =
      (no_reach n h n32 (P ++ y ++ S) (joined_recorded n P y S k_p k k_s) (joined_some P y S (le_refl 1))).1 (λ f.
      let t = joined_split (at_most h) P y S a b (f a b ha hb ne) in
      let i = into_stays n h a t.0 ha t.2 in
      let j = out_stays n h b t.1 hb t.4 in
      no-link ((table_trip n h n32 y k l a b ha hb).1
      (ne, subst (λ (z : ℕ). Trip (at_most h) y z b) (sym i) (subst (λ (z : ℕ). Trip (at_most h) y t.0 z) j t.3))))

  -- so where no parts tell x from y, a pair marked in x is marked in y
  carried : (x y : List (List ℕ)) → Recording n x → Recording n y → 1 ≤ length x → 1 ≤ length y
      → ((HasReach n (at_most h) (P ++ x ++ S) × NoReach n (at_most h) (P ++ y ++ S)) → ⊥) → T (link (reach n h x) a b) → T (link (reach n h y) a b)
  carried x y kx ky lx ly f m =
      ⊎_elim (λ (t : T (link (reach n h y) a b)). t)
      (λ (g : T (link (reach n h y) a b) → ⊥). absurd (f (marked x kx lx m, unmarked y ky ly ((table_trip n h n32 x kx lx a b ha hb).0 m).0 g)))
      (cases (link (reach n h y) a b))

-- ---- THE CLAIM

pub condition_3_at_most : Condition3Claim
condition_3_at_most h pos n n2 n32 x y kx ky x1 x2 y1 y2 = (
  λ same p s c. (
    λ q. not-apart n h n32 x y p s kx ky c.before_recorded c.after_recorded x1 y1 c.some_before same q.0 q.1,
    λ q. not-apart n h n32 y x p s ky kx c.before_recorded c.after_recorded y1 x1 c.some_before (λ u l. sym (same u l)) q.0 q.1,
  ),
  λ f. let e = equal f in λ u l. ap (λ (t : List ℕ). get_or t u 0) e,
)
  where
    around : (a b : ℕ) → a < n → b < n → Around n x y (into n a ∷ []) (out_of n b ∷ [])
    around a b ha hb = record {
      before_recorded = (into_clean n a ha, tt);
      after_recorded = (out_clean n b hb, tt);
      some_before = le_refl 1;
      some_after = le_refl 1;
      fits_first = omega (arith, length-append (into n a ∷ x) (out_of n b ∷ []));
      fits_second = omega (arith, length-append (into n a ∷ y) (out_of n b ∷ []));
    }

    equal : NeverApart n (at_most h) x y → reach n h x ≡ reach n h y
    equal f =
        links_ext n (reach n h x) (reach n h y) (reach-marks n h n32 x kx x1).clean.words (reach-marks n h n32 y ky y1).clean.words (λ a b ha hb.
        let c = f (into n a ∷ []) (out_of n b ∷ []) (around a b ha hb) in
        bool_ext (link (reach n h x) a b) (link (reach n h y) a b)
        (carried n h n32 pos a b ha hb x y kx ky x1 y1 c.0) (carried n h n32 pos a b ha hb y x ky kx y1 x1 c.1))
