-- Journeys pick by pick: what inductions on a recording use, and that it is the same as journeys by pick numbers. `L` is the limit on the
-- links crossed in one pick. Assumes nothing.
use mathlib.Core.Path.{◌≡◌, refl, sym, ap, ◌∙◌, subst}
use mathlib.Core.Logic.{◌≢◌, ⊎_elim, ◌↔◌}
use Prim.Native.Nat.{ℕ, zero, suc, ◌+◌, ◌-◌, ◌≤◌, ◌<◌, zero-le}
use native.Mathlib.Omega.{arith}
use native.Mathlib.Nat.{le_refl, le_trans}
use mathlib.Core.Bool.{true}
use mathlib.Core.List.{List, [], ◌∷◌, ◌++◌}
use lib.ListN.{length, get_or, take, drop}
use lib.Dec.{T, eqb, eqb_refl, eqb→eq}
use Rattle.model.specs.Recording.{link, Words, Recording, pick_at, window}
use Rattle.model.specs.Journey.{Limit, unlimited, at_most, Within, Crosses, stay, cross, val, count, Journey}
use Rattle.model.proofs.Logic.{eq_or, T→≡, F→≡}
use Rattle.model.proofs.Links.{link_from, link_to}
use Rattle.model.proofs.Windows.{window_at, take_next, windows_join, window-one, window_all, rec_window}

-- fewer links are within a limit too
pub within_less : (L : Limit) {c d : ℕ} → d ≤ c → Within L c → Within L d
within_less unlimited h w = tt
within_less (at_most x) h w = omega arith

pub within_none : (L : Limit) → Within L 0
within_none unlimited = tt
within_none (at_most x) = zero-le

-- c links of one pick in a row lead from u to v
pub data Walk (p : List ℕ) : ℕ → ℕ → ℕ → Type 0 where
  stop : {u : ℕ} → Walk p 0 u u
  step : {c u v w : ℕ} → T (link p u w) → Walk p c w v → Walk p (suc c) u v

-- links of one pick, within the limit, lead from u to v
abbrev pub Hop : Limit → List ℕ → ℕ → ℕ → Type 0
Hop L p u v = (c : ℕ) × Within L c × Walk p c u v

-- a journey over the picks of a list, one pick after the other
abbrev pub Trip : Limit → List (List ℕ) → ℕ → ℕ → Type 0
Trip L [] u v = u ≡ v
Trip L (p ∷ ps) u v = (w : ℕ) × Hop L p u w × Trip L ps w v

-- the split at a pick boundary, both ways
pub trip_join : (L : Limit) (x y : List (List ℕ)) (u w v : ℕ) → Trip L x u w → Trip L y w v → Trip L (x ++ y) u v
trip_join L [] y u w v a b = subst (λ (k : ℕ). Trip L y k v) (sym a) b
trip_join L (p ∷ ps) y u w v a b = (a.0, a.1, trip_join L ps y a.0 w v a.2 b)

pub trip_split : (L : Limit) (x y : List (List ℕ)) (u v : ℕ) → Trip L (x ++ y) u v → (w : ℕ) × Trip L x u w × Trip L y w v
trip_split L [] y u v a = (u, refl, a)
trip_split L (p ∷ ps) y u v a =
    let b = trip_split L ps y a.0 v a.2 in
    (b.0, (a.0, a.1, b.1), b.2)

-- a journey may stay where it is
pub trip_stay : (L : Limit) (r : List (List ℕ)) (u : ℕ) → Trip L r u u
trip_stay L [] u = refl
trip_stay L (p ∷ ps) u = (u, (0, within_none L, stop), trip_stay L ps u)

-- both ends of a walk are boards below n
pub walk_from : {n : ℕ} {p : List ℕ} {c u v : ℕ} → Words n p → v < n → Walk p c u v → u < n
walk_from w h stop = h
walk_from {n} {p} w h (step {u = u} {w = x} k s) = link_from n p w u x k

pub walk_to : {n : ℕ} {p : List ℕ} {c u v : ℕ} → Words n p → u < n → Walk p c u v → v < n
walk_to w h stop = h
walk_to {n} {p} w h (step {u = u} {w = x} k s) = walk_to w (link_to n p w u x k) s

pub trip_from : (n : ℕ) (L : Limit) (r : List (List ℕ)) → Recording n r → (u v : ℕ) → v < n → Trip L r u v → u < n
trip_from n L [] k u v hv a = subst (λ (x : ℕ). x < n) (sym a) hv
trip_from n L (p ∷ ps) k u v hv a = walk_from k.0.words (trip_from n L ps k.1 a.0 v hv a.2) a.1.2

pub trip_to : (n : ℕ) (L : Limit) (r : List (List ℕ)) → Recording n r → (u v : ℕ) → u < n → Trip L r u v → v < n
trip_to n L [] k u v hu a = subst (λ (x : ℕ). x < n) a hu
trip_to n L (p ∷ ps) k u v hu a = trip_to n L ps k.1 a.0 v (walk_to k.0.words hu a.1.2) a.2

-- ---- journeys by pick numbers are trips over the window's picks

-- a journey over the k picks from i on, by the picks themselves
abbrev pub Span : List (List ℕ) → Limit → ℕ → ℕ → ℕ → ℕ → Type 0
Span r L i zero u v = u ≡ v
Span r L i (suc k) u v = (w : ℕ) × Hop L (pick_at r i) u w × Span r L (suc i) k w v

-- what is crossed at pick i comes first
record Peeled (r : List (List ℕ)) (j i u v : ℕ) (ts : List ℕ) : Type 0 where
  mid : ℕ
  num : ℕ
  first : Walk (pick_at r i) num u mid
  later : List ℕ
  rest : Crosses r j (suc i) mid v later
  used : num ≤ count i ts
  less : (t : ℕ) → count t later ≤ count t ts

count_here : (t x : ℕ) (ts : List ℕ) → t ≡ x → count t (x ∷ ts) ≡ suc (count t ts)
count_here t x ts e =
    let b : eqb t x ≡ true = T→≡ (eqb t x) (subst (λ (y : ℕ). T (eqb t y)) e (eqb_refl t)) in
    let c : val (eqb t x) ≡ 1 = ap val b in
    omega arith

count_skip : (t x : ℕ) (ts : List ℕ) → t ≢ x → count t (x ∷ ts) ≡ count t ts
count_skip t x ts ne =
    let c : val (eqb t x) ≡ 0 = ap val (F→≡ (eqb t x) (λ s. ne (eqb→eq t x s))) in
    omega arith

count-more : (t x : ℕ) (ts : List ℕ) → count t ts ≤ count t (x ∷ ts)
count-more t x ts = omega arith

peel : {r : List (List ℕ)} {j i u v : ℕ} {ts : List ℕ} → Crosses r j i u v ts → Peeled r j i u v ts
peel {u = u} stay = record { mid = u; num = 0; first = stop; later = []; rest = stay; used = zero-le; less = λ t. zero-le }
peel {r} {j} {i} (cross {u = u} {v = v} {w = w} {t = t} {ts = ts} a b l s) =
    ⊎_elim (λ (e : i ≡ t). subst (λ (x : ℕ). Peeled r j x u v (t ∷ ts)) (sym e) (same (peel s))) diff (eq_or i t)
  where
    same : Peeled r j t w v ts → Peeled r j t u v (t ∷ ts)
    same q =
        let k : q.num ≤ count t ts = q.used in
        record {
          mid = q.mid;
          num = suc q.num;
          first = step l q.first;
          later = q.later;
          rest = q.rest;
          used = omega (arith, count_here t t ts refl);
          less = λ x. le_trans (q.less x) (count-more x t ts);
        }

    diff : i ≢ t → Peeled r j i u v (t ∷ ts)
    diff ne = record {
      mid = u;
      num = 0;
      first = stop;
      later = t ∷ ts;
      rest = cross {i = suc i} {t = t}
          (omega arith) b l s;
      used = zero-le;
      less = λ x. le_refl (count x (t ∷ ts));
    }

-- before its first pick a journey crosses nothing
count_low : {r : List (List ℕ)} {j i u v : ℕ} {ts : List ℕ} (t : ℕ) → t < i → Crosses r j i u v ts → count t ts ≡ 0
count_low t h stay = refl
count_low t h (cross {t = x} {ts = ts} a b l s) = count_skip t x ts (omega arith) ∙ count_low t (omega arith) s

crosses_span : (r : List (List ℕ)) (L : Limit) (j k i u v : ℕ) (ts : List ℕ) → suc j
    ≡ i + k → Crosses r j i u v ts → ((t : ℕ) → Within L (count t ts)) → Span r L i k u v
crosses_span r L j zero i u v ts e stay m = refl
crosses_span r L j zero i u v ts e (cross a b l s) m = absurd (omega arith)
crosses_span r L j (suc k) i u v ts e s m =
    let q = peel s in (
      q.mid,
      (q.num, within_less L q.used (m i), q.first),
      crosses_span r L j k (suc i) q.mid v q.later (omega arith) q.rest
          (λ t. within_less L (q.less t) (m t)),
    )

-- a walk in pick i, put before a journey that goes on later
record LedOn (r : List (List ℕ)) (j i u v c : ℕ) (ts : List ℕ) : Type 0 where
  all : List ℕ
  way : Crosses r j i u v all
  here : count i all ≡ c + count i ts
  there : (t : ℕ) → t ≢ i → count t all ≡ count t ts

lead : {r : List (List ℕ)} {j i c u w v : ℕ} {ts : List ℕ} → i ≤ j → Walk (pick_at r i) c u w → Crosses r j i w v ts → LedOn r j i u v c ts
lead {ts = ts} h stop s = record { all = ts; way = s; here = omega arith; there = λ t ne. refl }
lead {i = i} {ts = ts} h (step l k) s =
    let q = lead h k s in
    let e = q.here in
    record {
      all = i ∷ q.all;
      way = cross (le_refl i) h l q.way;
      here = omega (arith, count_here i i q.all refl);
      there = λ t ne. count_skip t i q.all ne ∙ q.there t ne;
    }

earlier : {r : List (List ℕ)} {j i u v : ℕ} {ts : List ℕ} → Crosses r j (suc i) u v ts → Crosses r j i u v ts
earlier stay = stay
earlier {i = i} (cross {t = t} a b l s) = cross {i = i} {t = t} (omega arith) b l s

span_journey : (r : List (List ℕ)) (L : Limit) (j k i u v : ℕ) → suc j ≡ i + k → Span r L i k u v → Journey r L i j u v
span_journey r L j zero i u v e s = record { picks = []; crosses = subst (λ (x : ℕ). Crosses r j i u x []) s stay; hops = λ t. within_none L }
span_journey r L j (suc k) i u v e s =
    let f = span_journey r L j k (suc i) s.0 v (omega arith) s.2 in
    let q = lead (omega arith) s.1.2 (earlier f.crosses) in
    record {
      picks = q.all;
      crosses = q.way;
      hops = λ t. ⊎_elim (λ (x : t ≡ i). subst (λ (y : ℕ). Within L (count y q.all)) (sym x)
          (within_less L (omega (arith, q.here, count_low i (le_refl (suc i)) f.crosses)) s.1.1))
          (λ (x : t ≢ i). within_less L (omega (arith, q.there t x)) (f.hops t)) (eq_or t i);
    }

-- a journey by pick numbers, over the k picks from i on
pub journey_span : (r : List (List ℕ)) (L : Limit) (i j k u v : ℕ) → suc j ≡ i + k → Journey r L i j u v ↔ Span r L i k u v
journey_span r L i j k u v e = (λ f. crosses_span r L j k i u v f.picks e f.crosses f.hops, span_journey r L j k i u v e)

span_trip : (r : List (List ℕ)) (L : Limit) (k i u v : ℕ) → i + k ≤ length r → Span r L (suc i) k u v → Trip L (take k (drop i r)) u v
span_trip r L zero i u v l s = s
span_trip r L (suc k) i u v l s = rw (take_next r i k l) (s.0, s.1, span_trip r L k (suc i) s.0 v (omega arith) s.2)

trip_span : (r : List (List ℕ)) (L : Limit) (k i u v : ℕ) → i + k ≤ length r → Trip L (take k (drop i r)) u v → Span r L (suc i) k u v
trip_span r L zero i u v l s = s
trip_span r L (suc k) i u v l s =
    let q : Trip L (get_or r i [] ∷ take k (drop (suc i) r)) u v = subst (λ (x : List (List ℕ)). Trip L x u v) (take_next r i k l) s in
    (q.0, q.1, trip_span r L k (suc i) q.0 v (omega arith) q.2)

-- a journey in the window of the picks i to j is a trip over them
pub journey_trip : (r : List (List ℕ)) (L : Limit) (i j u v : ℕ) → 1 ≤ i → i ≤ suc j → j ≤ length r
    → Journey r L i j u v ↔ Trip L (window r i j) u v
journey_trip r L zero j u v a b c = absurd (omega arith)
journey_trip r L (suc i) j u v a b c =
    let e : j ≡ i + (j - i) = omega arith in
    let w : window r (suc i) j ≡ take (j - i) (drop i r) = ap (λ (x : ℕ). window r (suc i) x) e ∙ window_at r i (j - i) in
    let s = journey_span r L (suc i) j (j - i) u v (omega arith) in
    (λ f. rw w (span_trip r L (j - i) i u v (omega arith) (s.0 f)), λ t. s.1 (trip_span r L (j - i) i u v (omega arith) (rw w at t)))

-- a journey over all picks
pub journey_all : (r : List (List ℕ)) (L : Limit) (u v : ℕ) → Journey r L 1 (length r) u v ↔ Trip L r u v
journey_all r L u v = rw window_all at (journey_trip r L 1 (length r) u v (le_refl 1) (omega arith) (le_refl (length r)))

-- a journey in one pick
pub journey_one : (r : List (List ℕ)) (L : Limit) (i u v : ℕ) → 1 ≤ i → i ≤ length r → Journey r L i i u v ↔ Hop L (pick_at r i) u v
journey_one r L i u v a b =
    let e = journey_trip r L i i u v a (omega arith) b in
    let w = window-one r i a b in (
      λ f. let t = rw w at (e.0 f) in subst (λ (x : ℕ). Hop L (pick_at r i) u x) t.2 t.1,
      λ h. e.1 (rw w (v, h, refl)),
    )

-- THEOREM. A journey splits at a pick boundary, and two that meet at one join.
pub journey_split : (r : List (List ℕ)) (L : Limit) (i k j u v : ℕ) → 1 ≤ i → i ≤ k → k < j → j ≤ length r
    → Journey r L i j u v ↔ ((w : ℕ) × Journey r L i k u w × Journey r L (suc k) j w v)
journey_split r L i k j u v a b c d =
    let whole = journey_trip r L i j u v a (omega arith) d in
    let seam = windows_join r i k j a b c in (
      λ f. let t = trip_split L (window r i k) (window r (suc k) j) u v (rw (sym seam) at (whole.0 f)) in (
        t.0,
        (journey_trip r L i k u t.0 a (omega arith) (omega arith)).1 t.1,
        (journey_trip r L (suc k) j t.0 v (omega arith) (omega arith) d).1
            t.2,
      ),
      λ p. whole.1 (rw (sym seam) (trip_join L (window r i k) (window r (suc k) j) u p.0 v
          ((journey_trip r L i k u p.0 a (omega arith) (omega arith)).0 p.1) ((journey_trip r L (suc k) j p.0 v (omega arith) (omega arith) d).0
          p.2))),
    )

-- a journey ends at a board below n
pub journey_to : (n : ℕ) (L : Limit) (r : List (List ℕ)) → Recording n r → (i j u v : ℕ) → 1 ≤ i → i ≤ suc j → j ≤ length r → u < n
    → Journey r L i j u v → v < n
journey_to n L r k i j u v a b c hu f = trip_to n L (window r i j) (rec_window n i j r k) u v hu ((journey_trip r L i j u v a b c).0 f)

-- a journey in a window is one in any window around it
widen : {r : List (List ℕ)} {j b a i u v : ℕ} {ts : List ℕ} → a ≤ i → j ≤ b → Crosses r j i u v ts → Crosses r b a u v ts
widen x y stay = stay
widen {j = j} {b} {a} {i} x y (cross {t = t} p q l s) = cross {i = a} {t = t} (omega arith) (omega arith) l (widen (le_refl t) y s)

pub journey_wider : {r : List (List ℕ)} {L : Limit} {i j a b u v : ℕ} → a ≤ i → j ≤ b → Journey r L i j u v → Journey r L a b u v
journey_wider x y f = record { picks = f.picks; crosses = widen x y f.crosses; hops = f.hops }
