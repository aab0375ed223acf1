-- What a pick's own table of times, composition and the test of measure 4 tell, and that a window has one table. Assumes nothing.
use Rattle.std.proofs.Common.{◌≡◌, ℕ, zero, suc, ◌+◌, ◌*◌, ◌<◌, ◌≤◌, Bool, true, false, not, ◌&&◌, T, eqb, leb, ◌≢◌, ◌⊎◌, ◌↔◌, List, ◌++◌, length, drop, sym, refl, ◌∙◌, subst, inl, inr, ⊎_elim, le_refl, not-suc-le-zero, arith, le→leb, eqb→eq, leb→le, length-append}
use lib.Dec.{eqb_refl}
use Rattle.model.specs.Recording.{link, Recording}
use Rattle.model.specs.Journey.{Limit, Journey}
use Rattle.model.specs.Measures.{RoundTrip, PassesRoundTrip}
use Rattle.model.proofs.Logic.{F→≡, eq_or, eq_refl, le_or_lt, or_l, or_r, or_cases, and_both, and_l, and_r, eqb_ne, ne_eqb, cond_ind, not_le}
use Rattle.model.proofs.Trips.{journey_split, journey_to, journey_wider}
use Rattle.lists.specs.Tab.{kept}
use Rattle.times.specs.Times.{cell, rows, times_words, arr, dep, sooner, later, after, apart, arrive_by, depart_by, arrival, departure, arrivals, departures}
use Rattle.times.specs.Times.{compose_times, own_time, own_times, in_time, all_in_time}
use Rattle.times.specs.Tells.{Earliest, no_arrival, first, Latest, no_departure, last, TellsTimes}
use Rattle.times.proofs.Cells.{length-rows, cell-rows, arr-append, dep-append, times_ext}
use Rattle.times.proofs.Pairs.{own_in_time, all-in-time}

-- ---- times, where 0 is none

-- x is as good as the time a: for arrivals, a time at or before it; for departures, one at or after it
abbrev Before : ℕ → ℕ → Type 0
Before x a = (1 ≤ x) × (x ≤ a)

abbrev After : ℕ → ℕ → Type 0
After x a = a ≤ x

-- op x y is x or y, and as good as either
record Picks (B : ℕ → ℕ → Type 0) (op : ℕ → ℕ → ℕ) : Type 1 where
  one : (Q : ℕ → Type 0) (x y : ℕ) → Q x → Q y → Q (op x y)
  left : (x y a : ℕ) → B x a → B (op x y) a
  right : (x y a : ℕ) → B y a → B (op x y) a

some : (x : ℕ) → (T (eqb x 0) → ⊥) → 1 ≤ x
some x f = let g : x ≢ 0 = λ h. f (eq_refl h) in omega arith

-- the cases of `sooner`
sooner_by : (Q : ℕ → Type 0) (x y : ℕ) → (x ≡ 0 → Q y) → (y ≡ 0 → Q x) → (1 ≤ x → x ≤ y → Q x) → (1 ≤ y → y < x → Q y)
    → Q (sooner x y)
unfolding sooner
sooner_by Q x y f g h k =
    cond_ind Q (eqb x 0) y _ (λ t. f (eqb→eq x 0 t))
    (λ p. cond_ind Q (eqb y 0) x _ (λ t. g (eqb→eq y 0 t))
    (λ q. cond_ind Q (leb x y) x y (λ t. h (some x p) (leb→le x y t)) (λ t. k (some y q) (not_le x y t))))

sooner_picks : Picks Before sooner
sooner_picks = record {
  one = λ Q x y p q. sooner_by Q x y (λ e. q) (λ e. p) (λ h l. p) (λ h l. q);
  left = λ x y a b. sooner_by (λ z. Before z a) x y (λ e. absurd (omega arith)) (λ e. b) (λ m o. b) (λ m o. (omega arith, omega arith));
  right = λ x y a b. sooner_by (λ z. Before z a) x y (λ e. b) (λ e. absurd (omega arith)) (λ m o. (omega arith, omega arith)) (λ m o. b);
}

later_picks : Picks After later
unfolding later
later_picks = record {
  one = λ Q x y p q. cond_ind Q (leb x y) y x (λ t. q) (λ t. p);
  left = λ x y a b. cond_ind (λ z. After z a) (leb x y) y x (λ t. omega (arith, leb→le x y t)) (λ t. b);
  right = λ x y a b. cond_ind (λ z. After z a) (leb x y) y x (λ t. b) (λ t. omega (arith, not_le x y t));
}

apart_own : (u x : ℕ) → apart u u x ≡ 0
unfolding apart
apart_own u x = cond_ind (λ z. z ≡ 0) (eqb u u) 0 x (λ t. refl) (λ f. absurd (f (eqb_refl u)))

apart_other : (u v x : ℕ) → u ≢ v → apart u v x ≡ x
unfolding apart
apart_other u v x ne = cond_ind (λ z. z ≡ x) (eqb u v) 0 x (λ t. absurd (ne (eqb→eq u v t))) (λ f. refl)

-- ---- the best of several times

-- x is a time from i to j with the property P, or 0
abbrev Real : (ℕ → Type 0) → ℕ → ℕ → ℕ → Type 0
Real P i j x = x ≢ 0 → (i ≤ x) × (x ≤ j) × P x

-- Of the times from i to j with the property P, x is the best, or 0 and there is none.
record Best (B : ℕ → ℕ → Type 0) (P : ℕ → Type 0) (i j x : ℕ) : Type 0 where
  real : Real P i j x
  best : (a : ℕ) → i ≤ a → a ≤ j → P a → B x a

-- what composition chooses from: x, y, and q w for each w below n where p w is a time. One of them is as good as a.
data Offer (B : ℕ → ℕ → Type 0) (x y : ℕ) (p q : ℕ → ℕ) (n a : ℕ) : Type 0 where
  here : B x a → Offer B x y p q n a
  there : B y a → Offer B x y p q n a
  over_by : (w : ℕ) → w < n → p w ≢ 0 → B (q w) a → Offer B x y p q n a

-- F k is what composition chooses from the first k boards
module _ {B : ℕ → ℕ → Type 0} {op : ℕ → ℕ → ℕ} (c : Picks B op) (x y : ℕ) (p q F : ℕ → ℕ) (start : F 0 ≡ op x y)
    (next : (k : ℕ) → F (suc k) ≡ op (F k) (after (p k) (q k))) where
  -- what holds of 0 and of all that is offered holds of it
  chosen : (Q : ℕ → Type 0) (n : ℕ) → Q 0 → Q x → Q y → ((w : ℕ) → w < n → p w ≢ 0 → Q (q w)) → Q (F n)
  unfolding after
  chosen Q zero o f g h = rw start (c.one Q x y f g)
  chosen Q (suc n) o f g h =
      rw next (c.one Q _ _ (chosen Q n o f g (λ w l. h w (omega arith)))
      (cond_ind Q (eqb (p n) 0) 0 (q n) (λ t. o) (λ z. h n (le_refl (suc n)) (λ e. z (eq_refl e)))))

  -- it is as good as all that is offered
  good : (n a : ℕ) → Offer B x y p q n a → B (F n) a
  unfolding after
  good zero a (here f) = rw start (c.left x y a f)
  good zero a (there f) = rw start (c.right x y a f)
  good zero a (over_by w h e f) = absurd (not-suc-le-zero h)
  good (suc n) a (here f) = rw next (c.left _ _ a (good n a (here f)))
  good (suc n) a (there f) = rw next (c.left _ _ a (good n a (there f)))
  good (suc n) a (over_by w h e f) =
      rw next (⊎_elim (λ (z : w
      ≡ n). c.right _ _ a (rw (← z) (cond_ind (λ x. B x a) (eqb (p w) 0) 0 (q w) (λ t. absurd (e (eqb→eq (p w) 0 t))) (λ t. f))))
      (λ (z : w ≢ n). c.left _ _ a (good n a (over_by w (omega arith) e f))) (eq_or w n))

  -- so it is the best, where all that is offered is real
  best_of : {P : ℕ → Type 0} {i j : ℕ} (n : ℕ) → Real P i j x → Real P i j y → ((w : ℕ) → w < n → p w ≢ 0 → Real P i j (q w))
      → ((a : ℕ) → i ≤ a → a ≤ j → P a → Offer B x y p q n a) → Best B P i j (F n)
  best_of {P} {i} {j} n f g h o = record { real = chosen (Real P i j) n (λ z. absurd (z refl)) f g h; best = λ a l m z. good n a (o a l m z) }

-- ---- what a table tells is the best

abbrev Early : List (List ℕ) → Limit → ℕ → ℕ → ℕ → ℕ → ℕ → Type 0
Early r L i j u v = Best Before (λ a. Journey r L i a u v) i j

abbrev Late : List (List ℕ) → Limit → ℕ → ℕ → ℕ → ℕ → ℕ → Type 0
Late r L i j u v = Best After (λ d. Journey r L d j u v) i j

module _ {r : List (List ℕ)} {L : Limit} {i j u v x : ℕ} where
  earliest_early : 1 ≤ i → Earliest r L i j u v x → Early r L i j u v x
  earliest_early h (no_arrival e f) = record { real = λ z. absurd (z e); best = λ a p q g. absurd (f (journey_wider (le_refl i) q g)) }
  earliest_early h (first c) =
      record {
        real = λ z. (c.from, c.upto, c.there);
        best = λ a p q g. let f : a < x
            → ⊥ = λ l. c.first a p l g in (omega (arith, c.from), omega arith);
      }

  latest_late : 1 ≤ i → Latest r L i j u v x → Late r L i j u v x
  latest_late h (no_departure e f) = record { real = λ z. absurd (z e); best = λ d p q g. absurd (f (journey_wider p (le_refl j) g)) }
  latest_late h (last c) =
      record { real = λ z. (c.from, c.upto, c.there); best = λ d p q g. let f : x < d → ⊥ = λ l. c.last d l q g in omega arith }

  early_earliest : i ≤ j → Early r L i j u v x → Earliest r L i j u v x
  early_earliest h b =
      ⊎_elim (λ (e : x ≡ 0). no_arrival e (λ f. let z = b.best j h (le_refl j) f in absurd (omega arith)))
      (λ (e : x ≢ 0). let c = b.real e in
      first (record { from = c.0; upto = c.1; there = c.2; first = λ a p l f. let z = b.best a p (omega (arith, c.1)) f in omega arith })) (eq_or x 0)

  late_latest : 1 ≤ i → i ≤ j → Late r L i j u v x → Latest r L i j u v x
  late_latest o h b =
      ⊎_elim (λ (e : x ≡ 0). no_departure e (λ f. let z = b.best i (le_refl i) h f in absurd (omega arith)))
      (λ (e : x ≢ 0). let c = b.real e in
      last (record { from = c.0; upto = c.1; there = c.2; last = λ d l p f. let z = b.best d (omega (arith, c.0)) p f in omega arith })) (eq_or x 0)

module _ {r : List (List ℕ)} {n : ℕ} {L : Limit} {i j : ℕ} {t : List ℕ} (h : 1 ≤ i) (a : TellsTimes r n L i j t) where
  early : (u v : ℕ) → u < n → v < n → u ≢ v → Early r L i j u v (arr n t u v)
  early u v hu hv ne = earliest_early h (a.arrives u v hu hv ne)

  late : (u v : ℕ) → u < n → v < n → u ≢ v → Late r L i j u v (dep n t u v)
  late u v hu hv ne = latest_late h (a.departs u v hu hv ne)

-- there is one best
best_once : {B : ℕ → ℕ → Type 0} {P : ℕ → Type 0} {i j x y : ℕ} → ((x y : ℕ) → x ≢ 0 → B y x → (y ≢ 0) × (B x y → x ≡ y))
    → Best B P i j x → Best B P i j y → x ≡ y
best_once {B} {x = x} {y = y} law b c =
    let f : x ≢ 0 → B y x = λ z. let d = b.real z in c.best x d.0 d.1 d.2 in
    let g : y ≢ 0 → B x y = λ z. let d = c.real z in b.best y d.0 d.1 d.2 in
    ⊎_elim (λ (e : x ≡ 0). ⊎_elim (λ (q : y ≡ 0). omega arith) (λ (q : y ≢ 0). absurd ((law y x q (g q)).0 e)) (eq_or y 0))
    (λ (e : x ≢ 0). let l = law x y e (f e) in l.1 (g l.0)) (eq_or x 0)

-- ---- composition

-- an entry that is not an own one
other : (n : ℕ) (s : List ℕ) → ((u : ℕ) → u < n → cell n s u u ≡ 0) → (u v : ℕ) → u < n → cell n s u v ≢ 0 → u ≢ v
other n s o u v h f e = f (subst (λ (x : ℕ). cell n s u x ≡ 0) e (o u h))

module _ (n : ℕ) (r : List (List ℕ)) (L : Limit) (rec : Recording n r) (k u v : ℕ) (hu : u < n) (hv : v < n) where
  -- a journey over the end of pick k: all of it is after it, all of it is before it, or it goes by way of another board w
  parts : {Q : Type 0} (a b : ℕ) → 1 ≤ a → a ≤ k → k < b → b ≤ length r → (Journey r L (suc k) b u v → Q) → (Journey r L a k u v → Q)
      → ((w : ℕ) → w < n → u ≢ w → w ≢ v → Journey r L a k u w → Journey r L (suc k) b w v → Q) → Journey r L a b u v → Q
  parts a b p q h l x y z j =
      let f = (journey_split r L a k b u v p q h l).0 j in
      ⊎_elim (λ (e : u ≡ f.0). x (rw e f.2))
      (λ (e : u ≢ f.0). ⊎_elim (λ (d : f.0 ≡ v). y (rw (← d) f.1))
      (λ (d : f.0 ≢ v). z f.0 (journey_to n L r rec a k u f.0 p (omega arith) (omega arith) hu f.1) e d f.1 f.2) (eq_or f.0 v))
      (eq_or u f.0)

  module _ (i j : ℕ) (hi : 1 ≤ i) (hk : i ≤ k) (hj : k < j) (hr : j ≤ length r) (ne : u ≢ v)
      (s t : List ℕ) (os : (u : ℕ) → u < n → cell n s u u ≡ 0) (ot : (u : ℕ) → u < n → cell n t u u ≡ 0) where
    -- composition finds the earliest arrival, where s and t tell theirs
    arrive : ((u v : ℕ) → u < n → v < n → u ≢ v → Early r L i k u v (cell n s u v)) → ((u v : ℕ) → u < n → v < n → u ≢ v
        → Early r L (suc k) j u v (cell n t u v))
        → Early r L i j u v (arrive_by n s t n u v)
    unfolding arrive_by
    arrive fs ft =
        let x = fs u v hu hv ne in
        let y = ft u v hu hv ne in
        best_of sooner_picks (cell n s u v) (cell n t u v) (λ w. cell n s u w) (λ w. cell n t w v) (λ m. arrive_by n s t m u v) refl (λ m. refl) n
        (λ z. let f = x.real z in (f.0, omega (arith, f.1), f.2))
        (λ z. let f = y.real z in (omega (arith, f.0), f.1, journey_wider (omega arith) (le_refl _) f.2))
        (λ w hw e z.
        let f = (fs u w hu hw (other n s os u w hu e)).real e in
        let g = (ft w v hw hv (other n t ot w v hw z)).real z in (
          omega (arith, g.0),
          g.1,
          (journey_split r L i k (cell n t w v) u v hi hk g.0 (omega (arith, g.1))).1 (
            w,
            journey_wider (le_refl i) f.1
                f.2,
            g.2,
          ),
        ))
        (λ a p q f. ⊎_elim (λ (h : a ≤ k). here (x.best a p h f)) (λ (h : k < a).
        parts i a hi hk h (omega arith) (λ f. there (y.best a h q f)) (λ f. let z = x.best k hk (le_refl k) f in here (z.0, omega arith))
        (λ w l d e f g. let z = (fs u w hu l d).best k hk (le_refl k) f in over_by w l (omega arith) ((ft w v l hv e).best a h q g)) f) (le_or_lt a k))

    -- and the latest departure
    depart : ((u v : ℕ) → u < n → v < n → u ≢ v → Late r L i k u v (cell n s u v)) → ((u v : ℕ) → u < n → v < n → u ≢ v
        → Late r L (suc k) j u v (cell n t u v))
        → Late r L i j u v (depart_by n s t n u v)
    unfolding depart_by
    depart fs ft =
        let x = fs u v hu hv ne in
        let y = ft u v hu hv ne in
        best_of later_picks (cell n s u v) (cell n t u v) (λ w. cell n t w v) (λ w. cell n s u w) (λ m. depart_by n s t m u v) refl (λ m. refl) n
        (λ z. let f = x.real z in (f.0, omega (arith, f.1), journey_wider (le_refl _) (omega arith) f.2))
        (λ z. let f = y.real z in (omega (arith, f.0), f.1, f.2))
        (λ w hw e z.
        let f = (fs u w hu hw (other n s os u w hu z)).real z in
        let g = (ft w v hw hv (other n t ot w v hw e)).real e in (
          f.0,
          omega (arith, f.1),
          (journey_split r L (cell n s u w) k j u v (omega (arith, f.0)) f.1 hj hr).1 (
            w,
            f.2,
            journey_wider g.0 (le_refl j)
                g.2,
          ),
        ))
        (λ a p q f. ⊎_elim (λ (h : a ≤ k).
        parts a j (omega arith) h hj hr (λ f. let z = y.best (suc k) (le_refl (suc k)) hj f in there (omega arith)) (λ f. here (x.best a p h f))
        (λ w l d e f g. let z = (ft w v l hv e).best (suc k) (le_refl (suc k)) hj g in over_by w l (omega arith) ((fs u w hu l d).best a p h f)) f)
        (λ (h : k < a). there (y.best a h q f)) (le_or_lt a k))

-- the words of a table whose halves are rows
module _ (n : ℕ) (f g : ℕ → ℕ → ℕ) where
  wide_rows : length (rows n f n ++ rows n g n) ≡ times_words n
  wide_rows = simp (length-append, length-rows)

  arr-rows : (u v : ℕ) → u < n → v < n → arr n (rows n f n ++ rows n g n) u v ≡ f u v
  arr-rows u v hu hv = arr-append n (rows n f n) (rows n g n) u v (length-rows n f n) hu hv ∙ cell-rows n f n u v hu hv

  dep-rows : (u v : ℕ) → u < n → v < n → dep n (rows n f n ++ rows n g n) u v ≡ g u v
  dep-rows u v hu hv = dep-append n (rows n f n) (rows n g n) u v (length-rows n f n) ∙ cell-rows n g n u v hu hv

-- THEOREM. The tables of two adjoining windows compose to that of both together.
pub compose_tells : {n : ℕ} {r : List (List ℕ)} {L : Limit} {i k j : ℕ} {s t : List ℕ} → Recording n r → 1 ≤ i → i ≤ k → k < j
    → j ≤ length r
    → TellsTimes r n L i k s → TellsTimes r n L (suc k) j t → TellsTimes r n L i j (compose_times n s t)
unfolding compose_times arrivals departures arrival departure
compose_tells {n} {r} {L} {i} {k} {j} {s} {t} rec hi hk hj hr a b = record {
  wide = wide_rows n _ _;
  own_arrival = λ u h. arr-rows n _ _ u u h h ∙ apart_own u _;
  own_departure = λ u h. dep-rows n _ _ u u h h ∙ apart_own u _;
  arrives = λ u v hu hv ne. rw (arr-rows n _ _ u v hu hv, apart_other u v _ ne) (early_earliest (omega arith) (
      arrive n r L rec k u v hu hv i j hi hk hj hr ne s t a.own_arrival b.own_arrival (early hi a) (early (omega arith) b)));
  departs = λ u v hu hv ne. rw (dep-rows n _ _ u v hu hv, apart_other u v _ ne) (late_latest hi (omega arith) (
      depart n r L rec k u v hu hv i j hi hk hj hr ne (drop (n * n) s) (drop (n * n) t) a.own_departure b.own_departure (late hi a)
      (late (omega arith) b)));
}

-- ---- a pick's own table

-- in a window of one pick, a journey arrives and departs at that pick
module _ {r : List (List ℕ)} {L : Limit} {i u v : ℕ} where
  own_first : (b : Bool) → (T b → Journey r L i i u v) → (Journey r L i i u v → T b) → Earliest r L i i u v (kept b i)
  own_first true f g = first (record { from = le_refl i; upto = le_refl i; there = f tt; first = λ x p q z. omega arith })
  own_first false f g = no_arrival refl g

  own_last : (b : Bool) → (T b → Journey r L i i u v) → (Journey r L i i u v → T b) → Latest r L i i u v (kept b i)
  own_last true f g = last (record { from = le_refl i; upto = le_refl i; there = f tt; last = λ x p q z. omega arith })
  own_last false f g = no_departure refl g

-- THEOREM. A pick's own table tells its times, where w marks the pairs of different boards joined within it.
pub own_tells : {n : ℕ} {r : List (List ℕ)} {L : Limit} {i : ℕ} → Recording n r → 1 ≤ i → i ≤ length r → (w : List ℕ)
    → ((u v : ℕ) → u < n → v < n → T (link w u v) ↔ ((u ≢ v) × Journey r L i i u v)) → TellsTimes r n L i i (own_times n i w)
unfolding own_times own_time
own_tells {n} {i = i} rec hi hr w m = record {
  wide = wide_rows n _ _;
  own_arrival = λ u h. arr-rows n _ _ u u h h ∙ own u h;
  own_departure = λ u h. dep-rows n _ _ u u h h ∙ own u h;
  arrives = λ u v hu hv ne. rw (arr-rows n _ _ u v hu hv) (own_first (link w u v) (λ t. ((m u v hu hv).0 t).1) (λ f. (m u v hu hv).1 (ne, f)));
  departs = λ u v hu hv ne. rw (dep-rows n _ _ u v hu hv) (own_last (link w u v) (λ t. ((m u v hu hv).0 t).1) (λ f. (m u v hu hv).1 (ne, f)));
}
  where
    own : (u : ℕ) → u < n → kept (link w u u) i ≡ 0
    own u h = rw (F→≡ (link w u u) (λ t. ((m u u h h).0 t).0 refl))

-- THEOREM. A window has one table.
pub tells_once : {r : List (List ℕ)} {n : ℕ} {L : Limit} {i j : ℕ} {s t : List ℕ} → 1 ≤ i → TellsTimes r n L i j s → TellsTimes r n L i j t
    → s ≡ t
tells_once {n = n} {s = s} {t = t} hi a b =
    times_ext n s t a.wide b.wide
    (λ u v hu hv. ⊎_elim (λ (e : u ≡ v). rw (← e) (a.own_arrival u hu ∙ sym (b.own_arrival u hu)))
    (λ (ne : u ≢ v). best_once (λ x y z c. (omega arith, λ d. omega arith)) (early hi a u v hu hv ne) (early hi b u v hu hv ne)) (eq_or u v))
    (λ u v hu hv. ⊎_elim (λ (e : u ≡ v). rw (← e) (a.own_departure u hu ∙ sym (b.own_departure u hu)))
    (λ (ne : u ≢ v). best_once (λ x y z c. (omega arith, λ d. omega arith)) (late hi a u v hu hv ne) (late hi b u v hu hv ne)) (eq_or u v))

-- ---- the test

-- what it says of u and v
abbrev BothInTime : ℕ → ℕ → List ℕ → ℕ → ℕ → Type 0
BothInTime n turn t u v = (arr n t u v ≢ 0) × (arr n t v u ≢ 0) × (arr n t u v + turn ≤ dep n t v u)

in_time_is : (n turn : ℕ) (t : List ℕ) (u v : ℕ) → T (in_time n turn t u v) ↔ ((u ≡ v) ⊎ BothInTime n turn t u v)
unfolding in_time
in_time_is n turn t u v =
    let a : Bool = not (eqb (arr n t u v) 0) in
    let b : Bool = not (eqb (arr n t v u) 0) in
    let c : Bool = leb (arr n t u v + turn) (dep n t v u) in (
      λ h. ⊎_elim (λ q. inl (eqb→eq u v q))
          (λ m. let k = and_r a (b && c) m in inr (ne_eqb _ 0 (and_l a (b && c) m), ne_eqb _ 0 (and_l b c k), leb→le _ _ (and_r b c k)))
          (or_cases (eqb u v) (a && (b && c)) h),
      ⊎_elim (λ q. or_l (eqb u v) _ (eq_refl q)) (λ m. or_r (eqb u v) _ (and_both a (b && c) (eqb_ne _ 0 m.0) (and_both b c (eqb_ne _ 0 m.1)
          (le→leb _ _ m.2)))),
    )

-- a table's times that meet make a round trip
times_meet : {r : List (List ℕ)} {L : Limit} {turn i j u v x z : ℕ} → x ≢ 0 → x + turn ≤ z → Earliest r L i j u v x → Latest r L i j v u z
    → RoundTrip r L turn i j u v
times_meet p q (no_arrival e f) d = absurd (p e)
times_meet p q (first c) (no_departure e f) = absurd (omega arith)
times_meet {x = x} {z = z} p q (first c) (last d) = record { a = x; d = z; arrival = c; departure = d; in-time = q }

-- of different boards, it says whether there is a round trip
pub tells_pair : {r : List (List ℕ)} {n : ℕ} {L : Limit} {turn i j : ℕ} {t : List ℕ} → 1 ≤ i → i ≤ j → TellsTimes r n L i j t → (u v : ℕ)
    → u < n → v < n → u ≢ v → T (in_time n turn t u v) ↔ RoundTrip r L turn i j u v
tells_pair {r} {n} {L} {turn} {i} {j} {t} hi hj a u v hu hv ne = (
  λ h. ⊎_elim (λ e. absurd (ne e)) (λ m. times_meet m.0 m.2 (a.arrives u v hu hv ne) (a.departs v u hv hu en)) ((in_time_is n turn t u v).0 h),
  λ c. (in_time_is n turn t u v).1 (inr (back c)),
)
  where
    en : v ≢ u
    en e = ne (sym e)

    back : RoundTrip r L turn i j u v → BothInTime n turn t u v
    back c =
        let out = c.arrival in
        let home = c.departure in
        let p = (early hi a u v hu hv ne).best c.a out.from out.upto out.there in
        let q = (late hi a v u hv hu en).best c.d home.from home.upto home.there in
        let z = (early hi a v u hv hu en).best j hj (le_refl j) (journey_wider home.from (le_refl j) home.there) in
        (omega arith, omega arith, omega (arith, c.in-time))

-- THEOREM. The test of measure 4 tells whether the window passes.
pub tells_test : {r : List (List ℕ)} {n : ℕ} {L : Limit} {turn i j : ℕ} {t : List ℕ} → 1 ≤ i → i ≤ j → j ≤ length r
    → TellsTimes r n L i j t
    → T (all_in_time n turn t) ↔ PassesRoundTrip r n L turn i j
tells_test {n = n} {turn = turn} {t = t} hi hj hr a = (
  λ h u v hu hv ne. (tells_pair hi hj a u v hu hv ne).0 ((all-in-time n turn t).0 h u v hu hv),
  λ f. (all-in-time n turn t).1 (λ u v hu hv. ⊎_elim (own_in_time n turn t u v) (λ (ne : u ≢ v). (tells_pair hi hj a u v hu hv ne).1 (f u v hu hv ne))
      (eq_or u v)),
)
