-- When a length exists, and when it is the length of more picks. Assumes nothing.
use mathlib.Core.Path.{◌≡◌, subst}
use mathlib.Core.Logic.{◌≢◌, ◌⊎◌, inl, inr, ⊎_elim, ◌↔◌}
use Prim.Native.Nat.{ℕ, zero, suc, max, ◌+◌, ◌-◌, ◌≤◌, ◌<◌}
use native.Mathlib.Nat.{le_refl}
use native.Mathlib.Omega.{arith}
use Rattle.model.specs.Length.{Every, Smallest, Largest, NoLength, HasSmallest, Downward, Upward}
use Rattle.model.proofs.Logic.{eq_or, le_or_lt, dec_every}

-- there is one smallest length, and one largest
pub smallest-one : {P : ℕ → ℕ → Type 0} {m k l : ℕ} → Smallest P m k → Smallest P m l → k ≡ l
smallest-one {k = k} {l = l} a b =
    let p : l < k → ⊥ = λ h. a.least l b.low h b.every in
    let q : k < l → ⊥ = λ h. b.least k a.low h a.every in
    omega arith

pub largest-one : {P : ℕ → ℕ → Type 0} {m k l : ℕ} → Largest P m k → Largest P m l → k ≡ l
largest-one {k = k} {l = l} a b =
    let p : l < k → ⊥ = λ h. b.greatest k h a.high a.every in
    let q : k < l → ⊥ = λ h. a.greatest l h b.high b.every in
    omega arith

-- passing is decided on the windows of the picks 1 to m
abbrev pub Decided : (ℕ → ℕ → Type 0) → ℕ → Type 0
Decided P m = (i j : ℕ) → 1 ≤ i → i ≤ j → j ≤ m → Dec (P i j)

dec_length : (P : ℕ → ℕ → Type 0) (m k : ℕ) → Decided P m → 1 ≤ k → Dec (Every P m k)
dec_length P m k d h = go (dec_every (suc m - k) (λ i. P (suc i) (i + k)) (λ i l. d (suc i) (i + k) (omega arith) (omega arith) (omega arith)))
  where
    at : ((i : ℕ) → i < suc m - k → P (suc i) (i + k)) → Every P m k
    at f zero j a b c = absurd (omega arith)
    at f (suc i) j a b c = let e : i + k ≡ j = omega arith in subst (λ (x : ℕ). P (suc i) x) e (f i (omega arith))

    go : Dec ((i : ℕ) → i < suc m - k → P (suc i) (i + k)) → Dec (Every P m k)
    go (yes f) = yes (at f)
    go (no f) = no (λ e. f (λ i l. e (suc i) (i + k) (omega arith) (omega arith) (omega arith)))

-- the least number from 1 to m of which Q holds
Least : (ℕ → Type 0) → ℕ → Type 0
Least Q m = (k : ℕ) × (1 ≤ k) × (k ≤ m) × Q k × ((l : ℕ) → 1 ≤ l → l < k → Q l → ⊥)

least : (Q : ℕ → Type 0) → ((k : ℕ) → 1 ≤ k → Dec (Q k)) → (m : ℕ) → Least Q m ⊎ ((l : ℕ) → 1 ≤ l → l ≤ m → Q l → ⊥)
unfolding Least
least Q d zero = inr (λ l a b t. omega arith)
least Q d (suc m) = go (least Q d m) (d (suc m) (omega arith))
  where
    go : Least Q m ⊎ ((l : ℕ) → 1 ≤ l → l ≤ m → Q l → ⊥) → Dec (Q (suc m)) → Least Q (suc m) ⊎
        ((l : ℕ) → 1 ≤ l → l ≤ suc m → Q l → ⊥)
    go (inl r) c = let h : r.0 ≤ m = r.2 in inl (r.0, r.1, omega arith, r.3, r.4)
    go (inr none) (yes t) = inl (suc m, omega arith, omega arith, t, λ l a b s. none l a (omega arith) s)
    go (inr none) (no g) = inr (λ l a b s. ⊎_elim (λ (e : l ≡ suc m). g (subst Q e s)) (λ (ne : l ≢ suc m). none l a (omega arith) s)
        (eq_or l (suc m)))

-- the window of all picks is the only one of its length
only_window : (P : ℕ → ℕ → Type 0) (m : ℕ) → P 1 m → Every P m m
only_window P m p i j a b c = let e : 1 ≡ i = omega arith in let f : m ≡ j = omega arith in subst (λ (x : ℕ). P x j) e (subst (λ (x : ℕ). P 1 x) f p)

-- THEOREM. A smallest length exists exactly when the window of all picks passes, and none exactly when it does not.
pub smallest_whole : (P : ℕ → ℕ → Type 0) (m : ℕ) → Decided P m → Upward P m → 1 ≤ m → HasSmallest P m ↔ P 1 m
unfolding Least
smallest_whole P m d up h = (
  λ r. let s = r.1 in let l = s.low in let u = s.high in up 1 r.0 1 m (omega arith) (omega arith) l u (omega arith) (s.every 1 r.0 (omega arith) u
      (omega arith)),
  λ p. ⊎_elim (λ (r : Least (Every P m) m). (r.0, record { low = r.1; high = r.2; every = r.3; least = r.4 }))
      (λ (z : (l : ℕ) → 1 ≤ l → l ≤ m → Every P m l → ⊥). absurd (z m h (omega arith) (only_window P m p)))
      (least (Every P m) (λ k a. dec_length P m k d a) m),
)

pub none_whole : (P : ℕ → ℕ → Type 0) (m : ℕ) → Upward P m → 1 ≤ m → NoLength P m ↔ (P 1 m → ⊥)
none_whole P m up h = (
  λ z p. z m h (omega arith) (only_window P m p),
  λ z k a b e. z (up 1 k 1 m (omega arith) (omega arith) a b (omega arith) (e 1 k (omega arith) b (omega arith))),
)

-- ---- lengths go by which windows pass

-- P and Q agree on the windows of the picks 1 to m
abbrev pub Agree : (ℕ → ℕ → Type 0) → (ℕ → ℕ → Type 0) → ℕ → Type 0
Agree P Q m = (i j : ℕ) → 1 ≤ i → i ≤ j → j ≤ m → P i j ↔ Q i j

pub agree_back : {P Q : ℕ → ℕ → Type 0} {m : ℕ} → Agree P Q m → Agree Q P m
agree_back e i j a b c = let f = e i j a b c in (f.1, f.0)

every_agree : {P Q : ℕ → ℕ → Type 0} {m k : ℕ} → Agree P Q m → 1 ≤ k → Every P m k → Every Q m k
every_agree e h f i j a b c = (e i j a (omega arith) b).0 (f i j a b c)

pub smallest_agree : {P Q : ℕ → ℕ → Type 0} {m k : ℕ} → Agree P Q m → Smallest P m k → Smallest Q m k
smallest_agree e s = record {
  low = s.low;
  high = s.high;
  every = every_agree e s.low
      s.every;
  least = λ l a b f. s.least l a b (every_agree (agree_back e) a f);
}

pub none_agree : {P Q : ℕ → ℕ → Type 0} {m : ℕ} → Agree P Q m → NoLength P m → NoLength Q m
none_agree e f k a b g = f k a b (every_agree (agree_back e) a g)

pub upward_agree : {P Q : ℕ → ℕ → Type 0} {m : ℕ} → Agree P Q m → Upward P m → Upward Q m
upward_agree e up i j a b p q r s t f = (e a b p (omega arith) t).0 (up i j a b p q r s t ((e i j (omega arith) r (omega arith)).1 f))

-- ---- lengths of more picks

-- the windows of the picks 1 to m under P are, x picks on, windows under Q
abbrev pub Inside : (ℕ → ℕ → Type 0) → ℕ → (ℕ → ℕ → Type 0) → ℕ → Type 0
Inside P m Q x = (i j h l : ℕ) → 1 ≤ i → i ≤ j → j ≤ m → h ≡ i + x → l ≡ j + x → P i j ↔ Q h l

-- so where every window of k of all picks passes, every one of these does
every_inside : {P Q : ℕ → ℕ → Type 0} {m all k : ℕ} (x : ℕ) → Inside P m Q x → m + x ≤ all → 1 ≤ k → Every Q all k → Every P m k
every_inside x e h a f i j b c d =
    (e i j (i + x) (j + x) b (omega arith) c (omega arith) (omega arith)).1 (f (i + x) (j + x) (omega arith) (omega arith) (omega arith))

-- THEOREM. A length of the first m picks is that of all, if every window of so many of all passes.
pub smallest_all : {P Q : ℕ → ℕ → Type 0} {m all k : ℕ} → Inside P m Q 0 → m ≤ all → Smallest P m k → Every Q all k → Smallest Q all k
smallest_all e h s f = record { low = s.low; high = omega arith; every = f; least = λ l a b g. s.least l a b (every_inside 0 e (omega arith) a g) }

-- where windows of k pass, wider ones do
every_wider : {P : ℕ → ℕ → Type 0} {m k : ℕ} (l : ℕ) → Upward P m → 1 ≤ k → k ≤ l → Every P m k → Every P m l
every_wider {k = k} l up a b f i j c d e =
    up i (i + k - 1) i j c (le_refl i) (omega arith) (omega arith) d (f i (i + k - 1) c (omega arith) (omega arith))

-- where they pass, narrower ones do
pub every_narrower : {P : ℕ → ℕ → Type 0} {m k : ℕ} (l : ℕ) → Downward P m → k ≤ m → 1 ≤ l → l ≤ k → Every P m k → Every P m l
every_narrower {m = m} {k = k} l down h a b f i j c d e =
    ⊎_elim (λ (g : i + k ≤ m + 1). down i (i + k - 1) i j c (le_refl i) (omega arith) (omega arith) (omega arith)
    (f i (i + k - 1) c (omega arith) (omega arith)))
    (λ (g : m + 1 < i + k). down (m + 1 - k) m i j (omega arith) (omega arith) (omega arith) d (le_refl m) (f (m + 1 - k) m (omega arith) (le_refl m)
    (omega arith)))
    (le_or_lt (i + k) (m + 1))

-- All picks are the first m, under P, and those from x + 1 on, under Q. Where windows of k pass in both, they do in all, if so many picks in a row always lie
-- in one of the two.
pub every_both : {P Q R : ℕ → ℕ → Type 0} {m rest all k : ℕ} (x : ℕ) → Inside P m R 0 → Inside Q rest R x → rest + x ≡ all → 1 ≤ k → k + x ≤ m + 1
    → Every P m k → Every Q rest k → Every R all k
every_both {m = m} x e f w low room s t i j a b c =
    ⊎_elim (λ (g : j ≤ m). (e i j i j a (omega arith) g (omega arith) (omega arith)).0 (s i j a g c))
    (λ (g : m < j). (f (i - x) (j - x) i j (omega arith) (omega arith) (omega arith) (omega arith) (omega arith)).0
    (t (i - x) (j - x) (omega arith) (omega arith) (omega arith)))
    (le_or_lt j m)

-- THEOREM. Then the greater of the two lengths is that of all.
pub smallest_both : {P Q R : ℕ → ℕ → Type 0} {m rest all k l : ℕ} (x : ℕ) → Inside P m R 0 → m ≤ all → Inside Q rest R x → rest + x ≡ all
    → Upward P m → Upward Q rest → Smallest P m k → Smallest Q rest l → max k l + x ≤ m + 1 → Smallest R all (max k l)
smallest_both {m = m} {k = k} {l = l} x e h f w up up_rest s t room =
    let a = s.low in
    let b = s.high in
    let c = t.high in
    record {
      low = omega arith;
      high = omega arith;
      every = every_both x e f w (omega arith) room (every_wider (max k l) up s.low (omega arith) s.every)
          (every_wider (max k l) up_rest t.low (omega arith) t.every);
      least = λ y a b g. ⊎_elim (λ (c : k ≤ y). t.least y a (omega arith) (every_inside x f (omega arith) a g))
          (λ (c : y < k). s.least y a c (every_inside 0 e (omega arith) a g)) (le_or_lt k y);
    }
