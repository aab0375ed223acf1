-- Laws of counting: there is one number, it is 0 exactly where nothing is counted, and it goes by what holds alone. Assumes nothing.
use mathlib.Core.Path.{◌≡◌, refl, ap, ap₂, subst}
use mathlib.Core.Logic.{◌↔◌, ⊎_elim}
use Prim.Native.Nat.{ℕ, suc, ◌+◌, ◌<◌}
use native.Mathlib.Nat.{not-suc-le-zero, eq-or-lt_of_le, le_of_suc-le-suc}
use native.Mathlib.Omega.{arith}
use Rattle.model.specs.Count.{Count, none, one_more, no_more, CountRows, no_row, one_row}

-- ---- one number

count_once : {R : ℕ → Type 0} {k c d : ℕ} → Count R k c → Count R k d → c ≡ d
count_once none none = refl
count_once (one_more a p) (one_more b q) = ap suc (count_once a b)
count_once (one_more a p) (no_more b q) = absurd (q p)
count_once (no_more a p) (one_more b q) = absurd (p q)
count_once (no_more a p) (no_more b q) = count_once a b

pub rows_once : {n : ℕ} {R : ℕ → ℕ → Type 0} {k c d : ℕ} → CountRows n R k c → CountRows n R k d → c ≡ d
rows_once no_row no_row = refl
rows_once (one_row a x) (one_row b y) = ap₂ ◌+◌ (rows_once a b) (count_once x y)

-- ---- nothing is counted

count_none : {R : ℕ → Type 0} {k c : ℕ} → Count R k c → c ≡ 0 → (v : ℕ) → v < k → R v → ⊥
count_none none e v h r = not-suc-le-zero h
count_none (one_more a p) e v h r = omega arith
count_none {R} (no_more a p) e v h r = ⊎_elim (λ (q : v ≡ _). p (subst R q r)) (λ l. count_none a e v l r) (eq-or-lt_of_le (le_of_suc-le-suc h))

none_count : {R : ℕ → Type 0} {k c : ℕ} → Count R k c → ((v : ℕ) → v < k → R v → ⊥) → c ≡ 0
none_count none f = refl
none_count (one_more {k = k} a p) f = absurd (f k (omega arith) p)
none_count (no_more a p) f = none_count a (λ v h. f v (omega arith))

some_row : {n : ℕ} {R : ℕ → ℕ → Type 0} {k c : ℕ} → CountRows n R k c → c ≡ 0 → (u v : ℕ) → u < k → v < n → R u v → ⊥
some_row no_row e u v h g r = not-suc-le-zero h
some_row {R = R} (one_row a x) e u v h g r =
    ⊎_elim (λ (q : u ≡ _). count_none x (omega arith) v g (subst (λ (y : ℕ). R y v) q r)) (λ l. some_row a (omega arith) u v l g r)
    (eq-or-lt_of_le (le_of_suc-le-suc h))

no_rows : {n : ℕ} {R : ℕ → ℕ → Type 0} {k c : ℕ} → CountRows n R k c → ((u v : ℕ) → u < k → v < n → R u v → ⊥) → c ≡ 0
no_rows no_row f = refl
no_rows (one_row {k = k} a x) f =
    let p = no_rows a (λ u v h. f u v (omega arith)) in
    let q = none_count x (λ v h. f k v (omega arith) h) in
    omega arith

pub rows_none : {n : ℕ} {R : ℕ → ℕ → Type 0} {k c : ℕ} → CountRows n R k c → (c ≡ 0) ↔ ((u v : ℕ) → u < k → v < n → R u v → ⊥)
rows_none a = (some_row a, no_rows a)

-- ---- what holds of the same pairs has the same number

count_as : {R S : ℕ → Type 0} {k c : ℕ} → ((v : ℕ) → v < k → R v ↔ S v) → Count R k c → Count S k c
count_as f none = none
count_as f (one_more {k = k} a p) = one_more (count_as (λ v h. f v (omega arith)) a) ((f k (omega arith)).0 p)
count_as f (no_more {k = k} a p) = no_more (count_as (λ v h. f v (omega arith)) a) (λ s. p ((f k (omega arith)).1 s))

pub rows_as : {n : ℕ} {R S : ℕ → ℕ → Type 0} {k c : ℕ} → ((u v : ℕ) → u < k → v < n → R u v ↔ S u v) → CountRows n R k c → CountRows n S k c
rows_as f no_row = no_row
rows_as f (one_row {k = k} a x) = one_row (rows_as (λ u v h. f u v (omega arith)) a) (count_as (λ v h. f k v (omega arith) h) x)
