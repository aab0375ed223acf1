-- Booleans as statements, and bounded search. Assumes nothing.
use mathlib.Core.Path.{◌≡◌, refl, sym, subst}
use mathlib.Core.Logic.{◌≢◌, ◌⊎◌, inl, inr, ⊎_elim}
use mathlib.Core.Bool.{Bool, true, false, ◌||◌, ◌&&◌, not, cond}
use Prim.Native.Nat.{ℕ, zero, suc, ◌+◌, ◌-◌, ◌≤◌, ◌<◌}
use native.Mathlib.Nat.{not-suc-le-zero, le_refl}
use native.Mathlib.Decide.{dec_lt}
use native.Mathlib.Omega.{arith}
use lib.Dec.{T, eqb, leb, eqb→eq, eqb_refl, le→leb}

pub tr : {a b : Bool} → a ≡ b → T a → T b
tr e h = subst T e h

pub T→≡ : (a : Bool) → T a → a ≡ true
T→≡ true t = refl
T→≡ false t = absurd t

pub F→≡ : (a : Bool) → (T a → ⊥) → a ≡ false
F→≡ true f = absurd (f tt)
F→≡ false f = refl

-- a test is decided: the two cases of a Boolean, as statements
pub cases : (a : Bool) → T a ⊎ (T a → ⊥)
cases true = inl tt
cases false = inr (λ t. t)

-- what holds of each of two holds of the one that a test chooses
pub cond_ind : {A : Type 0} (Q : A → Type 0) (x : Bool) (a b : A) → (T x → Q a) → ((T x → ⊥) → Q b) → Q (cond x a b)
cond_ind Q true a b f g = f tt
cond_ind Q false a b f g = g (λ t. t)

-- two tests that say the same are one
pub bool_ext : (a b : Bool) → (T a → T b) → (T b → T a) → a ≡ b
bool_ext true true f g = refl
bool_ext true false f g = absurd (f tt)
bool_ext false true f g = absurd (g tt)
bool_ext false false f g = refl

pub or_l : (a b : Bool) → T a → T (a || b)
or_l true b t = tt
or_l false b t = absurd t

pub or_r : (a b : Bool) → T b → T (a || b)
or_r true b t = tt
or_r false b t = t

pub or_cases : (a b : Bool) → T (a || b) → T a ⊎ T b
or_cases true b t = inl tt
or_cases false b t = inr t

pub and_both : (a b : Bool) → T a → T b → T (a && b)
and_both true b s t = t
and_both false b s t = absurd s

pub and_l : (a b : Bool) → T (a && b) → T a
and_l true b t = tt
and_l false b t = absurd t

pub and_r : (a b : Bool) → T (a && b) → T b
and_r true b t = t
and_r false b t = absurd t

-- `eqb` on numbers, as statements
pub eqb_ne : (m n : ℕ) → m ≢ n → T (not (eqb m n))
eqb_ne m n f = go (eqb m n) (λ t. f (eqb→eq m n t))
  where
    go : (b : Bool) → (T b → ⊥) → T (not b)
    go true g = g tt
    go false g = tt

pub ne_eqb : (m n : ℕ) → T (not (eqb m n)) → m ≢ n
ne_eqb m n t e = go (eqb m n) t (subst (λ (k : ℕ). T (eqb m k)) e (eqb_refl m))
  where
    go : (b : Bool) → T (not b) → T b → ⊥
    go true s r = s
    go false s r = r

pub eq_or : (m n : ℕ) → (m ≡ n) ⊎ (m ≢ n)
eq_or m n = ⊎_elim (λ t. inl (eqb→eq m n t)) (λ f. inr (λ e. f (subst (λ (k : ℕ). T (eqb m k)) e (eqb_refl m)))) (cases (eqb m n))

pub le_or_lt : (m n : ℕ) → (m ≤ n) ⊎ (n < m)
le_or_lt m n = go (dec_lt n m)
  where
    go : Dec (n < m) → (m ≤ n) ⊎ (n < m)
    go (yes h) = inr h
    go (no h) = inl (omega arith)

pub not_le : (m n : ℕ) → (T (leb m n) → ⊥) → n < m
not_le m n f = let g : m ≤ n → ⊥ = λ h. f (le→leb m n h) in omega arith

pub eq_refl : {m n : ℕ} → m ≡ n → T (eqb m n)
eq_refl {m} e = subst (λ (k : ℕ). T (eqb m k)) e (eqb_refl m)

pub not_out : (a : Bool) → T (not a) → T a → ⊥
not_out true s t = s
not_out false s t = t

pub not_in : (a : Bool) → (T a → ⊥) → T (not a)
not_in true f = f tt
not_in false f = tt

-- a statement that a test tells is decided
pub dec_of : {A : Type 0} (b : Bool) → (T b → A) → (A → T b) → Dec A
dec_of true f g = yes (f tt)
dec_of false f g = no (λ a. g a)

-- what is decided of each number below n is decided of all of them together
pub dec_every : (n : ℕ) (Q : ℕ → Type 0) → ((i : ℕ) → i < n → Dec (Q i)) → Dec ((i : ℕ) → i < n → Q i)
dec_every zero Q d = yes (λ i h. absurd (not-suc-le-zero h))
dec_every (suc n) Q d = go (dec_every n Q (λ i h. d i (omega arith))) (d n (omega arith))
  where
    go : Dec ((i : ℕ) → i < n → Q i) → Dec (Q n) → Dec ((i : ℕ) → i < suc n → Q i)
    go (no f) e = no (λ g. f (λ i h. g i (omega arith)))
    go (yes f) (no g) = no (λ k. g (k n (omega arith)))
    go (yes f) (yes q) = yes (λ i h. ⊎_elim (λ (e : i ≡ n). subst Q (sym e) q) (λ (e : i ≢ n). f i (omega arith)) (eq_or i n))

-- where a number from i to j has a decided property, there is a first one, and a last one
module _ (Q : ℕ → Type 0) (i j : ℕ) (dec : (x : ℕ) → i ≤ x → x ≤ j → Dec (Q x)) where
  first_from : (c x a : ℕ) → i ≤ x → a ≡ x + c → a ≤ j → ((y : ℕ) → i ≤ y → y < x → Q y → ⊥) → Q a → (b : ℕ)
      × (i ≤ b) × (b ≤ a) × Q b × ((y : ℕ) → i ≤ y → y < b → Q y → ⊥)
  first_from zero x a p e h z q = (a, omega arith, le_refl a, q, λ y s t. z y s (omega arith))
  first_from (suc c) x a p e h z q = go (dec x p (omega arith)) (λ f. first_from c (suc x) a (omega arith) (omega arith) h f q)
    where
      Found : Type 0
      Found = (b : ℕ) × (i ≤ b) × (b ≤ a) × Q b × ((y : ℕ) → i ≤ y → y < b → Q y → ⊥)

      go : Dec (Q x) → (((y : ℕ) → i ≤ y → y < suc x → Q y → ⊥) → Found) → Found
      go (yes g) k = (x, p, omega arith, g, z)
      go (no g) k = k (λ y s t r. ⊎_elim (λ (d : y ≡ x). g (subst Q d r)) (λ (d : y ≢ x). z y s (omega arith) r) (eq_or y x))

  pub first_number : (a : ℕ) → i ≤ a → a ≤ j → Q a → (b : ℕ) × (i ≤ b) × (b ≤ a) × Q b × ((y : ℕ) → i ≤ y → y < b → Q y → ⊥)
  first_number a p h q = first_from (a - i) i a (le_refl i) (omega arith) h (λ y s t. absurd (omega arith)) q

  last_from : (c x a : ℕ) → x ≤ j → x ≡ a + c → i ≤ a → ((y : ℕ) → x < y → y ≤ j → Q y → ⊥) → Q a → (b : ℕ) × (a ≤ b)
      × (b ≤ j) × Q b × ((y : ℕ) → b < y → y ≤ j → Q y → ⊥)
  last_from zero x a p e h z q = (a, le_refl a, omega arith, q, λ y s t. z y (omega arith) t)
  last_from (suc c) x a p e h z q = go (dec x (omega arith) p) (λ f. last_from c (x - 1) a (omega arith) (omega arith) h f q)
    where
      Found : Type 0
      Found = (b : ℕ) × (a ≤ b) × (b ≤ j) × Q b × ((y : ℕ) → b < y → y ≤ j → Q y → ⊥)

      go : Dec (Q x) → (((y : ℕ) → x - 1 < y → y ≤ j → Q y → ⊥) → Found) → Found
      go (yes g) k = (x, omega arith, p, g, z)
      go (no g) k = k (λ y s t r. ⊎_elim (λ (d : y ≡ x). g (subst Q d r)) (λ (d : y ≢ x). z y (omega arith) t r) (eq_or y x))

  pub last_of : (a : ℕ) → i ≤ a → a ≤ j → Q a → (b : ℕ) × (a ≤ b) × (b ≤ j) × Q b × ((y : ℕ) → b < y → y ≤ j → Q y → ⊥)
  last_of a h p q = last_from (j - a) j a (le_refl j) (omega arith) h (λ y s t. absurd (omega arith)) q

-- ---- tests in a row, as code makes them

-- the first holds, so the second decides
pub and_step : {a b c : Bool} → a ≡ true → c ≡ b → c ≡ (a && b)
and_step e g = rw (e, g)
