-- Laws of lists made by index, and the invariants of the loops that write them. Assumes nothing.
use mathlib.Core.Path.{◌≡◌, refl, ap, ap₂, ◌∙◌, sym}
use mathlib.Core.Bool.{Bool, true, false, ◌&&◌}
use mathlib.Core.List.{List, [], ◌∷◌, ◌++◌}
use Prim.Native.Nat.{ℕ, zero, suc, ◌+◌, ◌≤◌, ◌<◌}
use native.Mathlib.Numerals.{add-one}
use mathlib.Core.Logic.{⊎_elim}
use native.Mathlib.Omega.{arith}
use native.Mathlib.Nat.{not-suc-le-zero, eq-or-lt_of_le, le_of_suc-le-suc, add-zero, zero-add}
use Rattle.std.specs.List.{list_all, range_with_len}
use lib.Dec.{T}
use lib.ListN.{length, set, get_or, length-append, get_or-append, length-replicate, replicate}
use lib.Seq.{get_or_at, ext_get_or}
use Rattle.std.proofs.lemmas.Grind.{common_steps}
use Rattle.model.proofs.Logic.{and_both, and_l, and_r}
use Rattle.lists.specs.Tab.{tab, zeros, every}

pub length-tab : (f : ℕ → ℕ) (k : ℕ) → length (tab f k) ≡ k
unfolding tab
length-tab f zero = refl
length-tab f (suc k) = length-append (tab f k) (f k ∷ []) ∙ ap (λ (n : ℕ). n + 1) (length-tab f k) ∙ add-one k

pub get_or-tab : (f : ℕ → ℕ) (k i : ℕ) → i < k → get_or (tab f k) i 0 ≡ f i
unfolding tab
get_or-tab f zero i h = absurd (not-suc-le-zero h)
get_or-tab f (suc k) i h =
    ⊎_elim (λ e. rw e (get_or_at (tab f k) (f k) [] 0 k (length-tab f k)))
    (λ l. get_or-append (tab f k) (f k ∷ []) 0 i (omega (arith, length-tab f k)) ∙ get_or-tab f k i l)
    (eq-or-lt_of_le (le_of_suc-le-suc h))

-- a list whose words are f's
pub tab_of : (f : ℕ → ℕ) (n : ℕ) (t : List ℕ) → length t ≡ n → ((k : ℕ) → k < n → get_or t k 0 ≡ f k) → t ≡ tab f n
tab_of f n t e h = ext_get_or 0 t (tab f n) (e ∙ sym (length-tab f n)) (λ i l. h i (omega arith) ∙ sym (get_or-tab f n i (omega arith)))

-- The invariant of a loop that writes the words of t in turn: those below u are f's, the others are t₀'s. The check finds each turn by itself.
pub record Made (f : ℕ → ℕ) (t₀ t : List ℕ) (u : ℕ) : Type 0 where
  pub long : length t ≡ length t₀
  pub made : (k : ℕ) → k < u → get_or t k 0 ≡ f k
  pub left : (k : ℕ) → u ≤ k → get_or t k 0 ≡ get_or t₀ k 0

pub made_start : {f : ℕ → ℕ} {t₀ : List ℕ} → Made f t₀ t₀ 0
made_start = record { long = refl; made = λ k l. absurd (omega (arith, l)); left = λ k l. refl }

-- what the loop has not reached is as it was
pub made_read : {f : ℕ → ℕ} {t₀ t : List ℕ} {u : ℕ} → Made f t₀ t u → get_or t u 0 ≡ get_or t₀ u 0
made_read {u = u} m = m.left u (omega arith)

-- a turn, for a loop whose word the check does not find
pub made_turn : {f : ℕ → ℕ} {t₀ t : List ℕ} {u v : ℕ} → Made f t₀ t u → u < length t → v ≡ f u → Made f t₀ (set t u v) (u + 1)
made_turn m h e = record {
  long = grind (arith, common_steps, m.long);
  made = λ k l. grind (arith, common_steps, m.made k);
  left = λ k l. grind (arith, common_steps, m.left k);
}

-- the loop's end
pub made_all : {f : ℕ → ℕ} {n : ℕ} {t₀ t : List ℕ} {u : ℕ} → Made f t₀ t u → length t₀ ≡ n → n ≤ u → t ≡ tab f n
made_all {f} {n} {t₀} {t} m e h = tab_of f n t (m.long ∙ e) (λ i l. m.made i (omega arith))

-- lists made by index are equal when their elements are
pub tab_ext : (f g : ℕ → ℕ) (k : ℕ) → ((i : ℕ) → i < k → f i ≡ g i) → tab f k ≡ tab g k
tab_ext f g k h =
    ext_get_or 0 (tab f k) (tab g k) (length-tab f k ∙ sym (length-tab g k))
    (λ i l. let z = length-tab f k in get_or-tab f k i (omega arith) ∙ h i (omega arith) ∙ sym (get_or-tab g k i (omega arith)))

-- ---- zeros

pub length-zeros : (k : ℕ) → length (zeros k) ≡ k
unfolding zeros
length-zeros k = length-replicate k 0

abbrev pub zero_word : ℕ → ℕ
zero_word u = 0

one_more : (n : ℕ) → ◌++◌ {A = ℕ} (replicate n 0) (0 ∷ []) ≡ 0 ∷ replicate n 0
one_more zero = refl
one_more (suc n) = ap (λ (l : List ℕ). 0 ∷ l) (one_more n)

-- zeros, as a loop writes them
pub tab_zero : (n : ℕ) → tab zero_word n ≡ zeros n
unfolding tab zeros
tab_zero zero = refl
tab_zero (suc n) = ap (λ (l : List ℕ). l ++ (0 ∷ [])) (tab_zero n) ∙ one_more n

-- ---- tests over the numbers below n

pub every_none : (f : ℕ → Bool) → every f 0 ≡ true
unfolding every
every_none f = refl

-- a turn
pub every-next : (f : ℕ → Bool) (k : ℕ) → every f k ≡ true → f k ≡ true → every f (k + 1) ≡ true
unfolding every
every-next f k e g = rw (add-one, e, g)

and_yes : (a : Bool) → a && true ≡ a
and_yes true = refl
and_yes false = refl

and_assoc : (a b c : Bool) → (a && b) && c ≡ a && (b && c)
and_assoc true b c = refl
and_assoc false b c = refl

and_no : (a : Bool) → a && false ≡ false
and_no true = refl
and_no false = refl

-- the return
pub every_stop : (f : ℕ → Bool) (n k : ℕ) → k < n → f k ≡ false → every f n ≡ false
unfolding every
every_stop f zero k h e = absurd (not-suc-le-zero h)
every_stop f (suc n) k h e =
    ⊎_elim (λ (q : k ≡ n). ap (λ (b : Bool). every f n && b) (sym (ap f q) ∙ e) ∙ and_no (every f n))
    (λ (q : k < n). ap (λ (b : Bool). b && f n) (every_stop f n k q e)) (eq-or-lt_of_le (le_of_suc-le-suc h))

-- the test, as a statement
pub every_out : (f : ℕ → Bool) (n : ℕ) → T (every f n) → (w : ℕ) → w < n → T (f w)
unfolding every
every_out f zero t w h = absurd (not-suc-le-zero h)
every_out f (suc n) t w h =
    ⊎_elim (λ (e : w ≡ n). rw e (and_r (every f n) (f n) t)) (λ (l : w < n). every_out f n (and_l (every f n) (f n) t) w l)
    (eq-or-lt_of_le (le_of_suc-le-suc h))

pub every_in : (f : ℕ → Bool) (n : ℕ) → ((w : ℕ) → w < n → T (f w)) → T (every f n)
unfolding every
every_in f zero h = tt
every_in f (suc n) h = and_both (every f n) (f n) (every_in f n (λ w l. h w (omega arith))) (h n (omega arith))

-- tests that agree below k
pub every_ext : (f g : ℕ → Bool) (k : ℕ) → ((i : ℕ) → i < k → f i ≡ g i) → every f k ≡ every g k
unfolding every
every_ext f g zero h = refl
every_ext f g (suc k) h = ap₂ ◌&&◌ (every_ext f g k (λ i l. h i (omega arith))) (h k (omega arith))

-- the test as an iterator makes it, over the numbers below k
all_from : (f : ℕ → Bool) (i k : ℕ) → every f i && list_all f (range_with_len i k) ≡ every f (i + k)
unfolding every
all_from f i zero = rw add-zero (and_yes (every f i))
all_from f i (suc k) =
    let e : i + 1 ≡ suc i = omega arith in
    let g : suc i + k ≡ i + suc k = omega arith in
    sym (and_assoc (every f i) (f i) (list_all f (range_with_len (i + 1) k)))
    ∙ ap (λ (j : ℕ). every f (suc i) && list_all f (range_with_len j k)) e ∙ all_from f (suc i) k ∙ ap (every f) g

pub every_range : (f : ℕ → Bool) (k : ℕ) → list_all f (range_with_len 0 k) ≡ every f k
unfolding every
every_range f k = all_from f 0 k ∙ ap (every f) (zero-add k)
