-- Tables of the unions of four rows each: the composition that looks them up is that of measure 3, on the words as they are found. Assumes nothing.
use mathlib.Core.Path.{◌≡◌, refl, sym, ap, ◌∙◌, subst}
use mathlib.Core.Logic.{◌≢◌, ◌⊎◌, inl, inr, ⊎_elim, ◌↔◌}
use mathlib.Core.Bool.{Bool, true, false, ◌||◌, not, or_assoc}
use mathlib.Core.List.{List, [], ◌∷◌}
use Prim.Native.Nat.{ℕ, zero, suc, ◌+◌, ◌-◌, ◌*◌, ◌/◌, ◌%◌, ◌^◌, ◌≤◌, ◌<◌, zero-le}
use native.Mathlib.Nat.{lt_of_lt_of_le, mod-lt, zero-lt-suc, not-suc-le-zero, le_of_suc-le-suc, mul-zero, add-zero}
use native.Mathlib.Omega.{arith}
use lib.Bits.{bit_and, bit_or, or_lt}
use lib.Dec.{T, eqb, eqb→eq, eqb_refl}
use lib.ListN.{length, take, get_or}
use lib.Seq.{ext_get_or}
use lib.Pow.{pow_mono, shr-shr, field, mod-mod-pow}
use Rattle.model.specs.Recording.{bit, link}
use Rattle.model.proofs.Logic.{tr, T→≡, bool_ext, or_l, or_r, or_cases, and_both, and_l, and_r, eqb_ne, ne_eqb, eq_or, eq_refl, le_or_lt}
use Rattle.model.proofs.Bits.{bit-or, bit-one, bits_ext}
use Rattle.model.proofs.Ones.{all_in, all_out}
use Rattle.lists.specs.Tab.{tab, kept, zeros, splice, every}
use native.Mathlib.Numerals.{add-one}
use Rattle.lists.proofs.Splice.{word_inside, word_after, read_inside}
use borrow.Author.Tests.{ne_eqb as not_equal}
use Rattle.lists.proofs.Tab.{get_or-tab, tab_ext, every_none, every-next, every_stop, every_in, every_out, every_ext}
use Rattle.links.specs.Tables.{without, gathered, compose_row, compose, pair_full, row_full, full}
use Rattle.links.proofs.Bits.{link-tab, gathered-bit, Joined, compose-link, bit-without, without_32, zeros_none, below_pow}
use Rattle.joins.specs.LookUps.{four_of, unions_of, tables_from, looked, looked_word, looked_row, looked_full}

-- the table of four rows, as the code writes it: of the union it is enough that a 0 adds nothing
module _ (or : ℕ → ℕ → ℕ) (zero-l : (x : ℕ) → or 0 x ≡ x) (zero-r : (x : ℕ) → or x 0 ≡ x) (a b c d : ℕ) where
  pub unions-tab : 0 ∷ a ∷ b ∷ or a b ∷ c ∷ or a c ∷ or b c ∷ or (or a b) c ∷ d ∷ or a d ∷ or b d ∷ or (or a b) d ∷ or c d ∷ or
      (or a c) d ∷ or (or b c) d
      ∷ or (or (or a b) c) d ∷ [] ≡ tab (λ i. or (or (or (kept (bit i 0) a) (kept (bit i 1) b)) (kept (bit i 2) c)) (kept (bit i 3) d)) 16
  unfolding tab bit
  unions-tab = simp (zero-l, zero-r)

-- ---- a look-up adds four boards

or_join : (a b c : ℕ) → bit_or (bit_or a b) c ≡ bit_or a (bit_or b c)
or_join a b c =
    let n = a + (b + c) in
    let ha : a < 2 ^ n = lt_of_lt_of_le (below_pow a) (pow_mono (omega arith)) in
    let hb : b < 2 ^ n = lt_of_lt_of_le (below_pow b) (pow_mono (omega arith)) in
    let hc : c < 2 ^ n = lt_of_lt_of_le (below_pow c) (pow_mono (omega arith)) in
    bits_ext n (bit_or (bit_or a b) c) (bit_or a (bit_or b c)) (or_lt n (bit_or a b) c (or_lt n a b ha hb) hc) (or_lt n a (bit_or b c) ha (or_lt n b c hb hc))
    (λ v h. bit-or (bit_or a b) c v ∙ ap (λ (x : Bool). x || bit c v) (bit-or a b v) ∙ or_assoc (bit a v) (bit b v) (bit c v)
    ∙ sym (bit-or a (bit_or b c) v ∙ ap (λ (x : Bool). bit a v || x) (bit-or b c v)))

or_four : (x a b c d : ℕ) → bit_or x (bit_or (bit_or (bit_or a b) c) d) ≡ bit_or (bit_or (bit_or (bit_or x a) b) c) d
or_four x a b c d =
    sym (or_join x (bit_or (bit_or a b) c) d) ∙ ap (λ (y : ℕ). bit_or y d) (sym (or_join x (bit_or a b) c)
    ∙ ap (λ (y : ℕ). bit_or y c) (sym (or_join x a b)))

-- the four bits from bit k on
bit_of_four : (row k i : ℕ) → i < 4 → bit (row / 2 ^ k % 16) i ≡ bit row (k + i)
unfolding bit
bit_of_four row k i h =
    let x = row / 2 ^ k in
    let j = 3 - i in
    let e : 4 ≡ (j + 1) + i = omega arith in
    ap (λ (y : ℕ). eqb y 1)
    (ap (λ (m : ℕ). x % 2 ^ m / 2 ^ i % 2) e ∙ ap (λ (y : ℕ). y % 2) (field x (j + 1) i) ∙ mod-mod-pow (x / 2 ^ i) j 1
    ∙ ap (λ (y : ℕ). y % 2) (shr-shr row k i))

four_more : (x row : ℕ) (t : List ℕ) (k : ℕ) → bit_or (gathered x row t k) (get_or (unions_of t k) (row / 2 ^ k % 16) 0) ≡ gathered x row t (k + 4)
unfolding gathered unions_of four_of
four_more x row t k =
    let e : k + 4 ≡ suc (suc (suc (suc k))) = omega arith in
    let e3 : k + 3 ≡ suc (suc (suc k)) = omega arith in
    let e2 : k + 2 ≡ suc (suc k) = omega arith in
    let e1 : k + 1 ≡ suc k = omega arith in
    let e0 : k + 0 ≡ k = omega arith in
    ap (bit_or (gathered x row t k))
    (get_or-tab (four_of (get_or t k 0) (get_or t (k + 1) 0) (get_or t (k + 2) 0) (get_or t (k + 3) 0)) 16 (row / 2 ^ k % 16)
    (mod-lt (row / 2 ^ k) (zero-lt-suc 15)))
    ∙ rw (
      bit_of_four row k 0 (omega arith),
      bit_of_four row k 1 (omega arith),
      bit_of_four row k 2 (omega arith),
      bit_of_four row k 3 (omega arith),
      e,
      e3,
      e2,
      e1,
      e0,
    )
    (or_four (gathered x row t k) (at k) (at (suc k)) (at (suc (suc k))) (at (suc (suc (suc k)))))
  where
    at : ℕ → ℕ
    at w = kept (bit row w) (get_or t w 0)

-- the eight tables add all rows
looked_all : (row : ℕ) (t : List ℕ) → looked (tables_from t 0 8) row 8 ≡ gathered row row t 32
unfolding looked tables_from gathered
looked_all row t = more 28 (more 24 (more 20 (more 16 (more 12 (more 8 (more 4 (four_more row row t 0)))))))
  where
    more : (k : ℕ) {y : ℕ} → y ≡ gathered row row t k → bit_or y (get_or (unions_of t k) (row / 2 ^ k % 16) 0) ≡ gathered row row t (k + 4)
    more k e = ap (λ (y : ℕ). bit_or y (get_or (unions_of t k) (row / 2 ^ k % 16) 0)) e ∙ four_more row row t k

-- ---- the word that is found, by its bits

-- the rows behind the last one have no link
behind_none : (n : ℕ) (t : List ℕ) (w v : ℕ) → length t ≡ n → T (link (splice 0 n t (zeros 32)) w v) → (w < n) × T (link t w v)
unfolding link
behind_none n t w v e l =
    ⊎_elim (λ (h : n ≤ w). absurd (zeros_none 32 w v (tr (ap (λ (x : ℕ). bit x v) (word_after 0 n t (zeros 32) e zero-le w (omega arith))) l)))
    (λ (h : w < n). (h, tr (ap (λ (x : ℕ). bit x v) (word_inside 0 n t (zeros 32) e zero-le w w (omega arith) h)) l)) (le_or_lt n w)

in_front : (n : ℕ) (t : List ℕ) (w v : ℕ) → length t ≡ n → w < n → T (link t w v) → T (link (splice 0 n t (zeros 32)) w v)
unfolding link
in_front n t w v e h l = tr (sym (ap (λ (x : ℕ). bit x v) (word_inside 0 n t (zeros 32) e zero-le w w (omega arith) h))) l

-- the eight tables of the later part
abbrev pub tables_of : ℕ → List ℕ → List (List ℕ)
tables_of n t = tables_from (splice 0 n t (zeros 32)) 0 8

module _ (n : ℕ) (s t : List ℕ) (n32 : n ≤ 32) (size : n ≡ length t) (u : ℕ) (hu : u < n) where
  -- Board u itself, and the boards that it is joined to: its own bit leads on to its row in the later part.
  word_bit : (v : ℕ) → T (bit (looked_word (tables_of n t) (get_or s u 0) u) v) ↔ ((u ≡ v) ⊎ Joined n s t u v)
  unfolding looked_word gathered link
  word_bit v = (λ m. out (g.0 (tr e m)), λ j. tr (sym e) (g.1 (into j)))
    where
      row : ℕ
      row = bit_or (get_or s u 0) (2 ^ u)

      own : (w : ℕ) → bit row w ≡ bit (get_or s u 0) w || eqb u w
      own w = bit-or (get_or s u 0) (2 ^ u) w ∙ ap (λ (b : Bool). bit (get_or s u 0) w || b) (bit-one u w)

      e : bit (looked_word (tables_of n t) (get_or s u 0) u) v ≡ bit (gathered row row (splice 0 n t (zeros 32)) 32) v
      e = ap (λ (x : ℕ). bit x v) (looked_all row (splice 0 n t (zeros 32)))

      Over : Type 0
      Over = (w : ℕ) × (w < 32) × T (bit row w) × T (link (splice 0 n t (zeros 32)) w v)

      g : T (bit (gathered row row (splice 0 n t (zeros 32)) 32) v) ↔ (T (bit row v) ⊎ Over)
      g = gathered-bit row row (splice 0 n t (zeros 32)) v 32

      out : T (bit row v) ⊎ Over → (u ≡ v) ⊎ Joined n s t u v
      out (inl b) = ⊎_elim (λ (m : T (link s u v)). inr (inl m)) (λ (m : T (eqb u v)). inl (eqb→eq u v m)) (or_cases (link s u v) (eqb u v)
          (tr (own v) b))
      out (inr (w, h, b, l)) =
          let k = behind_none n t w v (sym size) l in
          let below : w < n = omega (arith, k.0) in
          ⊎_elim (λ (m : T (link s u w)). inr (inr (inr (w, below, m, k.1))))
          (λ (m : T (eqb u w)). inr (inr (inl (subst (λ (x : ℕ). T (link t x v)) (sym (eqb→eq u w m)) k.1))))
          (or_cases (link s u w) (eqb u w) (tr (own w) b))

      over : (w : ℕ) → w < n → T (bit row w) → T (link t w v) → T (bit row v) ⊎ Over
      over w h b l = inr (w, omega arith, b, in_front n t w v (sym size) h l)

      into : (u ≡ v) ⊎ Joined n s t u v → T (bit row v) ⊎ Over
      into (inl q) = inl (tr (sym (own v)) (or_r (link s u v) (eqb u v) (eq_refl q)))
      into (inr (inl m)) = inl (tr (sym (own v)) (or_l (link s u v) (eqb u v) m))
      into (inr (inr (inl m))) = over u hu (tr (sym (own u)) (or_r (link s u u) (eqb u u) (eqb_refl u))) m
      into (inr (inr (inr (w, h, b, l)))) = over w h (tr (sym (own w)) (or_l (link s u w) (eqb u w) b)) l

  word : ℕ
  word = looked_word (tables_of n t) (get_or s u 0) u

  joined : (v : ℕ) → u ≢ v → T (bit word v) → Joined n s t u v
  unfolding word
  joined v ne b = ⊎_elim (λ (q : u ≡ v). absurd (ne q)) (λ (j : Joined n s t u v). j) ((word_bit v).0 b)

  row_compose : looked_row (tables_of n t) s u ≡ compose_row n s t u
  unfolding looked_row compose_row link compose word
  row_compose =
      let h32 : u < 32 = omega arith in
      bits_ext 32 (without word u) (compose_row n s t u) (without_32 word u) (without_32 _ u)
      (λ v hv. let e = bit-without word u v h32 hv in
      bool_ext (bit (without word u) v) (bit (compose_row n s t u) v)
      (λ m. let b = tr e m in
      let ne = ne_eqb u v (and_r (bit word v) (not (eqb u v)) b) in
      tr (link-tab (compose_row n s t) n u v hu) ((compose-link n s t u v n32 hu hv).1 (ne, joined v ne (and_l (bit word v) (not (eqb u v)) b))))
      (λ m. let j = (compose-link n s t u v n32 hu hv).0 (tr (sym (link-tab (compose_row n s t) n u v hu)) m) in
      tr (sym e) (and_both (bit word v) (not (eqb u v)) ((word_bit v).1 (inr j.1)) (eqb_ne u v j.0))))

  row-full : looked_full n (tables_of n t) s u ≡ row_full n (compose n s t) u
  unfolding looked_full row_full pair_full word
  row-full =
      let c = compose n s t in
      let ones = 2 ^ n - 1 in
      bool_ext (eqb (bit_and word ones) ones) (every (pair_full c u) n)
      (λ m. every_in (pair_full c u) n (λ v h. let hv : v < 32 = omega arith in
      ⊎_elim (λ (q : u ≡ v). or_l (eqb u v) (link c u v) (eq_refl q))
      (λ (ne : u ≢ v). or_r (eqb u v) (link c u v)
      ((compose-link n s t u v n32 hu hv).1 (ne, joined v ne (all_out n word (eqb→eq (bit_and word ones) ones m) v h)))) (eq_or u v)))
      (λ m. eq_refl (all_in n word (λ v h. let hv : v < 32 = omega arith in
      (word_bit v).1 (⊎_elim (λ (q : T (eqb u v)). inl (eqb→eq u v q)) (λ (l : T (link c u v)). inr ((compose-link n s t u v n32 hu hv).0 l).1)
      (or_cases (eqb u v) (link c u v) (every_out (pair_full c u) n m v h))))))

-- THEOREM. The rows that the look-ups find are those of the composition.
pub looked-compose : (n : ℕ) (s t : List ℕ) → n ≤ 32 → n ≡ length t → tab (looked_row (tables_of n t) s) n ≡ compose n s t
unfolding compose
looked-compose n s t n32 size = tab_ext (looked_row (tables_of n t) s) (compose_row n s t) n (λ u h. row_compose n s t n32 size u h)

-- THEOREM. So is the test of all rows.
pub looked-full : (n : ℕ) (s t : List ℕ) → n ≤ 32 → n ≡ length t → every (looked_full n (tables_of n t) s) n ≡ full n (compose n s t)
unfolding full
looked-full n s t n32 size = every_ext (looked_full n (tables_of n t) s) (row_full n (compose n s t)) n (λ u h. row-full n s t n32 size u h)

-- ---- the loops

-- the tables, one by one
tables-at : (rows : List ℕ) (k m j : ℕ) → j < m → get_or (tables_from rows k m) j [] ≡ unions_of rows (k + 4 * j)
unfolding tables_from
tables-at rows k zero j h = absurd (not-suc-le-zero h)
tables-at rows k (suc m) zero h = rw (mul-zero, add-zero)
tables-at rows k (suc m) (suc j) h = tables-at rows (k + 4) m j (le_of_suc-le-suc h) ∙ ap (unions_of rows) (omega arith)

length-tables : (rows : List ℕ) (k m : ℕ) → length (tables_from rows k m) ≡ m
unfolding tables_from
length-tables rows k zero = refl
length-tables rows k (suc m) = ap suc (length-tables rows (k + 4) m)

pub tables_by : (rows : List ℕ) (ts : List (List ℕ)) (m : ℕ) → length ts ≡ m → ((j : ℕ) → j < m → get_or ts j [] ≡ unions_of rows (4 * j))
    → ts ≡ tables_from rows 0 m
tables_by rows ts m e f =
    ext_get_or [] ts (tables_from rows 0 m) (e ∙ sym (length-tables rows 0 m))
    (λ j h. f j (omega arith) ∙ ap (unions_of rows) (omega arith) ∙ sym (tables-at rows 0 m j (omega arith)))

-- a turn of the test of all rows
module _ (n : ℕ) (ts : List (List ℕ)) (s : List ℕ) (u : ℕ) (h : u < n) where
  pub looked_turn : every (looked_full n ts s) u ≡ true → bit_and (looked_word ts (get_or s u 0) u) (2 ^ n - 1) ≡ 2 ^ n - 1
      → every (looked_full n ts s) (u + 1) ≡ true
  unfolding looked_full
  looked_turn e q = every-next (looked_full n ts s) u e (T→≡ _ (eq_refl q))

  pub looked_stop : (bit_and (looked_word ts (get_or s u 0) u) (2 ^ n - 1) ≢ 2 ^ n - 1) → every (looked_full n ts s) n ≡ false
  unfolding looked_full
  looked_stop q = every_stop (looked_full n ts s) n u h (not_equal _ _ q)

-- a turn of the loop over the tables
pub looked_none : (ts : List (List ℕ)) (row : ℕ) → looked ts row 0 ≡ row
unfolding looked
looked_none ts row = refl

pub looked_next : (ts : List (List ℕ)) (row j : ℕ) → looked ts row (j + 1) ≡ bit_or (looked ts row j) (get_or (get_or ts j []) (row / 2 ^ (4 * j) % 16) 0)
unfolding looked
looked_next ts row j = rw add-one

pub looked_all_eight : (ts : List (List ℕ)) (x u : ℕ) → looked_word ts x u ≡ looked ts (bit_or x (2 ^ u)) 8
unfolding looked_word
looked_all_eight ts x u = refl

pub ruleset looked_turns = (looked_none, looked_next, looked_all_eight)

pub ruleset full_turns = (every_none, looked_turn, looked_stop)

pub ruleset look_ups = (looked-compose, looked-full)

-- the words that were loaded, as code lends them
pub lent_words : (n : ℕ) (xs x : List ℕ) → length xs ≡ n → x ≡ splice 0 n xs (zeros 32) → take n x ≡ xs
lent_words n xs x e q = rw q (read_inside 0 n xs (zeros 32) e zero-le)
