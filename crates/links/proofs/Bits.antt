-- The links of the tables that the operations write, on the words as they are found. Assumes nothing.
use mathlib.Core.Path.{◌≡◌, refl, sym, ap, ◌∙◌, subst}
use mathlib.Core.Logic.{◌≢◌, ◌⊎◌, inl, inr, ⊎_elim, ◌↔◌}
use mathlib.Core.Bool.{Bool, true, false, ◌||◌, ◌&&◌, not}
use mathlib.Core.List.{List}
use Prim.Native.Nat.{ℕ, zero, suc, ◌-◌, ◌^◌, ◌≤◌, ◌<◌}
use native.Mathlib.Nat.{lt_of_lt_of_le, lt_of_le_of_lt, not-suc-le-zero, eq-or-lt_of_le}
use native.Mathlib.Decide.{dec_lt}
use native.Mathlib.Omega.{arith}
use lib.Bits.{bit_or, or_lt, and_le_l, and_le_r}
use lib.Dec.{T, eqb}
use lib.ListN.{length, get_or, get_or-eq_default}
use lib.Pow.{pow_pos, pow-lt, pow_mono}
use Rattle.model.specs.Recording.{bit, link, Words, Clean}
use Rattle.model.proofs.Logic.{tr, T→≡, F→≡, or_l, or_r, or_cases, and_both, and_l, and_r, eqb_ne, ne_eqb, eq_or, le_or_lt}
use Rattle.model.proofs.Bits.{bit_high, bit-or, bit-and, bit-one, bit_complement}
use Rattle.model.proofs.Links.{link_from}
use Rattle.lists.specs.Tab.{tab, kept, zeros}
use Rattle.lists.proofs.Tab.{length-tab, get_or-tab, zero_word, tab_zero}
use Rattle.links.specs.Tables.{without, both_row, intersection, either_row, union, gathered, through_row, compose_row, compose}

pub link-tab : (f : ℕ → ℕ) (n u v : ℕ) → u < n → link (tab f n) u v ≡ bit (f u) v
unfolding link
link-tab f n u v h = ap (λ (x : ℕ). bit x v) (get_or-tab f n u h)

-- a word of a table that is not there has no bit
pub zeros_none : (n u v : ℕ) → T (link (zeros n) u v) → ⊥
unfolding link
zeros_none n u v t = go (dec_lt u n)
  where
    go : Dec (u < n) → ⊥
    go (yes h) = tr (ap (λ (x : ℕ). bit x v) (ap (λ (z : List ℕ). get_or z u 0) (sym (tab_zero n)) ∙ get_or-tab zero_word n u h)
        ∙ bit_high 0 v (pow_pos v)) t
    go (no h) =
        let l = length-tab zero_word n in
        let k : length (tab zero_word n) ≤ u = omega arith in
        tr (ap (λ (x : ℕ). bit x v) (ap (λ (z : List ℕ). get_or z u 0) (sym (tab_zero n)) ∙ get_or-eq_default (tab zero_word n) 0 k)
        ∙ bit_high 0 v (pow_pos v)) t

pub bit_kept : (b : Bool) (x v : ℕ) → bit (kept b x) v ≡ b && bit x v
bit_kept true x v = refl
bit_kept false x v = bit_high 0 v (pow_pos v)

pub bit-without : (x u v : ℕ) → u < 32 → v < 32 → bit (without x u) v ≡ bit x v && not (eqb u v)
unfolding without
bit-without x u v hu hv =
    bit-and x (2 ^ 32 - 1 - 2 ^ u) v ∙ ap (λ (b : Bool). bit x v && b) (bit_complement 32 (2 ^ u) v (pow-lt {j = 32} hu) hv ∙ ap not (bit-one u v))

-- a board that stays, and the one that is taken out
pub bit_left : (x w v : ℕ) → w < 32 → v < 32 → w ≢ v → bit (without x w) v ≡ bit x v
bit_left x w v hw hv ne = bit-without x w v hw hv ∙ rw (T→≡ (not (eqb w v)) (eqb_ne w v ne)) (and_true (bit x v))
  where
    and_true : (b : Bool) → b && true ≡ b
    and_true true = refl
    and_true false = refl

pub bit_out : (x w : ℕ) → w < 32 → bit (without x w) w ≡ false
bit_out x w h = F→≡ (bit (without x w) w) (λ m. ne_eqb w w (and_r (bit x w) (not (eqb w w)) (tr (bit-without x w w h h) m)) refl)

-- a set without one of its boards is less
pub without_less : (x w : ℕ) → w < 32 → T (bit x w) → without x w < x
unfolding without
without_less x w h b =
    ⊎_elim (λ (e : without x w ≡ x). absurd (tr (bit_out x w h) (subst (λ (y : ℕ). T (bit y w)) (sym e) b))) (λ (l : without x w < x). l)
    (eq-or-lt_of_le (and_le_l x (2 ^ 32 - 1 - 2 ^ w)))

pub below_pow : (x : ℕ) → x < 2 ^ x
below_pow zero = omega arith
below_pow (suc x) = omega (arith, below_pow x)

-- a board of a set of boards below n is below n
pub bit_below : {n w : ℕ} (x : ℕ) → x < 2 ^ n → T (bit x w) → w < n
bit_below {n} {w} x h m = ⊎_elim (λ (l : n ≤ w). absurd (tr (bit_high x w (lt_of_lt_of_le h (pow_mono l))) m)) (λ (l : w < n). l) (le_or_lt n w)

-- the bits gathered: those of x, and those of the words that the row has the bit of
pub gathered-bit : (x row : ℕ) (t : List ℕ) (v k : ℕ)
    → T (bit (gathered x row t k) v) ↔ (T (bit x v) ⊎ ((w : ℕ) × (w < k) × T (bit row w) × T (link t w v)))
unfolding gathered link
gathered-bit x row t v zero = (
  λ b. inl b,
  λ c. ⊎_elim (λ (b : T (bit x v)). b)
      (λ (b : (w : ℕ) × (w < 0) × T (bit row w) × T (bit (get_or t w 0) v)). absurd (not-suc-le-zero b.1)) c,
)
gathered-bit x row t v (suc k) =
    let e : bit (bit_or g y) v ≡ bit g v || (bit row k && bit (get_or t k 0) v) = bit-or g y v
    ∙ ap (λ (b : Bool). bit g v || b) (bit_kept (bit row k) (get_or t k 0) v) in
    let ih = gathered-bit x row t v k in (
      λ b. ⊎_elim (λ (c : T (bit g v)). wider (ih.0 c))
          (λ (c : T (bit row k && bit (get_or t k 0) v)). inr (
            k,
            omega arith,
            and_l (bit row k) (bit (get_or t k 0) v) c,
            and_r (bit row k)
                (bit (get_or t k 0) v) c,
          ))
          (or_cases (bit g v) (bit row k && bit (get_or t k 0) v) (tr e b)),
      λ c. tr (sym e) (last c ih.1),
    )
  where
    g : ℕ
    g = gathered x row t k

    y : ℕ
    y = kept (bit row k) (get_or t k 0)

    Over : ℕ → Type 0
    Over k = (w : ℕ) × (w < k) × T (bit row w) × T (bit (get_or t w 0) v)

    wider : T (bit x v) ⊎ Over k → T (bit x v) ⊎ Over (suc k)
    wider (inl b) = inl b
    wider (inr b) = let h : b.0 < k = b.1 in inr (b.0, omega arith, b.2, b.3)

    last : T (bit x v) ⊎ Over (suc k) → (T (bit x v) ⊎ Over k → T (bit g v)) → T (bit g v || (bit row k && bit (get_or t k 0) v))
    last (inl b) f = or_l (bit g v) (bit row k && bit (get_or t k 0) v) (f (inl b))
    last (inr b) f =
        ⊎_elim
        (λ (e : b.0 ≡ k). or_r (bit g v) (bit row k && bit (get_or t k 0) v)
        (and_both (bit row k) (bit (get_or t k 0) v) (subst (λ (w : ℕ). T (bit row w)) e b.2) (subst (λ (w : ℕ). T (bit (get_or t w 0) v)) e b.3)))
        (λ (e : b.0 ≢ k). let h : b.0 < suc k = b.1 in or_l (bit g v) (bit row k && bit (get_or t k 0) v) (f (inr (b.0, omega arith, b.2, b.3))))
        (eq_or b.0 k)

-- u to v in the earlier part, in the later part, or over some board w
abbrev pub Joined : ℕ → List ℕ → List ℕ → ℕ → ℕ → Type 0
Joined n s t u v = T (link s u v) ⊎ (T (link t u v) ⊎ ((w : ℕ) × (w < n) × T (link s u w) × T (link t w v)))

-- THE LAW of the composition of measure 3, on the words as they are found
pub compose-link : (n : ℕ) (s t : List ℕ) (u v : ℕ) → n ≤ 32 → u < n → v < 32 → T (link (compose n s t) u v) ↔ ((u ≢ v) × Joined n s t u v)
unfolding compose compose_row through_row either_row link
compose-link n s t u v n32 hu hv =
    let e : link (compose n s t) u v ≡ bit x v && not (eqb u v) = link-tab (compose_row n s t) n u v hu ∙ bit-without x u v (lt_of_lt_of_le hu n32) hv in
    let g = gathered-bit a (get_or s u 0) t v n in (
      λ m. (ne_eqb u v (and_r (bit x v) (not (eqb u v)) (tr e m)), out (g.0 (and_l (bit x v) (not (eqb u v)) (tr e m)))),
      λ p. tr (sym e) (and_both (bit x v) (not (eqb u v)) (g.1 (into p.1)) (eqb_ne u v p.0)),
    )
  where
    a : ℕ
    a = bit_or (get_or s u 0) (get_or t u 0)

    x : ℕ
    x = gathered a (get_or s u 0) t n

    Over : Type 0
    Over = (w : ℕ) × (w < n) × T (bit (get_or s u 0) w) × T (bit (get_or t w 0) v)

    out : T (bit a v) ⊎ Over → T (bit (get_or s u 0) v) ⊎ (T (bit (get_or t u 0) v) ⊎ Over)
    out (inl b) =
        ⊎_elim (λ (c : T (bit (get_or s u 0) v)). inl c) (λ (c : T (bit (get_or t u 0) v)). inr (inl c))
        (or_cases (bit (get_or s u 0) v) (bit (get_or t u 0) v) (tr (bit-or (get_or s u 0) (get_or t u 0) v) b))
    out (inr b) = inr (inr b)

    into : T (bit (get_or s u 0) v) ⊎ (T (bit (get_or t u 0) v) ⊎ Over) → T (bit a v) ⊎ Over
    into (inl b) = inl (tr (sym (bit-or (get_or s u 0) (get_or t u 0) v)) (or_l (bit (get_or s u 0) v) (bit (get_or t u 0) v) b))
    into (inr (inl b)) = inl (tr (sym (bit-or (get_or s u 0) (get_or t u 0) v)) (or_r (bit (get_or s u 0) v) (bit (get_or t u 0) v) b))
    into (inr (inr b)) = inr b

-- of the other two
pub intersection-link : (n : ℕ) (s t : List ℕ) (u v : ℕ) → u < n → link (intersection n s t) u v ≡ link s u v && link t u v
unfolding intersection both_row link
intersection-link n s t u v h = link-tab (both_row s t) n u v h ∙ bit-and (get_or s u 0) (get_or t u 0) v

pub union-link : (n : ℕ) (s t : List ℕ) (u v : ℕ) → u < n → link (union n s t) u v ≡ link s u v || link t u v
unfolding union either_row link
union-link n s t u v h = link-tab (either_row s t) n u v h ∙ bit-or (get_or s u 0) (get_or t u 0) v

-- ---- clean tables stay clean

-- n words below 2 ^ n
pub tab-words : (n : ℕ) (f : ℕ → ℕ) → ((u : ℕ) → u < n → f u < 2 ^ n) → Words n (tab f n)
tab-words n f h = record { size = length-tab f n; small = λ u. go u (dec_lt u n) }
  where
    go : (u : ℕ) → Dec (u < n) → get_or (tab f n) u 0 < 2 ^ n
    go u (yes l) = subst (λ (x : ℕ). x < 2 ^ n) (sym (get_or-tab f n u l)) (h u l)
    go u (no l) =
        let k : length (tab f n) ≤ u = omega (arith, length-tab f n) in
        subst (λ (x : ℕ). x < 2 ^ n) (sym (get_or-eq_default (tab f n) 0 k)) (pow_pos n)

pub kept_lt : (n : ℕ) (b : Bool) (x : ℕ) → x < 2 ^ n → kept b x < 2 ^ n
kept_lt n true x h = h
kept_lt n false x h = pow_pos n

gathered_lt : (n x row : ℕ) (t : List ℕ) (k : ℕ) → x < 2 ^ n → ((w : ℕ) → get_or t w 0 < 2 ^ n) → gathered x row t k < 2 ^ n
unfolding gathered
gathered_lt n x row t zero h f = h
gathered_lt n x row t (suc k) h f = or_lt n (gathered x row t k) (kept (bit row k) (get_or t k 0)) (gathered_lt n x row t k h f) (kept_lt n (bit row k)
    (get_or t k 0) (f k))

pub without_lt : (n x u : ℕ) → x < 2 ^ n → without x u < 2 ^ n
unfolding without
without_lt n x u h = lt_of_le_of_lt (and_le_l x (2 ^ 32 - 1 - 2 ^ u)) h

-- a word with a bit cleared is one of 32 bits, whatever it was
pub without_32 : (x u : ℕ) → without x u < 2 ^ 32
unfolding without
without_32 x u = lt_of_le_of_lt (and_le_r x (2 ^ 32 - 1 - 2 ^ u)) (omega (arith, pow_pos 32))

pub compose-clean : (n : ℕ) (s t : List ℕ) → n ≤ 32 → Words n s → Words n t → Clean n (compose n s t)
unfolding compose compose_row through_row either_row
compose-clean n s t n32 a b = record {
  words = w;
  loopless = λ u m. let h = link_from n (compose n s t) w u u m in ((compose-link n s t u u n32 h
      (lt_of_lt_of_le h n32)).0 m).0 refl;
}
  where
    w : Words n (tab (compose_row n s t) n)
    w = tab-words n (compose_row n s t) (λ u h. without_lt n _ u (gathered_lt n _ (get_or s u 0) t n (or_lt n (get_or s u 0) (get_or t u 0) (a.small u)
        (b.small u)) b.small))

pub intersection-clean : (n : ℕ) (s t : List ℕ) → Clean n s → Words n t → Clean n (intersection n s t)
unfolding intersection both_row
intersection-clean n s t a b = record {
  words = w;
  loopless = λ u m. a.loopless u (and_l (link s u u) (link t u u) (tr (intersection-link n s t u u (link_from n (intersection n s t) w u u m)) m));
}
  where
    w : Words n (tab (both_row s t) n)
    w = tab-words n (both_row s t) (λ u h. lt_of_le_of_lt (and_le_l (get_or s u 0) (get_or t u 0)) (a.words.small u))

pub union-clean : (n : ℕ) (s t : List ℕ) → Clean n s → Clean n t → Clean n (union n s t)
unfolding union either_row
union-clean n s t a b = record {
  words = w;
  loopless = λ u m. ⊎_elim (a.loopless u) (b.loopless u) (or_cases (link s u u) (link t u u)
      (tr (union-link n s t u u (link_from n (union n s t) w u u m)) m));
}
  where
    w : Words n (tab (either_row s t) n)
    w = tab-words n (either_row s t) (λ u h. or_lt n (get_or s u 0) (get_or t u 0) (a.words.small u) (b.words.small u))

pub zeros-clean : (n : ℕ) → Clean n (zeros n)
zeros-clean n = record { words = subst (Words n) (tab_zero n) (tab-words n zero_word (λ u h. pow_pos n)); loopless = λ u m. zeros_none n u u m }
