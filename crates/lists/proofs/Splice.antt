-- Laws of words put in place of others, as a part that was lent and written leaves them. Assumes nothing.
use mathlib.Core.Path.{◌≡◌, ap, ap₂, ◌∙◌, sym}
use mathlib.Core.List.{List, [], ◌∷◌, ◌++◌, append_assoc}
use Prim.Native.Nat.{ℕ, ◌+◌, ◌-◌, ◌≤◌, ◌<◌}
use native.Mathlib.Numerals.{add-one}
use native.Mathlib.Nat.{add-zero, add_assoc, sub-zero, add-sub_cancel_left, le_refl}
use native.Mathlib.Omega.{arith}
use lib.ListN.{length, take, drop, set, get_or, length-append, length-drop, take-append-drop}
use lib.Seq.{take_at, drop_at, drop-drop, take-append-le, drop-append-le, drop-append-add, length-take-le}
use lib.Seq.{get_or-take, get_or-drop, set_split}
use Rattle.lists.specs.Tab.{splice}

-- what is read from the front of a list does not see its end
pub read_front : (p q : List ℕ) (k n : ℕ) → k + n ≤ length p → take n (drop k (p ++ q)) ≡ take n (drop k p)
read_front p q k n h =
    let l : k ≤ length p = omega arith in
    let r : n ≤ length (drop k p) = omega (arith, length-drop k p) in
    rw (drop-append-le k p q l) (take-append-le n (drop k p) q r)

-- ---- e words in place of the e words from word k on

module _ (k e : ℕ) (xs a : List ℕ) (size : length xs ≡ e) (low : k ≤ length a) where
  head : length (take k a ++ xs) ≡ k + e
  head = length-append (take k a) xs ∙ rw (length-take-le k a low, size)

  parted : splice k e xs a ≡ take k a ++ xs ++ drop (k + e) a
  unfolding splice
  parted = rw (drop-drop e k a) (sym (append_assoc (take k a) xs (drop (k + e) a)))

  pub splice-length : k + e ≤ length a → length (splice k e xs a) ≡ length a
  splice-length room = ap length parted ∙ length-append (take k a ++ xs) (drop (k + e) a) ∙ omega (arith, head, length-drop (k + e) a)

  -- before them
  pub splice_before : take k (splice k e xs a) ≡ take k a
  unfolding splice
  splice_before = take_at (take k a) _ k (length-take-le k a low)

  pub read_before : (j n : ℕ) → j + n ≤ k → take n (drop j (splice k e xs a)) ≡ take n (drop j a)
  unfolding splice
  read_before j n h =
      let l : j + n ≤ length (take k a) = omega (arith, length-take-le k a low) in
      read_front (take k a) _ j n l ∙ sym (read_front (take k a) (drop k a) j n l) ∙ ap (λ (b : List ℕ). take n (drop j b)) (take-append-drop k a)

  -- they themselves
  pub read_inside : take e (drop k (splice k e xs a)) ≡ xs
  unfolding splice
  read_inside = rw (drop_at (take k a) (xs ++ drop e (drop k a)) k (length-take-le k a low)) (take_at xs _ e size)

  pub word_inside : (j i : ℕ) → j ≡ k + i → i < e → get_or (splice k e xs a) j 0 ≡ get_or xs i 0
  word_inside j i q h =
      rw q (sym (get_or-drop k (splice k e xs a) i 0)) ∙ sym (get_or-take e (drop k (splice k e xs a)) i 0 h) ∙ ap (λ (b : List ℕ). get_or b i 0) read_inside

  -- behind them
  pub splice-after : (j : ℕ) → k + e ≤ j → drop j (splice k e xs a) ≡ drop j a
  splice-after j h =
      let q : j ≡ length (take k a ++ xs) + (j - (k + e)) = omega (arith, head) in
      let r : k + e + (j - (k + e)) ≡ j = omega arith in
      ap₂ drop q parted ∙ drop-append-add (take k a ++ xs) (drop (k + e) a) (j - (k + e)) ∙ drop-drop (j - (k + e)) (k + e) a
      ∙ ap (λ (i : ℕ). drop i a) r

  pub word_after : (i : ℕ) → k + e ≤ i → get_or (splice k e xs a) i 0 ≡ get_or a i 0
  word_after i h =
      rw (add-zero i) at (sym (get_or-drop i (splice k e xs a) 0 0) ∙ ap (λ (b : List ℕ). get_or b 0 0) (splice-after i h) ∙ get_or-drop i a 0 0)

  -- others in the same place
  pub splice-again : (ys : List ℕ) → splice k e ys (splice k e xs a) ≡ splice k e ys a
  unfolding splice
  splice-again ys =
      ap₂ (λ (u v : List ℕ). u ++ (ys ++ v)) splice_before
      (drop-drop e k (splice k e xs a) ∙ splice-after (k + e) (le_refl (k + e)) ∙ sym (drop-drop e k a))

  -- more behind them
  pub splice-more : (j d : ℕ) (ys : List ℕ) → j ≡ k + e → splice j d ys (splice k e xs a) ≡ splice k (e + d) (xs ++ ys) a
  unfolding splice
  splice-more j d ys q =
      rw q (ap₂ (λ (u v : List ℕ). u ++ (ys ++ v)) (ap (take (k + e)) parted ∙ take_at (take k a ++ xs) (drop (k + e) a) (k + e) head)
      (ap (drop d) (splice-after (k + e) (le_refl (k + e))))
      ∙ simp (drop-drop, append_assoc, add_assoc))

-- words behind the list
pub splice_front : (k e : ℕ) (xs a b : List ℕ) → k + e ≤ length a → splice k e xs (a ++ b) ≡ splice k e xs a ++ b
unfolding splice
splice_front k e xs a b h =
    let l : k ≤ length a = omega arith in
    let r : e ≤ length (drop k a) = omega (arith, length-drop k a) in
    rw (take-append-le k a b l, drop-append-le k a b l, drop-append-le e (drop k a) b r, append_assoc, append_assoc)

-- one word
pub splice-set : (k v : ℕ) (a : List ℕ) → k < length a → set a k v ≡ splice k 1 (v ∷ []) a
unfolding splice
splice-set k v a h = set_split a k v h ∙ rw (drop-drop, add-one)

-- none
pub splice_none : (k : ℕ) (a : List ℕ) → a ≡ splice k 0 [] a
unfolding splice
splice_none k a = sym (take-append-drop k a)

-- ---- a part lent and written

-- what `&mut a[k..k + e]` leaves
pub written-part : (k e : ℕ) {xs ys : List ℕ} (a : List ℕ) → xs ≡ ys → take k a ++ (xs ++ drop (k + e - k) (drop k a)) ≡ splice k e ys a
unfolding splice
written-part k e a q = rw (q, add-sub_cancel_left)

-- what `&mut a[0..e]` leaves
pub written_first : (e : ℕ) {xs ys : List ℕ} (a : List ℕ) → xs ≡ ys → xs ++ drop (e - 0) a ≡ splice 0 e ys a
unfolding splice
written_first e a q = rw (q, sub-zero)
