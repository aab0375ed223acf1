-- Windows of a recording. Assumes nothing.
use mathlib.Core.Path.{◌≡◌, sym, ap, ap₂, ◌∙◌}
use Prim.Native.Nat.{ℕ, zero, suc, ◌+◌, ◌-◌, ◌≤◌, ◌<◌}
use native.Mathlib.Omega.{arith}
use native.Mathlib.Nat.{le_of_suc-le-suc}
use mathlib.Core.List.{List, [], ◌∷◌, ◌++◌}
use lib.ListN.{length, get_or, take, drop}
use lib.Seq.{drop-cons, take-length, take-add, drop-drop}
use Rattle.model.specs.Recording.{Clean, Recording, pick_at, window}

pub take_next : (r : List (List ℕ)) (i k : ℕ) → i + suc k ≤ length r → take (suc k) (drop i r) ≡ get_or r i [] ∷ take k (drop (suc i) r)
take_next r i k h = ap (λ (l : List (List ℕ)). take (suc k) l) (drop-cons r i [] (omega arith))

-- the picks i to j, where 1 ≤ i ≤ j + 1 and j ≤ m
pub window_at : (r : List (List ℕ)) (i k : ℕ) → window r (suc i) (i + k) ≡ take k (drop i r)
unfolding window
window_at r i k = let e : suc (i + k) - suc i ≡ k = omega arith in let f : suc i - 1 ≡ i = omega arith in ap₂ (λ (x y : ℕ). take x (drop y r)) e f

-- two windows that meet are one
pub windows_join : (r : List (List ℕ)) (i k j : ℕ) → 1 ≤ i → i ≤ k → k < j → window r i k ++ window r (suc k) j ≡ window r i j
windows_join r zero k j a b c = absurd (omega arith)
windows_join r (suc i) k j a b c =
    let e : k ≡ i + (k - i) = omega arith in
    let f : j ≡ k + (j - k) = omega arith in
    let g : j ≡ i + ((k - i) + (j - k)) = omega arith in
    let d : drop (k - i) (drop i r) ≡ drop k r = drop-drop (k - i) i r ∙ ap (λ (x : ℕ). drop x r) (sym e) in
    ap₂ (λ (x y : List (List ℕ)). x ++ y)
    (ap (λ (x : ℕ). window r (suc i) x) e ∙ window_at r i (k - i))
    (ap (λ (x : ℕ). window r (suc k) x) f ∙ window_at r k (j - k) ∙ ap (λ (x : List (List ℕ)). take (j - k) x) (sym d))
    ∙ sym (take-add (k - i) (j - k) (drop i r)) ∙ sym (ap (λ (x : ℕ). window r (suc i) x) g ∙ window_at r i ((k - i) + (j - k)))

-- the window of one pick
pub window-one : (r : List (List ℕ)) (i : ℕ) → 1 ≤ i → i ≤ length r → window r i i ≡ pick_at r i ∷ []
window-one r zero a b = absurd (omega arith)
window-one r (suc i) a b = let e : suc i ≡ i + 1 = omega arith in ap (λ (x : ℕ). window r (suc i) x) e ∙ window_at r i 1
    ∙ take_next r i 0 (omega arith)

-- the window of all picks
pub window_all : (r : List (List ℕ)) → window r 1 (length r) ≡ r
unfolding window
window_all r = let e : suc (length r) - 1 ≡ length r = omega arith in ap (λ (x : ℕ). take x r) e ∙ take-length r

-- parts of a recording are recordings
pub rec_take : (n k : ℕ) (r : List (List ℕ)) → Recording n r → Recording n (take k r)
rec_take n zero r k = tt
rec_take n (suc i) [] k = tt
rec_take n (suc i) (p ∷ ps) k = (k.0, rec_take n i ps k.1)

pub rec_drop : (n k : ℕ) (r : List (List ℕ)) → Recording n r → Recording n (drop k r)
rec_drop n zero r k = k
rec_drop n (suc i) [] k = tt
rec_drop n (suc i) (p ∷ ps) k = rec_drop n i ps k.1

pub rec_window : (n i j : ℕ) (r : List (List ℕ)) → Recording n r → Recording n (window r i j)
unfolding window
rec_window n i j r k = rec_take n (suc j - i) (drop (i - 1) r) (rec_drop n (i - 1) r k)

pub rec_left : (n : ℕ) (x y : List (List ℕ)) → Recording n (x ++ y) → Recording n x
rec_left n [] y k = tt
rec_left n (p ∷ ps) y k = (k.0, rec_left n ps y k.1)

pub rec_append : (n : ℕ) (x y : List (List ℕ)) → Recording n x → Recording n y → Recording n (x ++ y)
rec_append n [] y a b = b
rec_append n (p ∷ ps) y a b = (a.0, rec_append n ps y a.1 b)

-- each pick of a recording is clean
pub pick-at : (n : ℕ) (r : List (List ℕ)) → Recording n r → (i : ℕ) → 1 ≤ i → i ≤ length r → Clean n (pick_at r i)
pick-at n [] k i a b = absurd (omega arith)
pick-at n (p ∷ ps) k zero a b = absurd (omega arith)
pick-at n (p ∷ ps) k (suc zero) a b = k.0
pick-at n (p ∷ ps) k (suc (suc i)) a b = pick-at n ps k.1 (suc i) (omega arith) (le_of_suc-le-suc b)
