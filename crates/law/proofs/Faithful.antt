-- Tables that tell the truth of single picks, and whose composition tells it of two adjacent windows, tell it of every window; and a window has one
-- table, in whatever order it is composed. Assumes nothing.
use mathlib.Core.Path.{◌≡◌, ap, ◌∙◌, subst}
use mathlib.Core.List.{List, [], ◌∷◌}
use Prim.Native.Nat.{ℕ, zero, suc, ◌+◌, ◌-◌, ◌≤◌}
use native.Mathlib.Nat.{le_refl}
use native.Mathlib.Omega.{arith}
use lib.ListN.{length, get_or, take, drop}
use Rattle.model.specs.Recording.{pick_at, window}
use Rattle.model.proofs.Windows.{take_next, window_at}
use Rattle.links.specs.Composed.{composed_from, composed}
use Rattle.law.specs.Faithful.{Faithful, table_of_window, WindowTellsClaim, SplitClaim}

module _ (join : List ℕ → List ℕ → List ℕ) (own : ℕ → List ℕ → List ℕ) (r : List (List ℕ)) (Tells : ℕ → ℕ → List ℕ
    → Type 0) (law : Faithful join own r Tells) where
  -- the table of the picks i to k, composed with the c picks behind them
  from_tells : (c i k : ℕ) (t : List ℕ) → 1 ≤ i → i ≤ k → k + c ≤ length r → Tells i k t
      → Tells i (k + c) (composed_from join own (suc k) t (take c (drop k r)))
  unfolding composed_from
  from_tells zero i k t a b h f = let e : k ≡ k + 0 = omega arith in subst (λ (x : ℕ). Tells i x t) e f
  from_tells (suc c) i k t a b h f =
      let e : suc k + c ≡ k + suc c = omega arith in
      let w = own (suc k) (get_or r k []) in
      rw (take_next r k c h) (subst (λ (x : ℕ). Tells i x (composed_from join own (suc (suc k)) (join t w) (take c (drop (suc k) r)))) e
      (from_tells c i (suc k) (join t w) a (omega arith) (omega arith)
      (law.join_tells i k (suc k) t w a b (le_refl (suc k)) (omega arith) f (law.own_tells (suc k) (omega arith) (omega arith)))))

pub window_tells : WindowTellsClaim
unfolding table_of_window composed
window_tells join own r Tells law zero j a b c = absurd (omega arith)
window_tells join own r Tells law (suc i) j a b c =
    let d = j - suc i in
    let e : j ≡ i + suc d = omega arith in
    let f : suc i + d ≡ j = omega arith in
    let w : window r (suc i) j ≡ get_or r i [] ∷ take d (drop (suc i) r) = ap (window r (suc i)) e ∙ window_at r i (suc d)
    ∙ take_next r i d (omega arith) in
    rw w (subst (λ (x : ℕ). Tells (suc i) x (composed_from join own (suc (suc i)) (own (suc i) (get_or r i [])) (take d (drop (suc i) r)))) f
    (from_tells join own r Tells law d (suc i) (suc i) (own (suc i) (get_or r i [])) a (le_refl (suc i)) (omega arith) (law.own_tells (suc i) a (omega arith))))

pub split_law : SplitClaim
split_law join own r Tells law i k j a b c d =
    let win = table_of_window join own r in
    let tells = window_tells join own r Tells law in
    law.tells_once i j (join (win i k) (win (suc k) j)) (win i j) a
    (law.join_tells i k j (win i k) (win (suc k) j) a b c d (tells i k a b (omega arith)) (tells (suc k) j (omega arith) c d)) (tells i j a (omega arith) d)

-- a single pick's table is its own
pub single_law : (join : List ℕ → List ℕ → List ℕ) (own : ℕ → List ℕ → List ℕ) (r : List (List ℕ))
    (Tells : ℕ → ℕ → List ℕ → Type 0)
    → Faithful join own r Tells → (i : ℕ) → 1 ≤ i → i ≤ length r → own i (pick_at r i) ≡ table_of_window join own r i i
single_law join own r Tells law i a b =
    law.tells_once i i (own i (pick_at r i)) (table_of_window join own r i i) a (law.own_tells i a b) (window_tells join own r Tells law i i a (le_refl i) b)
