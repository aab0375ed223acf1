-- Picks lent as words: where they lie, and their union. Assumes nothing.
use mathlib.Core.Path.{◌≡◌, sym, ap, ap₂, ◌∙◌}
use mathlib.Core.List.{List}
use Prim.Native.Nat.{ℕ, zero, suc, ◌+◌, ◌-◌, ◌*◌, ◌≤◌, ◌<◌}
use native.Mathlib.Nat.{sub-zero, zero-mul, suc-mul, mul-le-mul_right, add-sub_cancel_left}
use native.Mathlib.Omega.{arith}
use lib.ListN.{length, take, drop, length-drop}
use lib.Seq.{length-take-le}
use Rattle.lists.proofs.Tab.{length-tab}
use Rattle.links.specs.Tables.{union, either_row}
use Rattle.links.specs.Picks.{lent_pick, united_picks}

-- ---- one pick

-- pick k ends within the words of m picks
pub lent_end : (n : ℕ) {k m : ℕ} → k < m → k * n + n ≤ m * n
lent_end n {k} {m} h = omega (arith, suc-mul k n, mul-le-mul_right n h)

-- the part that code lends for it
pub lent_part : (n k : ℕ) (w : List ℕ) → take (k * n + n - k * n) (drop (k * n) w) ≡ lent_pick n w k
unfolding lent_pick
lent_part n k w = ap (λ (x : ℕ). take x (drop (k * n) w)) (add-sub_cancel_left (k * n) n)

pub lent_long : (n k m : ℕ) (w : List ℕ) → m * n ≤ length w → k < m → length (lent_pick n w k) ≡ n
unfolding lent_pick
lent_long n k m w room h = length-take-le n (drop (k * n) w) (omega (arith, length-drop (k * n) w, lent_end n h))

-- the part that code lends for the first pick, and its words
pub first_lent : (n : ℕ) (w : List ℕ) → take (n - 0) w ≡ lent_pick n w 0
unfolding lent_pick
first_lent n w = ap₂ (λ (x y : ℕ). take x (drop y w)) (sub-zero n) (sym (zero-mul n))

pub first_room : (n m : ℕ) (w : List ℕ) → m * n ≤ length w → 1 ≤ m → n ≡ length (take (n - 0) w)
first_room n m w room h = sym (ap length (first_lent n w) ∙ lent_long n 0 m w room h)

-- ---- the union of picks

pub length_union : (n : ℕ) (s t : List ℕ) → length (union n s t) ≡ n
unfolding union
length_union n s t = length-tab (either_row s t) n

pub length_united : (n : ℕ) (t w : List ℕ) (i k : ℕ) → length t ≡ n → length (united_picks n t w i k) ≡ n
unfolding united_picks
length_united n t w i zero e = e
length_united n t w i (suc k) e = length_union n (united_picks n t w i k) (lent_pick n w (i + k))

-- what the loop that unites picks stands on
pub ruleset unites = (lent_part, length_union)
