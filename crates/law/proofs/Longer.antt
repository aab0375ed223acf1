-- Windows of more picks, and footprints with the same links: what passes passes. For every limit and turn-round, but for `passes_monotone` and
-- `passes_up`, which are document 01's. Assumes nothing.
use mathlib.Core.Path.{refl}
use mathlib.Core.Logic.Iff
use mathlib.Core.Logic.{◌↔◌}
use mathlib.Core.List.{List, ◌++◌}
use Prim.Native.Nat.{ℕ, zero, suc, ◌≤◌}
use native.Mathlib.Omega.{arith}
use lib.Dec.{T}
use lib.ListN.{length}
use Rattle.model.specs.Recording.{link, Recording}
use Rattle.model.specs.Journey.{Limit}
use Rattle.model.specs.Length.{Smallest, Upward}
use Rattle.model.proofs.Lengths.{Agree, Inside, upward_agree}
use Rattle.model.proofs.Shifted.{Shifted, shifted_back, shifted_left, shifted_right, common_shifted, footprint_shifted, reach_shifted, round_shifted}
use Rattle.measures.specs.Kit.{hops01, turn01}
use Rattle.law.specs.Correct.{PassesWith, Passes, IsLength}
use Rattle.law.specs.Facts.{Monotone, minimises, maximises}
use Rattle.law.specs.Claim2.{Fits}
use Rattle.law.proofs.Kits.{facts}
use Rattle.law.proofs.Unlimited.{passes_agree}

pub is_smallest : {P : ℕ → ℕ → Type 0} {m k : ℕ} (measure : ℕ) → 2 ≤ measure → IsLength measure P m k ↔ Smallest P m k
is_smallest zero h = absurd (omega arith)
is_smallest (suc zero) h = absurd (omega arith)
is_smallest (suc (suc x)) h = (λ s. s, λ s. s)

-- which way passing is monotone goes by which windows pass
monotone_agree : {measure : ℕ} {P Q : ℕ → ℕ → Type 0} {m : ℕ} → Agree P Q m → Monotone measure P m → Monotone measure Q m
monotone_agree e (minimises x y up) = minimises x y (upward_agree e up)
monotone_agree e (maximises y down) = maximises y
    (λ i j a b p q r s t f. (e a b (omega arith) r (omega arith)).0 (down i j a b p q r s t ((e i j p (omega arith) t).1 f)))

pub passes_monotone : (n measure : ℕ) (footprint : List ℕ) (r : List (List ℕ)) → n ≤ 32 → 1 ≤ measure → measure ≤ 4 → Recording n r
    → Fits measure footprint r n → Monotone measure (Passes measure n footprint r) (length r)
passes_monotone n measure footprint r few low high k fit =
    monotone_agree (passes_agree n few r k turn01 measure footprint footprint (λ e. refl))
    (facts hops01 turn01 n few r k measure low high footprint fit).monotone

-- where a window passes under measures 2 to 4, any window around it does
pub passes_up : (n measure : ℕ) (footprint : List ℕ) (r : List (List ℕ)) → n ≤ 32 → 2 ≤ measure → measure ≤ 4 → Recording n r → Fits measure footprint r n
    → Upward (Passes measure n footprint r) (length r)
passes_up n measure footprint r few low high k fit = go (passes_monotone n measure footprint r few (omega arith) high k fit)
  where
    go : Monotone measure (Passes measure n footprint r) (length r) → Upward (Passes measure n footprint r) (length r)
    go (minimises x e up) = up
    go (maximises e down) = absurd (omega arith)

module _ (L : Limit) (turn : ℕ) where
  passes_shifted : {r s : List (List ℕ)} {i j h l : ℕ} (measure n : ℕ) (footprint : List ℕ) → Shifted r i j s h l → i ≤ j
      → PassesWith L turn measure n footprint r i j → PassesWith L turn measure n footprint s h l
  passes_shifted zero n footprint p a f = f
  passes_shifted (suc zero) n footprint p a f = common_shifted p n f
  passes_shifted (suc (suc zero)) n footprint p a f = footprint_shifted footprint p f
  passes_shifted (suc (suc (suc zero))) n footprint p a f = reach_shifted p n L a f
  passes_shifted (suc (suc (suc (suc x)))) n footprint p a f = round_shifted p n L turn f

  -- footprints with the same links are one
  pub passes-listed : (measure n m : ℕ) (footprint l : List ℕ) (r : List (List ℕ)) → ((u v : ℕ) → T (link footprint u v) ↔ T (link l u v))
      → Agree (PassesWith L turn measure n footprint r) (PassesWith L turn measure n l r) m
  passes-listed zero n m footprint l r e i j a b c = (λ f. f, λ f. f)
  passes-listed (suc zero) n m footprint l r e i j a b c = (λ f. f, λ f. f)
  passes-listed (suc (suc zero)) n m footprint l r e i j a b c = (λ f u v. Iff.trans (f u v) (e u v), λ f u v. Iff.trans (f u v) (Iff.symm (e u v)))
  passes-listed (suc (suc (suc zero))) n m footprint l r e i j a b c = (λ f. f, λ f. f)
  passes-listed (suc (suc (suc (suc x)))) n m footprint l r e i j a b c = (λ f. f, λ f. f)

  module _ (measure n : ℕ) (footprint : List ℕ) where
    -- windows of the same picks pass alike
    pub passes_alike : {r s : List (List ℕ)} {i j h l : ℕ} → Shifted r i j s h l → i ≤ j
        → PassesWith L turn measure n footprint r i j ↔ PassesWith L turn measure n footprint s h l
    passes_alike p a = let e = p.long in (passes_shifted measure n footprint p a, passes_shifted measure n footprint (shifted_back p) (omega arith))

    -- the windows of two recordings are windows of both set one after the other
    pub left_inside : (x y : List (List ℕ)) → Inside (PassesWith L turn measure n footprint x) (length x) (PassesWith L turn measure n footprint (x ++ y)) 0
    left_inside x y i j h l a b c e f = passes_alike (shifted_left x y i j h l c (omega arith) (omega arith)) b

    pub right_inside : (x y : List (List ℕ)) → Inside (PassesWith L turn measure n footprint y) (length y) (PassesWith L turn measure n footprint (x ++ y))
        (length x)
    right_inside x y i j h l a b c e f = passes_alike (shifted_right x y i j h l a e f) b
