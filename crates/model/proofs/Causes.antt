-- The first cause of a list. Assumes nothing.
use Prim.Native.Nat.{ℕ, ◌≤◌}
use mathlib.Core.Bool.{Bool, true, false, ◌&&◌, ◌||◌, not, cond}
use mathlib.Core.List.{List, [], ◌∷◌, ◌++◌}
use mathlib.Core.Path.{◌≡◌, refl, sym, ap, ◌∙◌}
use mathlib.Core.Logic.{◌↔◌, ⊎_elim}
use native.Mathlib.Omega.{arith}
use borrow.Author.Tests.{ne_eqb}
use lib.Dec.{T, eqb, eqb→eq, leb, leb→le, le→leb}
use Rattle.model.proofs.Logic.{tr, T→≡, and_l, and_r, and_both, or_cases}
use Rattle.model.specs.declared.Refusal.{Refusal}
use Rattle.model.specs.Causes.{between, Causes, first_of, NoneHolds, numbered, answers, Among, is_first, is_later, RefusalCauses, first_or, by_number}

-- none is left
pub cause_none : 0 ≡ first_of []
unfolding first_of
cause_none = refl

-- a test that fails leaves it to the rest
pub cause_next : {x : Bool} (c : ℕ) (cs : Causes) {r : ℕ} → x ≡ false → r ≡ first_of cs → r ≡ first_of ((x, c) ∷ cs)
unfolding first_of
cause_next c cs e g = rw (e, g)

-- nothing refuses exactly where every test fails
pub none_holds : (cs : Causes) → T (numbered cs) → (first_of cs ≡ 0) ↔ NoneHolds cs
unfolding first_of
none_holds [] n = (λ e. tt, λ e. refl)
none_holds ((true, c) ∷ cs) n = let l = leb→le 1 c (and_l (leb 1 c) (numbered cs) n) in (λ e. absurd (omega arith), λ h. absurd (tr h.0 tt))
none_holds ((false, c) ∷ cs) n = let i = none_holds cs (and_r (leb 1 c) (numbered cs) n) in (λ e. (refl, i.0 e), λ h. i.1 h.1)

-- else one of the numbers does; x is what is answered where none refuses
pub among_then : (cs : Causes) (x : ℕ) (xs : List ℕ) → T (numbered cs) → Among x xs → Among (cond (eqb (first_of cs) 0) x (first_of cs)) (answers cs xs)
unfolding first_of
among_then [] x xs n h = h
among_then ((true, c) ∷ cs) x xs n h =
    rw (ne_eqb c 0 (λ e. let l = leb→le 1 c (and_l (leb 1 c) (numbered cs) n) in omega arith)) (is_first refl)
among_then ((false, c) ∷ cs) x xs n h = is_later (among_then cs x xs (and_r (leb 1 c) (numbered cs) n) h)

pub among : (cs : Causes) → Among (first_of cs) (answers cs (0 ∷ []))
unfolding first_of
among [] = is_first refl
among ((true, c) ∷ cs) = is_first refl
among ((false, c) ∷ cs) = is_later (among cs)

-- ---- two lists in a row

-- a cause of the first decides
pub causes_before : (cs ds : Causes) {r : ℕ} → 1 ≤ r → r ≡ first_of cs → r ≡ first_of (cs ++ ds)
unfolding first_of
causes_before [] ds h e = absurd (omega arith)
causes_before ((true, c) ∷ cs) ds h e = e
causes_before ((false, c) ∷ cs) ds h e = causes_before cs ds h e

-- where it has none, the second does
pub causes_after : (cs ds : Causes) {r : ℕ} → T (numbered cs) → first_of cs ≡ 0 → r ≡ first_of ds → r ≡ first_of (cs ++ ds)
unfolding first_of
causes_after [] ds n z e = e
causes_after ((true, c) ∷ cs) ds n z e = let l = leb→le 1 c (and_l (leb 1 c) (numbered cs) n) in absurd (omega arith)
causes_after ((false, c) ∷ cs) ds n z e = causes_after cs ds (and_r (leb 1 c) (numbered cs) n) z e

-- where both together have none, each has none
pub causes_none : (cs ds : Causes) → T (numbered cs) → first_of (cs ++ ds) ≡ 0 → (first_of cs ≡ 0) × (first_of ds ≡ 0)
causes_none cs ds n e =
    let f : 1 ≤ first_of cs → ⊥ = λ h. let g = causes_before cs ds h refl in omega arith in
    let z : first_of cs ≡ 0 = omega arith in
    (z, causes_after cs ds n z refl ∙ e)

-- membership as a test, which computes
abbrev pub is_among : ℕ → List ℕ → Bool
is_among x [] = false
is_among x (y ∷ ys) = eqb x y || is_among x ys

pub among_in : (x : ℕ) (ys : List ℕ) → T (is_among x ys) → Among x ys
among_in x [] t = absurd t
among_in x (y ∷ ys) t = ⊎_elim (λ e. is_first (eqb→eq x y e)) (λ i. is_later (among_in x ys i)) (or_cases (eqb x y) (is_among x ys) t)

-- ---- the same for an answer that carries its refusal

module _ {A : Type 0} (refused : Refusal → A) where
  -- an answer that no refusal gives: every test failed
  pub none_refused : (Q : A → Type 0) → ((r : Refusal) → Q (refused r) → ⊥) → (cs : RefusalCauses) (a : A) → Q (first_or refused cs a)
      → NoneHolds (by_number cs) × Q a
  unfolding first_or
  none_refused Q never [] a q = (tt, q)
  none_refused Q never ((true, r) ∷ cs) a q = absurd (never r q)
  none_refused Q never ((false, r) ∷ cs) a q = let p = none_refused Q never cs a q in ((refl, p.0), p.1)

  -- what holds of the answer, and of each refusal listed, holds of the first
  abbrev pub Each : (A → Type 0) → RefusalCauses → Type 0
  Each P [] = Unit {0}
  Each P (c ∷ cs) = P (refused c.1) × Each P cs

  pub each_refused : (P : A → Type 0) (cs : RefusalCauses) (a : A) → Each P cs → P a → P (first_or refused cs a)
  unfolding first_or
  each_refused P [] a e p = p
  each_refused P ((true, r) ∷ cs) a e p = e.0
  each_refused P ((false, r) ∷ cs) a e p = each_refused P cs a e.1 p

-- ---- a test of a range, as code makes it

pub holds_by : {x y : Bool} → x ≡ y → not x ≡ false → y ≡ true
holds_by {x} {y} e f = sym e ∙ go x f
  where
    go : (x : Bool) → not x ≡ false → x ≡ true
    go true f = refl
    go false f = sym f

pub not_of_true : (x : Bool) → T x → not x ≡ false
not_of_true x t = ap not (T→≡ x t)

-- a range that was checked
pub between_says : (low x high : ℕ) → between low x high ≡ true → (low ≤ x) × (x ≤ high)
unfolding between
between_says low x high e =
    let t = tr (sym e) tt in
    (leb→le low x (and_l (leb low x) (leb x high) t), leb→le x high (and_r (leb low x) (leb x high) t))

pub between_in : (low x high : ℕ) → low ≤ x → x ≤ high → between low x high ≡ true
unfolding between
between_in low x high a b = T→≡ (leb low x && leb x high) (and_both (leb low x) (leb x high) (le→leb low x a) (le→leb x high b))

pub in-range : (low x high : ℕ) → low ≤ x → x ≤ high → not (between low x high) ≡ false
in-range low x high a b = ap not (between_in low x high a b)
