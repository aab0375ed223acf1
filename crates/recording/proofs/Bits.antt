-- A link flipped changes its own bit and no other: a pick stays one without a forbidden bit. Assumes nothing.
use mathlib.Core.Path.{◌≡◌, refl, sym, ap, ◌∙◌}
use mathlib.Core.Bool.{Bool, true, false, not, ◌&&◌, cond}
use mathlib.Core.List.{List}
use Prim.Native.Nat.{ℕ, ◌^◌, ◌<◌}
use native.Mathlib.Omega.{arith}
use borrow.Author.Tests.{eq-eqb, ne_eqb, eqb-true, eqb-false}
use lib.Bits.{bit_xor, xor_lt}
use lib.Dec.{T, eqb}
use lib.ListN.{length, get_or, length-set}
use lib.Pow.{pow-lt}
use lib.Seq.{get_or-set_same, get_or-set_other}
use Rattle.model.specs.Recording.{bit, link, Clean}
use Rattle.model.proofs.Bits.{bit-xor, bit-one}
use Rattle.model.proofs.Logic.{tr}
use Rattle.recording.specs.Format.{flipped}
use Rattle.commands.proofs.Admit.{Linkable}

xor_other : (w t b : ℕ) → (b ≡ t → ⊥) → bit (bit_xor w (2 ^ t)) b ≡ bit w b
xor_other w t b h = bit-xor w (2 ^ t) b ∙ rw (bit-one t b, ne_eqb t b (λ e. h (sym e))) (by (bit w b))
  where
    by : (x : Bool) → cond x true false ≡ x
    by true = refl
    by false = refl

xor_same : (w t : ℕ) → bit (bit_xor w (2 ^ t)) t ≡ not (bit w t)
xor_same w t = bit-xor w (2 ^ t) t ∙ rw (bit-one t t, eq-eqb t t refl) (by (bit w t))
  where
    by : (x : Bool) → cond x false true ≡ not x
    by true = refl
    by false = refl

-- word a of the links: the changed one, or as it was
module _ (links : List ℕ) (f t a : ℕ) where
  flip_same : f < length links → a ≡ f → get_or (flipped links f t) a 0 ≡ bit_xor (get_or links f 0) (2 ^ t)
  unfolding flipped
  flip_same l e = rw e (get_or-set_same links f (bit_xor (get_or links f 0) (2 ^ t)) 0 l)

  flip_other : (a ≡ f → ⊥) → get_or (flipped links f t) a 0 ≡ get_or links a 0
  unfolding flipped
  flip_other h = get_or-set_other links f a (bit_xor (get_or links f 0) (2 ^ t)) 0 h

length-flipped : (links : List ℕ) (f t : ℕ) → length (flipped links f t) ≡ length links
unfolding flipped
length-flipped links f t = length-set links f (bit_xor (get_or links f 0) (2 ^ t))

pub clean_flip : (n : ℕ) (links : List ℕ) (f t : ℕ) → Clean n links → Linkable n f t → Clean n (flipped links f t)
unfolding link
clean_flip n links f t c l =
    record {
      words = record { size = length-flipped links f t ∙ c.words.size; small = λ a. small a (eqb a f) refl };
      loopless = λ a m. own a m (eqb a f) refl;
    }
  where
    inside : f < length links
    inside = omega (arith, c.words.size, l.from)

    small : (a : ℕ) (x : Bool) → eqb a f ≡ x → get_or (flipped links f t) a 0 < 2 ^ n
    small a true e = rw (flip_same links f t a inside (eqb-true a f e)) (xor_lt n (get_or links f 0) (2 ^ t) (c.words.small f) (pow-lt l.to))
    small a false e = rw (flip_other links f t a (eqb-false a f e)) (c.words.small a)

    own : (a : ℕ) → T (bit (get_or (flipped links f t) a 0) a) → (x : Bool) → eqb a f ≡ x → ⊥
    own a m true e =
        let k = eqb-true a f e in
        let q : a ≡ t → ⊥ = λ z. l.apart (sym k ∙ z) in
        let o = ap (λ (w : ℕ). bit w a) (flip_same links f t a inside k) ∙ xor_other (get_or links f 0) t a q in
        c.loopless a (tr (o ∙ ap (λ (i : ℕ). bit (get_or links i 0) a) (sym k)) m)
    own a m false e = c.loopless a (tr (ap (λ (w : ℕ). bit w a) (flip_other links f t a (eqb-false a f e))) m)

-- each link of the links with one flipped
pub link-flipped : (links : List ℕ) (f t : ℕ) → f < length links → (u v : ℕ)
    → link (flipped links f t) u v ≡ cond (eqb f u && eqb t v) (not (link links f t)) (link links u v)
unfolding link
link-flipped links f t h u v = by (eqb f u) refl (eqb t v) refl
  where
    by : (x : Bool) → eqb f u ≡ x → (y : Bool) → eqb t v ≡ y
        → bit (get_or (flipped links f t) u 0) v ≡ cond (x && y) (not (bit (get_or links f 0) t)) (bit (get_or links u 0) v)
    by true e true q =
        let k = eqb-true f u e in
        let l = eqb-true t v q in
        rw (sym k, sym l, flip_same links f t f h refl) (xor_same (get_or links f 0) t)
    by true e false q =
        let k = eqb-true f u e in
        rw (sym k, flip_same links f t f h refl) (xor_other (get_or links f 0) t v (λ z. eqb-false t v q (sym z)))
    by false e y q = rw (flip_other links f t u (λ z. eqb-false f u e (sym z)))
