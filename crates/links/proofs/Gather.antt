-- Bad bits gathered over the words: none are gathered exactly when each word has none. Assumes nothing.
use mathlib.Core.Path.{◌≡◌, ◌∙◌, sym}
use mathlib.Core.Bool.{Bool, ◌&&◌}
use mathlib.Core.List.{List}
use Prim.Native.Nat.{ℕ, ◌+◌, ◌<◌}
use native.Mathlib.Numerals.{add-one}
use native.Mathlib.Omega.{arith}
use lib.Bits.{bit_or, bit_xor, and_le_l, and_le_r, xor_add_and, xor_self}
use lib.Dec.{eqb, eqb→eq, eqb_refl}
use lib.ListN.{get_or}
use Rattle.model.proofs.Logic.{bool_ext, and_both, and_l, and_r, eq_refl}
use Rattle.model.proofs.Bits.{or_none}
use Rattle.lists.specs.Tab.{every}
use Rattle.std.proofs.lemmas.Grind.{common_steps}
use Rattle.lists.proofs.Tab.{get_or-tab, every_none}
use Rattle.links.specs.Tables.{either_row, union, row_same}

-- words or-ed together are 0 exactly when each is
none_or : (a b : ℕ) → eqb (bit_or a b) 0 ≡ eqb a 0 && eqb b 0
none_or a b =
    bool_ext (eqb (bit_or a b) 0) (eqb a 0 && eqb b 0)
    (λ t. let z = or_none a b (eqb→eq (bit_or a b) 0 t) in and_both (eqb a 0) (eqb b 0) (eq_refl z.0) (eq_refl z.1))
    (λ t. rw (eqb→eq a 0 (and_l (eqb a 0) (eqb b 0) t), eqb→eq b 0 (and_r (eqb a 0) (eqb b 0) t)) (eqb_refl 0))

-- A turn of the loop: x is what it adds to the bad bits, none exactly when the test f passes.
pub bad_turn : (f : ℕ → Bool) (k bad x : ℕ) → eqb bad 0 ≡ every f k → eqb x 0 ≡ f k → eqb (bit_or bad x) 0 ≡ every f (k + 1)
unfolding every
bad_turn f k bad x e g = none_or bad x ∙ rw (add-one, e, g)

-- words differ in no bit exactly when they are the same
none_differ : (a b : ℕ) → eqb (bit_xor a b) 0 ≡ eqb a b
none_differ a b =
    bool_ext (eqb (bit_xor a b) 0) (eqb a b)
    (λ t. let z = eqb→eq (bit_xor a b) 0 t in let e : a ≡ b = omega (arith, xor_add_and a b, and_le_l a b, and_le_r a b) in eq_refl e)
    (λ t. rw (eqb→eq a b t) (eq_refl (xor_self b)))

-- a turn of a loop that compares the words x of a table with the words y of a list
pub bad_turn_same : (l t : List ℕ) (u bad x y : ℕ) → eqb bad 0 ≡ every (row_same l t) u → x ≡ get_or t u 0 → y ≡ get_or l u 0
    → eqb (bit_or bad (bit_xor x y)) 0 ≡ every (row_same l t) (u + 1)
unfolding row_same
bad_turn_same l t u bad x y e p q = bad_turn (row_same l t) u bad (bit_xor x y) e (none_differ x y ∙ rw (p, q))

-- the same, where the table is a union, which is not written
pub bad_turn_union : (l s t : List ℕ) (n u bad y : ℕ) → u < n → eqb bad 0 ≡ every (row_same l (union n s t)) u → y ≡ get_or l u 0
    → eqb (bit_or bad (bit_xor (bit_or (get_or s u 0) (get_or t u 0)) y)) 0 ≡ every (row_same l (union n s t)) (u + 1)
unfolding union either_row
bad_turn_union l s t n u bad y h e q = bad_turn_same l (union n s t) u bad _ y e (sym (get_or-tab (either_row s t) n u h)) q

-- what the loops that gather stand on
pub ruleset gathers = (common_steps, every_none, bad_turn_same, bad_turn_union)
