-- The table of commands: what its search finds, and the rule of its entries. Assumes nothing.
use mathlib.Core.Path.{◌≡◌, refl, sym}
use mathlib.Core.Bool.{Bool, true, false, cond}
use mathlib.Core.List.{List, [], ◌∷◌}
use Prim.Native.Nat.{ℕ}
use borrow.Author.Tests.{eqb-true}
use lib.Dec.{T, eqb, eqb→eq}
use Rattle.model.proofs.Logic.{and_l, and_r}
use Rattle.commands.specs.declared.Shape.{Shape}
use Rattle.std.specs.Prelude.{Some}
use Rattle.std.specs.Option.{option_map}
use Rattle.std.specs.List.{find}
use Rattle.commands.specs.Commands.{shapes, lookup, arity_of, command_of, operands_in, is_arity, ruled, every_shape}

-- what holds of each entry holds of every byte that a search finds, with its operand count
abbrev pub EachShape : (ℕ → ℕ → Type 0) → List Shape → Type 0
EachShape P [] = Unit {0}
EachShape P (s ∷ ss) = P s.byte s.operands × EachShape P ss

pub by_shape : (P : ℕ → ℕ → Type 0) (ss : List Shape) → EachShape P ss → (b k : ℕ) → lookup ss b ≡ Some k → P b k
unfolding lookup
by_shape P [] a b k e = absurd cc
by_shape P (s ∷ ss) a b k e = by (eqb s.byte b) refl e (by_shape P ss a.1 b k)
  where
    by : (x : Bool) → eqb s.byte b ≡ x → option_map (λ (t : Shape). t.operands) (cond x (Some s) (find (λ (t : Shape). eqb t.byte b) ss)) ≡ Some k
        → (lookup ss b ≡ Some k → P b k) → P b k
    by true q i more =
        let f : s.byte ≡ b = eqb-true s.byte b q in
        let o : s.operands ≡ k = cc in
        rw (sym f, sym o) a.0
    by false q i more = more i

-- ---- the rule

-- one test, computed over all entries
pub table_rule : (x y : ℕ) → T (every_shape (ruled x y) shapes)
unfolding ruled arity_of lookup command_of
table_rule x y = tt

each-ruled : (x y : ℕ) (ss : List Shape) → T (every_shape (ruled x y) ss) → EachShape (λ b k. operands_in (command_of b x y) ≡ k) ss
unfolding ruled
each-ruled x y [] t = tt
each-ruled x y (s ∷ ss) t =
    let w = is_arity (arity_of s.byte) s.operands in
    let c = operands_in (command_of s.byte x y) in
    let r = every_shape (ruled x y) ss in
    (eqb→eq c s.operands (and_r w (eqb c s.operands) (and_l (ruled x y s) r t)), each-ruled x y ss (and_r (ruled x y s) r t))

-- a known command byte has as many operands as its command
pub arity_law : (b k x y : ℕ) → arity_of b ≡ Some k → operands_in (command_of b x y) ≡ k
unfolding arity_of
arity_law b k x y e = by_shape (λ i o. operands_in (command_of i x y) ≡ o) shapes (each-ruled x y shapes (table_rule x y)) b k e
