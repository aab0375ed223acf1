-- Words lent as picks, gone through n by n, as a loop over chunks does: what is left behind the first k of m picks. Assumes nothing.
use mathlib.Core.Path.{◌≡◌, sym, ap, ap₂, ◌∙◌}
use mathlib.Core.List.{List, ◌++◌}
use Prim.Native.Nat.{ℕ, zero, suc, ◌+◌, ◌*◌, ◌≤◌, ◌<◌}
use native.Mathlib.Nat.{zero-mul, suc-mul, add-mul, add_comm}
use native.Mathlib.Numerals.{add-one}
use native.Mathlib.Omega.{arith}
use lib.ListN.{length, take, drop, length-drop}
use lib.Seq.{length-take-le}
use Rattle.std.proofs.Math.Seq.{take-append_seam, drop-append_seam}
use Rattle.std.proofs.lemmas.List.{drop-drop, drop-take, take-take, length-append}
use Rattle.links.specs.Picks.{lent_pick}

pub record Behind (n m : ℕ) (w : List ℕ) (k : ℕ) (rest : List ℕ) : Type 0 where
  -- how many picks are left
  pub left : ℕ
  pub all : k + left ≡ m
  pub words : rest ≡ take (left * n) (drop (k * n) w)

-- the words of all m picks
pub behind_all : (n m : ℕ) (w : List ℕ) → Behind n m w 0 (take (m * n) w)
behind_all n m w = record { left = m; all = omega arith; words = ap (λ (x : ℕ). take (m * n) (drop x w)) (sym (zero-mul n)) }

module _ {n m : ℕ} {w : List ℕ} {k : ℕ} {rest : List ℕ} (room : m * n ≤ length w) (b : Behind n m w k rest) where
  behind_length : length rest ≡ b.left * n
  behind_length =
      let f : k * n + b.left * n ≡ m * n = sym (add-mul k b.left n) ∙ ap (λ (x : ℕ). x * n) b.all in
      ap length b.words ∙ length-take-le (b.left * n) (drop (k * n) w) (omega (arith, length-drop (k * n) w))

  -- no pick is left where there are fewer words than one has
  pub behind_none : length rest < n → k ≡ m
  behind_none h = none b.left b.all behind_length where
    none : (j : ℕ) → k + j ≡ m → length rest ≡ j * n → k ≡ m
    none zero e l = omega arith
    none (suc j) e l = absurd (omega (arith, suc-mul j n))

  -- where a pick is left, it is the next n words, and so on behind it
  pub record Turn (p rest' : List ℕ) : Type 0 where
    pub more : k < m
    pub pick : p ≡ lent_pick n w k
    pub behind : Behind n m w (k + 1) rest'

  pub behind_turn : {p rest' : List ℕ} → 1 ≤ n → rest ≡ p ++ rest' → length p ≡ n → Turn p rest'
  unfolding lent_pick
  behind_turn {p} {rest'} some e h = turn b.left b.all b.words where
    long : length rest ≡ n + length rest'
    long = ap length e ∙ length-append p rest' ∙ ap (λ (x : ℕ). x + length rest') h

    first : take n rest ≡ p
    first = ap₂ take (sym h) e ∙ take-append_seam p rest'

    last : drop n rest ≡ rest'
    last = ap₂ drop (sym h) e ∙ drop-append_seam p rest'

    turn : (j : ℕ) → k + j ≡ m → rest ≡ take (j * n) (drop (k * n) w) → Turn p rest'
    turn zero f g = absurd (let z : length rest ≡ 0 = ap length (g ∙ ap (λ (x : ℕ). take x (drop (k * n) w)) (zero-mul n)) in omega (arith, long))
    turn (suc j) f g =
        let x : rest ≡ take (n + j * n) (drop (k * n) w) = g ∙ ap (λ (x : ℕ). take x (drop (k * n) w)) (suc-mul j n ∙ add_comm (j * n) n) in
        record {
          more = omega arith;
          pick = sym first ∙ ap (take n) x ∙ take-take n (n + j * n) (drop (k * n) w) (omega arith);
          behind = record {
            left = j;
            all = omega arith;
            words = sym last ∙ ap (drop n) x ∙ drop-take n (j * n) (drop (k * n) w) ∙ ap (take (j * n)) (drop-drop n (k * n) w)
                ∙ ap (λ (x : ℕ). take (j * n) (drop x w)) (sym (suc-mul k n)) ∙ rw add-one;
          };
        }
