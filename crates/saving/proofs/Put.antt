-- Bytes put at a place of the output, and the invariant of the loops that write. Assumes nothing.
use mathlib.Core.Path.{◌≡◌, refl, ap, ◌∙◌}
use mathlib.Core.Bool.{Bool}
use mathlib.Core.Logic.{⊎_elim}
use mathlib.Core.List.{List, [], ◌∷◌, ◌++◌}
use Prim.Native.Nat.{ℕ, zero, suc, ◌+◌, ◌≤◌, ◌<◌, zero-le}
use native.Mathlib.Nat.{add-zero, eq-or-lt_of_le}
use native.Mathlib.Numerals.{add-one}
use native.Mathlib.Omega.{arith}
use lib.ListN.{length, set, length-append, length-set}
use Rattle.lists.specs.Tab.{splice}
use Rattle.lists.proofs.Splice.{splice-more, splice-set, splice_none, splice-length}
use Rattle.recording.specs.Grammar.{Act, code, sets, pick, spell_file}
use Rattle.saving.specs.File.{each}
use Rattle.saving.specs.Puts.{bytes_of, Puts}
use Rattle.saving.proofs.Acts.{each_within, bytes_append, bytes_length, bytes_all}

-- a byte behind those that are put
set_more : (at e v : ℕ) (xs out : List ℕ) {j : ℕ} → length xs ≡ e → j ≡ at + e → j < length out
    → set (splice at e xs out) j v ≡ splice at (e + 1) (xs ++ (v ∷ [])) out
set_more at e v xs out {j} size q room =
    let low : at ≤ length out = omega arith in
    splice-set j v (splice at e xs out) (omega (arith, splice-length at e xs out size low (omega arith))) ∙ splice-more at e xs out size low j 1 (v ∷ []) q

-- two stores, and three
set_two : (at x y : ℕ) (out : List ℕ) → at + 2 ≤ length out → set (set out at x) (at + 1) y ≡ splice at 2 (x ∷ y ∷ []) out
set_two at x y out room = rw (splice-set at x out (omega arith)) (set_more at 1 y (x ∷ []) out refl refl (omega arith))

set_three : (at x y z : ℕ) (out : List ℕ) → at + 3 ≤ length out → set (set (set out at x) (at + 1) y) (at + 2) z ≡ splice at 3 (x ∷ y ∷ z ∷ []) out
set_three at x y z out room = rw (set_two at x y out (omega arith)) (set_more at 2 z (x ∷ y ∷ []) out refl refl (omega arith))

-- ---- commands put

pub puts_none : {out : List ℕ} {at : ℕ} {xs : List Act} → xs ≡ [] → Puts out out at at xs
unfolding bytes_of
puts_none {out} {at} e = record { ends = rw (e, add-zero); made = rw e (splice_none at out) }

-- the three bytes of a command, each put behind the one before
module _ {x : Bool} {a b at c at₁ at₂ at₃ : ℕ} {out out₁ out₂ out₃ : List ℕ} (e : c ≡ code x) (room : at + 3 ≤ length out)
    (i : at₁ ≡ at + 1) (j : at₂ ≡ at₁ + 1) (k : at₃ ≡ at₂ + 1) (f : out₁ ≡ set out at c) (g : out₂ ≡ set out₁ at₁ a) (h : out₃ ≡ set out₂ at₂ b) where
  pub puts_link : Puts out out₃ at at₃ (sets x a b ∷ [])
  unfolding bytes_of
  puts_link =
      let l : at₂ ≡ at + 2 = omega arith in
      record { ends = omega arith; made = h ∙ rw (l, g, i, f, e) (set_three at (code x) a b out room) }

pub puts_pick : {at : ℕ} {out : List ℕ} → at < length out → Puts out (set out at 0x50) at (at + 1) (pick ∷ [])
unfolding bytes_of
puts_pick {at} {out} room = record { ends = refl; made = splice-set at 0x50 out room }

module _ {out after : List ℕ} {at mid : ℕ} {xs : List Act} (room : at + length (bytes_of xs) ≤ length out) (p : Puts out after at mid xs) where
  pub puts_long : length after ≡ length out
  puts_long = ap length p.made ∙ splice-length at (length (bytes_of xs)) (bytes_of xs) out refl (omega arith) room

  -- others behind them
  pub puts_more : {last : List ℕ} {behind : ℕ} {ys : List Act} → Puts after last mid behind ys → Puts out last at behind (xs ++ ys)
  puts_more {ys = ys} q = record {
    ends = q.ends ∙ rw (p.ends, bytes_length xs ys) (omega arith);
    made = q.made ∙ rw (p.made, bytes_length xs ys, bytes_append xs ys)
        (splice-more at (length (bytes_of xs)) (bytes_of xs) out refl (omega arith) mid (length (bytes_of ys)) (bytes_of ys) p.ends);
  }

-- room for both is room for each
module _ (out : List ℕ) (at : ℕ) (xs ys : List Act) (room : at + length (bytes_of (xs ++ ys)) ≤ length out) where
  pub first_room : at + length (bytes_of xs) ≤ length out
  first_room = omega (arith, bytes_length xs ys)

  pub second_room : {after : List ℕ} {mid : ℕ} → Puts out after at mid xs → mid + length (bytes_of ys) ≤ length after
  second_room p = omega (arith, bytes_length xs ys, p.ends, puts_long first_room p)

-- ---- the loops

-- The invariant of a loop that writes f 0, f 1, .., f (m - 1) from `at` on: those before k are put.
pub record Wrote (f : ℕ → List Act) (m at : ℕ) (out₀ out : List ℕ) (next k : ℕ) : Type 0 where
  pub room : at + length (bytes_of (each f m)) ≤ length out₀
  pub low : k ≤ m
  pub puts : Puts out₀ out at next (each f k)

pub wrote_start : {f : ℕ → List Act} {m at : ℕ} {out₀ : List ℕ} → at + length (bytes_of (each f m)) ≤ length out₀ → Wrote f m at out₀ out₀ at 0
unfolding each
wrote_start h = record { room = h; low = zero-le; puts = puts_none refl }

module _ {f : ℕ → List Act} {m at : ℕ} {out₀ out : List ℕ} {next k : ℕ} (w : Wrote f m at out₀ out next k) where
  fits : at + length (bytes_of (each f k)) ≤ length out₀
  fits =
      ⊎_elim (λ (e : k ≡ m). rw e w.room) (λ (h : k < m). omega (arith, each_within f m k h, w.room)) (eq-or-lt_of_le w.low)

  pub wrote_long : length out ≡ length out₀
  wrote_long = puts_long fits w.puts

  pub wrote_room : k < m → next + length (bytes_of (f k)) ≤ length out
  wrote_room h = omega (arith, each_within f m k h, w.room, w.puts.ends, wrote_long)

  pub wrote_turn : k < m → {out₂ : List ℕ} {next₂ : ℕ} → Puts out out₂ next next₂ (f k) → Wrote f m at out₀ out₂ next₂ (k + 1)
  unfolding each
  wrote_turn h q = record { room = w.room; low = omega arith; puts = rw add-one (puts_more fits w.puts q) }

  pub wrote_all : m ≤ k → Puts out₀ out at next (each f m)
  wrote_all h = let e : k ≡ m = omega (arith, w.low) in rw e at w.puts

-- where nothing is to be written the loop is as far
pub wrote_on : {f : ℕ → List Act} {m at : ℕ} {out₀ out : List ℕ} {next k : ℕ} (j : ℕ) → k ≤ j → j ≤ m → ((i : ℕ) → k ≤ i → i < j → f i ≡ [])
    → Wrote f m at out₀ out next k → Wrote f m at out₀ out next j
wrote_on {k = k} zero l h z w = let e : k ≡ 0 = omega arith in rw e at w
wrote_on {k = k} (suc j) l h z w =
    ⊎_elim (λ (e : k ≡ suc j). rw e at w)
    (λ (b : k < suc j). let q = wrote_on j (omega arith) (omega arith) (λ i s t. z i s (omega arith)) w in
    rw add-one at (wrote_turn q h (puts_none (z j (omega arith) (omega arith)))))
    (eq-or-lt_of_le l)

-- ---- the file: 42 and n, the commands, 45

module _ (n : ℕ) (acts : List Act) (out : List ℕ) (room : length (spell_file n acts) ≤ length out) where
  file_is : spell_file n acts ≡ (0x42 ∷ n ∷ []) ++ (bytes_of acts ++ (0x45 ∷ []))
  unfolding spell_file
  file_is = rw (bytes_all acts)

  file_long : length (spell_file n acts) ≡ 2 + length (bytes_of acts) + 1
  file_long = rw (file_is, length-append, length-append) (omega arith)

  pub file_room : 2 + length (bytes_of acts) + 1 ≤ length out
  file_room = omega (arith, file_long)

  head : set (set out 0 0x42) 1 n ≡ splice 0 2 (0x42 ∷ n ∷ []) out
  head = set_two 0 0x42 n out (omega (arith, file_room))

  pub head_long : length (set (set out 0 0x42) 1 n) ≡ length out
  head_long = simp length-set

  module _ {last : List ℕ} {next : ℕ} (p : Puts (set (set out 0 0x42) 1 n) last 2 next acts) where
    pub last_long : length last ≡ length out
    last_long = puts_long (omega (arith, file_room, head_long)) p ∙ head_long

    pub last_room : next < length last
    last_room = omega (arith, file_room, last_long, p.ends)

    pub file_put : set last next 0x45 ≡ splice 0 (length (spell_file n acts)) (spell_file n acts) out
    file_put =
        let e : last ≡ splice 0 (2 + length (bytes_of acts)) ((0x42 ∷ n ∷ []) ++ bytes_of acts) out
        = p.made ∙ rw head (splice-more 0 2 (0x42 ∷ n ∷ []) out refl zero-le 2 (length (bytes_of acts)) (bytes_of acts) refl) in
        rw (e, file_long, file_is)
        (set_more 0 (2 + length (bytes_of acts)) 0x45 ((0x42 ∷ n ∷ []) ++ bytes_of acts) out (omega arith) (omega (arith, p.ends))
        (omega (arith, last_room, last_long)))
