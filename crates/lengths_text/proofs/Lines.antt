-- The lines of the measures, one behind the other, and what stands under the header. Assumes nothing.
use mathlib.Core.Path.{◌≡◌, refl, sym, ap, ◌∙◌}
use mathlib.Core.List.{List, [], ◌++◌}
use Prim.Native.Nat.{ℕ, zero, suc, ◌+◌, ◌-◌, ◌*◌, ◌≤◌}
use native.Mathlib.Numerals.{add-one}
use native.Mathlib.Omega.{arith}
use lib.ListN.{length, take}
use Rattle.std.proofs.lemmas.List.{length-take-le}
use Rattle.columns.proofs.Appends.{appends_none, appends_then}
use Rattle.columns.specs.Text.{line5}
use Rattle.columns.specs.declared.Cell.TheVariants.{Number, Dash, File}
use Rattle.model.specs.Refusals.{number}
use Rattle.model.specs.declared.Refusal.{Refusal}
use Rattle.model.proofs.Refusals.{number_some}
use Rattle.lists.specs.Tab.{zeros}
use Rattle.lists.proofs.Tab.{length-zeros}
use Rattle.recording.proofs.Laws.{read_law}
use Rattle.recording.specs.Answers.{read, read_says, read_leaves}
use Rattle.lengths_text.specs.LengthsText.{row_of, line_of, lines_of, under_header}

pub lines_none : (n k : ℕ) (w : List ℕ) → lines_of n k w (1 - 1) ≡ []
unfolding lines_of
lines_none n k w = refl

pub lines_next : (n k : ℕ) (w : List ℕ) (m : ℕ) → 1 ≤ m → lines_of n k w (m + 1 - 1) ≡ lines_of n k w (m - 1) ++ line_of m (row_of n k w m)
unfolding lines_of
lines_next n k w zero h = absurd (omega arith)
lines_next n k w (suc m) h =
    let before : suc m - 1 ≡ m = omega arith in
    let behind : suc m + 1 - 1 ≡ suc m = omega arith in
    rw (behind, before, add-one m) refl

pub ruleset lines = (appends_none, appends_then, lines_none, lines_next)

-- what stands under the header
module _ (bytes words : List ℕ) (e : words ≡ zeros 1280) where
  -- of a file that is read: `left` are the words after it
  pub words_read : (limit n k : ℕ) (left : List ℕ) → read_says limit bytes words ≡ read 0 n k → left ≡ read_leaves limit bytes words
      → (k * n ≤ 1280) × ((k * n ≤ length left) × (k * n ≡ length (take (k * n) left)))
  words_read limit n k left q l =
      let g = read_law limit bytes words n k q in
      let room : k * n ≤ length left = rw l g.room_for in
      (omega (arith, g.room_for, g.long, ap length e ∙ length-zeros 1280), (room, sym (length-take-le (k * n) left room)))

  pub of_read : (n k : ℕ) (left : List ℕ) → read_says 40 bytes words ≡ read 0 n k → left ≡ read_leaves 40 bytes words
      → lines_of n k (take (k * n) left) 4 ≡ under_header (read_says 40 bytes (zeros 1280)) (read_leaves 40 bytes (zeros 1280))
  unfolding under_header
  of_read n k left q l = rw (sym e, q, sym l)

  -- of a file that is refused
  pub of_refused : (r : Refusal) → read_says 40 bytes words ≡ read (number r) 0 0
      → line5 File Dash (Number (number r)) (Number 0) (Number 0) ≡ under_header (read_says 40 bytes (zeros 1280)) (read_leaves 40 bytes (zeros 1280))
  unfolding under_header
  of_refused r q = rw (sym e, q, number_some r)

pub ruleset readings = (words_read, of_read, of_refused)
