-- Request A2, proved. Assumes nothing.
use mathlib.Core.Path.{◌≡◌, refl, sym, ap, ◌∙◌}
use mathlib.Core.List.{List, [], ◌∷◌}
use Prim.Native.Nat.{ℕ, ◌*◌, ◌/◌, ◌≤◌}
use native.Mathlib.Nat.{le_refl, zero-mul, div-eq_of_lt}
use native.Mathlib.Omega.{arith}
use lib.Dec.{T}
use lib.ListN.{length, take}
use Rattle.model.specs.Recording.{bit, link}
use Rattle.lists.specs.Tab.{zeros, every}
use Rattle.links.specs.Picks.{lent_pick}
use Rattle.checks.specs.Checks.{allowed, clean_row, clean}
use Rattle.checks.specs.Lent.{lent_picks, clean_pick, clean_picks}
use Rattle.checks.proofs.Lent.{lent-recording}
use Rattle.recording.specs.Answers.{read, read_leaves}
use Rattle.recording.specs.Grammar.{spell_all, spell_file}
use Rattle.recording.proofs.Examples.{file_a}
use Rattle.saving.specs.File.{each, link_acts, row_acts, table_acts, change_acts, pick_acts, acts_at, file_acts, file}
use Rattle.saving.specs.Answers.{Saved, saved, lent_file, saved_file}
use Rattle.saving.specs.May.{LentSequence, MaySave, Enough}
use Rattle.saving.proofs.Causes.{save_exactly, save_fits, save_refused, save_room, eighteen_lent, eighteen_exactly}
use Rattle.saving.proofs.Trip.{file_in_order}
use Rattle.saving.proofs.Laws.{saved-file, reads_back, reads_whole, words_back, length_law, beyond_law, read_lent, enough_bytes}
use Rattle.acceptance.specs.Cases.{A}
use Rattle.acceptance.specs.Saving.{SavedIsTheFile, SavedReadsBack, SavedIsTaken, ReadAndSaved, SavedInOrder, SavedBeyond, BytesEnough, SavesA, SavesNone}

pub saved_is_the_file : SavedIsTheFile
unfolding lent_file
saved_is_the_file n w out e =
    let s = (save_exactly n w out).0 e in
    (saved-file n w out s, ap (λ (a : Saved). a.length) (save_fits n w out s).0)

pub saved_reads_back : SavedReadsBack
saved_reads_back n w out e = reads_back n w out ((save_exactly n w out).0 e)

pub saved_is_taken : SavedIsTaken
saved_is_taken n w out e = reads_whole n w out ((save_exactly n w out).0 e)

pub saved_in_order : SavedInOrder
unfolding lent_file
saved_in_order n w out e =
    let s = (save_exactly n w out).0 e in
    rw (saved-file n w out s) (file_in_order n (lent_picks n w (length w / n)) s.lent.recorded)

pub saved_beyond : SavedBeyond
saved_beyond n w out = (length_law n w out, beyond_law n w out)

pub bytes_enough : BytesEnough
bytes_enough n w out h e =
    let z = (save_exactly n w out).1 (enough_bytes n w out (eighteen_lent n w out e) h) in
    omega arith

-- ---- what was read, saved

pub read_and_saved : ReadAndSaved
read_and_saved limit bytes into n m e out f =
    let (many, lent) = read_lent limit bytes into n m e in
    let w = take (m * n) (read_leaves limit bytes into) in
    let s = save_room n w out lent f in
    let on : (k : ℕ) (to : List ℕ) → Enough n m k to → Enough n (length w / n) k to = λ k to h. rw many h in
    let long : length w ≡ m * n = lent.words ∙ ap (λ (k : ℕ). k * n) many in
    let back : (k : ℕ) (to : List ℕ) → Enough n m k to → take (m * n) (read_leaves k (saved_file n w out) to) ≡ w =
    λ k to h. ap (λ (i : ℕ). take i (read_leaves k (saved_file n w out) to)) (sym long) ∙ words_back n w out s k to (on k to h) in
    record {
      is_saved = (save_exactly n w out).1 s;
      reads_same = λ k to h. ((reads_back n w out s k to (on k to h)).0 ∙ ap (read 0 n) many, back k to h);
      same_bytes = λ k to h next g.
          let b = back k to h in
          ap (λ (v : List ℕ). saved_file n v next) b ∙ saved-file n w next (save_room n w next lent (λ q. g (rw b q))) ∙ sym (saved-file n w out s);
    }

-- ---- recording A

bytes_of-A : lent_file 2 A ≡ file_a
unfolding file_a bit link zeros lent_pick lent_picks each link_acts row_acts table_acts change_acts pick_acts acts_at file_acts spell_all spell_file file
    lent_file
bytes_of-A = refl

clean-A : T (clean_picks 2 A 4)
unfolding bit link every allowed clean_row clean lent_pick clean_pick clean_picks
clean-A = tt

lent-A : LentSequence 2 A
lent-A =
    record {
      boards = (omega arith, omega arith);
      words = refl;
      picks = omega arith;
      recorded = lent-recording 2 A 4 (omega arith) clean-A 4 (le_refl 4);
    }

pub saves-A : SavesA
unfolding file_a
saves-A out = (
  λ h. let s : MaySave 2 A out = record { lent = lent-A; room = rw bytes_of-A h } in
      ((save_fits 2 A out s).0 ∙ ap (λ (b : List ℕ). saved 0 (length b)) bytes_of-A, saved-file 2 A out s ∙ bytes_of-A),
  λ h. let e = (eighteen_exactly 2 A out).1 (lent-A, rw bytes_of-A h) in
      (save_refused 2 A out (λ z. omega arith)).0 ∙ ap (λ (c : ℕ). saved c 0) e,
)

-- ---- no picks

bytes_of_none : (n : ℕ) → 1 ≤ n → lent_file n [] ≡ 0x42 ∷ n ∷ 0x45 ∷ []
unfolding lent_picks each file_acts spell_all spell_file file lent_file
bytes_of_none n h = rw (div-eq_of_lt h)

pub saves_none : SavesNone
unfolding lent_picks
saves_none n out low high room =
    let b = bytes_of_none n (omega arith) in
    let z : 0 / n ≡ 0 = div-eq_of_lt (omega arith) in
    let l : LentSequence n [] = record { boards = (low, high); words = rw (z, zero-mul); picks = rw z (omega arith); recorded = rw z tt } in
    let s : MaySave n [] out = record { lent = l; room = rw b room } in
    ((save_fits n [] out s).0 ∙ ap (λ (f : List ℕ). saved 0 (length f)) b, saved-file n [] out s ∙ b)
