-- What a saved file gives back, and what becomes of the output. Assumes nothing.
use mathlib.Core.Path.{◌≡◌, refl, sym, ap, ◌∙◌}
use mathlib.Core.Logic.{⊎_elim}
use mathlib.Core.List.{List, [], ◌++◌, append-nil}
use Prim.Native.Nat.{ℕ, zero, suc, ◌+◌, ◌*◌, ◌-◌, ◌/◌, ◌≤◌, zero-le}
use native.Mathlib.Nat.{zero-mul, suc-mul, mul-div_cancel, le_refl}
use native.Mathlib.Omega.{arith}
use lib.ListN.{length, get_or, take, drop}
use lib.Seq.{take-add, take-length, take_at}
use Rattle.model.specs.Recording.{Recording}
use Rattle.model.proofs.Logic.{eq_or}
use Rattle.lists.specs.Tab.{splice}
use Rattle.lists.proofs.Splice.{splice-length, word_after, read_inside}
use Rattle.links.specs.Picks.{lent_pick}
use Rattle.checks.specs.Lent.{lent_picks}
use Rattle.checks.proofs.Lent.{length_lent}
use Rattle.recording.specs.Format.{Content, ended, refused, recording_at, read_file, words, output_after}
use Rattle.recording.specs.Answers.{Read, read, read_at, file_says, read_says, read_leaves, read_at_says}
use Rattle.recording.specs.Grammar.{Reads}
use Rattle.recording.proofs.Laws.{number_positive, length-words, lent_back, is_alone}
use Rattle.recording.proofs.Grammar.{reads_exactly}
use Rattle.recording.proofs.Written.{words_snoc}
use Rattle.saving.specs.Answers.{Saved, lent_file, save_says, save_leaves, saved_file}
use Rattle.saving.specs.May.{LentSequence, MaySave, Enough}
use Rattle.saving.proofs.Causes.{save_exactly, save_fits, save_refused}
use Rattle.saving.proofs.Most.{file_most}
use Rattle.saving.proofs.Trip.{read_recording, trip}

words_lent : (n : ℕ) (w : List ℕ) (k : ℕ) → words (lent_picks n w k) ≡ take (k * n) w
unfolding lent_picks lent_pick
words_lent n w zero = unfold words in sym (ap (λ (i : ℕ). take i w) (zero-mul n))
words_lent n w (suc k) =
    words_snoc (lent_picks n w k) (take n (drop (k * n) w)) ∙ ap (λ (l : List ℕ). l ++ take n (drop (k * n) w)) (words_lent n w k)
    ∙ sym (take-add (k * n) n w) ∙ ap (λ (i : ℕ). take i w) (sym (suc-mul k n))

-- ---- a call that is not refused

module _ (n : ℕ) (w out : List ℕ) (s : MaySave n w out) where
  -- the bytes written are the file of the words, whatever the output was
  pub saved-file : saved_file n w out ≡ lent_file n w
  unfolding saved_file
  saved-file = rw ((save_fits n w out s).0, (save_fits n w out s).1) (read_inside 0 (length (lent_file n w)) (lent_file n w) out refl zero-le)

  module _ (limit : ℕ) (into : List ℕ) (e : Enough n (length w / n) limit into) where
    content : read_file limit (length into) (saved_file n w out) ≡ ended n (lent_picks n w (length w / n)) (length (lent_file n w))
    unfolding lent_file
    content =
        rw saved-file
        (trip n limit into (lent_picks n w (length w / n)) s.lent.boards.0 s.lent.boards.1 s.lent.recorded (rw length_lent e.few) e.some
        e.most e.room)

    -- THE ROUND TRIP: the reader gives the same n, number of picks and words
    pub reads_back : (read_says limit (saved_file n w out) into ≡ read 0 n (length w / n))
        × (read_leaves limit (saved_file n w out) into ≡ w ++ drop (length w) into)
    unfolding read_says read_leaves splice
    reads_back = (rw (content, length_lent), rw (content, words_lent n w (length w / n), sym s.lent.words, take-length w))

    -- the reader takes the file, and one that stops at the 45 stops behind the last byte
    pub reads_whole : Reads limit (length into) (saved_file n w out) × (read_at_says limit (saved_file n w out) 0 into ≡ read_at 0 n (length w / n)
        (save_says n w out).length)
    unfolding read_at_says
    reads_whole = (
      (reads_exactly limit (saved_file n w out) into).0 (ap (λ (r : Read). r.refusal) reads_back.0),
      rw (
        (is_alone (saved_file n w out) (recording_at limit (length into) (saved_file n w out) 0) n (lent_picks n w (length w / n)) (length (lent_file n w))
            (unfold read_file in content)).0,
        length_lent,
        (save_fits n w out s).0,
      ),
    )

    -- what was read is the words
    pub words_back : take (length w) (read_leaves limit (saved_file n w out) into) ≡ w
    words_back = ap (take (length w)) reads_back.1 ∙ take_at w (drop (length w) into) (length w) refl

-- ---- the output

pub length_law : (n : ℕ) (w out : List ℕ) → length (save_leaves n w out) ≡ length out
length_law n w out =
    ⊎_elim
    (λ e.
    let s = (save_exactly n w out).0 e in
    ap length (save_fits n w out s).1 ∙ splice-length 0 (length (lent_file n w)) (lent_file n w) out refl zero-le (omega (arith, s.room)))
    (λ f. ap length (save_refused n w out f).1) (eq_or (save_says n w out).refusal 0)

-- the bytes behind the file are as they were
pub beyond_law : (n : ℕ) (w out : List ℕ) (i : ℕ) → (save_says n w out).length ≤ i → get_or (save_leaves n w out) i 0 ≡ get_or out i 0
beyond_law n w out i h =
    ⊎_elim
    (λ e.
    let s = (save_exactly n w out).0 e in
    let q : (save_says n w out).length ≡ length (lent_file n w) = ap (λ (a : Saved). a.length) (save_fits n w out s).0 in
    ap (λ (l : List ℕ). get_or l i 0) (save_fits n w out s).1
    ∙ word_after 0 (length (lent_file n w)) (lent_file n w) out refl zero-le i (omega arith))
    (λ f. ap (λ (l : List ℕ). get_or l i 0) (save_refused n w out f).1) (eq_or (save_says n w out).refusal 0)

-- ---- every recording can be saved, and so can what was read

module _ (n : ℕ) (picks : List (List ℕ)) (low : 2 ≤ n) (r : Recording n picks) where
  count : length (words picks) / n ≡ length picks
  count = ap (λ (k : ℕ). k / n) (length-words n picks r) ∙ mul-div_cancel (length picks) (omega arith)

  back : lent_picks n (words picks) (length (words picks) / n) ≡ picks
  back =
      ap (lent_picks n (words picks)) count ∙ ap (λ (l : List ℕ). lent_picks n l (length picks)) (sym (append-nil (words picks)))
      ∙ lent_back n picks [] r (length picks) (le_refl (length picks)) ∙ take-length picks

  -- the words of a recording of up to 4,096 picks are a lent sequence
  lent_words : n ≤ 32 → length picks ≤ 4096 → LentSequence n (words picks)
  lent_words high few =
      record {
        boards = (low, high);
        words = length-words n picks r ∙ ap (λ (k : ℕ). k * n) (sym count);
        picks = rw count few;
        recorded = rw back r;
      }

module _ (limit : ℕ) (bytes into : List ℕ) (n m : ℕ) (e : read_says limit bytes into ≡ read 0 n m) where
  -- the words of the picks that were read are a lent sequence of as many picks
  pub read_lent : (length (take (m * n) (read_leaves limit bytes into)) / n ≡ m) × LentSequence n (take (m * n) (read_leaves limit bytes into))
  unfolding read_says read_leaves
  read_lent = by (read_file limit (length into) bytes) refl e
    where
      by : (o : Content) → read_file limit (length into) bytes ≡ o → file_says o ≡ read 0 n m
          → (length (take (m * n) (output_after o into)) / n ≡ m) × LentSequence n (take (m * n) (output_after o into))
      by (ended k picks end) q f =
          let (low, high, r, few) = read_recording limit bytes into k picks end q in
          let l = ((reads_exactly limit bytes into).0 (ap (λ (a : Read). a.refusal) e)).limit_high in
          let en : k ≡ n = ap (λ (a : Read). a.boards) f in
          let em : length picks ≡ m = ap (λ (a : Read). a.picks) f in
          let t : take (length picks * k) (splice 0 (length (words picks)) (words picks) into) ≡ words picks =
          ap (λ (i : ℕ). take i (splice 0 (length (words picks)) (words picks) into)) (sym (length-words k picks r))
          ∙ read_inside 0 (length (words picks)) (words picks) into refl zero-le in
          rw (sym en, sym em, t) (count k picks low r, lent_words k picks low r high (omega arith))
      by (refused c) q f = absurd (number_positive c (ap (λ (a : Read). a.refusal) f))

-- ---- so many bytes are enough

pub enough_bytes : (n : ℕ) (w out : List ℕ) → LentSequence n w → 3 + length w / n * (n * (3 * (n - 1)) + 1) ≤ length out → MaySave n w out
unfolding lent_file
enough_bytes n w out s h =
    let m = file_most n (lent_picks n w (length w / n)) s.recorded in
    record { lent = s; room = omega (arith, rw length_lent at m) }
