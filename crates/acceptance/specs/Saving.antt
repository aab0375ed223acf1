-- REQUEST A2 of document 02, "Saving a recording", over the definitions that the call's promise cites: the file is `saving/specs/File.file`, the request's
-- sentence on the grammar's commands. Which numbers the call gives, when, and that a refused call changes nothing: Condition1.
use Rattle.std.specs.Prelude.{◌≡◌, List, [], ◌∷◌, ◌++◌, ℕ, ◌+◌, ◌*◌, ◌-◌, ◌/◌, ◌≤◌, ◌<◌, length, get_or, take, drop}
use Rattle.checks.specs.Lent.{lent_picks}
use Rattle.recording.specs.Answers.{read, read_at, read_says, read_leaves, read_at_says}
use Rattle.recording.specs.Grammar.{Reads}
use Rattle.saving.specs.File.{file}
use Rattle.saving.specs.Answers.{saved, save_says, save_leaves, saved_file}
use Rattle.saving.specs.May.{Enough}
use Rattle.saving.specs.Order.{InOrder}
use Rattle.acceptance.specs.Cases.{A}

-- THE FILE. What is written is the file of the recording lent, whatever the output was, and its length is answered: the same words always give the same
-- bytes.
abbrev pub SavedIsTheFile : Type 0
SavedIsTheFile = (n : ℕ) (w out : List ℕ) → (save_says n w out).refusal ≡ 0
    → (saved_file n w out ≡ file n (lent_picks n w (length w / n))) × ((save_says n w out).length ≡ length (file n (lent_picks n w (length w / n))))

-- THE ROUND TRIP. "With limit and output enough, the reader returns the same n and words from it": of every sequence that is saved, also of one without
-- picks, n, the number of picks and the words come back; the words beyond them stay.
abbrev pub SavedReadsBack : Type 0
SavedReadsBack = (n : ℕ) (w out : List ℕ) → (save_says n w out).refusal ≡ 0 → (limit : ℕ) (into : List ℕ) → Enough n (length w / n) limit into
    → (read_says limit (saved_file n w out) into ≡ read 0 n (length w / n)) × (read_leaves limit (saved_file n w out) into ≡ w ++ drop (length w) into)

-- Every file that is saved is one that the reader takes, with no byte after its 45: it is of the grammar, and a reader that stops at the 45 stops behind
-- the last byte.
abbrev pub SavedIsTaken : Type 0
SavedIsTaken = (n : ℕ) (w out : List ℕ) → (save_says n w out).refusal ≡ 0 → (limit : ℕ) (into : List ℕ) → Enough n (length w / n) limit into
    → Reads limit (length into) (saved_file n w out)
    × (read_at_says limit (saved_file n w out) 0 into ≡ read_at 0 n (length w / n) (save_says n w out).length)

-- what m picks over n boards, which were read as the words w, are once they are saved
pub record ReadsTheSame (n m : ℕ) (w out : List ℕ) : Type 0 where
  pub is_saved : (save_says n w out).refusal ≡ 0
  -- the file reads the same
  pub reads_same : (limit : ℕ) (into : List ℕ) → Enough n m limit into
      → (read_says limit (saved_file n w out) into ≡ read 0 n m) × (take (m * n) (read_leaves limit (saved_file n w out) into) ≡ w)
  -- and what is read from it, saved again, gives the same bytes
  pub same_bytes : (limit : ℕ) (into : List ℕ) → Enough n m limit into → (next : List ℕ)
      → ((save_says n (take (m * n) (read_leaves limit (saved_file n w out) into)) next).refusal ≡ 18 → ⊥)
      → saved_file n (take (m * n) (read_leaves limit (saved_file n w out) into)) next ≡ saved_file n w out

-- READ AND SAVED. Whatever file is read, what was read is refused by nothing but 18; saved, it gives a file that reads the same, and saving again gives
-- the same bytes.
abbrev pub ReadAndSaved : Type 0
ReadAndSaved = (limit : ℕ) (bytes into : List ℕ) (n m : ℕ) → read_says limit bytes into ≡ read 0 n m → (out : List ℕ)
    → ((save_says n (take (m * n) (read_leaves limit bytes into)) out).refusal ≡ 18 → ⊥) → ReadsTheSame n m (take (m * n) (read_leaves limit bytes into)) out

-- THE ORDER. "the links that shut, ascending by from and then to, then those that open in the same order, then 50; at last 45", said of the neighbours
-- among the file's commands, without its definition: `InOrder`.
abbrev pub SavedInOrder : Type 0
SavedInOrder = (n : ℕ) (w out : List ℕ) → (save_says n w out).refusal ≡ 0 → InOrder n (saved_file n w out)

-- "its length answered and later bytes left as they were", written or refused; no byte is added or taken away.
abbrev pub SavedBeyond : Type 0
SavedBeyond = (n : ℕ) (w out : List ℕ) → (length (save_leaves n w out) ≡ length out)
    × ((i : ℕ) → (save_says n w out).length ≤ i → get_or (save_leaves n w out) i 0 ≡ get_or out i 0)

-- So many bytes are always enough for m picks over n boards (the header's NOOKMALLOW_FILE_BYTES): 18 does not come.
abbrev pub BytesEnough : Type 0
BytesEnough = (n : ℕ) (w out : List ℕ) → 3 + length w / n * (n * (3 * (n - 1)) + 1) ≤ length out → (save_says n w out).refusal ≡ 18 → ⊥

-- Recording A gives the 28 bytes of document 01, in every output that has as many; in a shorter one it is 18.
abbrev pub SavesA : Type 0
SavesA = (out : List ℕ)
    → (28 ≤ length out → (save_says 2 A out ≡ saved 0 28)
    × (saved_file 2 A out ≡ 0x42 ∷ 0x02 ∷ 0x4F ∷ 0x00 ∷ 0x01 ∷ 0x50 ∷ 0x53 ∷ 0x00 ∷ 0x01 ∷ 0x4F ∷ 0x01 ∷ 0x00 ∷ 0x50 ∷ 0x53 ∷ 0x01 ∷ 0x00 ∷ 0x4F ∷ 0x00
    ∷ 0x01 ∷ 0x50 ∷ 0x53 ∷ 0x00 ∷ 0x01 ∷ 0x4F ∷ 0x01 ∷ 0x00 ∷ 0x50 ∷ 0x45 ∷ []))
    × (length out < 28 → save_says 2 A out ≡ saved 18 0)

-- "A sequence without picks is written too": 42 n 45.
abbrev pub SavesNone : Type 0
SavesNone = (n : ℕ) (out : List ℕ) → 2 ≤ n → n ≤ 32 → 3 ≤ length out
    → (save_says n [] out ≡ saved 0 3) × (saved_file n [] out ≡ 0x42 ∷ n ∷ 0x45 ∷ [])
