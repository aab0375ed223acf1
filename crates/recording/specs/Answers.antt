-- 01's number and values for each case of each answer, and what the calls answer and leave.
use Rattle.std.specs.Prelude.{◌≡◌, Bool, cond, Result, Ok, Err, List, ℕ, length}
use Rattle.model.specs.declared.Refusal.{Refusal}
use Rattle.model.specs.Refusals.{number}
use Rattle.recording.specs.declared.Part.{Part}
use Rattle.recording.specs.declared.Reading.{Reading}
use Rattle.recording.specs.Format.{Content, ended, refused, recording_at, read_file, output_after}

-- the number of the refusal, 0 for none; n and the number of picks, 0 where refused
pub record Read : Type 0 where
  pub refusal : ℕ
  pub boards : ℕ
  pub picks : ℕ

abbrev pub read : ℕ → ℕ → ℕ → Read
read c n k = record { refusal = c; boards = n; picks = k }

-- with the place behind the 45, 0 where refused
pub record ReadAt : Type 0 where
  pub refusal : ℕ
  pub boards : ℕ
  pub picks : ℕ
  pub end : ℕ

abbrev pub read_at : ℕ → ℕ → ℕ → ℕ → ReadAt
read_at c n k e = record { refusal = c; boards = n; picks = k; end = e }

-- ---- the cases of the answers

abbrev pub reading_says : Result Reading Refusal → Read
reading_says (Ok r) = read 0 r.boards r.picks
reading_says (Err c) = read (number c) 0 0

abbrev pub part_says : Result Part Refusal → ReadAt
part_says (Ok p) = read_at 0 p.reading.boards p.reading.picks p.end
part_says (Err c) = read_at (number c) 0 0 0

-- ---- what the file says

abbrev pub file_says : Content → Read
file_says (ended n picks end) = read 0 n (length picks)
file_says (refused r) = read (number r) 0 0

abbrev pub part_of : Content → Result Part Refusal
part_of (ended n picks end) = Ok (record { reading = record { boards = n; picks = length picks }; end = end })
part_of (refused r) = Err r

-- going over a recording answers what it is, and leaves its words only where it writes
pub record GoneOver (writes : Bool) (o : Content) (out : List ℕ) (r : Result Part Refusal) (left : List ℕ) : Type 0 where
  pub says : r ≡ part_of o
  pub leaves : left ≡ cond writes (output_after o out) out

-- ---- `read`

unfoldable pub read_says : ℕ → List ℕ → List ℕ → Read
read_says limit bytes out = file_says (read_file limit (length out) bytes)

unfoldable pub read_leaves : ℕ → List ℕ → List ℕ → List ℕ
read_leaves limit bytes out = output_after (read_file limit (length out) bytes) out

-- ---- `read_at`

unfoldable pub read_at_says : ℕ → List ℕ → ℕ → List ℕ → ReadAt
read_at_says limit bytes start out = part_says (part_of (recording_at limit (length out) bytes start))

unfoldable pub read_at_leaves : ℕ → List ℕ → ℕ → List ℕ → List ℕ
read_at_leaves limit bytes start out = output_after (recording_at limit (length out) bytes start) out
