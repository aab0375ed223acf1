-- What the functions that write promise, said of a change, of an output and of the words that were lent.
use Rattle.std.specs.Prelude.{◌≡◌, Bool, List, ℕ, ◌+◌, ◌≤◌, length}
use Rattle.checks.specs.Lent.{lent_picks}
use Rattle.recording.specs.Grammar.{Act}
use Rattle.saving.specs.declared.Change.{Change}
use Rattle.saving.specs.declared.File.{File}
use Rattle.saving.specs.declared.Output.{Output}
use Rattle.saving.specs.File.{row_acts, table_acts, change_acts, pick_acts, file}
use Rattle.saving.specs.Puts.{bytes_of, Puts}

-- the commands of a change: those of the links from one board, those of all links, that open or shut; all, and the 50 behind them
abbrev pub row_of : Bool → Change → ℕ → List Act
row_of opens c a = row_acts opens c.was.now c.is.now (length c.was.now) a

abbrev pub table_of : Bool → Change → List Act
table_of opens c = table_acts opens c.was.now c.is.now (length c.was.now)

abbrev pub changes_of : Change → List Act
changes_of c = change_acts (length c.was.now) c.was.now c.is.now

abbrev pub pick_of : Change → List Act
pick_of c = pick_acts (length c.was.now) c.was.now c.is.now

-- how many bytes they have
abbrev pub size_of : List Act → ℕ
size_of xs = length (bytes_of xs)

abbrev pub HasRoom : Output → List Act → Type 0
HasRoom out xs = out.at + size_of xs ≤ length out.bytes.now

-- they are put behind what the output has, which lies where it did
pub record Appends (out after : Output) (xs : List Act) : Type 0 where
  pub there : after.bytes.ghost_name ≡ out.bytes.ghost_name
  pub made : Puts out.bytes.now after.bytes.now out.at after.at xs

-- the picks that were lent, and their file
abbrev pub picks_of : File → List (List ℕ)
picks_of l = lent_picks l.lent.n l.lent.words.now l.lent.m

abbrev pub file_of : File → List ℕ
file_of l = file l.lent.n (picks_of l)
