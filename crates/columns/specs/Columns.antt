-- What the methods that write promise.
use Rattle.std.specs.Prelude.{◌≡◌, List, ℕ, ◌+◌, ◌≤◌, length}
use Rattle.columns.specs.declared.Columns.{Columns}
use Rattle.columns.specs.Text.{Put}

abbrev pub HasRoom : Columns → ℕ → Type 0
HasRoom out k = out.at + k ≤ length out.buf.now

-- they are put behind what was written, in the same buffer
pub record Appends (out after : Columns) (xs : List ℕ) : Type 0 where
  pub there : after.buf.ghost_name ≡ out.buf.ghost_name
  pub long : length after.buf.now ≡ length out.buf.now
  pub put : Put out.buf.now out.at xs after.at after.buf.now
