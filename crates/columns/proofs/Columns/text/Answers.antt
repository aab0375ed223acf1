-- `Columns::text` meets its contract. Assumes nothing.
use mathlib.Core.Path.{refl, ap, ◌∙◌}
use lib.ListN.{length}
use Rattle.lists.proofs.Splice.{splice-length, written-part}
use Rattle.columns.proofs.Columns.text.Goals as goal

pub returns : goal.returns
returns c = let e = written-part _ _ c.args.self.now.buf.now c.copy_from_slice.ensures.after in record {
  there = refl;
  long = ap length e ∙ splice-length _ _ _ _ refl c.args.self.now.inside c.requires;
  put = record { behind = refl; bytes = e };
}
