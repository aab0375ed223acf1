-- `lengths_text::put_measures` meets its contract. The invariant: the lines of the measures passed are put. Assumes nothing.
use Prim.Native.Nat.{◌+◌, ◌-◌, ◌*◌, ◌≤◌}
use Rattle.columns.specs.Columns.{Appends}
use Rattle.lengths_text.specs.LengthsText.{lines_of}
use Rattle.lengths_text.proofs.put_measures.Given as goal

abbrev pub invariant-loop-measure : goal.invariant-loop-measure
invariant-loop-measure l = record {
  put : Appends l.initial.out l.out (lines_of l.n l.picks l.words (l.measure - 1));
  few : l.out.at ≤ l.initial.out.at + 105 * (l.measure - 1);
}
