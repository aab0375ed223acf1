-- `times::Table::row_out_of_time` meets its contract. The invariant: `ways` are those of `u` with the boards below `to`. Assumes nothing.
use Rattle.std.proofs.Common.{◌≡◌}
use Rattle.times.specs.Pairs.{below_out_of_time}
use Rattle.times.proofs.Table.row_out_of_time.Given as goal

abbrev pub invariant-loop-to : goal.invariant-loop-to
invariant-loop-to l = l.ways ≡ below_out_of_time l.self.n l.turn l.self.words.now l.u l.to
