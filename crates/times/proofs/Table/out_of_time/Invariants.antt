-- `times::Table::out_of_time` meets its contract. The invariant: `pairs` are those of the boards below `u`. Assumes nothing.
use Rattle.std.proofs.Common.{◌≡◌}
use Rattle.lists.specs.Tab.{how_many_pairs}
use Rattle.times.specs.Times.{not_in_time}
use Rattle.times.proofs.Table.out_of_time.Given as goal

abbrev pub invariant-loop-u : goal.invariant-loop-u
invariant-loop-u l = l.pairs ≡ how_many_pairs (not_in_time l.self.n l.turn l.self.words.now) l.u l.u
