-- `times::own_row` meets its contract. The invariant is `Made`. Assumes nothing.
use Rattle.lists.proofs.Tab.{Made}
use Rattle.times.specs.Own.{own_word}
use Rattle.times.proofs.own_row.Given as goal

abbrev pub invariant-loop-v : goal.invariant-loop-v
invariant-loop-v l = Made (own_word l.pick l.word) l.initial.row l.row l.v
