-- `times::own` meets its contract: the rows so far are made. Assumes nothing.
use Rattle.times.specs.Times.{own_time}
use Rattle.times.proofs.Rows.{Rowed}
use Rattle.times.proofs.own.Given as goal

abbrev pub invariant-loop-u : goal.invariant-loop-u
invariant-loop-u l = Rowed l.n (own_time l.p l.joined) l.initial.out l.out l.u
