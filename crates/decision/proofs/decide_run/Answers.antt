-- `decision::decide_run` meets its contract: the start, the picks, the words set to zero, the answer.
-- Assumes nothing.
use mathlib.Core.Path.{sym, ap, ◌∙◌}
use native.Mathlib.Omega.{arith}
use Rattle.place.specs.declared.Place.{Place}
use Rattle.place.specs.Places.{fresh, charged}
use Rattle.calls.specs.Calls.{whole_start}
use Rattle.calls.proofs.Loops.{start_settings, whole_starts, whole_beyond, list-cost}
use Rattle.decision.specs.Decisions.{decided_at, decision_report}
use Rattle.decision.proofs.Held.{held_ends}
use Rattle.decision.proofs.decide_run.Goals as goal

pub invariant_of-walk : goal.invariant_of-walk
unfolding whole_start charged fresh
invariant_of-walk c =
    let r = c.requires.0 in
    let s = whole_starts _ _ _ _ _ _ r (list-cost c.args.measure c.args.lent.now.m r.cap) c.whole_start-p.ensures.place
    c.whole_start-p.auto.area in
    record { able = s.ready.able }

pub hold_picks-requires : goal.hold_picks-requires
unfolding whole_start charged fresh
hold_picks-requires c =
    let e = ap (λ (x : Place). x.settings.boards) c.whole_start-p.ensures.place in (
      whole_starts _ _ _ _ _ _ c.requires.0 (list-cost c.args.measure c.args.lent.now.m c.requires.0.cap) c.whole_start-p.ensures.place
          c.whole_start-p.auto.area,
      c.requires.1,
      sym e,
    )

pub zero_needed-requires : goal.zero_needed-requires
zero_needed-requires c =
    let e = start_settings c.args.lent.now.n c.args.measure c.args.lent.now.m _ _ c.whole_start-p.ensures.place in
    let r = c.requires.0.room in
    rw e (c.requires.0.few, c.requires.0.cap, grind arith)

pub returns : goal.returns
unfolding decision_report
returns c =
    let h = c.hold_picks.ensures in
    let k = sym h.0 in
    let b = c.whole_start-p.ensures in
    let e = start_settings c.args.lent.now.n c.args.measure c.args.lent.now.m _ _ b.place in
    let z = rw e at c.zero_needed.ensures in
    let r = whole_beyond c.args.lent.now.n c.args.measure c.args.lent.now.m c.args.lent.now.words.now c.args.area.now _ b h.1.beyond in (
      c.answer_at.ensures ∙ ap decided_at (held_ends c.args.lent.now.n c.args.measure c.args.lent.now.m c.args.k c.args.lent.now.words.now c.args.area.now
          c.requires.0 c.requires.1 b c.whole_start-p.auto.area h.1.does),
      grind arith,
    )
