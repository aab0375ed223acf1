-- `calls::whole_run` meets its contract: the start, the steps, the words set to zero, the report.
-- Assumes nothing.
use mathlib.Core.Path.{sym, ap, ◌∙◌}
use native.Mathlib.Omega.{arith}
use Rattle.place.specs.declared.Place.{Place}
use Rattle.place.specs.Places.{fresh, charged}
use Rattle.steps.specs.Walk.{reported}
use Rattle.calls.specs.Calls.{report_says, whole_start, whole_report}
use Rattle.calls.proofs.Loops.{start_settings, whole_starts, whole_ends, whole_beyond, list-cost}
use Rattle.calls.proofs.whole_run.Goals as goal

pub invariant_of-walk : goal.invariant_of-walk
unfolding whole_start charged fresh
invariant_of-walk c =
    let s = whole_starts _ _ _ _ _ _ c.requires (list-cost c.args.measure c.args.lent.now.m c.requires.cap) c.whole_start-p.ensures.place
    c.whole_start-p.auto.area in
    record { able = s.ready.able }

pub whole_steps-requires : goal.whole_steps-requires
unfolding whole_start charged fresh
whole_steps-requires c =
    let e = ap (λ (x : Place). x.settings.boards) c.whole_start-p.ensures.place in (
      whole_starts _ _ _ _ _ _ c.requires (list-cost c.args.measure c.args.lent.now.m c.requires.cap) c.whole_start-p.ensures.place
          c.whole_start-p.auto.area,
      sym e,
    )

pub zero_needed-requires : goal.zero_needed-requires
zero_needed-requires c =
    let e = start_settings c.args.lent.now.n c.args.measure c.args.lent.now.m _ _ c.whole_start-p.ensures.place in
    let r = c.requires.room in
    rw e (c.requires.few, c.requires.cap, grind arith)

pub returns : goal.returns
unfolding whole_report
returns c =
    let k = sym c.whole_steps.ensures.0.there in
    let b = c.whole_start-p.ensures in
    let e = start_settings c.args.lent.now.n c.args.measure c.args.lent.now.m _ _ b.place in
    let z = rw e at c.zero_needed.ensures in
    let r = whole_beyond c.args.lent.now.n c.args.measure c.args.lent.now.m c.args.lent.now.words.now c.args.area.now _ b
    c.whole_steps.ensures.1.beyond in (
      c.report.ensures ∙ ap (λ (x : Place). report_says (reported x) x)
          (whole_ends c.args.lent.now.n c.args.measure c.args.lent.now.m c.args.lent.now.words.now c.args.area.now c.requires b c.whole_start-p.auto.area
          c.whole_steps.ensures.0.made),
      grind arith,
    )
