-- `Walk::step` meets its contract: the pick entered, the test, under measure 1 the climb, and part limit + 4 set to zero make the step; where the area
-- is not kept, and where the window is held, the test ends it, or the pick that comes before the first one.
-- Assumes nothing.
use mathlib.Core.Path.{sym, ◌∙◌, refl}
use native.Mathlib.Omega.{arith}
use lib.Dec.{eqb}
use borrow.Author.Tests.{eq-eqb, ne_eqb}
use Rattle.place.proofs.Laws.{and_left, and_right}
use Rattle.steps.specs.Walk.{ended, stepped, max_step}
use Rattle.steps.specs.Modes.{kept_by}
use Rattle.steps.proofs.Fit.{fit_less}
use Rattle.steps.proofs.Grown.{try_climbs}
use Rattle.steps.proofs.Closes.{enters_tries, rise_walked, moves_max, moves_min, finished_live, max_closes, min_closes, entered-spared}
use Rattle.steps.proofs.Closes.{does_walked, kept-one, over_walked, live_walked, untested_closes, judged_closes, held_closes}
use Rattle.steps.proofs.Walk.step.Goals as goal

pub returns-then-is_over : goal.returns-then-is_over
unfolding stepped max_step
returns-then-is_over c =
    let p = c.args.self.now.place in
    let o = over_walked c.args.mode p (sym c.is_over.ensures ∙ c.if-is_over.true) in
    let one = and_left (eqb p.settings.measure 1) (ended p) o.1 in
    let end = and_right (eqb p.settings.measure 1) (ended p) o.1 in
    does_walked c.args.self.now _ _ c.args.mode o.0 (kept-one p.settings (kept_by c.args.mode) one)
    (simp (one, end) record { there = refl; made = (c.picks_taken-self.ensures, refl) })

pub returns-then-is_untested : goal.returns-then-is_untested
returns-then-is_untested c =
    untested_closes _ _ _ c.enter.ensures c.args.mode (sym c.is_untested.ensures ∙ c.if-is_untested.true) c.rise_by-by.ensures

pub judge_ladders-requires : goal.judge_ladders-requires
judge_ladders-requires c =
    let f = enters_tries _ _ _ c.args.mode _ c.args.self.now.able.cap c.requires c.rise_by-by.ensures c.enter.ensures.made in
    (fit_less 1 (omega arith) f, entered-spared _ _ _ c.enter.ensures c.is_kept-kept.result (sym c.is_spared.ensures ∙ c.if-is_spared.true))

pub returns-then-is_spared : goal.returns-then-is_spared
returns-then-is_spared c =
    let e = rw c.is_kept-kept.ensures at (sym c.is_spared.ensures ∙ c.if-is_spared.true) in
    judged_closes _ _ _ c.enter.ensures c.args.mode e (sym c.is_untested.ensures ∙ c.if-is_untested.false) c.rise_by-by.ensures c.judge_ladders.ensures

pub try_window-requires : goal.try_window-requires
try_window-requires c =
    fit_less 1 (omega arith) (enters_tries _ _ _ c.args.mode _ c.args.self.now.able.cap c.requires c.rise_by-by.ensures c.enter.ensures.made)

pub returns-then-is_held : goal.returns-then-is_held
returns-then-is_held c =
    let e = rw c.is_kept-kept.ensures at (sym c.is_spared.ensures ∙ c.if-is_spared.false) in
    held_closes _ _ _ c.enter.ensures c.args.mode (sym c.is_held.ensures ∙ c.if-is_held.true) e
    (sym c.is_untested.ensures ∙ c.if-is_untested.false) c.rise_by-by.ensures c.try_window.ensures

pub climb-requires : goal.climb-requires
climb-requires c =
    try_climbs _ _ (enters_tries _ _ _ c.args.mode _ c.args.self.now.able.cap c.requires c.rise_by-by.ensures c.enter.ensures.made) c.try_window.ensures.made

pub returns-then-p-eq1 : goal.returns-then-p-eq1
unfolding stepped
returns-then-p-eq1 c =
    let w = c.args.self.now in
    let one = c.if-p-eq1.true in
    let e = eq-eqb _ _ one in
    let held = sym c.is_held.ensures ∙ c.if-is_held.false in
    let m = moves_max w.place one (rise_walked c.args.mode w.place held c.rise_by-by.ensures) in
    let ahead = rw (sym c.rise_by-by.ensures) at c.requires.entry.ahead in
    let live = finished_live w.place one (live_walked c.args.mode w.place held (sym c.is_over.ensures ∙ c.if-is_over.false)) in
    does_walked w _ _ c.args.mode held (kept-one w.place.settings (kept_by c.args.mode) e)
    (simp e (max_closes _ _ _ c.enter.ensures ahead live m c.try_window.ensures c.climb.ensures c.clear_spare.ensures))

pub returns : goal.returns
unfolding stepped
returns c =
    let w = c.args.self.now in
    let held = sym c.is_held.ensures ∙ c.if-is_held.false in
    let k = rw c.is_kept-kept.ensures at (sym c.is_spared.ensures ∙ c.if-is_spared.false) in
    let m = moves_min w.place c.if-p-eq1.false (rise_walked c.args.mode w.place held c.rise_by-by.ensures) in
    does_walked w _ _ c.args.mode held k
    (simp (ne_eqb _ _ c.if-p-eq1.false) (min_closes _ _ _ c.enter.ensures m c.try_window.ensures c.clear_spare-2.ensures))
