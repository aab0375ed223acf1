-- `Walk::judge_ladders` meets its contract, by the ladders that the window lies on.
-- Assumes nothing.
use mathlib.Core.Path.{refl}
use Rattle.steps.proofs.Ladders.{on-right, on-left, on_both, on_both_composed}
use Rattle.steps.proofs.Walk.judge_ladders.Goals as goal

pub returns-then-b-s : goal.returns-then-b-s
returns-then-b-s c = record {
  there = refl;
  made = on-right _ _ c.args.self.now.able c.requires.0 c.if-b-s.true c.passes_at-passed.ensures c.tested-self.ensures;
}

pub returns-then-m-b : goal.returns-then-m-b
returns-then-m-b c = record {
  there = refl;
  made = on-left _ _ c.args.self.now.able c.requires.0 c.if-b-s.false c.if-m-b.true c.passes_at-passed-then-m-b.ensures c.tested-self-then-m-b.ensures;
}

pub returns-then-p-eq4 : goal.returns-then-p-eq4
returns-then-p-eq4 c = let d = c.try_window.ensures in record {
  there = d.there;
  made = on_both_composed _ _ c.if-b-s.false c.if-m-b.false c.if-p-eq4.true d.made;
}

pub returns : goal.returns
returns c = record {
  there = refl;
  made = on_both _ _ c.args.self.now.able c.requires.0 c.if-b-s.false c.if-m-b.false c.if-p-eq4.false
      c.joined_passes-passed.ensures c.charged-q.ensures c.tested-self-2.ensures;
}
