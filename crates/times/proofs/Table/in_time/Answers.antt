-- `times::Table::in_time` meets its contract: each board is in time with those below it (`below_all`). Assumes nothing.
use Rattle.std.proofs.Common.{rules, refl, ◌∙◌, tests}
use native.Mathlib.Nat.{sub-zero}
use Rattle.std.proofs.lemmas.Iterator.{YieldsList-from_range}
use Rattle.std.proofs.lemmas.Iterator.Search.{all_from_yields_List}
use Rattle.lists.proofs.Tab.{every_range}
use Rattle.times.specs.Pairs.{below_in_time}
use Rattle.times.proofs.Pairs.{below_all}
use Rattle.times.proofs.Table.in_time.Goals as goal

pub returns : goal.returns
returns c =
    all_from_yields_List (below_in_time c.args.self.now.n c.args.turn c.args.self.now.words.now) _ _ _ c.all.ensures.ran
    (YieldsList-from_range 0 c.args.self.now.n c.args.self.now.n refl (sub-zero _)) (λ x b q k. search (rules, tests))
    ∙ every_range _ _ ∙ below_all _ _ _
