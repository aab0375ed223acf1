-- `times::Table::row_in_time` meets its contract: the test is made of the boards below `u`. Assumes nothing.
use Rattle.std.proofs.Common.{rules, refl, ◌∙◌, tests}
use native.Mathlib.Nat.{sub-zero}
use Rattle.std.proofs.lemmas.Iterator.{YieldsList-from_range}
use Rattle.std.proofs.lemmas.Iterator.Search.{all_from_yields_List}
use Rattle.lists.proofs.Tab.{every_range}
use Rattle.times.specs.Pairs.{pair_in_time, below_in_time}
use Rattle.times.proofs.Table.row_in_time.Goals as goal

pub returns : goal.returns
unfolding below_in_time
returns c =
    all_from_yields_List (pair_in_time c.args.self.now.n c.args.turn c.args.self.now.words.now c.args.from.0) _ _ _ c.all.ensures.ran
    (YieldsList-from_range 0 c.args.from.0 c.args.from.0 refl (sub-zero _)) (λ x b q k. search (rules, tests))
    ∙ every_range _ _
