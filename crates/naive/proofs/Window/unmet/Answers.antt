-- `naive::Window::unmet` is safe and ends: each board adds at most 32.
-- Assumes nothing.
use Rattle.std.proofs.Common.{arith, rules, tests}
use Rattle.std.proofs.lemmas.Iterator.{YieldsList-from_range}
use Rattle.std.proofs.lemmas.Iterator.Adapters.{fits_from_length, at_most_from_yields_List}
use Rattle.std.proofs.lemmas.List.FromFn.{length-range_with_len}
use Rattle.naive.proofs.Window.unmet.Goals as goal

pub sum-requires-clause-fits : goal.sum-requires-clause-fits
sum-requires-clause-fits c =
    let n = c.args.self.now.recording.boards in
    let l = at_most_from_yields_List (YieldsList-from_range 0 n n (cc) (omega arith)) (omega (arith, length-range_with_len 0 n)) in
    fits_from_length _ _ 32 _ l c.map.ensures.closure (omega arith) (λ x r q k. search (rules, tests))
