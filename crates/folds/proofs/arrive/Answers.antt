-- `folds::arrive` meets its contract. The sets, the folds, and the rows with their folds (`crossed_rows`). Assumes nothing.
use Rattle.std.proofs.Common.{false, ◌∙◌, rules}
use Rattle.times.specs.Times.{cell}
use Rattle.folds.proofs.Gathered.{crossed_rows, small_sets}
use Rattle.folds.proofs.arrive.Goals as goal

pub fold_rows-requires : goal.fold_rows-requires
fold_rows-requires c =
    let n = c.args.later.now.n in
    let small = small_sets n (cell n c.args.half.now) c.args.later.now.words.now _ (c.write.ensures ∙ simp c.some_rows-some.ensures) in
    (search rules, c.requires.2, small)

pub returns : goal.returns
returns c =
    let later = c.args.later.now in
    c.fold_over.ensures
    ∙ crossed_rows false later.n c.args.half.now later.words.now _ _ (c.write.ensures ∙ simp c.some_rows-some.ensures) c.fold_rows.ensures
