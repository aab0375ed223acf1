-- `folds::depart` meets its contract. The folds of the columns, transposed, with the later part (`crossed_departures`). Assumes nothing.
use Rattle.std.proofs.Common.{◌∙◌, rules}
use Rattle.folds.specs.Folds.{transposed}
use Rattle.folds.proofs.Gathered.{crossed_departures, small_sets}
use Rattle.folds.proofs.depart.Goals as goal

pub fold_rows-requires : goal.fold_rows-requires
fold_rows-requires c =
    let right = c.args.right.now in
    (search rules, search rules, small_sets right.n (transposed right.n right.words.now) _ _ c.column_sets.ensures.1)

pub returns : goal.returns
returns c =
    let right = c.args.right.now in
    c.copy_from_slice.ensures.after ∙ c.fold_over.ensures
    ∙ crossed_departures right.n c.args.half.now right.words.now _ _ _ _
    c.column_sets.ensures.0 c.column_sets.ensures.1 c.fold_rows.ensures c.transpose.ensures
