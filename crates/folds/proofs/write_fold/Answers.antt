-- `folds::write_fold` meets its contract. The fold of an earlier row (`same_fold`), or a new one. Assumes nothing.
use Rattle.std.proofs.Common.{◌*◌, List, ℕ, ap, ◌∙◌}
use Rattle.lists.specs.Tab.{splice}
use Rattle.lists.proofs.Splice.{written-part}
use Rattle.folds.proofs.Gathered.{same_fold}
use Rattle.folds.proofs.write_fold.Goals as goal

pub returns-then-k-u : goal.returns-then-k-u
returns-then-k-u g c =
    let s = c.args in
    c.share.ensures
    ∙ ap (λ (x : List ℕ). splice (s.own.0 * s.later.now.n) s.later.now.n x s.folds.now)
    (same_fold g.B.Best.late s.later.now.n s.later.now.words.now s.sets.now s.own.0 s.folds.now _ c.requires c.if-k-u.true c.first_same-k.ensures.1)

pub returns-else-k-u : goal.returns-else-k-u
returns-else-k-u g c = written-part _ _ _ c.fold_row.ensures
