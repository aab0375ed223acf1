-- `reach::table` meets its contract: the table where nothing refuses.
-- Assumes nothing.
use mathlib.Core.Path.{sym}
use Rattle.std.proofs.lemmas.List.{length-take-le}
use Rattle.reach.specs.Tables.{table_leaves, table_of}
use Rattle.reach.proofs.Picks.{table_sound}
use Rattle.reach.proofs.table.Goals as goal

pub slice_bounds-write_table-end-2 : goal.slice_bounds-write_table-end-2
slice_bounds-write_table-end-2 c =
    let t = table_sound _ _ _ (sym c.in_ok-lent.ensures.verdict) in
    sym (length-take-le c.args.n c.args.out.now t.room)

pub write_table-requires : goal.write_table-requires
write_table-requires c =
    let t = table_sound _ _ _ (sym c.in_ok-lent.ensures.verdict) in
    let l = c.in_ok-lent.ensures.lent in
    rw (l.boards, l.count) (t.few, sym (length-take-le c.args.n c.args.out.now t.room), t.some_picks)

pub returns : goal.returns
unfolding table_leaves table_of
returns c =
    let e = c.in_ok-lent.ensures.verdict in
    let l = c.in_ok-lent.ensures.lent in
    (e, simp (sym e, rw (l.words, l.boards, l.count) at c.write_table.ensures))
