-- `Change::write_changes` meets its contract: two groups of commands, one behind the other; where the words are as they were, none.
-- Assumes nothing.
use mathlib.Core.Path.{◌≡◌, refl, ◌∙◌}
use mathlib.Core.Bool.{Bool, true, false}
use mathlib.Core.List.{List, []}
use Prim.Native.Nat.{ℕ}
use lib.ListN.{length}
use Rattle.model.specs.Recording.{link}
use Rattle.model.proofs.Logic.{tr}
use Rattle.links.proofs.Tells.{same_equal}
use Rattle.saving.specs.File.{becomes, link_acts, row_acts, table_acts, change_acts}
use Rattle.saving.specs.Changes.{table_of}
use Rattle.saving.proofs.Acts.{each_none}
use Rattle.saving.proofs.Put.{puts_none, puts_more, first_room, second_room}
use Rattle.saving.proofs.Change.write_changes.Goals as goal

stays : (x y : Bool) → becomes x y y ≡ false
stays true true = refl
stays true false = refl
stays false true = refl
stays false false = refl

-- no command where no link changes
none : (x : Bool) (t : List ℕ) (n : ℕ) → table_acts x t t n ≡ []
unfolding table_acts row_acts link_acts
none x t n = each_none (row_acts x t t n) (λ a. each_none (link_acts x t t a) (λ b. rw (stays x (link t a b))) n) n

pub write_table-requires : goal.write_table-requires
unfolding change_acts
write_table-requires c = let s = c.args.self.now in first_room _ _ (table_of false s) (table_of true s) c.requires

pub write_table-requires-then-not-is_same : goal.write_table-requires-then-not-is_same
unfolding change_acts
write_table-requires-then-not-is_same c =
    let s = c.args.self.now in second_room _ _ (table_of false s) (table_of true s) c.requires c.write_table.ensures.made

pub returns-then-not-is_same : goal.returns-then-not-is_same
unfolding change_acts
returns-then-not-is_same c =
    let s = c.args.self.now in
    let a = c.write_table.ensures in
    let b = c.write_table-then-not-is_same.ensures in
    record { there = b.there ∙ a.there; made = puts_more (first_room _ _ (table_of false s) (table_of true s) c.requires) a.made {ys = table_of true s} b.made }

pub returns-else-not-is_same : goal.returns-else-not-is_same
unfolding change_acts
returns-else-not-is_same c =
    let s = c.args.self.now in
    let n = length s.was.now in
    let e = same_equal n s.was.now s.is.now s.was_clean.words s.is_clean.words (tr (rw s.is_clean.words.size at c.if-not-is_same.ensures) tt) in
    record { there = refl; made = puts_none (rw (e, none false s.was.now n, none true s.was.now n)) }
