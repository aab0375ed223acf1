-- `Change::write` meets its contract: the commands of the changes and the 50, one behind the other.
-- Assumes nothing.
use mathlib.Core.Path.{◌∙◌}
use mathlib.Core.List.{[], ◌∷◌}
use native.Mathlib.Omega.{arith}
use Rattle.recording.specs.Grammar.{pick}
use Rattle.saving.specs.File.{pick_acts}
use Rattle.saving.specs.Puts.{bytes_of}
use Rattle.saving.specs.Changes.{changes_of}
use Rattle.saving.proofs.Put.{puts_pick, puts_more, first_room, second_room}
use Rattle.saving.proofs.Change.write.Goals as goal

pub write_changes-requires : goal.write_changes-requires
unfolding pick_acts
write_changes-requires c = first_room _ _ (changes_of c.args.self.now) (pick ∷ []) c.requires

pub put-requires : goal.put-requires
unfolding bytes_of pick_acts
put-requires c = omega (arith, second_room _ _ (changes_of c.args.self.now) (pick ∷ []) c.requires c.write_changes.ensures.made)

pub returns : goal.returns
unfolding bytes_of pick_acts
returns c =
    let e = c.write_changes.ensures in
    let p = c.put.ensures in
    let r = second_room _ _ (changes_of c.args.self.now) (pick ∷ []) c.requires e.made in
    let f = first_room _ _ (changes_of c.args.self.now) (pick ∷ []) c.requires in
    record { there = p.there ∙ e.there; made = rw (p.made, p.next) (puts_more f e.made (puts_pick (omega arith))) }
