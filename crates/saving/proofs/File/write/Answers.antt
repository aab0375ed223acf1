-- `File::write` meets its contract: 42 and n, the picks, and the 45, one behind the other.
-- Assumes nothing.
use mathlib.Core.Path.{◌≡◌, refl, sym, ◌∙◌}
use mathlib.Core.List.{List}
use Prim.Native.Nat.{◌+◌, ◌≤◌}
use native.Mathlib.Omega.{arith}
use lib.ListN.{length, set, length-set}
use Rattle.lists.specs.Tab.{zeros}
use Rattle.checks.proofs.Lent.{length_lent}
use Rattle.recording.specs.Grammar.{Act, spell_file}
use Rattle.saving.specs.File.{each, acts_at, file_acts, file}
use Rattle.saving.specs.declared.File.{File}
use Rattle.saving.specs.Puts.{Puts}
use Rattle.saving.specs.Changes.{picks_of, file_of}
use Rattle.saving.proofs.Put.{wrote_start, wrote_room, wrote_turn, wrote_all, file_room, last_room, file_put}
use Rattle.saving.proofs.Lends.{passing_start, passing_turn, passing_all}
use Rattle.saving.proofs.File.write.Goals as goal
use Rattle.saving.proofs.File.write.Goals.{Start, After-put-2, In-None}

-- the commands of all picks
abbrev acts : File → List Act
acts l = each (acts_at l.lent.n (picks_of l)) l.lent.m

file_is : (l : File) → file_of l ≡ spell_file l.lent.n (acts l)
unfolding file file_acts
file_is l = rw (length_lent l.lent.n l.lent.words.now l.lent.m) refl

room : (c : Start) → length (spell_file c.args.self.now.lent.n (acts c.args.self.now)) ≤ length c.args.out.now
room c = rw (file_is c.args.self.now) at c.requires

pub put-requires : goal.put-requires
put-requires c = let s = c.args.self.now in omega (arith, file_room s.lent.n (acts s) c.args.out.now (room (goal.at.put-requires c).Start))

pub put-requires-2 : goal.put-requires-2
put-requires-2 c = let s = c.args.self.now in
    rw (c.put.ensures.next, c.put.ensures.made, length-set)
    (omega (arith, file_room s.lent.n (acts s) c.args.out.now (room (goal.at.put-requires-2 c).Start)))

-- the output behind 42 and n
begun : (c : After-put-2) → let o = c.put-2.new.self in let s = c.args.self.now in
    (o.bytes.now ≡ set (set c.args.out.now 0 0x42) 1 s.lent.n) × (o.at ≡ 2)
begun c = (c.put-2.ensures.made ∙ rw (c.put.ensures.next, c.put.ensures.made) refl, c.put-2.ensures.next ∙ rw c.put.ensures.next refl)

pub loop-pick-init : goal.loop-pick-init
unfolding zeros
loop-pick-init c =
    let s = c.args.self.now in
    let b = begun (goal.at.loop-pick-init c).After-put-2 in
    let l = file_room s.lent.n (acts s) c.args.out.now (room (goal.at.loop-pick-init c).Start) in
    rw c.into_iter-pick-iterator.ensures.into_iter_gives (
      0,
      record {
        at = passing_start s c.picks-pick-items.ensures.size c.picks-pick-items.ensures.rest refl;
        there = refl;
        wrote = wrote_start (rw (b.1, b.0, length-set, length-set) (omega arith));
      },
    )

pub invariant_of-change : goal.invariant_of-change
invariant_of-change c =
    let s = c.in-Some.ensures.steps in
    let t = passing_turn c.loop-pick.invariant.1.at s.0 s.1.0 s.1.1 in
    record { few = t.few; was_clean = t.was_clean; is_clean = t.is_clean }

pub write-requires : goal.write-requires
write-requires c =
    let s = c.in-Some.ensures.steps in
    let i = c.loop-pick.invariant.1 in
    let t = passing_turn i.at s.0 s.1.0 s.1.1 in
    rw t.acts (wrote_room i.wrote t.inside)

pub loop-pick-preserved : goal.loop-pick-preserved
loop-pick-preserved c =
    let s = c.in-Some.ensures.steps in
    let i = c.loop-pick.invariant.1 in
    let t = passing_turn i.at s.0 s.1.0 s.1.1 in
    let e = c.write.ensures in
    (c.loop-pick.invariant.0 + 1, record { at = t.on; there = e.there ∙ i.there; wrote = wrote_turn i.wrote t.inside (rw t.acts at e.made) })

-- all picks are put behind 42 and n
put_all : (c : In-None) → let s = c.args.self.now in
    Puts (set (set c.args.out.now 0 0x42) 1 s.lent.n) c.loop-pick.out.bytes.now 2 c.loop-pick.out.at (acts s)
put_all c =
    let i = c.loop-pick.invariant.1 in
    let b = begun (goal.at.In-None c).After-put-2 in
    let k = passing_all i.at c.in-None.ensures.steps.1.0 in
    rw (b.0, b.1) at (wrote_all i.wrote (omega arith))

pub put-requires-3 : goal.put-requires-3
put-requires-3 c = let s = c.args.self.now in
    last_room s.lent.n (acts s) c.args.out.now (room (goal.at.put-requires-3 c).Start) (put_all (goal.at.put-requires-3 c).In-None)

pub returns : goal.returns
returns c =
    let s = c.args.self.now in
    let k = sym (c.put-3.ensures.there ∙ c.loop-pick.invariant.1.there ∙ c.put-2.ensures.there ∙ c.put.ensures.there) in
    let f = c.put-3.ensures.made ∙ file_put s.lent.n (acts s) c.args.out.now (room (goal.at.returns c).Start) (put_all (goal.at.returns c).In-None) in
    rw (file_is s) (grind arith)
