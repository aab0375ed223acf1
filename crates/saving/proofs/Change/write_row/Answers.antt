-- `Change::write_row` meets its contract. The invariant is `Passed`; the measure is the word of the links still to be written.
-- Assumes nothing.
use mathlib.Core.Path.{refl, ◌∙◌}
use native.Mathlib.Omega.{arith}
use Rattle.links.proofs.Bits.{without_less}
use Rattle.saving.proofs.Rest.{passed_start, passed_room, passed_turn, passed_all}
use Rattle.saving.proofs.Change.write_row.Goals as goal

pub loop-rest-init : goal.loop-rest-init
loop-rest-init c = let s = c.args.self.now in
    record { there = refl; passed = passed_start s.was_clean s.is_clean c.requires.room c.changed-rest.ensures }

pub put_link-requires : goal.put_link-requires
put_link-requires c =
    let b = c.board_in-b.ensures in
    let f = c.args.self.now.few in
    (omega (arith, c.requires.board), b.0, passed_room c.loop-rest.invariant.passed _ b.1 b.2)

pub loop-rest-smaller : goal.loop-rest-smaller
loop-rest-smaller c =
    let b = c.board_in-b.ensures in
    rw c.cleared-rest.ensures (without_less _ _ b.0 b.1)

pub loop-rest-preserved : goal.loop-rest-preserved
loop-rest-preserved c =
    let b = c.board_in-b.ensures in
    let i = c.loop-rest.invariant in
    record {
      there = c.put_link.ensures.there ∙ i.there;
      passed = passed_turn i.passed _ b.1 b.2 c.args.self.now.few c.cleared-rest.ensures c.put_link.ensures.made;
    }

pub returns : goal.returns
returns c = let i = c.loop-rest.invariant in record { there = i.there; made = passed_all i.passed c.loop-rest-test.false }
