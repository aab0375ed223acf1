-- The work area, proved. Assumes nothing.
use mathlib.Core.Path.{◌≡◌, refl, sym, ap, ◌∙◌, subst}
use mathlib.Core.Logic.{◌≢◌, ⊎_elim}
use mathlib.Core.List.{List}
use Prim.Native.Nat.{ℕ, ◌+◌, ◌*◌}
use native.Mathlib.Omega.{arith}
use lib.ListN.{drop, length-drop}
use lib.Seq.{get_or-drop, ext_get_or}
use Rattle.model.proofs.Logic.{eq_or}
use Rattle.recording.specs.Answers.{Read, read, read_says}
use Rattle.recording.specs.Gives.{Gives}
use Rattle.recording.proofs.Laws.{read_law, refused_law}
use Rattle.numbers.specs.Lent.{Beyond}
use Rattle.numbers.proofs.Needed.{open_beyond, pick_beyond, run_beyond, open_reads_only, pick_reads_only, run_reads_only, run_zero, walk_anywhere}
use Rattle.numbers.proofs.Counts.{same_anywhere}
use Rattle.numbers.proofs.Parts.{opening_parts, part_by_part, otherwise_as_before}
use Rattle.numbers.proofs.LeftLadders.{left_ladders}
use Rattle.acceptance.specs.Area.{BeyondOpening, BeyondPick, BeyondWhole, BeyondReading, NeededAloneOpening, NeededAlonePick, NeededAloneWhole}
use Rattle.acceptance.specs.Area.{AnyArea, WalkInAnyArea, WholeZero, OpeningArea, EachPart, OtherParts, LeftLadders}

-- ---- "Words beyond are untouched": for every place, area and words, altered ones included, taken or refused

pub beyond_opening : BeyondOpening
beyond_opening = open_beyond

pub beyond_pick : BeyondPick
beyond_pick = pick_beyond

pub beyond_whole : BeyondWhole
beyond_whole = run_beyond

pub beyond_reading : BeyondReading
beyond_reading limit bytes out =
    ⊎_elim (λ (e : r.refusal ≡ 0). words_stay (read_law limit bytes out r.boards r.picks (ap (λ (c : ℕ). read c r.boards r.picks) e)))
    (λ (f : r.refusal ≢ 0). subst (Beyond (r.picks * r.boards) out) (sym (refused_law limit bytes out f)) (record { size = refl; words = refl }))
    (eq_or r.refusal 0)
  where
    r : Read
    r = read_says limit bytes out

    words_stay : {n count : ℕ} {left : List ℕ} → Gives limit n count out left → Beyond (count * n) out left
    words_stay {n} {count} {left} g =
        let k = count * n in
        let l = g.long in
        record {
          size = l;
          words = ext_get_or 0 (drop k left) (drop k out) (omega (arith, length-drop k left, length-drop k out))
              (λ i h. get_or-drop k left i 0 ∙ g.beyond (k + i) (omega arith) ∙ sym (get_or-drop k out i 0));
        }

-- ---- nor are they read: two areas with the same needed words are answered alike, and their needed words are left alike

pub needed-alone_opening : NeededAloneOpening
needed-alone_opening = open_reads_only

pub needed-alone_pick : NeededAlonePick
needed-alone_pick = pick_reads_only

pub needed-alone_whole : NeededAloneWhole
needed-alone_whole = run_reads_only

-- ---- whatever the area held

pub any_area : AnyArea
any_area = same_anywhere

pub walk_in_any_area : WalkInAnyArea
walk_in_any_area = walk_anywhere

pub whole_zero : WholeZero
whole_zero = run_zero

-- ---- "What a part (E words) then holds is defined part by part": in words of windows, links and journeys

pub opening_area : OpeningArea
opening_area = opening_parts

pub each_part : EachPart
each_part = part_by_part

pub other_parts : OtherParts
other_parts = otherwise_as_before

pub left_ladder : LeftLadders
left_ladder = left_ladders
