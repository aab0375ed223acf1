-- `area::on_tables` meets its contract: which part lies before the cut, and which behind it.
-- Assumes nothing.
use mathlib.Core.Path.{refl, ap, ◌∙◌}
use mathlib.Core.List.{◌++◌}
use Prim.Native.Nat.{◌<◌}
use native.Mathlib.Nat.{add-sub_cancel_left}
use native.Mathlib.Omega.{arith}
use lib.ListN.{take}
use Rattle.lists.proofs.Splice.{written-part}
use Rattle.measures.specs.Meant.{meant}
use Rattle.area.proofs.Stored.{table_from, stored_from}
use Rattle.area.proofs.Cut.{apart, front_put, front_read, back_put}
use Rattle.area.proofs.on_tables.Goals as goal

pub slice_bounds-f-end : goal.slice_bounds-f-end
slice_bounds-f-end g c =
    let s = apart _ c.requires.parts.1 c.if-d-r.true c.start-at_d.ensures.first c.start-at_r.ensures.first c.size-k.ensures.words in
    omega (arith, c.split_at_mut-front.ensures.front_len)

pub returns-then-d-r : goal.returns-then-d-r
returns-then-d-r g c =
    let K = meant c.args.kit in
    let a = c.args.area.now in
    let p = c.start-at_d.ensures.first in
    let q = c.start-at_r.ensures.first in
    let e = c.size-k.ensures.words in
    let s = apart _ c.requires.parts.1 c.if-d-r.true p q e in
    let v = c.split_at_mut-front.ensures in (
      _,
      _,
      _,
      c.f.ensures,
      simp add-sub_cancel_left (front_read _ a _ _ v.value _ (omega (arith, v.front_len)) ∙ table_from K.size a c.args.d p e),
      ap (take c.size-k.result) v.back ∙ table_from K.size a c.args.r q e,
      ap (λ x. x ++ c.split_at_mut-front.result.1.now) (written-part _ _ _ refl)
          ∙ front_put _ a _ _ v.value _ _ (omega (arith, v.front_len))
          ∙ stored_from K a c.args.d p e _,
    )

pub slice_bounds-f-end-4 : goal.slice_bounds-f-end-4
slice_bounds-f-end-4 g c =
    let h : c.args.r < c.args.d = omega (arith, c.requires.parts.0, c.if-d-r.false) in
    let s = apart _ c.requires.parts.2 h c.start-at_r-2.ensures.first c.start-at_d-2.ensures.first c.size-k.ensures.words in
    omega (arith, c.split_at_mut-front-2.ensures.front_len)

pub returns : goal.returns
returns g c =
    let K = meant c.args.kit in
    let a = c.args.area.now in
    let p = c.start-at_d-2.ensures.first in
    let q = c.start-at_r-2.ensures.first in
    let e = c.size-k.ensures.words in
    let h : c.args.r < c.args.d = omega (arith, c.requires.parts.0, c.if-d-r.false) in
    let s = apart _ c.requires.parts.2 h q p e in
    let v = c.split_at_mut-front-2.ensures in (
      _,
      _,
      _,
      c.f-2.ensures,
      ap (take c.size-k.result) v.back ∙ table_from K.size a c.args.d p e,
      simp add-sub_cancel_left (front_read _ a _ _ v.value _ (omega (arith, v.front_len)) ∙ table_from K.size a c.args.r q e),
      back_put _ a _ _ v.value _ _ v.front v.back ∙ stored_from K a c.args.d p e _,
    )
