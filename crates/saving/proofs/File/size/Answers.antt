-- `File::size` meets its contract: after k picks, their bytes and three.
-- Assumes nothing.
use mathlib.Core.Path.{refl, ap, ◌∙◌}
use Prim.Native.Nat.{◌+◌}
use native.Mathlib.Numerals.{add-one}
use native.Mathlib.Omega.{arith}
use Rattle.checks.proofs.Lent.{length_lent}
use Rattle.lists.specs.Tab.{zeros}
use Rattle.saving.specs.File.{each}
use Rattle.saving.specs.Puts.{bytes_of}
use Rattle.saving.specs.Changes.{size_of, picks_of}
use Rattle.saving.proofs.Acts.{bytes_length}
use Rattle.saving.proofs.Size.{file-size}
use Rattle.saving.proofs.Lends.{passing_start, passing_turn, passing_all}
use Rattle.saving.proofs.File.size.Goals as goal

pub loop-pick-init : goal.loop-pick-init
unfolding each bytes_of zeros
loop-pick-init c =
    rw c.into_iter-pick-iterator.ensures.into_iter_gives (
      0,
      record {
        at = passing_start c.args.self.now c.picks-pick-items.ensures.size c.picks-pick-items.ensures.rest refl;
        sum = refl;
        few = omega arith;
      },
    )

pub invariant_of-change : goal.invariant_of-change
invariant_of-change c =
    let s = c.in-Some.ensures.steps in
    let t = passing_turn c.loop-pick.invariant.1.at s.0 s.1.0 s.1.1 in
    record { few = t.few; was_clean = t.was_clean; is_clean = t.is_clean }

pub overflow_add-size : goal.overflow_add-size
overflow_add-size c =
    let s = c.in-Some.ensures.steps in
    let i = c.loop-pick.invariant.1 in
    let t = passing_turn i.at s.0 s.1.0 s.1.1 in
    let h = t.inside in
    omega (arith, i.few, c.size-size.ensures.1, c.args.self.now.few)

pub loop-pick-preserved : goal.loop-pick-preserved
unfolding each
loop-pick-preserved c =
    let s = c.in-Some.ensures.steps in
    let i = c.loop-pick.invariant.1 in
    let t = passing_turn i.at s.0 s.1.0 s.1.1 in
    let e = c.size-size.ensures.0 ∙ ap size_of t.acts in (
      c.loop-pick.invariant.0 + 1,
      record {
        at = t.on;
        sum = rw (add-one, bytes_length) (omega (arith, i.sum, e));
        few = omega (arith, i.few, c.size-size.ensures.1);
      },
    )

pub returns : goal.returns
returns c =
    let l = c.args.self.now.lent in
    let i = c.loop-pick.invariant.1 in
    rw (passing_all i.at c.in-None.ensures.steps.1.0) at i.sum ∙ file-size l.n (picks_of c.args.self.now) l.m (length_lent l.n l.words.now l.m)
