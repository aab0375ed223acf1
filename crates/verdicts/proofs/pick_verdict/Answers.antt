-- `verdicts::pick_verdict`: what its tests require, from a place that is sound. Assumes nothing.
use mathlib.Core.Path.{sym, ◌∙◌}
use native.Mathlib.Omega.{arith}
use Rattle.place.proofs.Laws.{sound_says}
use Rattle.verdicts.proofs.Verdicts.{not_short}
use Rattle.verdicts.proofs.pick_verdict.Goals as goal

pub is_clean-requires : goal.is_clean-requires
is_clean-requires c =
    let s = sound_says _ (sym c.is_sound.ensures ∙ c.if-not-is_sound.false) in omega (arith, s.boards_high, c.if-words-p.false)

pub is_short-requires : goal.is_short-requires
is_short-requires c =
    let s = sound_says _ (sym c.is_sound.ensures ∙ c.if-not-is_sound.false) in (s.boards_high, s.limit_high)

pub is_listed-requires : goal.is_listed-requires
is_listed-requires c =
    let s = sound_says _ (sym c.is_sound.ensures ∙ c.if-not-is_sound.false) in (
      s.boards_high,
      s.limit_high,
      c.if-p-ne2.false,
      sym c.if-words-p.false,
      not_short _ _ (sym c.is_short.ensures ∙ c.if-is_short.false),
    )
