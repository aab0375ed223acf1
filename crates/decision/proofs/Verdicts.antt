-- What holds where no cause refuses a decision. Assumes nothing.
use Prim.Native.Nat.{ℕ, ◌/◌, ◌≤◌}
use mathlib.Core.Path.{◌≡◌, refl}
use mathlib.Core.List.{List}
use lib.ListN.{length}
use Rattle.model.proofs.Causes.{none_holds, causes_none, holds_by, between_says}
use Rattle.model.proofs.Refusals.{number_some}
use Rattle.verdicts.proofs.Verdicts.{whole_sound}
use Rattle.verdicts.specs.Verdicts.{whole_causes, window_causes, whole_verdict}
use Rattle.decision.specs.Decisions.{decision_verdict}

-- a whole run of the recording is not refused either, and k is one of its window lengths
pub decision_sound : (n measure : ℕ) (w : List ℕ) (k : ℕ) (a : List ℕ) → decision_verdict n measure w k a ≡ 0
    → (whole_verdict n measure w a ≡ 0) × (1 ≤ k) × (k ≤ length w / n)
unfolding decision_verdict whole_verdict
decision_sound n measure w k a e =
    let m = length w / n in
    let s = causes_none (whole_causes n measure w a) (window_causes k m) tt e in
    let b = between_says 1 k m (holds_by refl ((none_holds (window_causes k m) tt).0 s.1).0) in
    (s.0, b.0, b.1)

-- what `decide` stands on
pub ruleset decides = (number_some, whole_sound, decision_sound)
