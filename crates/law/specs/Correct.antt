-- What makes an answer right: document 01's measures by their numbers, and an outcome that is the length by the meaning, or 9 where there is none.
use Rattle.std.specs.Prelude.{ℕ, zero, suc, ◌+◌, ◌-◌, ◌*◌, ◌≤◌, ◌≡◌, List}
use Rattle.model.specs.Journey.{Limit, unlimited}
use Rattle.model.specs.Measures.{PassesCommon, PassesFootprint, PassesReach, PassesRoundTrip}
use Rattle.model.specs.Length.{Smallest, Largest, NoLength}
use Rattle.measures.specs.Kit.{turn01}
use Rattle.calls.specs.Answers.{Outcome}

-- when the window i to j of r passes, by the measure's number: 1 common, 2 return, 3 reach, 4 round trip; journeys cross at most L links in a pick, and
-- a round trip takes `turn` picks to turn round
abbrev pub PassesWith : Limit → ℕ → ℕ → ℕ → List ℕ → List (List ℕ) → ℕ → ℕ → Type 0
PassesWith L turn zero n footprint r i j = ⊥
PassesWith L turn (suc zero) n footprint r i j = PassesCommon r n i j
PassesWith L turn (suc (suc zero)) n footprint r i j = PassesFootprint r footprint i j
PassesWith L turn (suc (suc (suc zero))) n footprint r i j = PassesReach r n L i j
PassesWith L turn (suc (suc (suc (suc x)))) n footprint r i j = PassesRoundTrip r n L turn i j

-- document 01's: no limit, and a round trip may turn round within a pick
abbrev pub Passes : ℕ → ℕ → List ℕ → List (List ℕ) → ℕ → ℕ → Type 0
Passes = PassesWith unlimited turn01

-- k is the length: the largest for measure 1, the smallest for the others
abbrev pub IsLength : ℕ → (ℕ → ℕ → Type 0) → ℕ → ℕ → Type 0
IsLength zero P m k = Smallest P m k
IsLength (suc zero) P m k = Largest P m k
IsLength (suc (suc x)) P m k = Smallest P m k

-- a window of k of the picks 1 to m that fails
pub record Fails (P : ℕ → ℕ → Type 0) (m k : ℕ) : Type 0 where
  pub i : ℕ
  pub j : ℕ
  pub from : 1 ≤ i
  pub upto : j ≤ m
  pub row : suc j ≡ i + k
  pub fails : P i j → ⊥

-- the outcome is the length of the picks 1 to m, or 9 where there is none
pub data Right (measure : ℕ) (P : ℕ → ℕ → Type 0) (m : ℕ) (o : Outcome) : Type 0 where
  answered : o.refusal ≡ 0 → IsLength measure P m o.length → Right measure P m o
  none_exists : o.refusal ≡ 9 → NoLength P m → Right measure P m o

-- the counts after m picks, c compositions having been charged before the first: at most 4(m - 1) and 2m for measure 1, at most 3(m - 1) and
-- exactly m for the others
abbrev pub Counted : ℕ → ℕ → ℕ → Outcome → Type 0
Counted zero c m o = (o.compositions ≤ c + 3 * (m - 1)) × (o.tests ≡ m)
Counted (suc zero) c m o = (o.compositions ≤ 4 * (m - 1)) × (o.tests ≤ 2 * m)
Counted (suc (suc x)) c m o = (o.compositions ≤ c + 3 * (m - 1)) × (o.tests ≡ m)
