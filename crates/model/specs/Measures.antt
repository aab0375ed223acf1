-- When the window of the picks i to j of a recording over n boards passes, for each measure: the table of document 01, and the properties of
-- section 4 of source document 002.
use Rattle.std.specs.Prelude.{◌≢◌, ◌↔◌, ◌⊎◌, List, ℕ, ◌+◌, ◌≤◌, ◌<◌, T, length}
use Rattle.model.specs.Recording.{link}
use Rattle.model.specs.Journey.{Limit, Open, Journey, Arrival, Departure}

-- what holds of every ordered pair of different boards
abbrev pub EveryPair : ℕ → (ℕ → ℕ → Type 0) → Type 0
EveryPair n R = (u v : ℕ) → u < n → v < n → u ≢ v → R u v

-- ---- measure 1, interval connectivity (01: common)

-- a link of the intersection: open at every pick
abbrev pub CommonLink : List (List ℕ) → ℕ → ℕ → ℕ → ℕ → Type 0
CommonLink r i j u v = (t : ℕ) → i ≤ t → t ≤ j → Open r t u v

-- one-way links of R in a row lead from u to v
pub data Leads (R : ℕ → ℕ → Type 0) : ℕ → ℕ → Type 0 where
  here : {u : ℕ} → Leads R u u
  along : {u w v : ℕ} → R u w → Leads R w v → Leads R u v

-- the common links lead from every board to every other
abbrev pub PassesCommon : List (List ℕ) → ℕ → ℕ → ℕ → Type 0
PassesCommon r n i j = EveryPair n (Leads (CommonLink r i j))

-- ---- measure 2, footprint realization (01: return)

-- a link of the union: open at some pick
abbrev pub SomeLink : List (List ℕ) → ℕ → ℕ → ℕ → ℕ → Type 0
SomeLink r i j u v = (t : ℕ) × (i ≤ t) × (t ≤ j) × Open r t u v

-- the union equals the footprint (01: the link list)
abbrev pub PassesFootprint : List (List ℕ) → List ℕ → ℕ → ℕ → Type 0
PassesFootprint r footprint i j = (u v : ℕ) → SomeLink r i j u v ↔ T (link footprint u v)

-- no pick has a link outside the footprint
abbrev pub Listed : List (List ℕ) → List ℕ → Type 0
Listed r footprint = (t u v : ℕ) → 1 ≤ t → t ≤ length r → Open r t u v → T (link footprint u v)

-- ---- measure 3, temporal diameter (01: reach)

-- every ordered pair of different boards has a journey
abbrev pub PassesReach : List (List ℕ) → ℕ → Limit → ℕ → ℕ → Type 0
PassesReach r n L i j = EveryPair n (Journey r L i j)

-- ---- measure 4, round-trip temporal diameter (01: round trip)

-- both journeys exist, and v's departs `turn` picks or more after u's has arrived. With turn 0: at or before.
pub record RoundTrip (r : List (List ℕ)) (L : Limit) (turn i j u v : ℕ) : Type 0 where
  pub a : ℕ
  pub d : ℕ
  pub arrival : Arrival r L i j u v a
  pub departure : Departure r L i j v u d
  pub in-time : a + turn ≤ d

abbrev pub PassesRoundTrip : List (List ℕ) → ℕ → Limit → ℕ → ℕ → ℕ → Type 0
PassesRoundTrip r n L turn i j = EveryPair n (RoundTrip r L turn i j)

-- ---- unmet conditions (request A3 of document 02): the pairs (u, v) that are counted, for each measure

-- of different boards, where R is the condition of a pair
abbrev pub Unmet : (ℕ → ℕ → Type 0) → ℕ → ℕ → Type 0
Unmet R u v = (u ≢ v) × (R u v → ⊥)

-- measure 1: the common links do not lead from u to v
abbrev pub UnmetCommon : List (List ℕ) → ℕ → ℕ → ℕ → ℕ → Type 0
UnmetCommon r i j = Unmet (Leads (CommonLink r i j))

-- measure 2: a link that is in only one of union and footprint
abbrev pub UnmetFootprint : List (List ℕ) → List ℕ → ℕ → ℕ → ℕ → ℕ → Type 0
UnmetFootprint r footprint i j u v = (SomeLink r i j u v × (T (link footprint u v) → ⊥)) ⊎ (T (link footprint u v) × (SomeLink r i j u v → ⊥))

-- measure 3: there is no journey
abbrev pub UnmetReach : List (List ℕ) → Limit → ℕ → ℕ → ℕ → ℕ → Type 0
UnmetReach r L i j = Unmet (Journey r L i j)

-- measure 4: there is no round trip
abbrev pub UnmetRoundTrip : List (List ℕ) → Limit → ℕ → ℕ → ℕ → ℕ → ℕ → Type 0
UnmetRoundTrip r L turn i j = Unmet (RoundTrip r L turn i j)
