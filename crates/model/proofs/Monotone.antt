-- What source document 002 asks of each measure: a window within one that passes (3', measure 1), or around it (3'', measures 2 to 4),
-- passes too. Assumes nothing.
use mathlib.Core.Path.{sym}
use mathlib.Core.Logic.{◌≢◌}
use Prim.Native.Nat.{ℕ, ◌+◌, ◌≤◌, ◌<◌}
use native.Mathlib.Nat.{le_refl}
use native.Mathlib.Omega.{arith}
use mathlib.Core.List.{List}
use lib.ListN.{length}
use Rattle.model.specs.Journey.{Limit, Journey}
use Rattle.model.specs.Measures.{Listed, Leads, here, along, PassesCommon, SomeLink, PassesFootprint, PassesReach, RoundTrip, PassesRoundTrip}
use Rattle.model.specs.Length.{Upward, Downward}
use Rattle.model.proofs.Logic.{first_number, last_of}
use Rattle.model.proofs.Trips.{journey_wider}

pub leads_map : {R S : ℕ → ℕ → Type 0} {u v : ℕ} → ((a b : ℕ) → R a b → S a b) → Leads R u v → Leads S u v
leads_map f here = here
leads_map f (along {u = a} {w = b} x y) = along (f a b x) (leads_map f y)

pub common_down : (r : List (List ℕ)) (n m : ℕ) → Downward (PassesCommon r n) m
common_down r n m i j a b p q s t z f u v hu hv ne = leads_map (λ x y g k l m. g k (omega arith) (omega arith)) (f u v hu hv ne)

pub some_wider : {i j a b : ℕ} (r : List (List ℕ)) (u v : ℕ) → a ≤ i → j ≤ b → SomeLink r i j u v → SomeLink r a b u v
some_wider {i} {j} r u v x y g = let p : i ≤ g.0 = g.1 in let q : g.0 ≤ j = g.2 in (g.0, omega arith, omega arith, g.3)

pub footprint_up : (r : List (List ℕ)) (footprint : List ℕ) → Listed r footprint → Upward (PassesFootprint r footprint) (length r)
footprint_up r l k i j a b p q s t z f u v = (
  λ g. let x : a ≤ g.0 = g.1 in let y : g.0 ≤ b = g.2 in k g.0 u v (omega arith) (omega arith) g.3,
  λ m. some_wider r u v q t ((f u v).1 m),
)

pub reach_up : (r : List (List ℕ)) (n : ℕ) (L : Limit) (m : ℕ) → Upward (PassesReach r n L) m
reach_up r n L m i j a b p q s t z f u v hu hv ne = journey_wider q t (f u v hu hv ne)

-- ---- measure 4: where there is an arrival there is an earliest one, provided journeys are decided

-- journeys between different boards below n are decided
abbrev pub JourneysDecided : List (List ℕ) → ℕ → Limit → Type 0
JourneysDecided r n L = (i j u v : ℕ) → 1 ≤ i → i ≤ j → j ≤ length r → u < n → v < n → u ≢ v → Dec (Journey r L i j u v)

-- any arrival and any departure in time will do for a round trip
pub record Meeting (r : List (List ℕ)) (L : Limit) (turn i j u v : ℕ) : Type 0 where
  pub a : ℕ
  pub d : ℕ
  pub from : i ≤ a
  pub upto : d ≤ j
  pub out : Journey r L i a u v
  pub back : Journey r L d j v u
  pub in-time : a + turn ≤ d

pub round_meeting : {r : List (List ℕ)} {L : Limit} {turn i j u v : ℕ} → RoundTrip r L turn i j u v → Meeting r L turn i j u v
round_meeting c = record {
  a = c.a;
  d = c.d;
  from = c.arrival.from;
  upto = c.departure.upto;
  out = c.arrival.there;
  back = c.departure.there;
  in-time = c.in-time;
}

-- and where there are any, there is an earliest arrival and a latest departure
pub meeting_round : (r : List (List ℕ)) (n : ℕ) (L : Limit) (turn : ℕ) → JourneysDecided r n L → (i j u v : ℕ) → 1 ≤ i → j ≤ length r
    → u < n → v < n → u ≢ v
    → Meeting r L turn i j u v → RoundTrip r L turn i j u v
meeting_round r n L turn dec i j u v hi hM hu hv ne c =
    let p = c.from in
    let q = c.upto in
    let e = c.in-time in
    let f = first_number (λ a. Journey r L i a u v) i j (λ a s t. dec i a u v hi s (omega arith) hu hv ne) c.a p (omega arith) c.out in
    let g = last_of (λ d. Journey r L d j v u) i j (λ d s t. dec d j v u (omega arith) t hM hv hu (λ x. ne (sym x))) c.d (omega arith) q c.back in
    let a : ℕ = f.0 in
    let d : ℕ = g.0 in
    let f1 : i ≤ a = f.1 in
    let f2 : a ≤ c.a = f.2 in
    let g1 : c.d ≤ d = g.1 in
    record {
      a = a;
      d = d;
      arrival = record { from = f1; upto = omega arith; there = f.3; first = f.4 };
      departure = record { from = omega arith; upto = g.2; there = g.3; last = g.4 };
      in-time = omega arith;
    }

pub round_up : (r : List (List ℕ)) (n : ℕ) (L : Limit) (turn : ℕ) → JourneysDecided r n L → Upward (PassesRoundTrip r n L turn) (length r)
round_up r n L turn dec i j a b ha hi hj hb hM f u v hu hv ne =
    let c = round_meeting (f u v hu hv ne) in
    let p = c.from in
    let q = c.upto in
    meeting_round r n L turn dec a b u v ha hM hu hv ne (record {
      a = c.a;
      d = c.d;
      from = omega arith;
      upto = omega arith;
      out = journey_wider hi (le_refl c.a) c.out;
      back = journey_wider (le_refl c.d) hb c.back;
      in-time = c.in-time;
    })
