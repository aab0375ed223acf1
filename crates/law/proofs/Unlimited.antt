-- Document 01 has no limit on the links crossed in one pick. With at most 32 boards `most_links` are none, so what the tables with at most so many tell
-- holds of journeys without a limit. Assumes nothing.
use mathlib.Core.Path.{◌≡◌, refl}
use mathlib.Core.List.{List, ◌++◌}
use Prim.Native.Nat.{ℕ, zero, suc, ◌≤◌, ◌<◌}
use native.Mathlib.Nat.{le_refl}
use native.Mathlib.Omega.{arith}
use lib.ListN.{length}
use Rattle.model.specs.Recording.{Recording}
use Rattle.model.specs.Journey.{Limit, unlimited, at_most, most_links, Journey, Arrival, Departure}
use Rattle.model.specs.Measures.{PassesReach, RoundTrip, PassesRoundTrip}
use Rattle.model.proofs.Hops.{no_limit}
use Rattle.model.proofs.Lengths.{Agree, agree_back, smallest_agree, none_agree}
use Rattle.links.specs.Composed.{reach}
use Rattle.links.specs.Tells.{Marks, Reaches}
use Rattle.times.specs.Times.{arr, dep}
use Rattle.times.specs.Tells.{Earliest, no_arrival, first, Latest, no_departure, last}
use Rattle.calls.specs.Answers.{Outcome}
use Rattle.law.specs.Condition3.{NeverApart, UnlimitedClaim, ReachClaim}
use Rattle.law.specs.Facts.{ComposesWith}
use Rattle.law.specs.Correct.{PassesWith, Right, answered, none_exists}
use Rattle.law.proofs.Condition3.{reach-marks, joined_recorded, condition_3_at_most}

-- journeys under two limits say the same
abbrev JourneysAlike : List (List ℕ) → ℕ → Limit → Limit → Type 0
JourneysAlike r n L M = (i j u v : ℕ) → 1 ≤ i → i ≤ suc j → j ≤ length r → u < n → Journey r L i j u v → Journey r M i j u v

module _ (n : ℕ) (n32 : n ≤ 32) (r : List (List ℕ)) (k : Recording n r) where
  to_most : JourneysAlike r n unlimited (at_most most_links)
  to_most i j u v a b c hu f = (no_limit n n32 r k i j u v a b c hu).0 f

  from_most : JourneysAlike r n (at_most most_links) unlimited
  from_most i j u v a b c hu f = (no_limit n n32 r k i j u v a b c hu).1 f

  -- measure 3
  pub reach_agree : Agree (PassesReach r n (at_most most_links)) (PassesReach r n unlimited) (length r)
  reach_agree i j a b c =
      (λ f u v hu hv ne. from_most i j u v a (omega arith) c hu (f u v hu hv ne), λ f u v hu hv ne. to_most i j u v a (omega arith) c hu (f u v hu hv ne))

  -- measure 4
  module _ (L M : Limit) (go : JourneysAlike r n L M) (back : JourneysAlike r n M L) (i j u v : ℕ) (a : 1 ≤ i) (c : j ≤ length r) (hu : u < n) where
    arrival_map : {x : ℕ} → Arrival r L i j u v x → Arrival r M i j u v x
    arrival_map {x} f =
        let f1 = f.from in
        let f2 = f.upto in
        record {
          from = f1;
          upto = f2;
          there = go i x u v a (omega arith) (omega arith) hu f.there;
          first = λ y p q h. f.first y p q (back i y u v a (omega arith) (omega arith) hu h);
        }

    departure_map : {x : ℕ} → Departure r L i j u v x → Departure r M i j u v x
    departure_map {x} f =
        let f1 = f.from in
        let f2 = f.upto in
        record {
          from = f1;
          upto = f2;
          there = go x j u v (omega arith) (omega arith) c hu f.there;
          last = λ y p q h. f.last y p q (back y j u v (omega arith) (omega arith) c hu h);
        }

  round_map : (L M : Limit) → JourneysAlike r n L M → JourneysAlike r n M L → (turn i j u v : ℕ) → 1 ≤ i → j ≤ length r → u < n → v < n
      → RoundTrip r L turn i j u v → RoundTrip r M turn i j u v
  round_map L M go back turn i j u v a c hu hv t = record {
    a = t.a;
    d = t.d;
    arrival = arrival_map L M go back i j u v a c hu t.arrival;
    departure = departure_map L M go back i j v u a c hv t.departure;
    in-time = t.in-time;
  }

  pub round_agree : (turn : ℕ) → Agree (PassesRoundTrip r n (at_most most_links) turn) (PassesRoundTrip r n unlimited turn) (length r)
  round_agree turn i j a b c = (
    λ f u v hu hv ne. round_map (at_most most_links) unlimited from_most to_most turn i j u v a c hu hv (f u v hu hv ne),
    λ f u v hu hv ne. round_map unlimited (at_most most_links) to_most from_most turn i j u v a c hu hv (f u v hu hv ne),
  )

  -- when a window passes, by the measure's number; measure 2 tests against l, which is the footprint
  pub passes_agree : (turn measure : ℕ) (l footprint : List ℕ) → (measure ≡ 2 → l ≡ footprint)
      → Agree (PassesWith (at_most most_links) turn measure n l r) (PassesWith unlimited turn measure n footprint r) (length r)
  passes_agree turn zero l footprint e i j a b c = (λ x. x, λ x. x)
  passes_agree turn (suc zero) l footprint e i j a b c = (λ x. x, λ x. x)
  passes_agree turn (suc (suc zero)) l footprint e i j a b c = rw (e refl) (λ x. x, λ x. x)
  passes_agree turn (suc (suc (suc zero))) l footprint e i j a b c = reach_agree i j a b c
  passes_agree turn (suc (suc (suc (suc x)))) l footprint e i j a b c = round_agree turn i j a b c

  -- so an outcome that is right for journeys of at most `most_links` in a pick is right
  pub right_unlimited : (turn measure : ℕ) (l footprint : List ℕ) → (measure ≡ 2 → l ≡ footprint) → (k : ℕ) → k ≤ length r → (o : Outcome)
      → Right measure (PassesWith (at_most most_links) turn measure n l r) k o → Right measure (PassesWith unlimited turn measure n footprint r) k o
  right_unlimited turn zero l footprint e k h o g = g
  right_unlimited turn (suc zero) l footprint e k h o g = g
  right_unlimited turn (suc (suc x)) l footprint e k h o (answered y z) =
      answered y (smallest_agree (λ i j a b c. passes_agree turn (suc (suc x)) l footprint e i j a b (omega arith)) z)
  right_unlimited turn (suc (suc x)) l footprint e k h o (none_exists y f) =
      none_exists y (none_agree (λ i j a b c. passes_agree turn (suc (suc x)) l footprint e i j a b (omega arith)) f)

  -- ---- tables

  marks_unlimited : (i j : ℕ) (t : List ℕ) → 1 ≤ i → i ≤ j → j ≤ length r → Marks n (Reaches r (at_most most_links) i j) t
      → Marks n (Reaches r unlimited i j) t
  marks_unlimited i j t x y z m = record {
    clean = m.clean;
    marks = λ u v hu hv. let e = m.marks u v hu hv in (
      λ h. let q = e.0 h in (q.0, from_most i j u v x (omega arith) z hu q.1),
      λ q. e.1 (q.0, to_most i j u v x (omega arith) z hu q.1),
    );
  }

  earliest_unlimited : (i j u v x : ℕ) → 1 ≤ i → i ≤ j → j ≤ length r → u < n → Earliest r (at_most most_links) i j u v x
      → Earliest r unlimited i j u v x
  earliest_unlimited i j u v x a b c hu (no_arrival e f) = no_arrival e (λ h. f (to_most i j u v a (omega arith) c hu h))
  earliest_unlimited i j u v x a b c hu (first f) = first (arrival_map (at_most most_links) unlimited from_most to_most i j u v a c hu f)

  latest_unlimited : (i j u v x : ℕ) → 1 ≤ i → i ≤ j → j ≤ length r → u < n → Latest r (at_most most_links) i j u v x → Latest r unlimited i j u v x
  latest_unlimited i j u v x a b c hu (no_departure e f) = no_departure e (λ h. f (to_most i j u v a (omega arith) c hu h))
  latest_unlimited i j u v x a b c hu (last f) = last (departure_map (at_most most_links) unlimited from_most to_most i j u v a c hu f)

  -- what a table tells, by the measure's number
  pub composes_unlimited : (measure i j : ℕ) (t : List ℕ) → 1 ≤ i → i ≤ j → j ≤ length r
      → ComposesWith (at_most most_links) measure n r i j t → ComposesWith unlimited measure n r i j t
  composes_unlimited zero i j t x y z m = m
  composes_unlimited (suc zero) i j t x y z m = m
  composes_unlimited (suc (suc zero)) i j t x y z m = m
  composes_unlimited (suc (suc (suc zero))) i j t x y z m = marks_unlimited i j t x y z m
  composes_unlimited (suc (suc (suc (suc k)))) i j t x y z m = record {
    wide = m.wide;
    own_arrival = m.own_arrival;
    own_departure = m.own_departure;
    arrives = λ u v hu hv ne. earliest_unlimited i j u v (arr n t u v) x y z hu (m.arrives u v hu hv ne);
    departs = λ u v hu hv ne. latest_unlimited i j u v (dep n t u v) x y z hu (m.departs u v hu hv ne);
  }

pub reach_told : ReachClaim
reach_told n n32 r k l = marks_unlimited n n32 r k 1 (length r) (reach n most_links r) (le_refl 1) l (le_refl (length r)) (reach-marks n most_links n32 r k l)

-- where the same windows pass, parts around tell x and y apart under one limit exactly when they do under the other
never_map : (n : ℕ) (L M : Limit) (x y : List (List ℕ)) → Recording n x → Recording n y
    → ((r : List (List ℕ)) → Recording n r → Agree (PassesReach r n L) (PassesReach r n M) (length r))
    → NeverApart n M x y → NeverApart n L x y
never_map n L M x y kx ky e f p q c =
    let g = f p q c in
    let ex = e (p ++ x ++ q) (joined_recorded n p x q c.before_recorded kx c.after_recorded) in
    let ey = e (p ++ y ++ q) (joined_recorded n p y q c.before_recorded ky c.after_recorded) in (
      λ h. g.0 ((h.0.0, smallest_agree ex h.0.1), none_agree ey h.1),
      λ h. g.1 ((h.0.0, smallest_agree ey h.0.1), none_agree ex h.1),
    )

pub condition_3_unlimited : UnlimitedClaim
condition_3_unlimited n n2 n32 x y kx ky x1 x2 y1 y2 =
    let e = condition_3_at_most most_links (omega arith) n n2 n32 x y kx ky x1 x2 y1 y2 in (
      λ s. never_map n unlimited (at_most most_links) x y kx ky (λ r k. agree_back (reach_agree n n32 r k)) (e.0 s),
      λ f. e.1 (never_map n (at_most most_links) unlimited x y kx ky (reach_agree n n32) f),
    )
