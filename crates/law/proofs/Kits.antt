-- The four measures: each kit's tables tell the truth of every window, and its test holds exactly when the window passes. `hops` is the most
-- links in one pick, `turn` the turn-round; both stay open. Assumes nothing.
use mathlib.Core.Path.{refl}
use mathlib.Core.List.{List}
use Prim.Native.Nat.{ℕ, zero, suc, ◌≤◌}
use native.Mathlib.Nat.{le_refl}
use native.Mathlib.Omega.{arith}
use lib.ListN.{length}
use Rattle.model.specs.Recording.{link, Clean, Recording, pick_at}
use Rattle.model.specs.Journey.{at_most}
use Rattle.model.specs.Measures.{CommonLink, PassesCommon, SomeLink, PassesFootprint, PassesReach, PassesRoundTrip}
use Rattle.model.specs.Length.{Upward}
use Rattle.model.proofs.Logic.{dec_of}
use Rattle.model.proofs.Monotone.{JourneysDecided, common_down, footprint_up, reach_up, round_up}
use Rattle.model.proofs.Links.{link_from, link_to}
use Rattle.model.proofs.Windows.{pick-at}
use Rattle.links.specs.Tables.{compose, within}
use Rattle.links.specs.Tells.{Marks, Reaches}
use Rattle.links.proofs.Tells.{marks_once, common_own, common_join, footprint_own, footprint_join, reach_own, reach_join, full-test}
use Rattle.links.proofs.Tells.{connected-test, same_test, Below}
use Rattle.times.specs.Tells.{TellsTimes}
use Rattle.times.proofs.Times.{own_tells, compose_tells, tells_once, tells_test}
use Rattle.measures.specs.Kit.{kit_with, own_of, join_of, pass_of}
use Rattle.law.specs.Claim2.{Fits}
use Rattle.law.specs.Facts.{TestTells, minimises, maximises, Facts, FactsClaim}
use Rattle.law.specs.Faithful.{Faithful, table_of_window}
use Rattle.law.proofs.Faithful.{window_tells}

module _ (hops turn n : ℕ) (n32 : n ≤ 32) (r : List (List ℕ)) (rec : Recording n r) where
  -- ---- measure 1: the table marks the links open at every pick

  pub common_faithful : Faithful (kit_with hops turn 1 n).join (kit_with hops turn 1 n).own r (λ i j. Marks n (CommonLink r i j))
  unfolding own_of join_of
  common_faithful = record {
    own_tells = common_own n r rec;
    join_tells = λ i k j s t a b c d. common_join n r i k j s t b c;
    tells_once = λ i j s t a. marks_once;
  }

  common_below : (i j : ℕ) → 1 ≤ i → i ≤ j → j ≤ length r → Below n (CommonLink r i j)
  common_below i j a b c u v f =
      let k = (pick-at n r rec i a (omega arith)).words in
      let m = f i (le_refl i) b in
      (link_from n (pick_at r i) k u v m, link_to n (pick_at r i) k u v m)

  pub common_tested : (l : List ℕ) → TestTells (kit_with hops turn 1 n) l r (λ i j. Marks n (CommonLink r i j)) (PassesCommon r n)
  unfolding pass_of
  common_tested l i j t a b c m = connected-test n (CommonLink r i j) t n32 (common_below i j a b c) m

  -- ---- measure 2: the table marks the links open at some pick

  pub footprint_faithful : Faithful (kit_with hops turn 2 n).join (kit_with hops turn 2 n).own r (λ i j. Marks n (SomeLink r i j))
  unfolding own_of join_of
  footprint_faithful = record {
    own_tells = footprint_own n r rec;
    join_tells = λ i k j s t a b c d. footprint_join n r i k j s t b c;
    tells_once = λ i j s t a. marks_once;
  }

  some_below : (i j : ℕ) → 1 ≤ i → i ≤ j → j ≤ length r → Below n (SomeLink r i j)
  some_below i j a b c u v f =
      let x : i ≤ f.0 = f.1 in
      let y : f.0 ≤ j = f.2 in
      let k = (pick-at n r rec f.0 (omega arith) (omega arith)).words in
      (link_from n (pick_at r f.0) k u v f.3, link_to n (pick_at r f.0) k u v f.3)

  pub footprint_tested : (l : List ℕ) → Clean n l → TestTells (kit_with hops turn 2 n) l r (λ i j. Marks n (SomeLink r i j)) (PassesFootprint r l)
  unfolding pass_of
  footprint_tested l k i j t a b c m = same_test n (SomeLink r i j) l t k (some_below i j a b c) m

  -- ---- measure 3: the table marks exactly the pairs joined by a journey

  pub reach_faithful : Faithful (compose n) (λ i. within n hops) r (λ i j. Marks n (Reaches r (at_most hops) i j))
  reach_faithful = record {
    own_tells = reach_own n hops r n32 rec;
    join_tells = λ i k j s t. reach_join n (at_most hops) r n32 rec i k j s t;
    tells_once = λ i j s t a. marks_once;
  }

  pub reach-kit : Faithful (kit_with hops turn 3 n).join (kit_with hops turn 3 n).own r (λ i j. Marks n (Reaches r (at_most hops) i j))
  unfolding own_of join_of
  reach-kit = reach_faithful

  pub reach-tested : (l : List ℕ) → TestTells (kit_with hops turn 3 n) l r (λ i j. Marks n (Reaches r (at_most hops) i j)) (PassesReach r n (at_most hops))
  unfolding pass_of
  reach-tested l i j t a b c m = full-test n _ t m.marks

  -- so journeys are decided
  pub journeys_decided : JourneysDecided r n (at_most hops)
  journeys_decided i j u v a b c hu hv ne =
      let t = table_of_window (compose n) (λ i. within n hops) r i j in
      let e = (window_tells (compose n) (λ i. within n hops) r (λ i j. Marks n (Reaches r (at_most hops) i j)) reach_faithful i j a b c).marks u v hu hv in
      dec_of (link t u v) (λ m. (e.0 m).1) (λ f. e.1 (ne, f))

  -- ---- measure 4: arrivals are earliest and departures latest

  pub round_faithful : Faithful (kit_with hops turn 4 n).join (kit_with hops turn 4 n).own r (TellsTimes r n (at_most hops))
  unfolding own_of join_of
  round_faithful = record {
    own_tells = λ i a b. own_tells rec a b (within n hops (pick_at r i)) (reach_own n hops r n32 rec i a b).marks;
    join_tells = λ i k j s t a b c d. compose_tells rec a b c d;
    tells_once = λ i j s t a. tells_once a;
  }

  pub round_tested : (l : List ℕ) → TestTells (kit_with hops turn 4 n) l r (TellsTimes r n (at_most hops)) (PassesRoundTrip r n (at_most hops) turn)
  unfolding pass_of
  round_tested l i j t a b c m = tells_test a b c m

  -- requirement 3'' of source document 002 for measure 4; `model` has it for the others
  pub round_upward : Upward (PassesRoundTrip r n (at_most hops) turn) (length r)
  round_upward = round_up r n (at_most hops) turn journeys_decided

  -- ---- THE FACTS of each measure, by its number

  each : (measure : ℕ) → 1 ≤ measure → measure ≤ 4 → (l : List ℕ) → Fits measure l r n → Facts hops turn measure n l r
  each zero low high l fit = absurd (omega arith)
  each (suc zero) low high l fit = record { faithful = common_faithful; tested = common_tested l; monotone = maximises refl (common_down r n (length r)) }
  each (suc (suc zero)) low high l fit =
      let f = fit refl in record { faithful = footprint_faithful; tested = footprint_tested l f.0; monotone = minimises 0 refl (footprint_up r l f.1) }
  each (suc (suc (suc zero))) low high l fit =
      record { faithful = reach-kit; tested = reach-tested l; monotone = minimises 1 refl (reach_up r n (at_most hops) (length r)) }
  each (suc (suc (suc (suc zero)))) low high l fit = record { faithful = round_faithful; tested = round_tested l; monotone = minimises 2 refl round_upward }
  each (suc (suc (suc (suc (suc x))))) low high l fit = absurd (omega arith)

pub facts : FactsClaim
facts = each
