-- Windows of the same picks, wherever they stand and of whatever recordings: what holds of one holds of the other, so under every measure one passes
-- exactly when the other does. Each law goes one way, from r to s: `shifted_back` has the other. Assumes nothing.
use mathlib.Core.Path.{◌≡◌, refl, sym, ap, ◌∙◌, subst}
use mathlib.Core.Logic.{⊎_elim}
use Prim.Native.Nat.{ℕ, zero, suc, ◌+◌, ◌-◌, ◌≤◌, ◌<◌}
use native.Mathlib.Nat.{le_refl}
use native.Mathlib.Omega.{arith}
use mathlib.Core.List.{List, [], ◌∷◌, ◌++◌}
use lib.Dec.{T}
use lib.ListN.{length, length-append, get_or-append}
use lib.Seq.{get_or-append-add}
use Rattle.model.specs.Recording.{link, pick_at}
use Rattle.model.specs.Journey.{Limit, Open, Journey, Arrival, Departure}
use Rattle.model.specs.Measures.{SomeLink, Listed, PassesCommon, PassesFootprint, PassesReach, PassesRoundTrip}
use Rattle.model.proofs.Logic.{le_or_lt}
use Rattle.model.proofs.Trips.{Hop, Span, journey_span}
use Rattle.model.proofs.Monotone.{leads_map}

-- the picks i to j of r are, one after the other, the picks h to l of s
pub record Shifted (r : List (List ℕ)) (i j : ℕ) (s : List (List ℕ)) (h l : ℕ) : Type 0 where
  pub long : l + i ≡ j + h
  pub same : (t x : ℕ) → i ≤ t → t ≤ j → x + i ≡ t + h → pick_at r t ≡ pick_at s x

pub shifted_back : {r s : List (List ℕ)} {i j h l : ℕ} → Shifted r i j s h l → Shifted s h l r i j
shifted_back p =
    let e = p.long in record { long = omega arith; same = λ t x a b c. sym (p.same x t (omega arith) (omega arith) (omega arith)) }

-- a window within
pub shifted_part : {r s : List (List ℕ)} {i j h l : ℕ} (a b c d : ℕ) → Shifted r i j s h l → i ≤ a → b ≤ j → c + i ≡ a + h → d + i ≡ b + h
    → Shifted r a b s c d
shifted_part a b c d p x y e f = record { long = omega arith; same = λ t z u v g. p.same t z (omega arith) (omega arith) (omega arith) }

-- a link that is open at a pick is open at the other
open_shifted : {r s : List (List ℕ)} {i j h l : ℕ} (t x u v : ℕ) → Shifted r i j s h l → i ≤ t → t ≤ j → x + i ≡ t + h → Open r t u v → Open s x u v
open_shifted t x u v p a b e f = subst (λ (w : List ℕ). T (link w u v)) (p.same t x a b e) f

-- ---- the parts of two recordings set one after the other

pub shifted_left : (x y : List (List ℕ)) (i j h l : ℕ) → j ≤ length x → h ≡ i → l ≡ j → Shifted x i j (x ++ y) h l
shifted_left x y i j h l a e f = record {
  long = omega arith;
  same = λ t z b c d. let g : t ≡ z = omega arith in sym (get_or-append ([] ∷ x) y [] t (omega arith)) ∙ ap (pick_at (x ++ y)) g;
}

pub shifted_right : (x y : List (List ℕ)) (i j h l : ℕ) → 1 ≤ i → h ≡ i + length x → l ≡ j + length x → Shifted y i j (x ++ y) h l
shifted_right x y i j h l a e f = record { long = omega arith; same = at }
  where
    at : (t z : ℕ) → i ≤ t → t ≤ j → z + i ≡ t + h → pick_at y t ≡ pick_at (x ++ y) z
    at zero z b c d = absurd (omega arith)
    at (suc t) z b c d = let g : suc (length x + t) ≡ z = omega arith in sym (get_or-append-add x y t []) ∙ ap (pick_at (x ++ y)) g

-- links of the footprint only: of both together, so of the first; of each part, so of both
pub listed_left : (x y : List (List ℕ)) (footprint : List ℕ) → Listed (x ++ y) footprint → Listed x footprint
listed_left x y footprint f t u v a b o =
    f t u v a (omega (arith, length-append x y)) (open_shifted t t u v (shifted_left x y t t t t b refl refl) (le_refl t) (le_refl t) refl o)

pub listed-append : (x y : List (List ℕ)) (footprint : List ℕ) → Listed x footprint → Listed y footprint → Listed (x ++ y) footprint
listed-append x y footprint f g t u v a b o =
    let k = length x in
    ⊎_elim (λ (c : t ≤ k). f t u v a c (open_shifted t t u v (shifted_back (shifted_left x y t t t t c refl refl)) (le_refl t) (le_refl t) refl o))
    (λ (c : k < t). let z = length-append x y in
    let i = t - k in
    g i u v (omega arith) (omega arith) (open_shifted t i u v (shifted_back (shifted_right x y i i t t (omega arith) (omega arith) (omega arith)))
    (le_refl t) (le_refl t) (omega arith) o)) (le_or_lt t k)

-- ---- journeys

span_shifted : {r s : List (List ℕ)} (L : Limit) (k i j h l u v : ℕ) → suc j ≡ i + k → Shifted r i j s h l → Span r L i k u v → Span s L h k u v
span_shifted L zero i j h l u v e p f = f
span_shifted L (suc k) i j h l u v e p f =
    let d = p.long in (
      f.0,
      subst (λ (w : List ℕ). Hop L w u f.0) (p.same i h (le_refl i) (omega arith) (omega arith)) f.1,
      span_shifted L k (suc i) j (suc h) l f.0 v (omega arith) (shifted_part (suc i) j (suc h) l p (omega arith) (le_refl j) (omega arith) (omega arith))
          f.2,
    )

pub journey_shifted : {r s : List (List ℕ)} {L : Limit} {i j h l u v : ℕ} → Shifted r i j s h l → i ≤ j → Journey r L i j u v → Journey s L h l u v
journey_shifted {r} {s} {L} {i} {j} {h} {l} {u} {v} p a f =
    let d = p.long in
    let k = suc j - i in
    (journey_span s L h l k u v (omega arith)).1 (span_shifted L k i j h l u v (omega arith) p ((journey_span r L i j k u v (omega arith)).0 f))

pub arrival_shifted : {r s : List (List ℕ)} {L : Limit} {i j h l u v a : ℕ} → Shifted r i j s h l → Arrival r L i j u v a
    → Arrival s L h l u v (a + h - i)
arrival_shifted {i = i} {j} {h} {l} {a = a} p f =
    let e = p.long in
    let f1 = f.from in
    let f2 = f.upto in
    record {
      from = omega arith;
      upto = omega arith;
      there = journey_shifted (shifted_part i a h (a + h - i) p (le_refl i) f2 (omega arith) (omega arith)) f1 f.there;
      first = λ x y z g. f.first (x + i - h) (omega arith) (omega arith)
          (journey_shifted (shifted_back (shifted_part i (x + i - h) h x p (le_refl i) (omega arith) (omega arith) (omega arith))) y g);
    }

pub departure_shifted : {r s : List (List ℕ)} {L : Limit} {i j h l u v d : ℕ} → Shifted r i j s h l → Departure r L i j u v d
    → Departure s L h l u v (d + h - i)
departure_shifted {i = i} {j} {h} {l} {d = d} p f =
    let e = p.long in
    let f1 = f.from in
    let f2 = f.upto in
    record {
      from = omega arith;
      upto = omega arith;
      there = journey_shifted (shifted_part d j (d + h - i) l p f1 (le_refl j) (omega arith) e) f2 f.there;
      last = λ x y z g. f.last (x + i - h) (omega arith) (omega arith)
          (journey_shifted (shifted_back (shifted_part (x + i - h) j x l p (omega arith) (le_refl j) (omega arith) e)) z g);
    }

-- ---- the window of r passes: so does that of s

module _ {r s : List (List ℕ)} {i j h l : ℕ} (p : Shifted r i j s h l) where
  pub some_shifted : (u v : ℕ) → SomeLink r i j u v → SomeLink s h l u v
  some_shifted u v f =
      let e = p.long in
      let t = f.0 in
      let a : i ≤ t = f.1 in
      let b : t ≤ j = f.2 in
      (t + h - i, omega arith, omega arith, open_shifted t (t + h - i) u v p a b (omega arith) f.3)

  pub common_shifted : (n : ℕ) → PassesCommon r n i j → PassesCommon s n h l
  common_shifted n f u v hu hv ne = leads_map (λ x y g t a b. let e = p.long in
      let z = t + i - h in
      open_shifted z t x y p (omega arith) (omega arith) (omega arith) (g z (omega arith) (omega arith))) (f u v hu hv ne)

  pub reach_shifted : (n : ℕ) (L : Limit) → i ≤ j → PassesReach r n L i j → PassesReach s n L h l
  reach_shifted n L a f u v hu hv ne = journey_shifted p a (f u v hu hv ne)

  pub round_shifted : (n : ℕ) (L : Limit) (turn : ℕ) → PassesRoundTrip r n L turn i j → PassesRoundTrip s n L turn h l
  round_shifted n L turn f u v hu hv ne =
      let c = f u v hu hv ne in
      let x = c.arrival.from in
      let y = c.departure.from in
      let z = c.in-time in
      record {
        a = c.a + h - i;
        d = c.d + h - i;
        arrival = arrival_shifted p c.arrival;
        departure = departure_shifted p c.departure;
        in-time = omega arith;
      }

pub footprint_shifted : {r s : List (List ℕ)} {i j h l : ℕ} (footprint : List ℕ) → Shifted r i j s h l → PassesFootprint r footprint i j
    → PassesFootprint s footprint h l
footprint_shifted footprint p f u v = (λ g. (f u v).0 (some_shifted (shifted_back p) u v g), λ m. some_shifted p u v ((f u v).1 m))
