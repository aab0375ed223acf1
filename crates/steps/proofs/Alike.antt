-- A STEP READS NO MORE than `Alike` says: from areas that are alike it comes to the same place, and to areas that are alike there. What is
-- written to parts limit + 2 and limit + 4 is not told. m is `taken`, s is `start`. Assumes nothing.
use Prim.Native.Nat.{ℕ, zero, suc, ◌+◌, ◌-◌, ◌*◌, ◌≤◌, ◌<◌}
use native.Mathlib.Omega.{arith}
use mathlib.Core.Path.{◌≡◌, refl, sym, ap, ap₂, ◌∙◌, subst}
use mathlib.Core.Logic.{◌≢◌, ⊎_elim}
use mathlib.Core.Bool.{Bool, true, false, ◌&&◌, not, cond}
use mathlib.Core.List.{List}
use lib.ListN.{length}
use lib.Dec.{T, eqb, ltb, ltb→lt}
use borrow.Author.Tests.{lt-ltb}
use Rattle.model.specs.Journey.{val}
use Rattle.model.proofs.Logic.{eq_or}
use Rattle.lists.specs.Tab.{zeros}
use Rattle.lists.proofs.Tab.{length-zeros}
use Rattle.measures.specs.Kit.{Kit, hops01, Wide}
use Rattle.area.specs.Parts.{stored, table, part_size, table_at, put_part, put_table, compose_at, copy_at, zero_at, own_at}
use Rattle.area.proofs.Stored.{stored-size}
use Rattle.area.proofs.Laws.{put_length, put_same, put_other, table_long, table_same, table_other, kit_wide, own_wide}
use Rattle.place.specs.declared.Place.{Place}
use Rattle.place.proofs.Laws.{and_left, and_right, and_true}
use Rattle.place.specs.Places.{picks_taken, start_moved, boundary_moved, charged, tested}
use Rattle.steps.specs.Walk.{State, state, kit_of, ladder, rebuilt, more, joined_area, joined, far, extended_by, extended, written, entered}
use Rattle.steps.specs.Walk.{on_left, on_right, window_area, windowed, judged, tried, cleared, min_step}
use Rattle.steps.specs.Walk.{raised_by, raised, again, climb, climbed, ended, max_step, stepped}
use Rattle.steps.specs.Fit.{Able, Fit, Entry, Takes}
use Rattle.steps.specs.Alike.{Alike, finished}
use Rattle.steps.proofs.Fit.{limit-of}
use Rattle.steps.proofs.Grown.{entered_grown, tried_grown, raised_grown, again_grown}

-- Alike for as long as the walk reads its area: kept from pick to pick. After the end of measure 1 nothing is asked, since nothing is read.
abbrev pub StillAlike : Place → List ℕ → List ℕ → Type 0
StillAlike p a b = finished p ≡ false → Alike p a b

-- the table of the window s to m, read off the ladders: what a test writes to part limit + 2
unfoldable pub window_table : Kit → Bool → Bool → Place → List ℕ → List ℕ
window_table K true true p a = K.join (table_at K a p.window.start.0) (table_at K a (p.settings.limit + 1))
window_table K true false p a = table_at K a p.window.start.0
window_table K false y p a = table_at K a (p.settings.limit + 1)

-- from two areas the step f comes to one place, and to areas that are alike there
abbrev pub Agrees : (State → State) → Place → List ℕ → List ℕ → Type 0
Agrees f p a b = ((f (state p a)).place ≡ (f (state p b)).place) × Alike (f (state p a)).place (f (state p a)).area (f (state p b)).area

-- ---- areas with no place

-- Two areas with room for limit + 4 parts that are the same in parts 1 to m, in part limit + 1 where r is 1 or more, and in part limit + 3.
record Same (K : Kit) (limit m r : ℕ) (a b : List ℕ) : Type 0 where
  first : (limit + 4) * part_size K ≤ length a
  second : (limit + 4) * part_size K ≤ length b
  picks : (i : ℕ) → 1 ≤ i → i ≤ m → table_at K a i ≡ table_at K b i
  right : 1 ≤ r → table_at K a (limit + 1) ≡ table_at K b (limit + 1)
  footprint : table_at K a (limit + 3) ≡ table_at K b (limit + 3)

-- one of the limit + 4 parts, and not the footprint's
record Free (limit d : ℕ) : Type 0 where
  low : 1 ≤ d
  high : d ≤ limit + 4
  apart : limit + 3 ≢ d

-- the window's part and those before it
free : {limit d : ℕ} → 1 ≤ d → d ≤ limit + 2 → Free limit d
free l h = record { low = l; high = omega arith; apart = λ e. omega arith }

-- The same words put as part d of two areas: the table of part j is the same in both where it is part d, or was the same.
put_both : (K : Kit) (N : ℕ) (a b : List ℕ) → N * part_size K ≤ length a → N * part_size K ≤ length b → (d : ℕ) → 1 ≤ d → d ≤ N → (t : List ℕ)
    → length t ≡ part_size K
    → (j : ℕ) → 1 ≤ j → (j ≢ d → table_at K a j ≡ table_at K b j) → table_at K (put_part (part_size K) a d t) j ≡ table_at K (put_part (part_size K) b d t) j
put_both K N a b f g d low high t size j h e =
    let E = part_size K in
    let same = put_same E N a f d low high t size ∙ sym (put_same E N b g d low high t size) in
    ⊎_elim (λ (q : j ≡ d). subst (λ (i : ℕ). table_at K (put_part E a d t) i ≡ table_at K (put_part E b d t) i) (sym q) (ap (table K.size) same))
    (λ (q : j ≢ d). ap (table K.size) (put_other E N a f d low high t size j h q) ∙ e q
    ∙ sym (ap (table K.size) (put_other E N b g d low high t size j h q)))
    (eq_or j d)

-- So the tables that are the same are those from before, and that of part d.
put_like : {K : Kit} {limit m r : ℕ} {a b : List ℕ} → Same K limit m r a b → (d : ℕ) → Free limit d → (t u : List ℕ)
    → length t ≡ part_size K → t ≡ u
    → (n x : ℕ) → ((i : ℕ) → i ≤ n → i ≢ d → i ≤ m) → (1 ≤ x → limit + 1 ≢ d → 1 ≤ r)
    → Same K limit n x (put_part (part_size K) a d t) (put_part (part_size K) b d u)
put_like {K} {limit} {m} {r} {a} {b} s d o t u size e n x f g =
    let N = limit + 4 in
    let sa = s.first in
    let sb = s.second in
    let la = put_length (part_size K) N a sa d o.low o.high t size in
    let lb = put_length (part_size K) N b sb d o.low o.high t size in
    let both = put_both K N a b sa sb d o.low o.high t size in
    subst (λ (v : List ℕ). Same K limit n x (put_part (part_size K) a d t) (put_part (part_size K) b d v)) e
    (record {
      first = omega arith;
      second = omega arith;
      picks = λ i l h. both i l (λ q. s.picks i l (f i h q));
      right = λ h. both (limit + 1) (omega arith) (λ q. s.right (g h q));
      footprint = both (limit + 3) (omega arith) (λ q. s.footprint);
    })

-- a table put as part d of both
table_like : {K : Kit} {limit m r : ℕ} {a b : List ℕ} → Same K limit m r a b → (d : ℕ) → Free limit d → (t u : List ℕ)
    → length t ≡ K.size → t ≡ u
    → (n x : ℕ) → ((i : ℕ) → i ≤ n → i ≢ d → i ≤ m) → (1 ≤ x → limit + 1 ≢ d → 1 ≤ r)
    → Same K limit n x (put_table K a d t) (put_table K b d u)
table_like {K} s d o t u size e = put_like s d o (stored K t) (stored K u) (stored-size K t size) (ap (stored K) e)

module _ (K : Kit) (wide : Wide K) where
  -- parts i and j, the same in both, composed into part d
  compose_like : {limit m r : ℕ} {a b : List ℕ} → Same K limit m r a b → (d : ℕ) → Free limit d → (i j : ℕ)
      → table_at K a i ≡ table_at K b i
      → table_at K a j ≡ table_at K b j → (x : ℕ) → (1 ≤ x → limit + 1 ≢ d → 1 ≤ r)
      → Same K limit m x (compose_at K a d i j) (compose_at K b d i j)
  unfolding compose_at
  compose_like {limit} {m} s d o i j e g x = table_like s d o _ _ (wide _ _) (ap₂ K.join e g) m x (λ k l q. l)

  -- part i, the same in both, copied to part d
  copy_like : {limit m r : ℕ} {a b : List ℕ} → Same K limit m r a b → (d : ℕ) → Free limit d → (i : ℕ) → 1 ≤ i → i ≤ limit + 4
      → table_at K a i ≡ table_at K b i → (x : ℕ) → (1 ≤ x → limit + 1 ≢ d → 1 ≤ r)
      → Same K limit m x (copy_at K a d i) (copy_at K b d i)
  unfolding copy_at
  copy_like {limit} {m} {r} {a} s d o i l h e x = table_like s d o _ _ (table_long K (limit + 4) a s.first i l h) e m x (λ k z q. z)

  -- part d set to zero
  zero_like : {limit m r : ℕ} {a b : List ℕ} → Same K limit m r a b → (d : ℕ) → Free limit d → (x : ℕ) →
      (1 ≤ x → limit + 1 ≢ d → 1 ≤ r)
      → Same K limit m x (zero_at K a d) (zero_at K b d)
  unfolding zero_at
  zero_like {limit} {m} s d o x = put_like s d o _ _ (length-zeros (part_size K)) refl m x (λ k l q. l)

  -- the left ladder over parts that are the same
  ladder_like : {limit m r : ℕ} {a b : List ℕ} → Same K limit m r a b → m ≤ limit → (k : ℕ) → k ≤ m - 1
      → Same K limit m r (ladder K a m k) (ladder K b m k)
  unfolding ladder
  ladder_like s top zero h = s
  ladder_like {limit} {m} {r} s top (suc k) h =
      let q = ladder_like s top k (omega arith) in
      let d = m - suc k in
      compose_like q d (free (omega arith) (omega arith)) d (d + 1) (q.picks d (omega arith) (omega arith)) (q.picks (d + 1) (omega arith) (omega arith)) r
      (λ l e. l)

  -- the left ladder built over s to m, and the right one empty, whatever it was
  rebuilt_like : {limit m r : ℕ} {a b : List ℕ} → Same K limit m r a b → m ≤ limit → (s : ℕ) → 1 ≤ s
      → Same K limit m m (zero_at K (ladder K a m (m - s)) (limit + 1)) (zero_at K (ladder K b m (m - s)) (limit + 1))
  rebuilt_like {limit} {m} x top s low =
      zero_like (ladder_like x top (m - s) (omega arith)) (limit + 1) (free (omega arith) (omega arith)) m (λ l e. absurd (e refl))

  -- pick m joins the right ladder, which is the same in both where it is read
  joined_like : (x : Bool) (p : Place) (r : ℕ) {a b : List ℕ} → Same K p.settings.limit p.window.taken.0 r a b → 1 ≤ p.window.taken.0
      → p.window.taken.0 ≤ p.settings.limit
      → (T x → 1 ≤ r) → Same K p.settings.limit p.window.taken.0 p.window.taken.0 (joined_area K x p a) (joined_area K x p b)
  unfolding joined_area
  joined_like true p r s low top some =
      let m = p.window.taken.0 in
      compose_like s (p.settings.limit + 1) (free (omega arith) (omega arith)) (p.settings.limit + 1) m (s.right (some tt))
      (s.picks m low (omega arith)) m
      (λ l e. absurd (e refl))
  joined_like false p r s low top some =
      let m = p.window.taken.0 in
      copy_like s (p.settings.limit + 1) (free (omega arith) (omega arith)) m low (omega arith) (s.picks m low (omega arith)) m (λ l e. absurd (e refl))

  -- ---- the window

  -- a window is written to its part and to no other
  window_put : (x y : Bool) (p : Place) (a : List ℕ) → window_area K x y p a ≡ put_table K a (p.settings.limit + 2) (window_table K x y p a)
  unfolding window_area window_table compose_at copy_at
  window_put true true p a = refl
  window_put true false p a = refl
  window_put false y p a = refl

  -- its table has the size of the kit's
  window_wide : (x y : Bool) (p : Place) (a : List ℕ) → (p.settings.limit + 4) * part_size K ≤ length a → 1 ≤ p.window.start.0
      → p.window.start.0 ≤ p.settings.limit
      → length (window_table K x y p a) ≡ K.size
  unfolding window_table
  window_wide true true p a room low high = wide _ _
  window_wide true false p a room low high = table_long K (p.settings.limit + 4) a room p.window.start.0 low (omega arith)
  window_wide false y p a room low high = table_long K (p.settings.limit + 4) a room (p.settings.limit + 1) (omega arith) (omega arith)

  -- and is the same from areas that are the same where it is read
  window_like : (x y : Bool) (p : Place) {m r : ℕ} {a b : List ℕ} → Same K p.settings.limit m r a b → 1 ≤ r → 1 ≤ p.window.start.0
      → p.window.start.0 ≤ m
      → window_table K x y p a ≡ window_table K x y p b
  unfolding window_table
  window_like true true p s some low high = ap₂ K.join (s.picks p.window.start.0 low high) (s.right some)
  window_like true false p s some low high = s.picks p.window.start.0 low high
  window_like false y p s some low high = s.right some

  -- the area after a test
  tried_like : (x y : Bool) (p : Place) {a b : List ℕ} → Same K p.settings.limit p.window.taken.0 p.window.taken.0 a b
      → 1 ≤ p.window.start.0 → p.window.start.0 ≤ p.window.taken.0
      → p.window.taken.0 ≤ p.settings.limit → Same K p.settings.limit p.window.taken.0 p.window.taken.0 (window_area K x y p a)
      (window_area K x y p b)
  tried_like x y p {a} {b} s low high top =
      let m = p.window.taken.0 in
      rw (window_put x y p a, window_put x y p b)
      (table_like s (p.settings.limit + 2) (free (omega arith) (omega arith)) _ _ (window_wide x y p a s.first low (omega arith))
      (window_like x y p s (omega arith) low high) m m (λ i l e. l) (λ l e. l))

  -- the place after a test, from the footprint and the ladders
  tried_place : (p : Place) (a : List ℕ) → (p.settings.limit + 4) * part_size K ≤ length a → 1 ≤ p.window.start.0
      → p.window.start.0 ≤ p.settings.limit
      → (tried K (state p a)).place
      ≡ tested (charged p (val (on_left p && on_right p))) (K.pass (table_at K a (p.settings.limit + 3)) (window_table K (on_left p) (on_right p) p a))
  unfolding tried judged windowed charged
  tried_place p a room low high =
      let N = p.settings.limit + 4 in
      let d = p.settings.limit + 2 in
      let x = on_left p in
      let y = on_right p in
      let t = window_table K x y p a in
      let size = window_wide x y p a room low high in
      let other = table_other K N a room d (omega arith) (omega arith) t size (p.settings.limit + 3) (omega arith) (λ e. omega arith) in
      let same = table_same K N a room d (omega arith) (omega arith) t size in
      ap (tested (charged p (val (x && y))))
      (ap₂ K.pass (ap (λ (b : List ℕ). table_at K b (p.settings.limit + 3)) (window_put x y p a)
      ∙ ap (table K.size) other) (ap (λ (b : List ℕ). table_at K b d) (window_put x y p a) ∙ same))

-- ---- states of one place

-- at the place p, whose kit it is
record Level (K : Kit) (p : Place) (a b : List ℕ) : Type 0 where
  kit : K ≡ kit_of p.settings
  area : Same K p.settings.limit p.window.taken.0 p.window.taken.0 a b

-- two states at the same place
record Twin (K : Kit) (st q : State) : Type 0 where
  place : st.place ≡ q.place
  level : Level K st.place st.area q.area

-- a step from both, from what it does at the first one's place
onward : (K : Kit) (f : State → State) {st q : State} → Twin K st q → Twin K (f st) (f (state st.place q.area)) → Twin K (f st) (f q)
onward K f {st} {q} t g = subst (λ (z : Place). Twin K (f st) (f (state z q.area))) t.place g

-- one of two steps, by a test that is the same for both
choice : {K : Kit} (x : Bool) {st q su r : State} → Twin K st q → Twin K su r → Twin K (cond x st su) (cond x q r)
choice true t u = t
choice false t u = u

module _ (K : Kit) (wide : Wide K) where
  -- the ladders take in pick m, which is written; the right ladder is known where it held picks before
  extended_twin : (x : Bool) (p : Place) {a b : List ℕ} (r : ℕ) → K ≡ kit_of p.settings
      → Same K p.settings.limit p.window.taken.0 r a b
      → 1 ≤ p.window.start.0 → 1 ≤ p.window.taken.0 → p.window.taken.0 ≤ p.settings.limit → (T (more p) → 1 ≤ r)
      → Twin K (extended_by K x (state p a)) (extended_by K x (state p b))
  unfolding extended_by rebuilt joined charged boundary_moved
  extended_twin true p r e s low some top h = record { place = refl; level = record { kit = e; area = rebuilt_like K wide s top p.window.start.0 low } }
  extended_twin false p r e s low some top h = record { place = refl; level = record { kit = e; area = joined_like K wide (more p) p r s some top h } }

  -- a pick taken, its part and the ladders
  entered_twin : (k : ℕ) (w : List ℕ) (p : Place) {a b : List ℕ} → Level K p a b → 1 ≤ p.window.start.0
      → p.window.taken.0 + 1 ≤ p.settings.limit
      → length (K.own (p.window.taken.0 + 1) w) ≡ K.size → Twin K (entered K k w (state p a)) (entered K k w (state p b))
  unfolding entered extended written start_moved picks_taken own_at
  entered_twin k w p {a} {b} s low top size =
      let m = p.window.taken.0 in
      let t = K.own (m + 1) w in
      extended_twin (ltb (p.window.boundary.0 + 1) (p.window.start.0 + k)) (start_moved (picks_taken p 1) k) m s.kit
      (table_like s.area (m + 1) (free (omega arith) (omega arith)) t t size refl (m + 1) m (λ i l q. omega arith) (λ l q. l))
      (omega arith) (omega arith) top (λ h. let l = ltb→lt (p.window.boundary.0 + 1) (m + 1) h in omega arith)

  -- one test
  tried_twin : (p : Place) {a b : List ℕ} → Level K p a b → 1 ≤ p.window.start.0 → p.window.start.0 ≤ p.window.taken.0
      → p.window.taken.0 ≤ p.settings.limit
      → Twin K (tried K (state p a)) (tried K (state p b))
  unfolding tried judged windowed charged tested
  tried_twin p {a} {b} s low high top =
      let x = s.area in
      let same = ap₂ K.pass x.footprint (window_like K wide (on_left p) (on_right p) p x (omega arith) low high) in
      record {
        place = tried_place K wide p a x.first low (omega arith)
            ∙ ap (tested (charged p (val (on_left p && on_right p)))) same
            ∙ sym (tried_place K wide p b x.second low (omega arith));
        level = record { kit = s.kit; area = tried_like K wide (on_left p) (on_right p) p x low high top };
      }

  -- the left ladder built at a rise, or not
  raised_by_twin : (x : Bool) (p : Place) {a b : List ℕ} → Level K p a b → p.window.taken.0 ≤ p.settings.limit
      → Twin K (raised_by K x (state (start_moved p 1) a)) (raised_by K x (state (start_moved p 1) b))
  unfolding raised_by rebuilt charged boundary_moved start_moved
  raised_by_twin true p s top =
      record { place = refl; level = record { kit = s.kit; area = rebuilt_like K wide s.area top (p.window.start.0 + 1) (omega arith) } }
  raised_by_twin false p s top = record { place = refl; level = record { kit = s.kit; area = s.area } }

  -- a rise
  raised_twin : (p : Place) {a b : List ℕ} → Level K p a b → p.window.taken.0 ≤ p.settings.limit
      → Twin K (raised K (state p a)) (raised K (state p b))
  unfolding raised
  raised_twin p s top = raised_by_twin (far (start_moved p 1)) p s top

  -- and its test
  again_twin : (p : Place) {a b : List ℕ} → Level K p a b → p.window.start.0 < p.window.taken.0 → p.window.taken.0 ≤ p.settings.limit
      → Twin K (again K (state p a)) (again K (state p b))
  unfolding again
  again_twin p {a} s high top =
      let t = raised_twin p s top in
      let g = raised_grown K (state p a) in
      let gs = g.start in
      let gm = g.taken in
      let gl = limit-of g.settings in
      onward K (tried K) t (tried_twin (raised K (state p a)).place t.level (omega arith) (omega arith) (omega arith))

  -- the tests of one pick
  climb_twin : (k : ℕ) (p : Place) {a b : List ℕ} → Level K p a b → p.window.start.0 + k ≤ p.window.taken.0
      → p.window.taken.0 ≤ p.settings.limit
      → Twin K (climb K k (state p a)) (climb K k (state p b))
  unfolding climb
  climb_twin zero p s high top = record { place = refl; level = s }
  climb_twin (suc k) p {a} s high top =
      let t = again_twin p s (omega arith) top in
      let g = again_grown K (state p a) in
      let gs = g.start in
      let gm = g.taken in
      let gl = limit-of g.settings in
      choice p.marks.passed (record { place = refl; level = s })
      (onward K (climb K k) t (climb_twin k (again K (state p a)).place t.level (omega arith) (omega arith)))

  -- all of them that are left
  climbed_twin : (p : Place) {a b : List ℕ} → Level K p a b → p.window.start.0 ≤ p.window.taken.0 → p.window.taken.0 ≤ p.settings.limit
      → Twin K (climbed K (state p a)) (climbed K (state p b))
  unfolding climbed
  climbed_twin p s high top = climb_twin (p.window.taken.0 - p.window.start.0) p s (omega arith) top

  -- part limit + 4 cleared
  cleared_twin : (p : Place) {a b : List ℕ} → Level K p a b → Twin K (cleared K (state p a)) (cleared K (state p b))
  unfolding cleared
  cleared_twin p s = record {
    place = refl;
    level = record {
      kit = s.kit;
      area = zero_like K wide s.area (p.settings.limit + 4) (record { low = omega arith; high = omega arith; apart = λ e. omega arith })
          p.window.taken.0 (λ l e. l);
    };
  }

  -- ---- a pick

  module _ (w : List ℕ) (p : Place) (a b : List ℕ) (s : Level K p a b) (low : 1 ≤ p.window.start.0)
      (top : p.window.taken.0 + 1 ≤ p.settings.limit)
      (size : length (K.own (p.window.taken.0 + 1) w) ≡ K.size) where
    -- a pick taken and tested once
    first_twin : (k : ℕ) → p.window.start.0 + k ≤ p.window.taken.0 + 1
        → Twin K (tried K (entered K k w (state p a))) (tried K (entered K k w (state p b)))
    unfolding start_moved picks_taken
    first_twin k h =
        let t = entered_twin k w p s low top size in
        let g = entered_grown K k w (state p a) in
        let gs = g.start in
        let gm = g.taken in
        let gl = limit-of g.settings in
        onward K (tried K) t (tried_twin (entered K k w (state p a)).place t.level (omega arith) (omega arith) (omega arith))

    -- measures 2, 3 and 4
    min_twin : p.window.start.0 + val p.marks.passed ≤ p.window.taken.0 + 1 → Twin K (min_step K w (state p a)) (min_step K w (state p b))
    unfolding min_step
    min_twin h = let t = first_twin (val p.marks.passed) h in onward K (cleared K) t (cleared_twin _ t.level)

    -- measure 1
    max_twin : (k : ℕ) → p.window.start.0 + k ≤ p.window.taken.0 + 1
        → Twin K (cleared K (climbed K (tried K (entered K k w (state p a))))) (cleared K (climbed K (tried K (entered K k w (state p b)))))
    unfolding start_moved picks_taken
    max_twin k h =
        let t = first_twin k h in
        let g = entered_grown K k w (state p a) in
        let gs = g.start in
        let gm = g.taken in
        let gl = limit-of g.settings in
        let n = tried_grown K (entered K k w (state p a)) in
        let ns = n.start in
        let nm = n.taken in
        let nl = limit-of n.settings in
        let c = onward K (climbed K) t (climbed_twin (tried K (entered K k w (state p a))).place t.level (omega arith) (omega arith)) in
        onward K (cleared K) c (cleared_twin _ c.level)

    -- by the measure, and by whether measure 1 has ended
    stepped_by : (x y : Bool) → (x && y) ≡ false → p.window.start.0 + val p.marks.failed ≤ p.window.taken.0 + 1
        → p.window.start.0 + val p.marks.passed ≤ p.window.taken.0 + 1
        → Twin K
        (cond x (cond y (state (picks_taken p 1) a) (cleared K (climbed K (tried K (entered K (val p.marks.failed) w (state p a))))))
        (min_step K w (state p a)))
        (cond x (cond y (state (picks_taken p 1) b) (cleared K (climbed K (tried K (entered K (val p.marks.failed) w (state p b))))))
        (min_step K w (state p b)))
    stepped_by true true z f h = absurd (subst T z tt)
    stepped_by true false z f h = max_twin (val p.marks.failed) f
    stepped_by false y z f h = min_twin h

    -- any measure, before that end
    stepped_twin : finished p ≡ false → p.window.start.0 + val p.marks.failed ≤ p.window.taken.0 + 1
        → p.window.start.0 + val p.marks.passed ≤ p.window.taken.0 + 1
        → Twin K (stepped K w (state p a)) (stepped K w (state p b))
    unfolding stepped max_step
    stepped_twin z f h = stepped_by (eqb p.settings.measure 1) (ended p) z f h

-- ---- AREAS ALIKE

-- an area is like itself
pub alike_refl : (p : Place) (a : List ℕ) → Alike p a a
alike_refl p a = record { picks = λ i l h. refl; right = λ h. refl; footprint = refl }

-- two areas are alike either way round
pub alike_sym : {p : Place} {a b : List ℕ} → Alike p a b → Alike p b a
alike_sym x = record { picks = λ i l h. sym (x.picks i l h); right = λ h. sym (x.right h); footprint = sym x.footprint }

-- areas that are like a third one are alike
pub alike_trans : {p : Place} {a b c : List ℕ} → Alike p a b → Alike p b c → Alike p a c
alike_trans x y = record {
  picks = λ i l h. x.picks i l h ∙ y.picks i l h;
  right = λ h. x.right h ∙ y.right h;
  footprint = x.footprint ∙ y.footprint;
}

-- it goes by the measure, the boards, the limit and the picks taken, and by nothing else of a place
pub alike_at : {p q : Place} {a b : List ℕ} → q.settings ≡ p.settings → q.window.taken.0 ≡ p.window.taken.0 → Alike p a b → Alike q a b
alike_at e h x = record {
  picks = λ i l k. rw e (x.picks i l (omega arith));
  right = λ k. rw e (x.right (omega arith));
  footprint = rw e x.footprint;
}

-- with no pick taken, areas with the same footprint are alike
pub alike_fresh : (p : Place) (a b : List ℕ) → p.window.taken.0 ≡ 0
    → table_at (kit_of p.settings) a (p.settings.limit + 3) ≡ table_at (kit_of p.settings) b (p.settings.limit + 3) → Alike p a b
alike_fresh p a b e f = record { picks = λ i l h. absurd (omega arith); right = λ h. absurd (omega arith); footprint = f }

-- ---- what is not told

-- words written to a part beyond the right ladder's, and not to the footprint's
put_unread : (p : Place) (a t : List ℕ) (d : ℕ) → Able p.settings (length a) → p.window.taken.0 ≤ p.settings.limit
    → length t ≡ part_size (kit_of p.settings)
    → p.settings.limit + 2 ≤ d → d ≤ p.settings.limit + 4 → p.settings.limit + 3 ≢ d
    → Alike p (put_part (part_size (kit_of p.settings)) a d t) a
put_unread p a t d h top size low high apart =
    let K = kit_of p.settings in
    let other = put_other (part_size K) (p.settings.limit + 4) a h.room d (omega arith) high t size in
    record {
      picks = λ i l k. ap (table K.size) (other i l (λ e. omega arith));
      right = λ k. ap (table K.size) (other (p.settings.limit + 1) (omega arith) (λ e. omega arith));
      footprint = ap (table K.size) (other (p.settings.limit + 3) (omega arith) apart);
    }

-- what is written to the window's part is not told
pub alike_window : (p : Place) (a t : List ℕ) → Able p.settings (length a) → p.window.taken.0 ≤ p.settings.limit
    → length t ≡ (kit_of p.settings).size
    → Alike p (put_table (kit_of p.settings) a (p.settings.limit + 2) t) a
alike_window p a t h top size =
    put_unread p a _ (p.settings.limit + 2) h top (stored-size (kit_of p.settings) t size) (omega arith) (omega arith) (λ e. omega arith)

-- and so the window itself
pub alike_windowed : (p : Place) (a : List ℕ) {d : ℕ} → Able p.settings (length a) → Fit p d → Alike p (windowed (kit_of p.settings) (state p a)).area a
unfolding windowed
alike_windowed p a h f =
    let K = kit_of p.settings in
    let wide = kit_wide p.settings.measure p.settings.boards in
    let x = on_left p in
    let y = on_right p in
    let i = f.inside in
    let top = f.top in
    rw (window_put K wide x y p a)
    (alike_window p a (window_table K x y p a) h top (window_wide K wide x y p a h.room f.start (omega arith)))

-- a test writes no more than the window
pub alike_tested : (p : Place) (a : List ℕ) {d : ℕ} → Able p.settings (length a) → Fit p d → Alike p (tried (kit_of p.settings) (state p a)).area a
unfolding tried judged
alike_tested p a h f = alike_windowed p a h f

-- the place after a test, from the parts that it reads: no part limit + 2 is needed
pub tried_reads : (p : Place) (a : List ℕ) {d : ℕ} → Able p.settings (length a) → Fit p d
    → (tried (kit_of p.settings) (state p a)).place
    ≡ tested (charged p (val (on_left p && on_right p)))
    ((kit_of p.settings).pass (table_at (kit_of p.settings) a (p.settings.limit + 3)) (window_table (kit_of p.settings) (on_left p) (on_right p) p a))
tried_reads p a h f =
    let i = f.inside in
    let top = f.top in
    tried_place (kit_of p.settings) (kit_wide p.settings.measure p.settings.boards) p a h.room f.start (omega arith)

-- part limit + 4 set to zero is not told
pub alike_spare : (p : Place) (a : List ℕ) → Able p.settings (length a) → p.window.taken.0 ≤ p.settings.limit
    → Alike p (zero_at (kit_of p.settings) a (p.settings.limit + 4)) a
unfolding zero_at
alike_spare p a h top =
    let E = part_size (kit_of p.settings) in
    put_unread p a (zeros E) (p.settings.limit + 4) h top (length-zeros E) (omega arith) (omega arith) (λ e. omega arith)

-- and so its clearing after a pick
pub alike_cleared : (p : Place) (a : List ℕ) → Able p.settings (length a) → p.window.taken.0 ≤ p.settings.limit
    → Alike p (cleared (kit_of p.settings) (state p a)).area a
unfolding cleared
alike_cleared p a h top = alike_spare p a h top

-- ---- THE STEPS on areas that are alike

-- areas that are alike, with room
from_alike : (p : Place) {a b : List ℕ} → Able p.settings (length a) → Able p.settings (length b) → Alike p a b
    → Level (kit_of p.settings) p a b
from_alike p f g x = record {
  kit = refl;
  area = record { first = f.room; second = g.room; picks = x.picks; right = x.right; footprint = x.footprint };
}

-- and back, at the place that a step came to
to_alike : {K : Kit} {st q : State} → Twin K st q → (st.place ≡ q.place) × Alike st.place st.area q.area
to_alike {K} {st} {q} t =
    let e = t.level.kit in
    let s = t.level.area in (
      t.place,
      record {
        picks = λ i l h. subst (λ (L : Kit). table_at L st.area i ≡ table_at L q.area i) e (s.picks i l h);
        right = λ h. subst (λ (L : Kit). table_at L st.area (st.place.settings.limit + 1) ≡ table_at L q.area (st.place.settings.limit + 1)) e
            (s.right h);
        footprint = subst (λ (L : Kit). table_at L st.area (st.place.settings.limit + 3) ≡ table_at L q.area (st.place.settings.limit + 3)) e
            s.footprint;
      },
    )

-- a pick taken in
pub alike_entered : (p : Place) (k : ℕ) (w a b : List ℕ) → Able p.settings (length a) → Able p.settings (length b) → Entry p k
    → p.settings.boards ≡ length w → Alike p a b
    → Agrees (entered (kit_of p.settings) k w) p a b
alike_entered p k w a b h i f e x =
    to_alike (entered_twin (kit_of p.settings) (kit_wide p.settings.measure p.settings.boards) k w p (from_alike p h i x)
    f.start f.top (own_wide hops01 p.settings.measure p.settings.boards (p.window.taken.0 + 1) w (sym e)))

-- a test
pub alike_tried : (p : Place) (a b : List ℕ) {d : ℕ} → Able p.settings (length a) → Able p.settings (length b) → Fit p d → Alike p a b
    → Agrees (tried (kit_of p.settings)) p a b
alike_tried p a b h i f x =
    to_alike (tried_twin (kit_of p.settings) (kit_wide p.settings.measure p.settings.boards) p (from_alike p h i x)
    f.start f.inside f.top)

-- A STEP, not after the end of measure 1: the areas are alike at its place, though the walk may end there.
pub alike_going : (p : Place) (w a b : List ℕ) → Able p.settings (length a) → Able p.settings (length b) → Takes p (length w) → finished p ≡ false
    → Alike p a b
    → Agrees (stepped (kit_of p.settings) w) p a b
alike_going p w a b h i f z x =
    to_alike (stepped_twin (kit_of p.settings) (kit_wide p.settings.measure p.settings.boards) w p a b (from_alike p h i x) f.passed.start
    f.passed.top (own_wide hops01 p.settings.measure p.settings.boards (p.window.taken.0 + 1) w (sym f.shape)) z f.failed.ahead
    f.passed.ahead)

-- after the end of measure 1 a pick raises m only
pub finished-step : (p : Place) (w a : List ℕ) → finished p ≡ true → stepped (kit_of p.settings) w (state p a) ≡ state (picks_taken p 1) a
unfolding stepped max_step
finished-step p w a z = rw (and_left (eqb p.settings.measure 1) (ended p) z, and_right (eqb p.settings.measure 1) (ended p) z)

-- and it stays over
pub finished_stays : (p : Place) → finished p ≡ true → finished (picks_taken p 1) ≡ true
unfolding picks_taken
finished_stays p z =
    let e = and_right (eqb p.settings.measure 1) (ended p) z in
    and_true (and_left (eqb p.settings.measure 1) (ended p) z)
    (and_true (lt-ltb 0 (p.window.taken.0 + 1) (omega arith)) (and_right (ltb 0 p.window.taken.0) (not p.marks.passed) e))

-- A STEP OF A WALK: from areas that are alike for as long as it reads them it comes to one place, and to such areas.
pub alike_stepped : (p : Place) (w a b : List ℕ) → Able p.settings (length a) → Able p.settings (length b) → Takes p (length w) → StillAlike p a b
    → ((stepped (kit_of p.settings) w (state p a)).place ≡ (stepped (kit_of p.settings) w (state p b)).place)
    × StillAlike (stepped (kit_of p.settings) w (state p a)).place (stepped (kit_of p.settings) w (state p a)).area
    (stepped (kit_of p.settings) w (state p b)).area
alike_stepped p w a b h i f x = go (finished p) refl
  where
    go : (y : Bool) → finished p ≡ y
        → ((stepped (kit_of p.settings) w (state p a)).place ≡ (stepped (kit_of p.settings) w (state p b)).place)
        × StillAlike (stepped (kit_of p.settings) w (state p a)).place (stepped (kit_of p.settings) w (state p a)).area
        (stepped (kit_of p.settings) w (state p b)).area
    go true z = rw (finished-step p w a z, finished-step p w b z) (refl, λ o. absurd (subst T (sym (finished_stays p z) ∙ o) tt))
    go false z = let r = alike_going p w a b h i f z (x z) in (r.0, λ o. r.1)
