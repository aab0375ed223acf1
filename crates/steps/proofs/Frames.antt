-- WHAT EACH STEP LEAVES AS IT WAS, of any place and any words in an area with room for the limit + 4 parts: a step writes the parts named here
-- and no other word. The kit is a parameter; all that is asked of it is that its tables have E words. m is `taken`, s is `start`, b is
-- `boundary`. Assumes nothing.
use mathlib.Core.Path.{◌≡◌, refl, sym, ◌∙◌, subst, ap}
use mathlib.Core.Logic.{◌≢◌, ◌⊎◌, inl, inr, ⊎_elim}
use mathlib.Core.List.{List}
use Prim.Native.Nat.{ℕ, zero, suc, ◌+◌, ◌-◌, ◌*◌, ◌≤◌, ◌<◌, max}
use native.Mathlib.Nat.{le_refl}
use native.Mathlib.Omega.{arith}
use mathlib.Core.Bool.{Bool, true, false, ◌&&◌, cond}
use lib.ListN.{length, drop}
use lib.Dec.{T, eqb, ltb, ltb→lt}
use Rattle.model.proofs.Logic.{le_or_lt, cond_ind}
use Rattle.model.specs.Journey.{val}
use Rattle.measures.specs.Kit.{Kit, Wide}
use Rattle.area.specs.Parts.{table_at, table, part_size, part}
use Rattle.area.proofs.Laws.{own_length, own_other, own_beyond, compose-length, compose_other, compose_beyond, copy_length, copy_other, copy_beyond}
use Rattle.area.proofs.Laws.{zero_length, zero_other, zero_beyond}
use Rattle.place.specs.Places.{picks_taken, start_moved, boundary_moved, charged, tested}
use Rattle.model.proofs.Bits.{val_le}
use Rattle.steps.specs.Fit.{rise}
use Rattle.steps.proofs.Fit.{limit-of}
use Rattle.steps.proofs.Grown.{entered_grown, tried_grown, raised_grown}
use Rattle.steps.specs.Walk.{State, state, ladder, written, rebuilt, joined_area, joined, more, far, extended_by, extended, entered, window_area, on_left}
use Rattle.steps.specs.Walk.{on_right, windowed, judged, tried, cleared, min_step, raised_by, raised, again, climb, climbed, ended, max_step, stepped}

-- room for the limit + 4 parts
abbrev pub Room : Kit → State → Type 0
Room K st = (st.place.settings.limit + 4) * part_size K ≤ length st.area

-- From st to q: the parts of `Out`, the length of the area and the words beyond its parts are as they were.
pub record Frame (K : Kit) (st q : State) (Out : ℕ → Type 0) : Type 0 where
  pub settings : q.place.settings ≡ st.place.settings
  pub parts : (j : ℕ) → 1 ≤ j → Out j → part (part_size K) q.area j ≡ part (part_size K) st.area j
  pub size : length q.area ≡ length st.area
  pub beyond : drop ((st.place.settings.limit + 4) * part_size K) q.area ≡ drop ((st.place.settings.limit + 4) * part_size K) st.area

-- parts outside `from` to `upto` - 1, the right ladder's apart
pub record Aside (from upto limit j : ℕ) : Type 0 where
  pub side : (j < from) ⊎ (upto ≤ j)
  pub right : j ≢ limit + 1

-- the same, and not the window's
pub record Beside (from upto limit j : ℕ) : Type 0 where
  pub aside : Aside from upto limit j
  pub window : j ≢ limit + 2

-- parts that a pick leaves: outside `from` to `upto`, and none of the right ladder's, the window's and part limit + 4
pub record Untouched (from upto limit j : ℕ) : Type 0 where
  pub beside : Beside from upto limit j
  pub own : j ≢ upto
  pub spare : j ≢ limit + 4

-- so are their tables
pub frame_tables : {K : Kit} {st q : State} {Out : ℕ → Type 0} → Frame K st q Out → (j : ℕ) → 1 ≤ j → Out j → table_at K q.area j ≡ table_at K st.area j
frame_tables {K} f j h o = ap (table K.size) (f.parts j h o)

-- ---- one step after another

pub frame_room : (K : Kit) (st q : State) (Out : ℕ → Type 0) → Frame K st q Out → Room K st → Room K q
frame_room K st q Out f rm = rw f.size (subst (λ (x : ℕ). (x + 4) * part_size K ≤ length st.area) (sym (limit-of f.settings)) rm)

pub then : (K : Kit) (st q r : State) (F G Out : ℕ → Type 0) → Frame K st q F → Frame K q r G → ((j : ℕ) → Out j → F j) →
    ((j : ℕ) → Out j → G j) → Frame K st r Out
then K st q r F G Out f g u v = record {
  settings = g.settings ∙ f.settings;
  parts = λ j h o. g.parts j h (v j o) ∙ f.parts j h (u j o);
  size = g.size ∙ f.size;
  beyond = subst (λ (x : ℕ). drop ((x + 4) * part_size K) r.area ≡ drop ((x + 4) * part_size K) q.area) (limit-of f.settings) g.beyond ∙ f.beyond;
}

pub weaker : (K : Kit) (st q : State) (F Out : ℕ → Type 0) → Frame K st q F → ((j : ℕ) → Out j → F j) → Frame K st q Out
weaker K st q F Out f u = record { settings = f.settings; parts = λ j h o. f.parts j h (u j o); size = f.size; beyond = f.beyond }

frame_same : (K : Kit) (st : State) (Out : ℕ → Type 0) → Frame K st st Out
frame_same K st Out = record { settings = refl; parts = λ j h o. refl; size = refl; beyond = refl }

aside_from : {from less upto limit j : ℕ} → Aside less upto limit j → less ≤ from → Aside from upto limit j
aside_from {from} {less} {upto} {limit} {j} o h = record {
  side = ⊎_elim (λ (x : j < less). inl (omega arith)) (λ (x : upto ≤ j). inr x)
      o.side;
  right = o.right;
}

-- ---- the left ladder

module _ (K : Kit) (wide : Wide K) (N : ℕ) (a : List ℕ) (room : N * part_size K ≤ length a) (j : ℕ) (high : j ≤ N) where
  pub ladder-length : (k : ℕ) → k ≤ j - 1 → length (ladder K a j k) ≡ length a
  unfolding ladder
  ladder-length zero h = refl
  ladder-length (suc k) h =
      let e = ladder-length k (omega arith) in
      compose-length K N (ladder K a j k) (omega arith) (j - suc k) (omega arith) (omega arith) wide (j - suc k) (j - suc k + 1) ∙ e

  pub ladder_out : (k : ℕ) → k ≤ j - 1 → (i : ℕ) → 1 ≤ i → (i < j - k) ⊎ (j ≤ i)
      → part (part_size K) (ladder K a j k) i ≡ part (part_size K) a i
  unfolding ladder
  ladder_out zero h i p q = refl
  ladder_out (suc k) h i p q =
      let e = ladder-length k (omega arith) in
      compose_other K N (ladder K a j k) (omega arith) (j - suc k) (omega arith) (omega arith) wide (j - suc k) (j - suc k + 1) i p
      (⊎_elim (λ (x : i < j - suc k). λ (z : i ≡ j - suc k). omega arith) (λ (x : j ≤ i). λ (z : i ≡ j - suc k). omega arith) q)
      ∙ ladder_out k (omega arith) i p (⊎_elim (λ (x : i < j - suc k). inl (omega arith)) (λ (x : j ≤ i). inr x) q)

  pub ladder_beyond : (k : ℕ) → k ≤ j - 1 → drop (N * part_size K) (ladder K a j k) ≡ drop (N * part_size K) a
  unfolding ladder
  ladder_beyond zero h = refl
  ladder_beyond (suc k) h =
      let e = ladder-length k (omega arith) in
      compose_beyond K N (ladder K a j k) (omega arith) (j - suc k) (omega arith) (omega arith) wide (j - suc k) (j - suc k + 1)
      ∙ ladder_beyond k (omega arith)

-- ---- the steps, one by one

module _ (K : Kit) where
  -- part m + 1, m before it
  pub written_frame : (k : ℕ) (w : List ℕ) (st : State) → Room K st → st.place.window.taken.0 < st.place.settings.limit
      → length (K.own (st.place.window.taken.0 + 1) w) ≡ K.size
      → Frame K st (written K k w st) (λ (j : ℕ). j ≢ st.place.window.taken.0 + 1)
  unfolding written start_moved picks_taken
  written_frame k w st rm h size =
      let m = st.place.window.taken.0 in
      let N = st.place.settings.limit + 4 in
      record {
        settings = refl;
        parts = own_other K N st.area rm (m + 1) (omega arith) (omega arith) w size;
        size = own_length K N st.area rm (m + 1) (omega arith) (omega arith) w size;
        beyond = own_beyond K N st.area rm (m + 1) (omega arith) (omega arith) w size;
      }

  -- no word
  pub judged_writes_nothing : (st : State) → (judged K st).area ≡ st.area
  unfolding judged
  judged_writes_nothing st = refl

  -- part limit + 4
  pub cleared_frame : (st : State) → Room K st → Frame K st (cleared K st) (λ (j : ℕ). j ≢ st.place.settings.limit + 4)
  unfolding cleared
  cleared_frame st rm =
      let N = st.place.settings.limit + 4 in
      record {
        settings = refl;
        parts = zero_other K N st.area rm N (omega arith) (le_refl N);
        size = zero_length K N st.area rm N (omega arith) (le_refl N);
        beyond = zero_beyond K N st.area rm N (omega arith) (le_refl N);
      }

  -- AFTER THE END a pick raises m, and that is all
  pub ended_writes_nothing : (w : List ℕ) (st : State) → T (ended st.place) → max_step K w st ≡ state (picks_taken st.place 1) st.area
  unfolding max_step
  ended_writes_nothing w st h =
      cond_ind (λ (q : State). q ≡ state (picks_taken st.place 1) st.area) (ended st.place) _ _ (λ t. refl) (λ t. absurd (t h))

  module _ (wide : Wide K) where
    -- parts s to m - 1, and part limit + 1
    pub rebuilt_frame : (st : State) → Room K st → 1 ≤ st.place.window.start.0 → st.place.window.taken.0 ≤ st.place.settings.limit
        → Frame K st (rebuilt K st) (Aside st.place.window.start.0 st.place.window.taken.0 st.place.settings.limit)
    unfolding rebuilt charged boundary_moved
    rebuilt_frame st rm low top =
        let m = st.place.window.taken.0 in
        let k = st.place.window.taken.0 - st.place.window.start.0 in
        let lim = st.place.settings.limit in
        let N = st.place.settings.limit + 4 in
        let q = ladder K st.area m k in
        let e = ladder-length K wide N st.area rm m (omega arith) k (omega arith) in
        let rm2 : N * part_size K ≤ length q = omega arith in
        record {
          settings = refl;
          parts = λ j h o. zero_other K N q rm2 (lim + 1) (omega arith) (omega arith) j h o.right
              ∙ ladder_out K wide N st.area rm m (omega arith) k (omega arith) j h (⊎_elim (λ (x : j < st.place.window.start.0). side j x)
              (λ (x : m ≤ j). inr x) o.side);
          size = zero_length K N q rm2 (lim + 1) (omega arith) (omega arith) ∙ e;
          beyond = zero_beyond K N q rm2 (lim + 1) (omega arith) (omega arith) ∙ ladder_beyond K wide N st.area rm m (omega arith) k (omega arith);
        }
      where
        side : (j : ℕ) → j < st.place.window.start.0
            → (j < st.place.window.taken.0 - (st.place.window.taken.0 - st.place.window.start.0)) ⊎ (st.place.window.taken.0 ≤ j)
        side j x = ⊎_elim (λ (y : st.place.window.taken.0 ≤ j). inr y) (λ (y : j < st.place.window.taken.0). inl (omega arith))
            (le_or_lt st.place.window.taken.0 j)

    joined_by : (x : Bool) (k : ℕ) (st : State) → Room K st → 1 ≤ st.place.window.taken.0
        → st.place.window.taken.0 ≤ st.place.settings.limit
        → Frame K st (state (charged st.place k) (joined_area K x st.place st.area)) (λ (j : ℕ). j ≢ st.place.settings.limit + 1)
    unfolding joined_area charged
    joined_by true k st rm low top =
        let m = st.place.window.taken.0 in
        let lim = st.place.settings.limit in
        record {
          settings = refl;
          parts = compose_other K (lim + 4) st.area rm (lim + 1) (omega arith) (omega arith) wide (lim + 1) m;
          size = compose-length K (lim + 4) st.area rm (lim + 1) (omega arith) (omega arith) wide (lim + 1) m;
          beyond = compose_beyond K (lim + 4) st.area rm (lim + 1) (omega arith) (omega arith) wide (lim + 1) m;
        }
    joined_by false k st rm low top =
        let m = st.place.window.taken.0 in
        let lim = st.place.settings.limit in
        record {
          settings = refl;
          parts = copy_other K (lim + 4) st.area rm (lim + 1) (omega arith) (omega arith) m low (omega arith);
          size = copy_length K (lim + 4) st.area rm (lim + 1) (omega arith) (omega arith) m low (omega arith);
          beyond = copy_beyond K (lim + 4) st.area rm (lim + 1) (omega arith) (omega arith) m low (omega arith);
        }

    -- part limit + 1
    pub joined_frame : (st : State) → Room K st → 1 ≤ st.place.window.taken.0 → st.place.window.taken.0 ≤ st.place.settings.limit
        → Frame K st (joined K st) (λ (j : ℕ). j ≢ st.place.settings.limit + 1)
    unfolding joined
    joined_frame st rm low top = joined_by (more st.place) (val (more st.place)) st rm low top

    windowed_by : (x y : Bool) (k : ℕ) (st : State) → Room K st → 1 ≤ st.place.window.start.0
        → st.place.window.start.0 ≤ st.place.settings.limit + 4
        → Frame K st (state (charged st.place k) (window_area K x y st.place st.area)) (λ (j : ℕ). j ≢ st.place.settings.limit + 2)
    unfolding window_area charged
    windowed_by true true k st rm low high =
        let s = st.place.window.start.0 in
        let lim = st.place.settings.limit in
        record {
          settings = refl;
          parts = compose_other K (lim + 4) st.area rm (lim + 2) (omega arith) (omega arith) wide s (lim + 1);
          size = compose-length K (lim + 4) st.area rm (lim + 2) (omega arith) (omega arith) wide s (lim + 1);
          beyond = compose_beyond K (lim + 4) st.area rm (lim + 2) (omega arith) (omega arith) wide s (lim + 1);
        }
    windowed_by true false k st rm low high =
        let s = st.place.window.start.0 in
        let lim = st.place.settings.limit in
        record {
          settings = refl;
          parts = copy_other K (lim + 4) st.area rm (lim + 2) (omega arith) (omega arith) s low high;
          size = copy_length K (lim + 4) st.area rm (lim + 2) (omega arith) (omega arith) s low high;
          beyond = copy_beyond K (lim + 4) st.area rm (lim + 2) (omega arith) (omega arith) s low high;
        }
    windowed_by false y k st rm low high =
        let lim = st.place.settings.limit in
        record {
          settings = refl;
          parts = copy_other K (lim + 4) st.area rm (lim + 2) (omega arith) (omega arith) (lim + 1) (omega arith) (omega arith);
          size = copy_length K (lim + 4) st.area rm (lim + 2) (omega arith) (omega arith) (lim + 1) (omega arith) (omega arith);
          beyond = copy_beyond K (lim + 4) st.area rm (lim + 2) (omega arith) (omega arith) (lim + 1) (omega arith) (omega arith);
        }

    -- part limit + 2
    pub windowed_frame : (st : State) → Room K st → 1 ≤ st.place.window.start.0 → st.place.window.start.0 ≤ st.place.settings.limit + 4
        → Frame K st (windowed K st) (λ (j : ℕ). j ≢ st.place.settings.limit + 2)
    unfolding windowed
    windowed_frame st rm low high = windowed_by (on_left st.place) (on_right st.place) (val (on_left st.place && on_right st.place)) st rm low high

    -- a test: part limit + 2
    pub tried_frame : (st : State) → Room K st → 1 ≤ st.place.window.start.0 → st.place.window.start.0 ≤ st.place.settings.limit + 4
        → Frame K st (tried K st) (λ (j : ℕ). j ≢ st.place.settings.limit + 2)
    unfolding tried judged tested
    tried_frame st rm low high =
        let f = windowed_frame st rm low high in
        record { settings = f.settings; parts = f.parts; size = f.size; beyond = f.beyond }

    -- ---- a pick, and a rise

    extended-by : (x : Bool) (st : State) → Room K st → 1 ≤ st.place.window.start.0 → 1 ≤ st.place.window.taken.0
        → st.place.window.taken.0 ≤ st.place.settings.limit → (T x → st.place.window.boundary.0 + 1 < st.place.window.start.0)
        → Frame K st (extended_by K x st) (Aside (max st.place.window.start.0 (st.place.window.boundary.0 + 2)) st.place.window.taken.0
        st.place.settings.limit)
    unfolding extended_by
    extended-by true st rm low some top hi = let f = hi tt in weaker K st (rebuilt K st) _ _ (rebuilt_frame st rm low top) (λ j o. aside_from o (omega arith))
    extended-by false st rm low some top hi = weaker K st (joined K st) _ _ (joined_frame st rm some top) (λ j o. o.right)

    -- parts s to m - 1 where s exceeds b + 1, and part limit + 1
    pub extended_frame : (st : State) → Room K st → 1 ≤ st.place.window.start.0 → 1 ≤ st.place.window.taken.0
        → st.place.window.taken.0 ≤ st.place.settings.limit
        → Frame K st (extended K st) (Aside (max st.place.window.start.0 (st.place.window.boundary.0 + 2)) st.place.window.taken.0
        st.place.settings.limit)
    unfolding extended
    extended_frame st rm low some top = extended-by (far st.place) st rm low some top (λ t. ltb→lt (st.place.window.boundary.0 + 1)
        st.place.window.start.0 t)

    after-written : (k : ℕ) (w : List ℕ) (st : State) → Room K (written K k w st) → 1 ≤ st.place.window.start.0
        → st.place.window.taken.0 < st.place.settings.limit
        → Frame K (written K k w st) (extended K (written K k w st)) (Aside (max (st.place.window.start.0 + k) (st.place.window.boundary.0 + 2))
        (st.place.window.taken.0 + 1) st.place.settings.limit)
    unfolding written start_moved picks_taken
    after-written k w st rm low top = extended_frame (written K k w st) rm (omega arith) (omega arith) (omega arith)

    -- and part m + 1, m before it
    pub entered_frame : (k : ℕ) (w : List ℕ) (st : State) → Room K st → 1 ≤ st.place.window.start.0
        → st.place.window.taken.0 < st.place.settings.limit → length (K.own (st.place.window.taken.0 + 1) w) ≡ K.size
        → Frame K st (entered K k w st) (λ (j : ℕ). Aside (max (st.place.window.start.0 + k) (st.place.window.boundary.0 + 2))
        (st.place.window.taken.0 + 1) st.place.settings.limit j × (j ≢ st.place.window.taken.0 + 1))
    unfolding entered
    entered_frame k w st rm low top size =
        let f = written_frame k w st rm top size in
        then K st (written K k w st) (extended K (written K k w st)) _ _ _ f (after-written k w st (frame_room K st (written K k w st) _ f rm) low top)
        (λ j o. o.1) (λ j o. o.0)

    raised_by_frame : (x : Bool) (st : State) → Room K st → st.place.window.taken.0 ≤ st.place.settings.limit →
        (T x → st.place.window.boundary.0 + 1 < st.place.window.start.0 + 1)
        → Frame K st (raised_by K x (state (start_moved st.place 1) st.area)) (Aside (max (st.place.window.start.0 + 1)
        (st.place.window.boundary.0 + 2)) st.place.window.taken.0 st.place.settings.limit)
    unfolding raised_by start_moved
    raised_by_frame true st rm top hi =
        let q = state (start_moved st.place 1) st.area in
        let h = hi tt in
        let f = rebuilt_frame q rm (omega arith) top in
        record { settings = f.settings; parts = λ j l o. f.parts j l (aside_from o (omega arith)); size = f.size; beyond = f.beyond }
    raised_by_frame false st rm top hi = record { settings = refl; parts = λ j l o. refl; size = refl; beyond = refl }

    -- s rises: parts s to m - 1 where it then exceeds b + 1, and part limit + 1
    pub raised_frame : (st : State) → Room K st → st.place.window.taken.0 ≤ st.place.settings.limit
        → Frame K st (raised K st) (Aside (max (st.place.window.start.0 + 1) (st.place.window.boundary.0 + 2)) st.place.window.taken.0
        st.place.settings.limit)
    unfolding raised start_moved
    raised_frame st rm top = raised_by_frame (ltb (st.place.window.boundary.0 + 1) (st.place.window.start.0 + 1)) st rm top (λ t. ltb→lt
        (st.place.window.boundary.0 + 1) (st.place.window.start.0 + 1) t)

    -- the tests of one pick: `from` is at most s + 1, or at most b + 2
    climb_frame : (k : ℕ) (st : State) (from : ℕ) → Room K st → 1 ≤ st.place.window.start.0
        → st.place.window.start.0 + k ≤ st.place.settings.limit + 4 → st.place.window.taken.0 ≤ st.place.settings.limit
        → from ≤ max (st.place.window.start.0 + 1) (st.place.window.boundary.0 + 2)
        → Frame K st (climb K k st) (Beside from st.place.window.taken.0 st.place.settings.limit)
    unfolding climb again
    climb_frame zero st from rm low high top reach = frame_same K st _
    climb_frame (suc k) st from rm low high top reach =
        cond_ind (λ (q : State). Frame K st q (Beside from st.place.window.taken.0 st.place.settings.limit)) st.place.marks.passed st
        (climb K k (tried K (raised K st)))
        (λ t. frame_same K st _)
        (λ t.
        let m = st.place.window.taken.0 in
        let lim = st.place.settings.limit in
        let q = raised K st in
        let r = tried K q in
        let n = raised_grown K st in
        let o = tried_grown K q in
        let n0 = n.taken in
        let n1 = n.start in
        let n2 = n.lowest in
        let o0 = o.taken in
        let o1 = o.start in
        let o2 = o.lowest in
        let f = raised_frame st rm top in
        let f0 = limit-of f.settings in
        let rmq = frame_room K st q _ f rm in
        let g = tried_frame q rmq (omega arith) (omega arith) in
        let g0 = limit-of g.settings in
        let rmr = frame_room K q r _ g rmq in
        let e : m ≡ r.place.window.taken.0 = omega arith in
        let d : lim ≡ r.place.settings.limit = omega arith in
        let h = climb_frame k r from rmr (omega arith) (omega arith) (omega arith) (omega arith) in
        then K st q (climb K k r) _ (Beside from m lim) (Beside from m lim) f
        (then K q r (climb K k r) _ _ (Beside from m lim) g h (λ j x. λ (y : j ≡ q.place.settings.limit + 2). x.window (omega arith))
        (λ j x. subst (λ (v : ℕ). Beside from v r.place.settings.limit j) e (subst (λ (v : ℕ). Beside from m v j) d x)))
        (λ j x. aside_from x.aside reach) (λ j x. x))

    -- ---- A PICK TAKEN

    -- entered and tested once
    first_frame : (k : ℕ) (w : List ℕ) (st : State) → Room K st → 1 ≤ st.place.window.start.0
        → st.place.window.start.0 + k ≤ st.place.settings.limit + 4 → st.place.window.taken.0 < st.place.settings.limit
        → length (K.own (st.place.window.taken.0 + 1) w) ≡ K.size
        → Frame K st (tried K (entered K k w st)) (Untouched (max (st.place.window.start.0 + k) (st.place.window.boundary.0 + 2))
        (st.place.window.taken.0 + 1) st.place.settings.limit)
    first_frame k w st rm low high top size =
        let q = entered K k w st in
        let f = entered_frame k w st rm low top size in
        let n1 = (entered_grown K k w st).start in
        let f0 = limit-of f.settings in
        then K st q (tried K q) _ _ _ f (tried_frame q (frame_room K st q _ f rm) (omega arith) (omega arith)) (λ j o. (o.beside.aside, o.own))
        (λ j o. λ (y : j ≡ q.place.settings.limit + 2). o.beside.window (omega arith))

    -- the last part zeroed
    last_frame : (st q : State) (from upto : ℕ) → Room K st → Frame K st q (Untouched from upto st.place.settings.limit)
        → Frame K st (cleared K q) (Untouched from upto st.place.settings.limit)
    last_frame st q from upto rm f =
        let f0 = limit-of f.settings in
        then K st q (cleared K q) _ _ _ f (cleared_frame q (frame_room K st q _ f rm)) (λ j o. o)
        (λ j o. λ (y : j ≡ q.place.settings.limit + 4). o.spare (omega arith))

    -- measures 2, 3 and 4
    pub min_frame : (w : List ℕ) (st : State) → Room K st → 1 ≤ st.place.window.start.0
        → st.place.window.start.0 ≤ st.place.settings.limit + 3 → st.place.window.taken.0 < st.place.settings.limit
        → length (K.own (st.place.window.taken.0 + 1) w) ≡ K.size
        → Frame K st (min_step K w st) (Untouched (max (st.place.window.start.0 + val st.place.marks.passed) (st.place.window.boundary.0 + 2))
        (st.place.window.taken.0 + 1) st.place.settings.limit)
    unfolding min_step
    min_frame w st rm low high top size =
        last_frame st (tried K (entered K (val st.place.marks.passed) w st)) _ _ rm
        (first_frame (val st.place.marks.passed) w st rm low (omega (arith, val_le st.place.marks.passed)) top size)

    climbed_frame : (k : ℕ) (w : List ℕ) (st : State) → Room K st → 1 ≤ st.place.window.start.0
        → st.place.window.start.0 + k ≤ st.place.settings.limit + 4 → st.place.window.taken.0 < st.place.settings.limit
        → length (K.own (st.place.window.taken.0 + 1) w) ≡ K.size
        → Frame K st (climbed K (tried K (entered K k w st))) (Untouched (max (st.place.window.start.0 + k) (st.place.window.boundary.0 + 2))
        (st.place.window.taken.0 + 1) st.place.settings.limit)
    unfolding climbed
    climbed_frame k w st rm low high top size =
        let from = max (st.place.window.start.0 + k) (st.place.window.boundary.0 + 2) in
        let m = st.place.window.taken.0 + 1 in
        let lim = st.place.settings.limit in
        let q = entered K k w st in
        let r = tried K q in
        let n = entered_grown K k w st in
        let o = tried_grown K q in
        let n0 = n.taken in
        let n1 = n.start in
        let n2 = n.lowest in
        let o0 = o.taken in
        let o1 = o.start in
        let o2 = o.lowest in
        let f = first_frame k w st rm low high top size in
        let f0 = limit-of f.settings in
        let e : m ≡ r.place.window.taken.0 = omega arith in
        let d : lim ≡ r.place.settings.limit = omega arith in
        then K st r (climb K (r.place.window.taken.0 - r.place.window.start.0) r) _ _ _ f
        (climb_frame (r.place.window.taken.0 - r.place.window.start.0) r from (frame_room K st r _ f rm) (omega arith) (omega arith) (omega arith)
        (omega arith))
        (λ j x. x) (λ j x. subst (λ (v : ℕ). Beside from v r.place.settings.limit j) e (subst (λ (v : ℕ). Beside from m v j) d x.beside))

    -- measure 1
    pub max_frame : (w : List ℕ) (st : State) → Room K st → 1 ≤ st.place.window.start.0
        → st.place.window.start.0 ≤ st.place.settings.limit + 3 → st.place.window.taken.0 < st.place.settings.limit
        → length (K.own (st.place.window.taken.0 + 1) w) ≡ K.size
        → Frame K st (max_step K w st) (Untouched (max (st.place.window.start.0 + val st.place.marks.failed) (st.place.window.boundary.0 + 2))
        (st.place.window.taken.0 + 1) st.place.settings.limit)
    unfolding max_step picks_taken
    max_frame w st rm low high top size =
        cond_ind (λ (q : State). Frame K st q (Untouched (max (st.place.window.start.0 + val st.place.marks.failed)
        (st.place.window.boundary.0 + 2)) (st.place.window.taken.0 + 1) st.place.settings.limit)) (ended st.place)
        (state (picks_taken st.place 1) st.area) (cleared K (climbed K (tried K (entered K (val st.place.marks.failed) w st))))
        (λ t. record { settings = refl; parts = λ j h o. refl; size = refl; beyond = refl })
        (λ t. last_frame st (climbed K (tried K (entered K (val st.place.marks.failed) w st))) _ _ rm
        (climbed_frame (val st.place.marks.failed) w st rm low (omega (arith, val_le st.place.marks.failed)) top size))

    -- any measure: only parts max (s + rise, b + 2) to m + 1 (m and s before it), limit + 1, limit + 2 and limit + 4 can change
    pub stepped_frame : (w : List ℕ) (st : State) → Room K st → 1 ≤ st.place.window.start.0
        → st.place.window.start.0 ≤ st.place.settings.limit + 3 → st.place.window.taken.0 < st.place.settings.limit
        → length (K.own (st.place.window.taken.0 + 1) w) ≡ K.size
        → Frame K st (stepped K w st) (Untouched (max (st.place.window.start.0 + rise st.place) (st.place.window.boundary.0 + 2))
        (st.place.window.taken.0 + 1) st.place.settings.limit)
    unfolding stepped
    stepped_frame w st rm low high top size = go (eqb st.place.settings.measure 1)
      where
        go : (x : Bool) → Frame K st (cond x (max_step K w st) (min_step K w st))
            (Untouched (max (st.place.window.start.0 + val (cond x st.place.marks.failed st.place.marks.passed))
            (st.place.window.boundary.0 + 2)) (st.place.window.taken.0 + 1) st.place.settings.limit)
        go true = max_frame w st rm low high top size
        go false = min_frame w st rm low high top size
