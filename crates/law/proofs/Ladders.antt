-- The ladders, on the words of the area: whatever the walk tests is the window from s to m. The kit is a parameter; all that is asked of it is `Law`.
-- Assumes nothing.
use mathlib.Core.Path.{◌≡◌, refl, sym, ap, ap₂, ◌∙◌}
use mathlib.Core.Logic.{◌≢◌, inl, inr, ⊎_elim}
use mathlib.Core.List.{List}
use Prim.Native.Nat.{ℕ, zero, suc, ◌+◌, ◌-◌, ◌*◌, ◌≤◌, ◌<◌}
use native.Mathlib.Nat.{le_refl}
use native.Mathlib.Omega.{arith}
use mathlib.Core.Bool.{Bool, true, false}
use lib.ListN.{length}
use lib.Dec.{T, leb, ltb, leb→le, ltb→lt, lt→ltb}
use Rattle.model.proofs.Logic.{eq_or, not_le}
use Rattle.measures.specs.Kit.{Kit}
use Rattle.area.specs.Parts.{table, part_size, part, table_at, compose_at}
use Rattle.place.specs.Places.{picks_taken, start_moved, boundary_moved, charged, tested}
use Rattle.steps.specs.Walk.{State, state, ladder, written, rebuilt, joined_area, joined, extended_by, extended, entered, window_area, windowed, judged}
use Rattle.steps.specs.Walk.{far, tried, cleared, raised_by, raised}
use Rattle.steps.proofs.Frames.{frame_tables, frame_room, ladder-length, ladder_out, written_frame, rebuilt_frame, joined_frame, tried_frame, cleared_frame}
use Rattle.area.proofs.Laws.{own_same, compose-same, compose_other, copy_same, zero_same, zero_other}
use Rattle.law.specs.Ladders.{m_of, s_of, b_of, limit_of, WindowTables, holds, Law, Framed, Laddered, Unjoined}

pub not_lt : (m n : ℕ) → (T (ltb m n) → ⊥) → n ≤ m
not_lt m n f = let g : m < n → ⊥ = λ h. f (lt→ltb m n h) in omega arith

-- a pick entered leaves the mark of a failure
pub entered_failed : (K : Kit) (k : ℕ) (w : List ℕ) (st : State) → (entered K k w st).place.marks.failed ≡ st.place.marks.failed
unfolding entered extended extended_by rebuilt joined charged boundary_moved written start_moved picks_taken
entered_failed K k w st = go (far (written K k w st).place)
  where
    go : (x : Bool) → (extended_by K x (written K k w st)).place.marks.failed ≡ st.place.marks.failed
    go true = refl
    go false = refl

module _ (X : WindowTables) (law : Law X) where
  open X use {kit as K, own, win, list as l, most as M}

  -- ---- the left ladder

  module _ (N : ℕ) (a : List ℕ) (room : N * part_size K ≤ length a) (j : ℕ) (high : j ≤ N) where
    pub ladder_at : (k : ℕ) → k < j → j ≤ M → ((i : ℕ) → j - k ≤ i → i ≤ j → table_at K a i ≡ own i)
        → (i : ℕ) → j - k ≤ i → i ≤ j → table_at K (ladder K a j k) i ≡ win i j
    unfolding ladder
    ladder_at zero h z f i x y = let e : i ≡ j = omega arith in f i x y ∙ law.single i (omega arith) (omega arith) ∙ ap (λ (x : ℕ). win i x) e
    ladder_at (suc k) h z f i x y =
        let q = ladder K a j k in
        let g = j - suc k in
        let e = ladder-length K law.wide N a room j high k (omega arith) in
        let ih = ladder_at k (omega arith) z (λ x c d. f x (omega arith) d) in
        ⊎_elim
        (λ (w : i ≡ j - suc k).
        ap (λ (v : ℕ). table_at K (compose_at K q g g (g + 1)) v) w
        ∙ compose-same K N q (omega arith) g (omega arith) (omega arith) law.wide g (g + 1)
        ∙ ap₂ K.join (ap (table K.size) (ladder_out K law.wide N a room j high k (omega arith) g (omega arith) (inl (omega arith)))
        ∙ f g (omega arith) (omega arith)
        ∙ law.single g (omega arith) (omega arith)) (ih (g + 1) (omega arith) (omega arith))
        ∙ law.split g g j (omega arith) (le_refl g) (omega arith) z ∙ ap (λ (v : ℕ). win v j) (sym w))
        (λ (ne : i ≢ j - suc k).
        ap (table K.size) (compose_other K N q (omega arith) g (omega arith) (omega arith) law.wide g (g + 1) i (omega arith) ne)
        ∙ ih i (omega arith) y) (eq_or i (j - suc k))

  -- ---- a new pick

  pub written_unjoined : (k : ℕ) (w : List ℕ) (st : State) → Laddered X st → m_of st + 1 ≤ M → m_of st + 1 ≤ limit_of st
      → K.own (m_of st + 1) w ≡ own (m_of st + 1) → Unjoined X (written K k w st)
  unfolding written start_moved picks_taken
  written_unjoined k w st c z t e =
      let f = c.frame in
      let st1 = f.start in
      let rm = f.room in
      let bd = c.bound in
      let m = m_of st in
      let lo : length (K.own (m + 1) w) ≡ K.size = ap length e ∙ law.own_wide (m + 1) (omega arith) z in
      let N = limit_of st + 4 in
      let fr = written_frame K k w st rm (omega arith) lo in
      let other = frame_tables fr in
      record {
        frame = record {
          start = omega arith;
          top = t;
          room = frame_room K st (written K k w st) _ fr rm;
          list = other (limit_of st + 3) (omega arith) (λ (q : limit_of st + 3 ≡ m + 1). omega arith) ∙ f.list;
        };
        bound = omega arith;
        lefts = λ i x y. other i (omega arith) (λ (q : i ≡ m + 1). omega arith) ∙ c.lefts i (omega arith) y;
        owns = λ i x y. ⊎_elim
            (λ (q : i ≡ m + 1). ap (λ (v : ℕ). table_at K (written K k w st).area v) q ∙ own_same K N st.area rm (m + 1) (omega arith)
            (omega arith) w lo ∙ e ∙ ap own (sym q))
            (λ (q : i ≢ m + 1). other i (omega arith) q ∙ c.owns i x (omega arith)) (eq_or i (m + 1));
        rights = λ x. let y : m ≡ m + 1 - 1 = omega arith in
            other (limit_of st + 1) (omega arith) (λ (q : limit_of st + 1 ≡ m + 1). omega arith) ∙ c.rights (omega arith)
            ∙ ap (λ (v : ℕ). win (b_of st + 1) v) y;
      }

  -- b becomes m: from own tables in parts s to m
  pub rebuilt_laddered : (st : State) → Framed X st → m_of st ≤ M → s_of st ≤ m_of st
      → ((i : ℕ) → s_of st ≤ i → i ≤ m_of st → holds X st i ≡ own i) → Laddered X (rebuilt K st)
  unfolding rebuilt charged boundary_moved
  rebuilt_laddered st f z h g =
      let st1 = f.start in
      let tp = f.top in
      let rm = f.room in
      let m = m_of st in
      let k = m_of st - s_of st in
      let lim = limit_of st in
      let N = limit_of st + 4 in
      let q = ladder K st.area m k in
      let e = ladder-length K law.wide N st.area rm m (omega arith) k (omega arith) in
      let rm2 : N * part_size K ≤ length q = omega arith in
      let fr = rebuilt_frame K law.wide st rm st1 tp in
      record {
        frame = record {
          start = st1;
          top = tp;
          room = frame_room K st (rebuilt K st) _ fr rm;
          list = frame_tables fr (lim + 3) (omega arith) (record { side = inr (omega arith); right = λ (x : lim + 3 ≡ lim + 1). omega arith }) ∙ f.list;
        };
        bound = le_refl m;
        near = omega arith;
        lefts = λ i x y. ap (table K.size) (zero_other K N q rm2 (lim + 1) (omega arith) (omega arith) i (omega arith) (λ (v : i ≡ lim + 1). omega arith))
            ∙ ladder_at N st.area rm m (omega arith) k (omega arith) z (λ i x y. g i (omega arith) y) i (omega arith) y;
        owns = λ i x y. absurd (omega arith);
        rights = λ x. absurd (omega arith);
        empty = λ x. zero_same K N q rm2 (lim + 1) (omega arith) (omega arith);
      }

  -- pick m joins the right ladder
  joined_right : (x : Bool) (st : State) → Unjoined X st → m_of st ≤ M → (T x → b_of st + 1 < m_of st)
      → ((T x → ⊥) → m_of st ≤ b_of st + 1)
      → table_at K (joined_area K x st.place st.area) (limit_of st + 1) ≡ win (b_of st + 1) (m_of st)
  unfolding joined_area
  joined_right true st c z hi lo =
      let tp = c.frame.top in
      let bd = c.bound in
      let hi1 = hi tt in
      let m = m_of st in
      let b = b_of st in
      let lim = limit_of st in
      let y : m ≡ m - 1 + 1 = omega arith in
      compose-same K (lim + 4) st.area c.frame.room (lim + 1) (omega arith) (omega arith) law.wide (lim + 1) m
      ∙ ap₂ K.join (c.rights hi1) (c.owns m bd (le_refl m) ∙ law.single m (omega arith) z ∙ ap (λ (v : ℕ). win v m) y)
      ∙ law.split (b + 1) (m - 1) m (omega arith) (omega arith) (omega arith) z
  joined_right false st c z hi lo =
      let tp = c.frame.top in
      let bd = c.bound in
      let lo1 = lo (λ t. t) in
      let m = m_of st in
      let lim = limit_of st in
      let y : m ≡ b_of st + 1 = omega arith in
      copy_same K (lim + 4) st.area c.frame.room (lim + 1) (omega arith) (omega arith) m (omega arith) (omega arith)
      ∙ c.owns m bd (le_refl m) ∙ law.single m (omega arith) z ∙ ap (λ (v : ℕ). win v m) y

  pub joined_laddered : (st : State) → Unjoined X st → m_of st ≤ M → s_of st ≤ b_of st + 1 → Laddered X (joined K st)
  unfolding joined charged
  joined_laddered st c z n =
      let f = c.frame in
      let st1 = f.start in
      let tp = f.top in
      let bd = c.bound in
      let m = m_of st in
      let b = b_of st in
      let lim = limit_of st in
      let fr = joined_frame K law.wide st f.room (omega arith) tp in
      let other = frame_tables fr in
      record {
        frame = record {
          start = st1;
          top = tp;
          room = frame_room K st (joined K st) _ fr f.room;
          list = other (lim + 3) (omega arith) (λ (x : lim + 3 ≡ lim + 1). omega arith) ∙ f.list;
        };
        bound = omega arith;
        near = n;
        lefts = λ i x y. other i (omega arith) (λ (q : i ≡ lim + 1). omega arith) ∙ c.lefts i x y;
        owns = λ i x y. other i (omega arith) (λ (q : i ≡ lim + 1). omega arith) ∙ c.owns i x y;
        rights = λ x. joined_right (ltb (b + 1) m) st c z (λ t. ltb→lt (b + 1) m t) (λ t. not_lt (b + 1) m t);
        empty = λ x. absurd (omega arith);
      }

  extended-by : (x : Bool) (st : State) → Unjoined X st → m_of st ≤ M → s_of st ≤ m_of st
      → (T x → b_of st + 1 < s_of st) → ((T x → ⊥) → s_of st ≤ b_of st + 1) → Laddered X (extended_by K x st)
  unfolding extended_by
  extended-by true st c z h hi lo = let hi1 = hi tt in rebuilt_laddered st c.frame z h (λ i x y. c.owns i (omega arith) y)
  extended-by false st c z h hi lo = joined_laddered st c z (lo (λ t. t))

  -- with the number of picks that it then has
  pub entered_by : (k : ℕ) (w : List ℕ) (st : State) → Laddered X st → m_of st + 1 ≤ M → m_of st + 1 ≤ limit_of st
      → K.own (m_of st + 1) w ≡ own (m_of st + 1) → s_of st + k ≤ m_of st + 1
      → Laddered X (entered K k w st) × (m_of (entered K k w st) ≤ M)
  unfolding entered extended written start_moved picks_taken extended_by joined charged rebuilt boundary_moved
  entered_by k w st c z t e h =
      let b = b_of st in
      let s = s_of st + k in
      let x = ltb (b + 1) s in
      (extended-by x (written K k w st) (written_unjoined k w st c z t e) z h (λ t. ltb→lt (b + 1) s t) (λ t. not_lt (b + 1) s t), few x)
    where
      few : (x : Bool) → m_of (extended_by K x (written K k w st)) ≤ M
      few true = z
      few false = z

  -- the start rises within a pick (measure 1)
  raised_by_laddered : (x : Bool) (st : State) → Laddered X st → m_of st ≤ M → s_of st < m_of st
      → (T x → b_of st + 1 < s_of st + 1) → ((T x → ⊥) → s_of st + 1 ≤ b_of st + 1)
      → Laddered X (raised_by K x (state (start_moved st.place 1) st.area))
  unfolding raised_by start_moved
  raised_by_laddered true st c z h hi lo =
      let f = c.frame in
      let st1 = f.start in
      let hi1 = hi tt in
      rebuilt_laddered (state (start_moved st.place 1) st.area) (record { start = omega arith; top = f.top; room = f.room; list = f.list }) z
      (omega arith) (λ i x y. c.owns i (omega arith) y)
  raised_by_laddered false st c z h hi lo =
      let f = c.frame in
      let st1 = f.start in
      record {
        frame = record { start = omega arith; top = f.top; room = f.room; list = f.list };
        bound = c.bound;
        near = lo (λ t. t);
        lefts = λ i x y. c.lefts i (omega arith) y;
        owns = c.owns;
        rights = c.rights;
        empty = c.empty;
      }

  pub raised_laddered : (st : State) → Laddered X st → m_of st ≤ M → s_of st < m_of st → Laddered X (raised K st)
  unfolding raised start_moved
  raised_laddered st c z h =
      let b = b_of st in
      let s = s_of st + 1 in
      raised_by_laddered (ltb (b + 1) s) st c z h (λ t. ltb→lt (b + 1) s t) (λ t. not_lt (b + 1) s t)

  -- ---- a test

  -- a part that is no part of the ladders is written, the list's apart
  apart : (st : State) (a : List ℕ) (d : ℕ) → Laddered X st → limit_of st + 2 ≤ d → d ≢ limit_of st + 3 → length a ≡ length st.area
      → ((j : ℕ) → 1 ≤ j → j ≢ d → part (part_size K) a j ≡ part (part_size K) st.area j) → Laddered X (state st.place a)
  apart st a d c h ne e raw =
      let f = c.frame in
      let st1 = f.start in
      let tp = f.top in
      let rm = f.room in
      let bd = c.bound in
      let lim = limit_of st in
      let other : (j : ℕ) → 1 ≤ j → j ≢ d → table_at K a j ≡ holds X st j = λ j x y. ap (table K.size) (raw j x y) in
      record {
        frame = record { start = st1; top = tp; room = omega arith; list = other (lim + 3) (omega arith) (λ (x : lim + 3 ≡ d). ne (sym x)) ∙ f.list };
        bound = bd;
        near = c.near;
        lefts = λ i x y. other i (omega arith) (λ (q : i ≡ d). omega arith) ∙ c.lefts i x y;
        owns = λ i x y. other i (omega arith) (λ (q : i ≡ d). omega arith) ∙ c.owns i x y;
        rights = λ x. other (lim + 1) (omega arith) (λ (q : lim + 1 ≡ d). omega arith) ∙ c.rights x;
        empty = λ x. raw (lim + 1) (omega arith) (λ (q : lim + 1 ≡ d). omega arith) ∙ c.empty x;
      }

  -- counts and flags are no part of them
  tried_laddered : (st : State) → Laddered X st → s_of st ≤ m_of st → Laddered X (tried K st)
  unfolding tried judged windowed charged tested
  tried_laddered st c h =
      let tp = c.frame.top in
      let lim = limit_of st in
      let fr = tried_frame K law.wide st c.frame.room c.frame.start (omega arith) in
      let r = apart st (tried K st).area (lim + 2) c (le_refl (lim + 2)) (λ (x : lim + 2 ≡ lim + 3). omega arith) fr.size fr.parts in
      record {
        frame = record { start = r.frame.start; top = r.frame.top; room = r.frame.room; list = r.frame.list };
        bound = r.bound;
        near = r.near;
        lefts = r.lefts;
        owns = r.owns;
        rights = r.rights;
        empty = r.empty;
      }

  -- part limit + 2 becomes the window s to m
  window_by : (x y : Bool) (st : State) → Laddered X st → m_of st ≤ M → s_of st ≤ m_of st
      → (T x → s_of st ≤ b_of st) → ((T x → ⊥) → b_of st < s_of st)
      → (T y → b_of st < m_of st) → ((T y → ⊥) → m_of st ≤ b_of st)
      → table_at K (window_area K x y st.place st.area) (limit_of st + 2) ≡ win (s_of st) (m_of st)
  unfolding window_area
  window_by true true st c z h x1 x0 y1 y0 =
      let s = s_of st in
      let b = b_of st in
      let lim = limit_of st in
      compose-same K (lim + 4) st.area c.frame.room (lim + 2) (omega arith) (omega arith) law.wide s (lim + 1)
      ∙ ap₂ K.join (c.lefts s (le_refl s) (x1 tt)) (c.rights (y1 tt)) ∙ law.split s b (m_of st) c.frame.start (x1 tt) (y1 tt) z
  window_by true false st c z h x1 x0 y1 y0 =
      let tp = c.frame.top in
      let bm = y0 (λ t. t) in
      let bd = c.bound in
      let s = s_of st in
      let lim = limit_of st in
      let e : b_of st ≡ m_of st = omega arith in
      copy_same K (lim + 4) st.area c.frame.room (lim + 2) (omega arith) (omega arith) s c.frame.start (omega arith)
      ∙ c.lefts s (le_refl s) (x1 tt) ∙ ap (λ (v : ℕ). win s v) e
  window_by false y st c z h x1 x0 y1 y0 =
      let bs = x0 (λ t. t) in
      let nr = c.near in
      let lim = limit_of st in
      let e : b_of st + 1 ≡ s_of st = omega arith in
      copy_same K (lim + 4) st.area c.frame.room (lim + 2) (omega arith) (omega arith) (lim + 1) (omega arith) (omega arith)
      ∙ c.rights (omega arith) ∙ ap (λ (v : ℕ). win v (m_of st)) e

  -- THE WINDOW TESTED is s to m: so says part limit + 2, and so says the mark
  pub record Tests (st q : State) : Type 0 where
    pub laddered : Laddered X q
    pub window : holds X q (limit_of st + 2) ≡ win (s_of st) (m_of st)
    pub result : q.place.marks.passed ≡ K.pass l (win (s_of st) (m_of st))

  pub tried_tests : (st : State) → Laddered X st → m_of st ≤ M → s_of st ≤ m_of st → Tests st (tried K st)
  unfolding tried judged tested windowed charged
  tried_tests st c z h =
      let s = s_of st in
      let m = m_of st in
      let b = b_of st in
      let r = tried_laddered st c h in
      let v = window_by (leb s b) (ltb b m) st c z h (λ t. leb→le s b t) (λ t. not_le s b t) (λ t. ltb→lt b m t) (λ t. not_lt b m t) in
      record { laddered = r; window = v; result = ap₂ K.pass r.frame.list v }

  -- part limit + 4 is no part of the ladders
  pub cleared_laddered : (st : State) → Laddered X st → Laddered X (cleared K st)
  unfolding cleared
  cleared_laddered st c =
      let lim = limit_of st in
      let fr = cleared_frame K st c.frame.room in
      apart st (cleared K st).area (lim + 4) c (omega arith) (λ (q : lim + 4 ≡ lim + 3). omega arith) fr.size fr.parts

  -- and leaves the last window as it was
  pub cleared-window : (st : State) → Framed X st → holds X (cleared K st) (limit_of st + 2) ≡ holds X st (limit_of st + 2)
  cleared-window st f = let lim = limit_of st in frame_tables (cleared_frame K st f.room) (lim + 2) (omega arith) (λ (q : lim + 2 ≡ lim + 4). omega arith)
