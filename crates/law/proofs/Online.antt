-- CONDITION 2, pick by pick, over the calls: an opening that is answered by a place, picks that are taken, record and area coming back as the
-- last call left them. Assumes nothing.
use mathlib.Core.Path.{◌≡◌, refl, sym, ap, ap₂, ◌∙◌, subst}
use mathlib.Core.Logic.{inr, ◌↔◌}
use mathlib.Core.Bool.{Bool, not, cond}
use mathlib.Core.List.{List, [], ◌∷◌, ◌++◌}
use Prim.Native.Nat.{ℕ, zero, suc, ◌+◌, ◌≤◌, zero-le}
use native.Mathlib.Nat.{le_refl, le_of_suc-le-suc}
use native.Mathlib.Omega.{arith}
use lib.Dec.{T, eqb, eqb→eq}
use lib.ListN.{length}
use Rattle.model.specs.Recording.{link, Clean, Recording, pick_at}
use Rattle.model.proofs.Logic.{F→≡}
use Rattle.model.specs.Measures.{Listed}
use Rattle.checks.specs.Checks.{listed}
use Rattle.checks.proofs.Clean.{clean_is, listed_is}
use Rattle.measures.specs.Kit.{Kit, kit, hops01}
use Rattle.area.specs.Parts.{table_at}
use Rattle.area.proofs.Laws.{kit_wide, own_wide}
use Rattle.place.specs.declared.Settings.{Settings}
use Rattle.place.specs.declared.Place.{Place}
use Rattle.place.specs.Places.{settings_of, Sound, fresh, nowhere, charged}
use Rattle.place.proofs.Laws.{sound_in}
use Rattle.verdicts.specs.Verdicts.{open_verdict, pick_verdict}
use Rattle.verdicts.proofs.Verdicts.{open_sound, pick_sound}
use Rattle.steps.specs.Walk.{State, state, kit_of, stepped, reported}
use Rattle.steps.proofs.Fit.{measure_of, limit-of}
use Rattle.steps.proofs.Frames.{frame_tables, stepped_frame}
use Rattle.steps.proofs.Ready.{Stepped, sound_ready, stepped_grown}
use Rattle.model.specs.Causes.{first_of}
use Rattle.calls.specs.Answers.{answer_by}
use Rattle.calls.specs.Calls.{opened_area, open_says, open_leaves, report_says, length_says}
use Rattle.calls.proofs.Taken.{taken_state, refused_state}
use Rattle.calls.proofs.Opened.{opened_list}
use Rattle.law.specs.Ladders.{m_of, limit_of, Holds, last_entered}
use Rattle.law.specs.Course.{Course, course_of, tables, walk_from, state_at}
use Rattle.law.specs.Claim2.{open_state, picked, after_picks, EachTaken, Fits, Walked, OnlineClaim, TakenPickClaim, RefusedPickClaim}
use Rattle.law.specs.Correct.{Passes, Right, Counted}
use Rattle.law.proofs.Walks.{Settled, course_right, course_settled, told, parts, stepped_settled}

-- ---- picks through the call, one after the other

-- picks taken one after another are taken in two parts, the second from the state that the first has left
pub taken_split : (st : State) (x y : List (List ℕ)) → EachTaken st (x ++ y) ↔ (EachTaken st x × EachTaken (after_picks st x) y)
unfolding after_picks
taken_split st [] y = (λ t. (tt, t), λ t. t.1)
taken_split st (w ∷ ws) y = let e = taken_split (picked st w) ws y in (
  λ t. let f = e.0 t.1 in ((t.0, f.0), f.1),
  λ t. (
    t.0.0,
    e.1
        (t.0.1, t.1),
  ),
)

-- and come to the same state
pub after_split : (st : State) (x y : List (List ℕ)) → after_picks st (x ++ y) ≡ after_picks (after_picks st x) y
unfolding after_picks
after_split st [] y = refl
after_split st (w ∷ ws) y = after_split (picked st w) ws y

pub pick_taken : TakenPickClaim
pick_taken st w e = taken_state st.place st.area w e

pub refused_pick_stays : RefusedPickClaim
refused_pick_stays st w f = refused_state st.place st.area w (F→≡ _ (λ t. f (eqb→eq (pick_verdict st.place st.area w) 0 t)))

-- what it does to the numbers of a place, from any place and any words where it is taken
pub pick_stepped : (st : State) (w : List ℕ) → pick_verdict st.place st.area w ≡ 0 → Stepped st.place (picked st w).place
pick_stepped st w e =
    let t = pick_sound st.place st.area w e in
    subst (λ (x : State). Stepped st.place x.place) (sym (pick_taken st w e))
    (stepped_grown st.place st.area w (sound_ready t.sound t.room))

-- ---- what picks that were taken tell

-- the picks w, ws in a row: the first one, and then the others
walked_front : (K : Kit) (w : List ℕ) (ws : List (List ℕ)) (st : State) (k : ℕ) → walk_from K (w ∷ ws) st (suc k) ≡ walk_from K ws (stepped K w st) k
unfolding walk_from
walked_front K w ws st zero = refl
walked_front K w ws st (suc k) = ap (stepped K (pick_at ws (suc k))) (walked_front K w ws st k)

-- the settings of a place, and the footprint in its part
record At (s : Settings) (l : List ℕ) (st : State) : Type 0 where
  same : st.place.settings ≡ s
  list : table_at (kit_of st.place.settings) st.area (limit_of st + 3) ≡ l

-- a pick that is clean, and under measure 2 has links of the footprint only
record GoodPick (s : Settings) (l w : List ℕ) : Type 0 where
  clean : Clean s.boards w
  listed : s.measure ≡ 2 → (u v : ℕ) → T (link w u v) → T (link l u v)

listed_on : (l w : List ℕ) (ws : List (List ℕ)) → ((u v : ℕ) → T (link w u v) → T (link l u v)) → Listed ws l → Listed (w ∷ ws) l
listed_on l w ws f g zero u v a b o = absurd (omega arith)
listed_on l w ws f g (suc zero) u v a b o = f u v o
listed_on l w ws f g (suc (suc t)) u v a b o = g (suc t) u v (omega arith) (le_of_suc-le-suc b) o

module _ (s : Settings) (l : List ℕ) where
  good_pick : (st : State) (w : List ℕ) → At s l st → pick_verdict st.place st.area w ≡ 0 → GoodPick st.place.settings l w
  good_pick st w at e =
      let t = pick_sound st.place st.area w e in
      let n = st.place.settings.boards in
      let c : Clean n w = (clean_is n w t.shape).0 t.clean in
      record {
        clean = c;
        listed = λ m. (listed_is n l w c).0 (subst (λ (x : List ℕ). T (listed n x w)) at.list (t.listed m));
      }

  next_at : (st : State) (w : List ℕ) → At s l st → pick_verdict st.place st.area w ≡ 0 → At s l (stepped (kit_of st.place.settings) w st)
  next_at st w at e =
      let t = pick_sound st.place st.area w e in
      let g = st.place.settings in
      let q = stepped (kit_of g) w st in
      let k = (stepped_settled (kit_of g) w st).settings in
      let p = t.sound in
      let s1 = p.start_high in
      let s2 = p.boundary_high in
      let b = t.below in
      let f = stepped_frame (kit_of g) (kit_wide g.measure g.boards) w st t.room p.start_low (omega arith) b
      (own_wide hops01 g.measure g.boards (m_of st + 1) w t.shape) in
      record {
        same = k ∙ at.same;
        list = ap (λ (x : Settings). table_at (kit_of x) q.area (x.limit + 3)) k ∙ frame_tables f (limit_of st + 3) (omega arith) (record {
          beside = record { aside = record { side = inr (omega arith); right = λ x. omega arith }; window = λ x. omega arith };
          own = λ x. omega arith;
          spare = λ x. omega arith;
        }) ∙ at.list;
      }

  -- they are a recording, under measure 2 with links of the footprint only, there are few enough, and together they are a walk
  record Walk (st : State) (ws : List (List ℕ)) : Type 0 where
    recorded : Recording s.boards ws
    listed : s.measure ≡ 2 → Listed ws l
    few : m_of st ≤ s.limit → m_of st + length ws ≤ s.limit
    walk : after_picks st ws ≡ walk_from (kit_of s) ws st (length ws)

  walks : (ws : List (List ℕ)) (st : State) → At s l st → EachTaken st ws → Walk st ws
  unfolding after_picks walk_from
  walks [] st at t = record { recorded = tt; listed = λ m t u v a b o. absurd (omega arith); few = λ h. omega arith; walk = refl }
  walks (w ∷ ws) st at t =
      let kit-same = ap (λ (x : Settings). stepped (kit_of x) w st) at.same in
      let e : picked st w ≡ stepped (kit_of s) w st = pick_taken st w t.0 ∙ kit-same in
      let k1 = (stepped_settled (kit_of s) w st).taken in
      let b = (pick_sound st.place st.area w t.0).below in
      let lm = limit-of at.same in
      let g = good_pick st w at t.0 in
      let r = walks ws (stepped (kit_of s) w st) (subst (At s l) kit-same (next_at st w at t.0)) (subst (λ (x : State). EachTaken x ws) e t.1) in
      record {
        recorded = (subst (λ (x : Settings). Clean x.boards w) at.same g.clean, r.recorded);
        listed = λ m. listed_on l w ws (g.listed (measure_of at.same ∙ m)) (r.listed m);
        few = λ h. let f = r.few (omega arith) in omega arith;
        walk = ap (λ (x : State). after_picks x ws) e ∙ r.walk ∙ sym (walked_front (kit_of s) w ws st (length ws));
      }

-- ---- THE THEOREM

-- the state that an opening hands over
pub opened_start : (n measure limit : ℕ) (footprint a : List ℕ) → open_verdict n measure limit footprint a ≡ 0
    → open_state n measure limit footprint a ≡ state (charged (fresh measure n limit) 0) (opened_area n measure limit footprint a)
unfolding open_says open_leaves fresh charged
opened_start n measure limit footprint a e =
    ap (λ (b : ℕ). state (cond (eqb b 0) (fresh measure n limit) nowhere) (cond (eqb b 0) (opened_area n measure limit footprint a) a)) e

pub length_reports : (p : Place) → Sound p → 1 ≤ p.window.taken.0 → length_says p ≡ report_says (reported p) p
unfolding length_says first_of
length_reports p s h =
    ap₂ (λ (x y : Bool). answer_by (cond (not x) 16 (cond y 8 0)) (report_says (reported p) p)) (sound_in p s)
    (F→≡ (eqb p.window.taken.0 0) (λ t. let z = eqb→eq p.window.taken.0 0 t in omega arith))

module _ (n measure limit : ℕ) (footprint a : List ℕ) (e : open_verdict n measure limit footprint a ≡ 0) (ws : List (List ℕ))
    (t : EachTaken (open_state n measure limit footprint a) ws) where
  abbrev l : List ℕ
  l = table_at (kit measure n) (opened_area n measure limit footprint a) (limit + 3)

  walk : Walk (settings_of measure n limit) l (state (charged (fresh measure n limit) 0) (opened_area n measure limit footprint a)) ws
  unfolding fresh charged
  walk = walks (settings_of measure n limit) l ws _ (record { same = refl; list = refl })
      (subst (λ (x : State). EachTaken x ws) (opened_start n measure limit footprint a e) t)

  -- picks that were taken are a recording within the limit, and under measure 2 of links of the footprint only
  pub taken_recorded : Recording n ws
  taken_recorded = walk.recorded

  pub taken_few : length ws ≤ limit
  unfolding fresh charged
  taken_few = omega (arith, walk.few zero-le)

  pub taken_fits : Fits measure footprint ws n
  taken_fits m =
      let f = open_sound n measure limit footprint a e in (
        (clean_is n footprint (sym (f.list m))).0 (f.clean m),
        subst (Listed ws) (opened_list n measure limit footprint a f.room f.list m) (walk.listed m),
      )

  -- so they are a course of the walk
  abbrev pub taken_course : Course
  taken_course =
      let f = open_sound n measure limit footprint a e in
      course_of n measure limit footprint a ws (record {
        some_boards = f.some_boards;
        few_boards = f.few;
        measure_low = f.measure_low;
        measure_high = f.measure_high;
        cap = f.cap;
        room = f.room;
      }) taken_recorded taken_few taken_fits

  pub taken_walks : after_picks (open_state n measure limit footprint a) ws ≡ state_at taken_course 0 (length ws)
  taken_walks = ap (λ (x : State). after_picks x ws) (opened_start n measure limit footprint a e) ∙ walk.walk

  -- the place then has the settings of the opening, and as many picks
  pub taken_settled : Settled (settings_of measure n limit) (length ws) (after_picks (open_state n measure limit footprint a) ws).place
  taken_settled = subst (λ (x : State). Settled (settings_of measure n limit) (length ws) x.place) (sym taken_walks)
      (course_settled taken_course 0 (length ws))

  walked_right : 1 ≤ length ws → Walked n measure limit footprint ws (after_picks (open_state n measure limit footprint a) ws).place
  walked_right some_pick =
      let d = told taken_course 0 (λ o. refl) (length ws) some_pick (le_refl (length ws)) in
      let p = (state_at taken_course 0 (length ws)).place in
      let m = (course_settled taken_course 0 (length ws)).taken in
      let z = length_reports p (d.sound refl) (omega arith) in
      subst (λ (x : State). Walked n measure limit footprint ws x.place) (sym taken_walks) (record {
        recorded = taken_recorded;
        within = taken_few;
        fits = taken_fits;
        sound = d.sound refl;
        right = subst (Right measure (Passes measure n footprint ws) (length ws)) (sym z)
            (course_right taken_course (refl, refl) (length ws) (le_refl (length ws)) (report_says (reported p) p) d.right);
        counted = subst (Counted measure 0 (length ws)) (sym z) d.counted;
      })

  -- and the parts of the area hold what document 01 says
  pub online_parts : 1 ≤ length ws → Holds (tables taken_course) (last_entered (after_picks (open_state n measure limit footprint a) ws).place)
      (after_picks (open_state n measure limit footprint a) ws)
  online_parts some_pick =
      subst (λ (x : State). Holds (tables taken_course) (last_entered x.place) x) (sym taken_walks)
      (parts taken_course 0 (λ o. refl) (length ws) some_pick (le_refl (length ws)))

pub online : OnlineClaim
online = walked_right
