-- THE STEPS OF A WHOLE RUN come to the places of the walk, and to areas that the walk cannot tell from its own. Assumes nothing.
use Prim.Native.Nat.{ℕ, ◌+◌, ◌*◌, ◌≤◌}
use native.Mathlib.Omega.{arith}
use mathlib.Core.Path.{◌≡◌, refl, sym, ap, ◌∙◌, subst}
use mathlib.Core.Bool.{Bool, true, false}
use mathlib.Core.List.{List}
use lib.ListN.{length, drop}
use borrow.Author.Tests.{ne_eqb}
use Rattle.model.specs.Journey.{val}
use Rattle.measures.specs.Kit.{Kit, hops01}
use Rattle.area.specs.Parts.{part_size}
use Rattle.area.proofs.Laws.{kit_wide, own_wide}
use Rattle.place.specs.declared.Settings.{Settings}
use Rattle.place.specs.declared.Place.{Place}
use Rattle.place.specs.Places.{picks_taken, start_moved, per_ladder}
use Rattle.steps.specs.Walk.{State, state, kit_of, entered, tried, cleared, min_step, stepped}
use Rattle.steps.specs.Fit.{Able, Fit, Entry, Takes}
use Rattle.steps.specs.Alike.{Alike}
use Rattle.steps.specs.Bare.{composes, bare_tried, bare_tested, spared, bare_step}
use Rattle.steps.proofs.Fit.{limit-of, able_kept, able_long}
use Rattle.steps.proofs.Grown.{entered_grown, tried_grown, enter_tries}
use Rattle.steps.proofs.Closes.{spared_other}
use Rattle.model.proofs.Logic.{cond_ind}
use Rattle.steps.proofs.Frames.{Frame, frame_room, then, weaker, entered_frame, tried_frame, stepped_frame}
use Rattle.steps.proofs.Alike.{StillAlike, alike_refl, alike_sym, alike_trans, alike_at, alike_tested, alike_cleared, alike_tried, alike_stepped}

-- ---- by the measure

-- the step of a measure that is spared makes one test
stepped-min : (p : Place) (w a : List ℕ) → spared p.settings ≡ true → stepped (kit_of p.settings) w (state p a)
    ≡ min_step (kit_of p.settings) w (state p a)
unfolding stepped
stepped-min p w a z = rw (ne_eqb p.settings.measure 1 (spared_other p.settings z))

-- and its bare step tests what was entered
bare_spared : (p : Place) (w a : List ℕ) → spared p.settings ≡ true
    → bare_step (kit_of p.settings) w (state p a) ≡ bare_tried (kit_of p.settings) (entered (kit_of p.settings) (val p.marks.passed) w (state p a))
unfolding bare_step
bare_spared p w a z = rw z

-- the bare step of any other measure is that of the walk
pub bare_whole : (p : Place) (w a : List ℕ) → spared p.settings ≡ false
    → bare_step (kit_of p.settings) w (state p a) ≡ stepped (kit_of p.settings) w (state p a)
unfolding bare_step
bare_whole p w a z = rw z

-- where one test is made, both come to one place
tested_place : (p : Place) (w a : List ℕ)
    → (bare_tried (kit_of p.settings) (entered (kit_of p.settings) (val p.marks.passed) w (state p a))).place
    ≡ (min_step (kit_of p.settings) w (state p a)).place
unfolding bare_tried min_step cleared
tested_place p w a = refl

-- THE PLACE after a bare step is that of the walk.
pub bare_place : (p : Place) (w a : List ℕ) → (bare_step (kit_of p.settings) w (state p a)).place ≡ (stepped (kit_of p.settings) w (state p a)).place
bare_place p w a = go (spared p.settings) refl
  where
    go : (x : Bool) → spared p.settings ≡ x → (bare_step (kit_of p.settings) w (state p a)).place
        ≡ (stepped (kit_of p.settings) w (state p a)).place
    go true z =
        ap (λ (q : State). q.place) (bare_spared p w a z)
        ∙ tested_place p w a
        ∙ ap (λ (q : State). q.place) (sym (stepped-min p w a z))
    go false z = ap (λ (q : State). q.place) (bare_whole p w a z)

-- ---- what is not told

-- a test by the kit of a place with the same settings
tested_as : (p q : Place) (b : List ℕ) {d : ℕ} → q.settings ≡ p.settings → Able q.settings (length b) → Fit q d
    → Alike q (tried (kit_of p.settings) (state q b)).area b
tested_as p q b e h f = subst (λ (s : Settings). Alike q (tried (kit_of s) (state q b)).area b) e (alike_tested q b h f)

-- and part limit + 4 cleared by it
cleared_as : (p q : Place) (b : List ℕ) → q.settings ≡ p.settings → Able q.settings (length b) → q.window.taken.0 ≤ q.settings.limit
    → Alike q (cleared (kit_of p.settings) (state q b)).area b
cleared_as p q b e f top = subst (λ (s : Settings). Alike q (cleared (kit_of s) (state q b)).area b) e (alike_cleared q b f top)

-- from a to b, the length and the words beyond the parts of the place p are as they were
abbrev pub Kept : Place → List ℕ → List ℕ → Type 0
Kept p a b =
    (length b ≡ length a)
    × (drop ((p.settings.limit + 4) * part_size (kit_of p.settings)) b ≡ drop ((p.settings.limit + 4) * part_size (kit_of p.settings)) a)

-- what a frame keeps
frame_kept : (p : Place) (a : List ℕ) {q : State} {Out : ℕ → Type 0} → Frame (kit_of p.settings) (state p a) q Out → Kept p a q.area
frame_kept p a f = (f.size, f.beyond)

-- ---- a pick entered, the start moved by k, and tested

module _ (p : Place) (k : ℕ) (w a : List ℕ) (h : Able p.settings (length a)) (t : Entry p k) (shape : p.settings.boards ≡ length w) where
  -- the pick's own table has the words of a table
  own_size : length ((kit_of p.settings).own (p.window.taken.0 + 1) w) ≡ (kit_of p.settings).size
  own_size = own_wide hops01 p.settings.measure p.settings.boards (p.window.taken.0 + 1) w (sym shape)

  -- the pick entered
  entered_none : Frame (kit_of p.settings) (state p a) (entered (kit_of p.settings) k w (state p a)) (λ (j : ℕ). ⊥)
  entered_none =
      let top = t.top in
      weaker (kit_of p.settings) _ _ _ _
      (entered_frame (kit_of p.settings) (kit_wide p.settings.measure p.settings.boards) k w (state p a) h.room
      t.start (omega arith) own_size)
      (λ j o. absurd o)

  pub entered-kept : Kept p a (entered (kit_of p.settings) k w (state p a)).area
  entered-kept = frame_kept p a entered_none

  -- and tested
  tested_none : Frame (kit_of p.settings) (state p a) (tried (kit_of p.settings) (entered (kit_of p.settings) k w (state p a))) (λ (j : ℕ). ⊥)
  unfolding start_moved picks_taken
  tested_none =
      let K = kit_of p.settings in
      let st = entered K k w (state p a) in
      let low = t.start in
      let ahead = t.ahead in
      let top = t.top in
      let g = entered_grown K k w (state p a) in
      let gs = g.start in
      let gl = limit-of g.settings in
      let f = entered_none in
      then K (state p a) st (tried K st) _ _ _ f
      (tried_frame K (kit_wide p.settings.measure p.settings.boards) st (frame_room K (state p a) st _ f h.room) (omega arith) (omega arith))
      (λ j o. o) (λ j o. absurd o)

  -- the place that is entered may be tested
  pub entered_fit : Fit (entered (kit_of p.settings) k w (state p a)).place (3 * per_ladder + 1)
  entered_fit = enter_tries p a k w h.cap t (refl, refl)

  pub entered_able : Able (entered (kit_of p.settings) k w (state p a)).place.settings (length (entered (kit_of p.settings) k w (state p a)).area)
  entered_able = able_long entered_none.size (able_kept (entered_grown (kit_of p.settings) k w (state p a)).settings h)

  -- whether the window is written or not is not told after the test, nor that part limit + 4 is cleared
  tested_alike : Alike (tried (kit_of p.settings) (entered (kit_of p.settings) k w (state p a))).place (bare_tried (kit_of p.settings)
      (entered (kit_of p.settings) k w (state p a))).area
      (cleared (kit_of p.settings) (tried (kit_of p.settings) (entered (kit_of p.settings) k w (state p a)))).area
  unfolding bare_tried start_moved picks_taken
  tested_alike =
      let K = kit_of p.settings in
      let st = entered K k w (state p a) in
      let q = st.place in
      let u = tried K st in
      let r = u.place in
      let g = entered_grown K k w (state p a) in
      let n = tried_grown K st in
      let f = entered_fit in
      let ft = f.top in
      let nm = n.taken in
      let nl = limit-of n.settings in
      let still : r.window.taken.0 ≡ q.window.taken.0 = omega arith in
      let kept : length st.area ≡ length u.area = entered_none.size ∙ sym tested_none.size in
      let able : Able r.settings (length u.area) = subst (λ (i : ℕ). Able r.settings i) kept (able_kept n.settings entered_able) in
      let x : Alike r u.area st.area = alike_at n.settings still (tested_as p q st.area g.settings entered_able f) in
      let y : Alike r (cleared K u).area u.area = cleared_as p r u.area (n.settings ∙ g.settings) able (omega arith) in
      alike_trans
      (cond_ind (λ (z : List ℕ). Alike r z u.area) (composes q) u.area st.area (λ o. alike_refl r u.area) (λ o. alike_sym x)) (alike_sym y)

-- ---- one test of any measure

-- its place is that of the walk
pub unkept_place : (K : Kit) (st : State) → (bare_tested K st).place ≡ (tried K st).place
unfolding bare_tested bare_tried
unkept_place K st =
    cond_ind (λ (q : State). q.place ≡ (tried K st).place) (spared st.place.settings) (bare_tried K st) (tried K st) (λ o. refl) (λ o. refl)

-- its area is that of the walk's test, or as it was
unkept_by : (K : Kit) (st : State) (Q : List ℕ → Type 0) → Q (tried K st).area → Q st.area → Q (bare_tested K st).area
unfolding bare_tested bare_tried
unkept_by K st Q x y =
    cond_ind (λ (q : State). Q q.area) (spared st.place.settings) (bare_tried K st) (tried K st)
    (λ o. cond_ind Q (composes st.place) (tried K st).area st.area (λ z. x) (λ z. y)) (λ o. x)

module _ (p : Place) (a : List ℕ) {d : ℕ} (h : Able p.settings (length a)) (f : Fit p d) where
  -- so no later step tells it from the one before
  pub unkept_alike : Alike p (bare_tested (kit_of p.settings) (state p a)).area a
  unkept_alike = unkept_by (kit_of p.settings) (state p a) (λ (b : List ℕ). Alike p b a) (alike_tested p a h f) (alike_refl p a)

  -- and the words beyond the parts stay, as after the walk's
  pub tried-kept : Kept p a (tried (kit_of p.settings) (state p a)).area
  tried-kept =
      let i = f.inside in
      let top = f.top in
      frame_kept p a
      (tried_frame (kit_of p.settings) (kit_wide p.settings.measure p.settings.boards) (state p a) h.room f.start (omega arith))

  pub unkept_kept : Kept p a (bare_tested (kit_of p.settings) (state p a)).area
  unkept_kept = unkept_by (kit_of p.settings) (state p a) (Kept p a) tried-kept (refl, refl)

-- A TEST BESIDE THE WALK'S: from areas that are alike both come to one place, and to such areas.
pub unkept_walks : (p : Place) (a b : List ℕ) {d : ℕ} → Able p.settings (length a) → Able p.settings (length b) → Fit p d → Alike p a b
    → ((bare_tested (kit_of p.settings) (state p a)).place ≡ (tried (kit_of p.settings) (state p b)).place)
    × Alike (bare_tested (kit_of p.settings) (state p a)).place (bare_tested (kit_of p.settings) (state p a)).area
    (tried (kit_of p.settings) (state p b)).area
unkept_walks p a b h i f x =
    let K = kit_of p.settings in
    let e = unkept_place K (state p a) in
    let s = alike_tried p a b h i f x in
    let n = tried_grown K (state p a) in
    let nm = n.taken in
    let y = alike_trans (unkept_alike p a h f) (alike_trans x (alike_sym (alike_tested p b i f))) in
    (e ∙ s.0, subst (λ (q : Place). Alike q (bare_tested K (state p a)).area (tried K (state p b)).area) (sym e) (alike_at n.settings (omega arith) y))

-- where one test is made, the areas are alike
min_alike : (p : Place) (w a : List ℕ) → Able p.settings (length a) → Takes p (length w) → Alike (min_step (kit_of p.settings) w (state p a)).place
    (bare_tried (kit_of p.settings) (entered (kit_of p.settings) (val p.marks.passed) w (state p a))).area
    (min_step (kit_of p.settings) w (state p a)).area
unfolding min_step cleared
min_alike p w a h t = tested_alike p (val p.marks.passed) w a h t.passed t.shape

-- THE AREA after a bare step is one that the walk cannot tell from its own.
pub bare_alike : (p : Place) (w a : List ℕ) → Able p.settings (length a) → Takes p (length w)
    → StillAlike (stepped (kit_of p.settings) w (state p a)).place (bare_step (kit_of p.settings) w (state p a)).area
    (stepped (kit_of p.settings) w (state p a)).area
bare_alike p w a h t o = go (spared p.settings) refl
  where
    go : (x : Bool) → spared p.settings ≡ x
        → Alike (stepped (kit_of p.settings) w (state p a)).place (bare_step (kit_of p.settings) w (state p a)).area
        (stepped (kit_of p.settings) w (state p a)).area
    go true z = rw (bare_spared p w a z, stepped-min p w a z) (min_alike p w a h t)
    go false z = rw (bare_whole p w a z) (alike_refl (stepped (kit_of p.settings) w (state p a)).place (stepped (kit_of p.settings) w (state p a)).area)

-- A BARE STEP BESIDE A STEP OF THE WALK: from areas that are alike for as long as the walk reads them, both come to one place and to such areas.
pub bare_walks : (p : Place) (w a b : List ℕ) → Able p.settings (length a) → Able p.settings (length b) → Takes p (length w) → StillAlike p a b
    → ((bare_step (kit_of p.settings) w (state p a)).place ≡ (stepped (kit_of p.settings) w (state p b)).place)
    × StillAlike (bare_step (kit_of p.settings) w (state p a)).place (bare_step (kit_of p.settings) w (state p a)).area
    (stepped (kit_of p.settings) w (state p b)).area
bare_walks p w a b h i f x =
    let e = bare_place p w a in
    let s = alike_stepped p w a b h i f x in (
      e ∙ s.0,
      subst (λ (q : Place). StillAlike q (bare_step (kit_of p.settings) w (state p a)).area (stepped (kit_of p.settings) w (state p b)).area) (sym e)
          (λ o. alike_trans (bare_alike p w a h f o) (s.1 o)),
    )

-- ---- what stays

-- where one test is made
tested-kept : (p : Place) (w a : List ℕ) → Able p.settings (length a) → Takes p (length w)
    → Kept p a (bare_tried (kit_of p.settings) (entered (kit_of p.settings) (val p.marks.passed) w (state p a))).area
unfolding bare_tried
tested-kept p w a h t =
    let k = val p.marks.passed in
    let st = entered (kit_of p.settings) k w (state p a) in
    cond_ind (Kept p a) (composes st.place) (tried (kit_of p.settings) st).area st.area
    (λ o. frame_kept p a (tested_none p k w a h t.passed t.shape)) (λ o. entered-kept p k w a h t.passed t.shape)

-- in the walk
stepped_kept : (p : Place) (w a : List ℕ) → Able p.settings (length a) → Takes p (length w) → Kept p a (stepped (kit_of p.settings) w (state p a)).area
stepped_kept p w a h t =
    let e = t.passed in
    let ahead = e.ahead in
    let top = e.top in
    frame_kept p a
    (stepped_frame (kit_of p.settings) (kit_wide p.settings.measure p.settings.boards) w (state p a) h.room e.start (omega arith)
    (omega arith) (own_size p (val p.marks.passed) w a h e t.shape))

-- A bare step keeps the length of the area, and the words beyond its limit + 4 parts.
pub bare_frame : (p : Place) (w a : List ℕ) → Able p.settings (length a) → Takes p (length w)
    → (length (bare_step (kit_of p.settings) w (state p a)).area ≡ length a)
    × (drop ((p.settings.limit + 4) * part_size (kit_of p.settings)) (bare_step (kit_of p.settings) w (state p a)).area
    ≡ drop ((p.settings.limit + 4) * part_size (kit_of p.settings)) a)
bare_frame p w a h t = go (spared p.settings) refl
  where
    go : (x : Bool) → spared p.settings ≡ x → Kept p a (bare_step (kit_of p.settings) w (state p a)).area
    go true z = rw (bare_spared p w a z) (tested-kept p w a h t)
    go false z = rw (bare_whole p w a z) (stepped_kept p w a h t)
