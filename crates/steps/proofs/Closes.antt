-- From the steps that code makes to the step of the walk. Assumes nothing.
use Prim.Native.Nat.{ℕ, ◌+◌, ◌*◌, ◌≤◌, ◌<◌}
use native.Mathlib.Omega.{arith}
use mathlib.Core.Path.{◌≡◌, refl, sym, ap, ◌∙◌, subst}
use mathlib.Core.Logic.{◌≢◌}
use mathlib.Core.Bool.{Bool, true, false, not, ◌&&◌, false≢true, cond}
use lib.Dec.{eqb, leb}
use borrow.Author.Tests.{eq-eqb, ne_eqb, eqb-true, le-leb, lt-leb, ltb-true, ltb-false}
use mathlib.Core.List.{List}
use Rattle.model.specs.Journey.{val}
use Rattle.place.specs.declared.Settings.{Settings}
use Rattle.place.specs.declared.Place.{Place}
use Rattle.place.specs.Places.{per_ladder}
use Rattle.steps.specs.Walk.{State, state, kit_of, entered, tried, cleared, min_step, climbed, ended, max_step, stepped}
use Rattle.steps.specs.Alike.{finished}
use Rattle.steps.specs.Bare.{spared, bare_tried, bare_tested, bare_step}
use Rattle.steps.specs.declared.Mode.{Mode}
use Rattle.steps.specs.declared.Mode.TheVariants.{Kept, Unkept, Held}
use Rattle.steps.specs.Modes.{held_rise, tested_from, held_step, kept_by, held_by, over_by, rise_by, untested_by, step_by, Enters}
use Rattle.steps.specs.Fit.{Fit, rise, Entry, Takes, Does}
use Rattle.steps.proofs.Fit.{entry_by, one_le}
use Rattle.steps.proofs.Grown.{enter_tries, entered_grown, tried_grown}
use Rattle.steps.proofs.Rises.{climbed_along}
use Rattle.measures.specs.Kit.{Kit}
use Rattle.steps.specs.declared.Walk.{Walk}
use Rattle.steps.specs.Makes.{walk_kit, Became, Makes}
use Rattle.steps.proofs.Makes.{makes_then}

-- ---- by the measure

-- what the start moves by
pub moves_max : (p : Place) {k : ℕ} → p.settings.measure ≡ 1 → k ≡ rise p → k ≡ val p.marks.failed
moves_max p e g = g ∙ rw (eq-eqb p.settings.measure 1 e)

pub moves_min : (p : Place) {k : ℕ} → p.settings.measure ≢ 1 → k ≡ rise p → k ≡ val p.marks.passed
moves_min p e g = g ∙ rw (ne_eqb p.settings.measure 1 e)

takes_entry : (p : Place) {links : ℕ} → Takes p links → Entry p (rise p)
takes_entry p t = go (eqb p.settings.measure 1)
  where
    go : (x : Bool) → Entry p (val (cond x p.marks.failed p.marks.passed))
    go true = t.failed
    go false = t.passed

-- a place that takes a pick enters it, whatever is kept of the area
pub takes_enters : (p : Place) (mode : Mode) {links : ℕ} → held_by mode ≡ false → Takes p links → Enters mode p links
takes_enters p Kept h t = record { entry = takes_entry p t; shape = t.shape }
takes_enters p Unkept h t = record { entry = takes_entry p t; shape = t.shape }
takes_enters p (Held k) h t = absurd (false≢true (sym h))

-- the start moves by one at most
pub rise_one : (mode : Mode) (p : Place) {k : ℕ} → k ≡ rise_by mode p → k ≤ 1
rise_one Kept p e = one_le (cond (eqb p.settings.measure 1) p.marks.failed p.marks.passed) e
rise_one Unkept p e = one_le (cond (eqb p.settings.measure 1) p.marks.failed p.marks.passed) e
rise_one (Held k) p e = one_le (leb k p.window.taken.0) e

-- the pick that is entered may be tested
pub enters_tries : (p : Place) (a w : List ℕ) (mode : Mode) (k : ℕ) {links : ℕ} {q : Place} {b : List ℕ} → p.settings.limit ≤ 4096
    → Enters mode p links → k ≡ rise_by mode p → Does (entered (kit_of p.settings) k w) p a q b → Fit q (3 * per_ladder + 1)
enters_tries p a w mode k h f e d = enter_tries p a k w h (entry_by e f.entry) d

-- where the window is not held it moves as in the walk
pub rise_walked : (mode : Mode) (p : Place) {k : ℕ} → held_by mode ≡ false → k ≡ rise_by mode p → k ≡ rise p
rise_walked Kept p h e = e
rise_walked Unkept p h e = e
rise_walked (Held k) p h e = absurd (false≢true (sym h))

-- the end, which only measure 1 has
pub finished_live : (p : Place) → p.settings.measure ≡ 1 → finished p ≡ false → ended p ≡ false
finished_live p e g = simp (eq-eqb p.settings.measure 1 e) at g

-- ---- by the mode

-- where the window is not held, a step that keeps all parts, and one that a measure does not spare, are steps of the walk
pub does_walked : (w v : Walk) (x : List ℕ) (mode : Mode) → held_by mode ≡ false
    → (not (kept_by mode) && spared w.place.settings) ≡ false → Makes (stepped (walk_kit w) x) w v → Makes (step_by mode (walk_kit w) x) w v
unfolding bare_step
does_walked w v x Kept h e d = d
does_walked w v x Unkept h e d = rw e d
does_walked w v x (Held k) h e d = absurd (false≢true (sym h))

-- measure 1 is not spared
pub kept-one : (s : Settings) (kept : Bool) → eqb s.measure 1 ≡ true → (not kept && spared s) ≡ false
kept-one s true e = refl
kept-one s false e = rw (eqb-true s.measure 1 e)

pub spared-kept : (s : Settings) (kept : Bool) → (not kept && spared s) ≡ true → spared s ≡ true
spared-kept s true e = absurd (false≢true e)
spared-kept s false e = e

-- after the end of measure 1, which a window that is held does not come to
pub over_walked : (mode : Mode) (p : Place) → over_by mode p ≡ true → (held_by mode ≡ false) × (finished p ≡ true)
over_walked Kept p e = (refl, e)
over_walked Unkept p e = (refl, e)
over_walked (Held k) p e = absurd (false≢true e)

-- and before it
pub live_walked : (mode : Mode) (p : Place) → held_by mode ≡ false → over_by mode p ≡ false → finished p ≡ false
live_walked mode p h e = rw h at e

pub spared_other : (s : Settings) → spared s ≡ true → s.measure ≢ 1
spared_other s e one = false≢true (rw one at e)

-- ---- what code makes, one step after another

module _ (w : Walk) (x : List ℕ) (k : ℕ) where
  kept : (entered (walk_kit w) k x (state w.place w.area.now)).place.settings ≡ w.place.settings
  kept = (entered_grown (walk_kit w) k x (state w.place w.area.now)).settings

  abbrev tested : State
  tested = tried (walk_kit w) (entered (walk_kit w) k x (state w.place w.area.now))

  tested_settings : tested.place.settings ≡ w.place.settings
  tested_settings = (tried_grown (walk_kit w) (entered (walk_kit w) k x (state w.place w.area.now))).settings ∙ kept

module _ (w : Walk) (x : List ℕ) (k : ℕ) {q : Walk} (n : Makes (entered (walk_kit w) k x) w q) where
  -- the place that the pick is entered in has the settings of the walk
  entered_settings : q.place.settings ≡ w.place.settings
  entered_settings = ap (λ (y : Place). y.settings) n.made.0 ∙ kept w x k

  pub entered-spared : (kept : Bool) → (not kept && spared w.place.settings) ≡ true → spared q.place.settings ≡ true
  entered-spared c e = ap spared entered_settings ∙ spared-kept w.place.settings c e

  -- and one more
  entered_then : (g : Kit → State → State) {r : Walk} → Makes (g (walk_kit q)) q r → Makes (λ (st : State). g (walk_kit w) (entered (walk_kit w) k x st)) w r
  entered_then g l = makes_then (λ (K : Kit). entered K k x) g (kept w x k) n l

  pub min_closes : {r v : Walk} → k ≡ val w.place.marks.passed → Makes (tried (walk_kit q)) q r → Makes (cleared (walk_kit r)) r v
      → Makes (min_step (walk_kit w) x) w v
  unfolding min_step
  min_closes {r} {v} e l z =
      subst (λ (i : ℕ). Became w v (cleared (walk_kit w) (tried (walk_kit w) (entered (walk_kit w) i x (state w.place w.area.now))))) e
      (makes_then (λ (K : Kit) (st : State). tried K (entered K k x st)) cleared (tested_settings w x k) (entered_then tried l) z)

  pub max_closes : {r s v : Walk} → w.place.window.start.0 + k ≤ w.place.window.taken.0 + 1 → ended w.place ≡ false
      → k ≡ val w.place.marks.failed → Makes (tried (walk_kit q)) q r → Makes (climbed (walk_kit r)) r s → Makes (cleared (walk_kit s)) s v
      → Makes (max_step (walk_kit w) x) w v
  unfolding max_step
  max_closes {r} {s} {v} ahead live e l m z =
      let g = entered_grown (walk_kit w) k x (state w.place w.area.now) in
      let u = tried_grown (walk_kit w) (entered (walk_kit w) k x (state w.place w.area.now)) in
      let gs = g.start in
      let gm = g.taken in
      let us = u.start in
      let um = u.taken in
      let o = (climbed_along (walk_kit w) (tested w x k) (omega arith)).1.1.grown.settings in
      rw live (subst (λ (i : ℕ). Became w v (cleared (walk_kit w) (climbed (walk_kit w) (tried (walk_kit w) (entered (walk_kit w) i x (state w.place w.area.now)))))) e
      (makes_then (λ (K : Kit) (st : State). climbed K (tried K (entered K k x st))) cleared (o ∙ (tested_settings w x k))
      (makes_then (λ (K : Kit) (st : State). tried K (entered K k x st)) climbed (tested_settings w x k) (entered_then tried l) m) z))

  bare_closes : {r : Walk} → spared w.place.settings ≡ true → k ≡ rise w.place → Makes (bare_tried (walk_kit q)) q r
      → Makes (bare_step (walk_kit w) x) w r
  unfolding bare_step
  bare_closes {r} o e l =
      rw o (subst (λ (i : ℕ). Became w r (bare_tried (walk_kit w) (entered (walk_kit w) i x (state w.place w.area.now))))
      (moves_min w.place (spared_other w.place.settings o) e) (entered_then bare_tried l))

  -- the window held at j: before pick j the pick is entered, and no more
  hold_enters : (j : ℕ) → k ≡ held_rise j w.place → q.place.window.taken.0 < j → Makes (held_step (bare_tested (walk_kit w)) (walk_kit w) j x) w q
  unfolding held_step tested_from
  hold_enters j e h =
      let f : leb j (entered (walk_kit w) k x (state w.place w.area.now)).place.window.taken.0 ≡ false =
      subst (λ (y : Place). leb j y.window.taken.0 ≡ false) n.made.0 (lt-leb j q.place.window.taken.0 h) in
      rw (sym e) (rw f n)

  -- from then on the window is tested
  hold_tests : (j : ℕ) {r : Walk} → k ≡ held_rise j w.place → j ≤ q.place.window.taken.0 → Makes (bare_tested (walk_kit q)) q r
      → Makes (held_step (bare_tested (walk_kit w)) (walk_kit w) j x) w r
  unfolding held_step tested_from
  hold_tests j e h t =
      let f : leb j (entered (walk_kit w) k x (state w.place w.area.now)).place.window.taken.0 ≡ true =
      subst (λ (y : Place). leb j y.window.taken.0 ≡ true) n.made.0 (le-leb j q.place.window.taken.0 h) in
      rw (sym e) (rw f (entered_then bare_tested t))

  -- by the mode: no test, one where the window lies, and one that is all
  pub untested_closes : (mode : Mode) → untested_by mode q.place ≡ true → k ≡ rise_by mode w.place → Makes (step_by mode (walk_kit w) x) w q
  untested_closes Kept h e = absurd (false≢true h)
  untested_closes Unkept h e = absurd (false≢true h)
  untested_closes (Held j) h e = hold_enters j e (ltb-true q.place.window.taken.0 j h)

  pub judged_closes : (mode : Mode) {r : Walk} → (not (kept_by mode) && spared w.place.settings) ≡ true → untested_by mode q.place ≡ false
      → k ≡ rise_by mode w.place → Makes (bare_tried (walk_kit q)) q r → Makes (step_by mode (walk_kit w) x) w r
  unfolding bare_tested
  judged_closes Kept s h e l = absurd (false≢true s)
  judged_closes Unkept s h e l = bare_closes s e l
  judged_closes (Held j) s h e l = hold_tests j e (ltb-false q.place.window.taken.0 j h) (rw (entered-spared false s) l)

  pub held_closes : (mode : Mode) {r : Walk} → held_by mode ≡ true → (not (kept_by mode) && spared w.place.settings) ≡ false
      → untested_by mode q.place ≡ false → k ≡ rise_by mode w.place → Makes (tried (walk_kit q)) q r → Makes (step_by mode (walk_kit w) x) w r
  unfolding bare_tested
  held_closes Kept o s h e l = absurd (false≢true o)
  held_closes Unkept o s h e l = absurd (false≢true o)
  held_closes (Held j) o s h e l = hold_tests j e (ltb-false q.place.window.taken.0 j h) (rw (ap spared entered_settings ∙ s) l)
