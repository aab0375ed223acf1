-- A test whose window is judged on the ladders. Assumes nothing.
use mathlib.Core.Path.{◌≡◌, refl, sym, ap, ◌∙◌}
use mathlib.Core.Bool.{Bool, true, false, ◌&&◌, ◌||◌, false≢true}
use mathlib.Core.Logic.{◌≢◌}
use mathlib.Core.List.{List}
use Prim.Native.Nat.{ℕ, ◌+◌, ◌≤◌, ◌<◌}
use lib.Dec.{T, eqb, eqb→eq}
use lib.ListN.{length}
use borrow.Author.Tests.{eq-eqb, ne_eqb, lt-ltb, le-ltb, lt-leb, le-leb}
use Rattle.area.specs.Parts.{table_at}
use Rattle.place.specs.declared.Place.{Place}
use Rattle.place.specs.Places.{charged, tested}
use Rattle.steps.specs.Walk.{state, kit_of, on_left, on_right, tried}
use Rattle.steps.specs.Bare.{composes, spared, bare_tried}
use Rattle.steps.specs.Fit.{Able, Fit, Does}
use Rattle.steps.proofs.Fit.{charged_none}
use Rattle.steps.proofs.Alike.{window_table, tried_reads}

-- ---- the area

and_none : (x : Bool) → (x && false) ≡ false
and_none true = refl
and_none false = refl

-- a window that is not composed is not written
still : (p : Place) (a : List ℕ) → composes p ≡ false → a ≡ (bare_tried (kit_of p.settings) (state p a)).area
unfolding bare_tried
still p a e = rw e

one-ladder : (p : Place) → (on_left p && on_right p) ≡ false → composes p ≡ false
one-ladder p e = ap (λ (x : Bool). eqb p.settings.measure 4 && x) e ∙ and_none (eqb p.settings.measure 4)

-- ---- by the ladders that the window lies on

module _ (p : Place) (a : List ℕ) {d : ℕ} (able : Able p.settings (length a)) (f : Fit p d) where
  abbrev held : ℕ → List ℕ
  held i = table_at (kit_of p.settings) a i

  -- the right one
  pub on-right : {r : Place} {x : Bool} → p.window.boundary.0 < p.window.start.0
      → x ≡ (kit_of p.settings).pass (held (p.settings.limit + 3)) (held (p.settings.limit + 1)) → r ≡ tested p x
      → Does (bare_tried (kit_of p.settings)) p a r a
  unfolding bare_tried window_table
  on-right {r} {x} h e g =
      let l = lt-leb p.window.start.0 p.window.boundary.0 h in
      let t = rw l at (tried_reads p a able f) in (
        g ∙ ap (tested p) e ∙ ap (λ (q : Place). tested q ((kit_of p.settings).pass (held (p.settings.limit + 3)) (held (p.settings.limit + 1))))
            (charged_none p) ∙ sym t,
        still p a (one-ladder p (rw l)),
      )

  -- the left one
  pub on-left : {r : Place} {x : Bool} → p.window.start.0 ≤ p.window.boundary.0 → p.window.taken.0 ≤ p.window.boundary.0
      → x ≡ (kit_of p.settings).pass (held (p.settings.limit + 3)) (held p.window.start.0) → r ≡ tested p x
      → Does (bare_tried (kit_of p.settings)) p a r a
  unfolding bare_tried window_table
  on-left {r} {x} h k e g =
      let l = le-leb p.window.start.0 p.window.boundary.0 h in
      let m = le-ltb p.window.boundary.0 p.window.taken.0 k in
      let t = rw (l, m) at (tried_reads p a able f) in (
        g ∙ ap (tested p) e ∙ ap (λ (q : Place). tested q ((kit_of p.settings).pass (held (p.settings.limit + 3)) (held p.window.start.0)))
            (charged_none p) ∙ sym t,
        still p a (one-ladder p (rw (l, m))),
      )

  -- both, and not composed
  pub on_both : {q r : Place} {x : Bool} → p.window.start.0 ≤ p.window.boundary.0 → p.window.boundary.0 < p.window.taken.0
      → p.settings.measure ≢ 4
      → x ≡ (kit_of p.settings).pass (held (p.settings.limit + 3)) ((kit_of p.settings).join (held p.window.start.0)
      (held (p.settings.limit + 1))) → q ≡ charged p 1 → r ≡ tested q x
      → Does (bare_tried (kit_of p.settings)) p a r a
  unfolding bare_tried window_table
  on_both {q} {r} {x} h k n e u g =
      let l = le-leb p.window.start.0 p.window.boundary.0 h in
      let m = lt-ltb p.window.boundary.0 p.window.taken.0 k in
      let t = rw (l, m) at (tried_reads p a able f) in (
        g ∙ ap (tested q) e ∙ ap (λ (z : Place). tested z ((kit_of p.settings).pass (held (p.settings.limit + 3))
            ((kit_of p.settings).join (held p.window.start.0) (held (p.settings.limit + 1))))) u ∙ sym t,
        still p a (rw (ne_eqb p.settings.measure 4 n)),
      )

-- both, and composed
pub on_both_composed : (p : Place) (a : List ℕ) {r : Place} {b : List ℕ} → p.window.start.0 ≤ p.window.boundary.0
    → p.window.boundary.0 < p.window.taken.0 → p.settings.measure ≡ 4
    → Does (tried (kit_of p.settings)) p a r b → Does (bare_tried (kit_of p.settings)) p a r b
unfolding bare_tried
on_both_composed p a {r} {b} h k e d =
    let l = le-leb p.window.start.0 p.window.boundary.0 h in
    let m = lt-ltb p.window.boundary.0 p.window.taken.0 k in
    (d.0, rw (eq-eqb p.settings.measure 4 e, l, m) d.1)
