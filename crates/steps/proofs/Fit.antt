-- What the steps require, from what is known of a place; and a step of the walk, from the steps of code that make it. Assumes nothing.
use Prim.Native.Nat.{ℕ, suc, ◌+◌, ◌-◌, ◌≤◌, ◌<◌}
use native.Mathlib.Nat.{add-zero, sub_self}
use native.Mathlib.Omega.{arith}
use mathlib.Core.Path.{◌≡◌, sym, ap, ap₂, ◌∙◌, subst}
use mathlib.Core.Bool.{Bool}
use mathlib.Core.List.{List}
use lib.ListN.{length}
use Rattle.model.specs.Journey.{val}
use Rattle.model.proofs.Bits.{val_le}
use Rattle.measures.specs.Kit.{Kit, hops01}
use Rattle.area.specs.Parts.{part_size, Has, table_at, compose_at, copy_at, own_at}
use Rattle.area.proofs.Laws.{has, own_wide, own_same, compose_copied}
use Rattle.place.specs.declared.Settings.{Settings}
use Rattle.place.specs.declared.Place.{Place}
use Rattle.place.specs.Places.{picks_taken, start_moved, charged, per_pick}
use Rattle.steps.specs.Walk.{State, state, kit_of, ladder}
use Rattle.steps.specs.Fit.{Able, In, Owns, Fit, Entry, Does}

-- ---- parts

pub able_long : {s : Settings} {v w : ℕ} → v ≡ w → Able s w → Able s v
able_long e a = rw e a

pub able_kept : {s t : Settings} {words : ℕ} → t ≡ s → Able s words → Able t words
able_kept e a = rw e a

pub boards_of : {s t : Settings} → t ≡ s → t.boards ≡ s.boards
boards_of e = ap (λ (x : Settings). x.boards) e

pub measure_of : {s t : Settings} → t ≡ s → t.measure ≡ s.measure
measure_of e = ap (λ (x : Settings). x.measure) e

pub limit-of : {s t : Settings} → t ≡ s → t.limit ≡ s.limit
limit-of e = ap (λ (x : Settings). x.limit) e

-- ---- places

pub fit_at : {p q : Place} {k : ℕ} → q ≡ p → Fit p k → Fit q k
fit_at e f = rw e f

-- fewer may be charged too
pub fit_less : {p : Place} {d : ℕ} (e : ℕ) → e ≤ d → Fit p d → Fit p e
fit_less e h f =
    let c = f.comps in
    let t = f.tests in
    record {
      start = f.start;
      inside = f.inside;
      top = f.top;
      bound = f.bound;
      comps = omega arith;
      tests = omega arith;
    }

-- a pick taken and the start moved
pub entry_fit : {p : Place} {k : ℕ} → Entry p k → Fit (start_moved (picks_taken p 1) k) per_pick
unfolding start_moved picks_taken
entry_fit e =
    let s = e.start in
    let b = e.bound in
    let c = e.comps in
    let t = e.tests in
    record {
      start = omega arith;
      inside = e.ahead;
      top = e.top;
      bound = omega arith;
      comps = omega arith;
      tests = omega arith;
    }

pub moved_fit : (p : Place) {d : ℕ} → Fit p d → p.window.start.0 < p.window.taken.0 → Fit (start_moved p 1) d
unfolding start_moved
moved_fit p f h =
    let s = f.start in
    record {
      start = omega arith;
      inside = omega arith;
      top = f.top;
      bound = f.bound;
      comps = f.comps;
      tests = f.tests;
    }

pub entry_by : {p : Place} {k i : ℕ} → k ≡ i → Entry p i → Entry p k
entry_by {p} {k} {i} e h = subst (λ (x : ℕ). Entry p x) (sym e) h

pub one_le : {k : ℕ} (x : Bool) → k ≡ val x → k ≤ 1
one_le x e = omega (arith, val_le x)

-- the part of the new pick has the own table of its words
pub entry_owns : {p q : Place} {k : ℕ} {w b : List ℕ} (a : List ℕ) → q ≡ start_moved (picks_taken p 1) k
    → b ≡ own_at (kit_of p.settings) a (p.window.taken.0 + 1) w → Able p.settings (length a) → Entry p k
    → p.settings.boards ≡ length w → Owns q b w
unfolding start_moved picks_taken
entry_owns {p} {q} {k} {w} {b} a e g able h n =
    let t = h.top in
    subst (λ (x : Place). Owns x b w) (sym e) (record {
      shape = n;
      own = ap (λ (x : List ℕ). table_at (kit_of p.settings) x (p.window.taken.0 + 1)) g
          ∙ own_same (kit_of p.settings) (p.settings.limit + 4) a able.room (p.window.taken.0 + 1) (omega arith)
          (omega arith) w (own_wide hops01 p.settings.measure p.settings.boards (p.window.taken.0 + 1) w (sym n));
    })

-- nothing charged
pub charged_none : (p : Place) → p ≡ charged p 0
unfolding charged
charged_none p = rw add-zero

-- the window, copied from the left ladder and composed with the right one
pub window_copied : (p : Place) (a : List ℕ) {x y : List ℕ} {d : ℕ} → Able p.settings (length a) → Fit p d
    → x ≡ copy_at (kit_of p.settings) a (p.settings.limit + 2) p.window.start.0
    → y ≡ compose_at (kit_of p.settings) x (p.settings.limit + 2) (p.settings.limit + 2) (p.settings.limit + 1)
    → y ≡ compose_at (kit_of p.settings) a (p.settings.limit + 2) p.window.start.0 (p.settings.limit + 1)
window_copied p a h f e g =
    let fi = f.inside in
    let ft = f.top in
    g ∙ ap (λ (b : List ℕ). compose_at (kit_of p.settings) b (p.settings.limit + 2) (p.settings.limit + 2) (p.settings.limit + 1)) e
    ∙ compose_copied (kit_of p.settings) (p.settings.limit + 4) a h.room
    (p.settings.limit + 2) (omega arith) (omega arith) p.window.start.0 f.start (omega arith) (p.settings.limit + 1) (omega arith)
    (λ q. omega arith)

-- ---- the left ladder, as a loop builds it

pub ladder_none : (K : Kit) (a : List ℕ) (m : ℕ) → a ≡ ladder K a m (m - m)
unfolding ladder
ladder_none K a m = rw sub_self

pub ladder_turn : (K : Kit) (a : List ℕ) (m i : ℕ) {x y : List ℕ} → 0 < i → i ≤ m → x ≡ ladder K a m (m - i)
    → y ≡ compose_at K x (i - 1) (i - 1) (i - 1 + 1) → y ≡ ladder K a m (m - (i - 1))
unfolding ladder
ladder_turn K a m i h l p q =
    let e : m - (i - 1) ≡ suc (m - i) = omega arith in
    let t : m - suc (m - i) ≡ i - 1 = omega arith in
    rw (q, p, e, t)

-- ---- a step of code, from what its place and area are known to be

pub does_at : (f : Kit → State → State) {q p r : Place} {b a c : List ℕ} → q ≡ p → b ≡ a → Does (f (kit_of q.settings)) q b r c
    → Does (f (kit_of p.settings)) p a r c
does_at f {q} {p} {r} {b} {a} {c} e g d =
    subst (λ (x : Place). Does (f (kit_of x.settings)) x a r c) e (subst (λ (x : List ℕ). Does (f (kit_of q.settings)) q x r c) g d)

pub place_at : (f : Kit → State → State) {q p r : Place} {b a : List ℕ} → q ≡ p → b ≡ a → r ≡ (f (kit_of q.settings) (state q b)).place
    → r ≡ (f (kit_of p.settings) (state p a)).place
place_at f e g d = d ∙ ap₂ (λ (x : Place) (y : List ℕ). (f (kit_of x.settings) (state x y)).place) e g

-- the kit of a place that kept its settings
pub does_kit : (f : Kit → State → State) (q p : Place) {r : Place} {b c : List ℕ} → q.settings ≡ p.settings
    → Does (f (kit_of q.settings)) q b r c
    → Does (f (kit_of p.settings)) q b r c
does_kit f q p {r} {b} {c} e d = subst (λ (s : Settings). Does (f (kit_of s)) q b r c) e d
