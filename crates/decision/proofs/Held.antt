-- The walk held at k: what a pick requires and leaves, and the picks whose windows are not kept beside those of the walk. m is `taken`, s is `start`.
-- Assumes nothing.
use Prim.Native.Nat.{ℕ, zero, suc, ◌+◌, ◌-◌, ◌*◌, ◌≤◌, ◌<◌}
use native.Mathlib.Nat.{le_refl}
use native.Mathlib.Numerals.{add-one}
use native.Mathlib.Omega.{arith}
use mathlib.Core.Path.{◌≡◌, refl, sym, ap, ap₂, ◌∙◌, subst}
use mathlib.Core.Bool.{Bool, true, false, cond, false≢true}
use mathlib.Core.List.{List, ◌++◌}
use lib.Dec.{leb}
use lib.ListN.{length, take, drop}
use borrow.Author.Tests.{leb-true, leb-false}
use Rattle.model.specs.Journey.{val}
use Rattle.model.proofs.Logic.{cond_ind}
use Rattle.links.specs.Picks.{lent_pick}
use Rattle.links.proofs.Picks.{lent_long}
use Rattle.links.proofs.Chunks.{Behind, Turn, behind_all, behind_turn, behind_none}
use Rattle.measures.specs.Kit.{Kit}
use Rattle.area.specs.Parts.{part_size}
use Rattle.place.specs.declared.Settings.{Settings}
use Rattle.place.specs.declared.Place.{Place}
use Rattle.place.specs.Places.{per_pick, fresh, charged}
use Rattle.verdicts.specs.Fit.{Runs}
use Rattle.steps.specs.Walk.{State, state, kit_of, entered, tried}
use Rattle.steps.specs.Alike.{Alike}
use Rattle.steps.specs.Bare.{bare_tested}
use Rattle.steps.specs.declared.Mode.TheVariants.{Held}
use Rattle.steps.specs.Modes.{held_rise, tested_from, held_step, Enters}
use Rattle.steps.specs.Fit.{Able, Fit, Entry, Does}
use Rattle.steps.proofs.Fit.{boards_of, limit-of, fit_less, able_kept}
use Rattle.steps.proofs.Grown.{Grown, grown_on, grown_to, entered_grown, entered_near, tried_grown, tried_bound}
use Rattle.steps.proofs.Alike.{alike_fresh, alike_entered}
use Rattle.steps.proofs.Bare.{Kept, entered-kept, entered_fit, entered_able, unkept_place, unkept_kept, tried-kept, unkept_walks}
use Rattle.calls.specs.Calls.{opened_area, unions, whole_start}
use Rattle.calls.specs.Fit.{Starts, Begins}
use Rattle.calls.proofs.Opened.{opened_length}
use Rattle.calls.proofs.Loops.{AfterPicks, along_start, along_grown, whole_starts, list-cost, length-unions}
use Rattle.decision.specs.Held.{unless_failed, held_steps}
use Rattle.decision.specs.Fit.{Leaves}
use Rattle.decision.specs.Decisions.{held_after}

-- ---- the start

-- the window of the last k of m picks, or of all, begins with pick 1 + (m - k), and at the next pick with that after the rise
pub held_start : (k s m : ℕ) → s ≡ 1 + (m - k) → s + val (leb k m) ≡ 1 + (m + 1 - k)
held_start k s m h = go (leb k m) refl
  where
    go : (x : Bool) → leb k m ≡ x → s + val x ≡ 1 + (m + 1 - k)
    go true e = let g = leb-true k m e in omega arith
    go false e = let g = leb-false k m e in omega arith

-- before pick 1
pub held_first : (k : ℕ) {p : Place} {m : ℕ} {w a : List ℕ} → Starts p m w a → p.window.start.0 ≡ 1 + (0 - k)
held_first k s =
    let l = s.ready.start in
    let n = s.ready.near in
    let z = s.ready.bound in
    let i = s.none_taken in
    omega arith

-- ---- what a pick does to the place, and to the words beyond the parts

-- a pick is taken, the start moved by k, and one test made or none
record HeldOn (p q : Place) (k : ℕ) : Type 0 where
  tests : ℕ
  one : tests ≤ 1
  grown : Grown p q 1 k (p.window.taken.0 + 3) tests
  near : q.window.start.0 ≤ q.window.boundary.0 + 1
  inside : q.window.start.0 ≤ q.window.taken.0

held_on : (p : Place) (k : ℕ) (w a : List ℕ) → p.window.start.0 + held_rise k p ≤ p.window.taken.0 + 1
    → HeldOn p (held_step (tried (kit_of p.settings)) (kit_of p.settings) k w (state p a)).place (held_rise k p)
unfolding held_step tested_from
held_on p k w a h =
    let K = kit_of p.settings in
    let st = entered K (held_rise k p) w (state p a) in
    let g = entered_grown K (held_rise k p) w (state p a) in
    let n = entered_near K (held_rise k p) w (state p a) h in
    let gm = g.taken in
    let gs = g.start in
    let t = tried_grown K st in
    let ts = t.start in
    let tm = t.taken in
    let tb = tried_bound K st in
    cond_ind (λ (x : State). HeldOn p x.place (held_rise k p)) (leb k st.place.window.taken.0) (tried K st) st
    (λ o. record {
      tests = 1;
      one = le_refl 1;
      grown = grown_to (grown_on g t) refl (omega arith) (omega arith) refl;
      near = omega arith;
      inside = omega arith;
    })
    (λ o. record { tests = 0; one = omega arith; grown = grown_to g refl refl (omega arith) refl; near = n; inside = omega arith })

-- both tests lead to one place
held_place : (K : Kit) (k : ℕ) (w : List ℕ) (st : State) → (held_step (bare_tested K) K k w st).place ≡ (held_step (tried K) K k w st).place
unfolding held_step tested_from
held_place K k w st = go (leb k r.place.window.taken.0)
  where
    r : State
    r = entered K (held_rise k st.place) w st

    go : (x : Bool) → (cond x (bare_tested K r) r).place ≡ (cond x (tried K r) r).place
    go true = unkept_place K r
    go false = refl

-- a test, made by the kit of the place p, that keeps the length of the area and the words beyond its parts
abbrev Keeps : Place → (State → State) → Type 0
Keeps p test = (r : Place) (d : List ℕ) → r.settings ≡ p.settings → Able r.settings (length d) → Fit r 1 → Kept p d (test (state r d)).area

tried_keeps : (p : Place) → Keeps p (tried (kit_of p.settings))
tried_keeps p r d e h f =
    subst (λ (s : Settings). (length (tried (kit_of s) (state r d)).area ≡ length d) × (drop ((s.limit + 4) * part_size (kit_of s))
    (tried (kit_of s) (state r d)).area ≡ drop ((s.limit + 4) * part_size (kit_of s)) d)) e (tried-kept r d h f)

unkept_keeps : (p : Place) → Keeps p (bare_tested (kit_of p.settings))
unkept_keeps p r d e h f =
    subst (λ (s : Settings). (length (bare_tested (kit_of s) (state r d)).area ≡ length d) × (drop ((s.limit + 4) * part_size (kit_of s))
    (bare_tested (kit_of s) (state r d)).area ≡ drop ((s.limit + 4) * part_size (kit_of s)) d)) e (unkept_kept r d h f)

module _ (p : Place) (k : ℕ) (w a : List ℕ) (h : Able p.settings (length a)) (t : Entry p (held_rise k p)) (shape : p.settings.boards ≡ length w) where
  abbrev r : State
  r = entered (kit_of p.settings) (held_rise k p) w (state p a)

  same_settings : r.place.settings ≡ p.settings
  same_settings = (entered_grown (kit_of p.settings) (held_rise k p) w (state p a)).settings

  pub tested_fit : Fit r.place 1
  tested_fit = fit_less 1 (omega arith) (entered_fit p (held_rise k p) w a h t shape)

  pub tested_able : Able r.place.settings (length r.area)
  tested_able = entered_able p (held_rise k p) w a h t shape

  held_kept : (test : State → State) → Keeps p test → Kept p a (held_step test (kit_of p.settings) k w (state p a)).area
  unfolding held_step tested_from
  held_kept test keeps =
      let e = entered-kept p (held_rise k p) w a h t shape in
      cond_ind (λ (x : State). Kept p a x.area) (leb k r.place.window.taken.0) (test r) r
      (λ o. let u = keeps r.place r.area same_settings tested_able tested_fit in (u.0 ∙ e.0, u.1 ∙ e.1)) (λ o. e)

-- ---- pick after pick

module _ {p q : Place} {w a b : List ℕ} {m k j : ℕ} (some : 1 ≤ k) (g : AfterPicks p w a m j q b) (held : q.window.start.0 ≡ 1 + (j - k))
    (h : j < m) where
  abbrev pick : List ℕ
  pick = lent_pick p.settings.boards w j

  held_shape : q.settings.boards ≡ length pick
  held_shape = boards_of g.settings ∙ sym (lent_long p.settings.boards j m w g.starts.words h)

  -- the start after the pick
  risen : q.window.start.0 + held_rise k q ≡ 1 + (j + 1 - k)
  risen = ap (λ (x : ℕ). q.window.start.0 + val (leb k x)) g.taken ∙ held_start k q.window.start.0 j held

  -- the pick is taken
  held_entry : Entry q (held_rise k q)
  held_entry =
      let c = g.comps in
      let t = g.tests in
      let i = g.taken in
      let l = limit-of g.settings in
      let z = g.starts.ready.able.cap in
      let y = g.starts.limit in
      let s = risen in
      record {
        start = g.ready.start;
        ahead = omega arith;
        top = omega arith;
        bound = g.ready.bound;
        comps = omega arith;
        tests = omega arith;
      }

  pub held_enters : Enters (Held k) q (length pick)
  held_enters = record { entry = held_entry; shape = held_shape }

  -- after it the same holds, by whichever test
  pub held_along : (test : State → State) → Keeps q test → (held_step test (kit_of q.settings) k pick (state q b)).place
      ≡ (held_step (tried (kit_of q.settings)) (kit_of q.settings) k pick (state q b)).place
      → {r : Place} {d : List ℕ} → Does (held_step test (kit_of q.settings) k pick) q b r d
      → AfterPicks p w a m (j + 1) r d × (r.window.start.0 ≡ 1 + (j + 1 - k))
  held_along test keeps same {r} {d} e =
      let u = subst (λ (x : Place). HeldOn q x (held_rise k q)) (sym (e.0 ∙ same)) (held_on q k pick b held_entry.ahead) in
      let one = u.one in
      let v = held_kept q k pick b g.ready.able held_entry held_shape test keeps in
      let i = g.taken in
      let z = g.starts.ready.able.cap in
      let y = g.starts.limit in (
        along_grown g h u.grown u.near u.inside (omega arith) (omega arith) (ap length e.1 ∙ v.0)
            (ap (drop ((q.settings.limit + 4) * part_size (kit_of q.settings))) e.1 ∙ v.1),
        u.grown.start ∙ risen,
      )

  pub unkept_along : {r : Place} {d : List ℕ} → Does (held_step (bare_tested (kit_of q.settings)) (kit_of q.settings) k pick) q b r d
      → AfterPicks p w a m (j + 1) r d × (r.window.start.0 ≡ 1 + (j + 1 - k))
  unkept_along = held_along (bare_tested (kit_of q.settings)) (unkept_keeps q) (held_place (kit_of q.settings) k pick (state q b))

-- ---- the loop

abbrev pub held_bare : Place → ℕ → List ℕ → List ℕ → ℕ → State
held_bare p k w a j = held_steps (bare_tested (kit_of p.settings)) (kit_of p.settings) k p.settings.boards w j (state p a)

pub held_none : (p : Place) (k : ℕ) (w a : List ℕ) → state p a ≡ held_bare p k w a 0
unfolding held_steps
held_none p k w a = refl

-- one pick more, where no test has failed
pub held_next : (k : ℕ) {p q r : Place} {w a b d : List ℕ} {m j : ℕ} → AfterPicks p w a m j q b → state q b ≡ held_bare p k w a j
    → q.marks.failed ≡ false → Does (held_step (bare_tested (kit_of q.settings)) (kit_of q.settings) k (lent_pick p.settings.boards w j)) q b r d
    → state r d ≡ held_bare p k w a (j + 1)
unfolding held_steps unless_failed
held_next k {p} {q} {r} {w} {a} {b} {d} {m} {j} g s f e =
    let pick = lent_pick p.settings.boards w j in
    rw (add-one j) (ap₂ state e.0 e.1 ∙ ap (λ (K : Kit). held_step (bare_tested K) K k pick (state q b)) (ap kit_of g.settings)
    ∙ (rw f) ∙ ap (unless_failed (held_step (bare_tested (kit_of p.settings)) (kit_of p.settings) k pick)) s)

-- a state in which a test has failed stays
held_stays : (test : State → State) (K : Kit) (k n : ℕ) (w : List ℕ) (st : State) (j i : ℕ)
    → (held_steps test K k n w j st).place.marks.failed ≡ true → held_steps test K k n w (i + j) st ≡ held_steps test K k n w j st
unfolding held_steps unless_failed
held_stays test K k n w st j zero f = ap (λ (x : ℕ). held_steps test K k n w x st) (let e : 0 + j ≡ j = omega arith in e)
held_stays test K k n w st j (suc i) f =
    let e : suc i + j ≡ suc (i + j) = omega arith in
    let h = held_stays test K k n w st j i f in
    ap (λ (x : ℕ). held_steps test K k n w x st) e
    ∙ ap (unless_failed (held_step test K k (lent_pick n w (i + j)))) h
    ∙ rw f

-- the first failure, and the last pick
pub held_failed : (k : ℕ) {p q : Place} {w a b : List ℕ} {m j : ℕ} → AfterPicks p w a m j q b → state q b ≡ held_bare p k w a j
    → q.marks.failed ≡ true → Leaves p k m w a q b
held_failed k {p} {q} {w} {a} {b} {m} {j} g s f =
    let l = g.low in
    let i : m - j + j ≡ m = omega arith in
    let K = kit_of p.settings in
    let e : state q b ≡ held_bare p k w a m = s ∙ sym (held_stays (bare_tested K) K k p.settings.boards w (state p a) j (m - j)
    (ap (λ (x : State). x.place.marks.failed) (sym s) ∙ f)) ∙ ap (held_bare p k w a) i in
    record { does = (ap (λ (x : State). x.place) e, ap (λ (x : State). x.area) e); beyond = g.beyond }

pub held_end : (k : ℕ) {p q : Place} {w a b : List ℕ} {m j : ℕ} → AfterPicks p w a m j q b → state q b ≡ held_bare p k w a j → m ≤ j
    → Leaves p k m w a q b
held_end k {p} {q} {w} {a} {b} {m} {j} g s h =
    let l = g.low in
    let i : j ≡ m = omega arith in
    let e = s ∙ ap (held_bare p k w a) i in
    record { does = (ap (λ (x : State). x.place) e, ap (λ (x : State). x.area) e); beyond = g.beyond }

-- ---- the picks whose windows are not kept, beside those of the walk

-- one place, and areas that no step tells apart
abbrev Beside : State → State → Type 0
Beside s t = (s.place ≡ t.place) × Alike s.place s.area t.area

-- one of two states each, by tests that are the same
beside_by : (x y : Bool) → x ≡ y → (s t u v : State) → Beside s t → Beside u v → Beside (cond x s u) (cond y t v)
beside_by x y e s t u v b c = subst (λ (z : Bool). Beside (cond x s u) (cond z t v)) e (go x)
  where
    go : (x : Bool) → Beside (cond x s u) (cond x t v)
    go true = b
    go false = c

module _ (p : Place) (k : ℕ) (w a b : List ℕ) (h : Able p.settings (length a)) (i : Able p.settings (length b)) (f : Entry p (held_rise k p))
    (shape : p.settings.boards ≡ length w) (x : Alike p a b) where
  abbrev K : Kit
  K = kit_of p.settings

  abbrev s : State
  s = entered K (held_rise k p) w (state p a)

  abbrev t : State
  t = entered K (held_rise k p) w (state p b)

  entered_beside : Beside s t
  entered_beside = alike_entered p (held_rise k p) w a b h i f shape x

  tested_beside : Beside (bare_tested K s) (tried K t)
  tested_beside =
      let e = entered_beside in
      let q = s.place in
      let same = (entered_grown K (held_rise k p) w (state p a)).settings in
      let able = able_kept (ap (λ (y : Place). y.settings) e.0) (tested_able p k w b i f shape) in
      let u = unkept_walks q s.area t.area (tested_able p k w a h f shape) able (tested_fit p k w a h f shape) e.1 in
      subst (λ (y : Place). Beside (bare_tested K s) (tried K (state y t.area))) e.0
      (subst (λ (y : Settings). Beside (bare_tested (kit_of y) s) (tried (kit_of y) (state q t.area))) same u)

  held_beside : Beside (held_step (bare_tested K) K k w (state p a)) (held_step (tried K) K k w (state p b))
  unfolding held_step tested_from
  held_beside =
      beside_by (leb k s.place.window.taken.0) (leb k t.place.window.taken.0)
      (ap (λ (q : Place). leb k q.window.taken.0) entered_beside.0) (bare_tested K s) (tried K t) s t tested_beside entered_beside

module _ (p : Place) (k m : ℕ) (w a b : List ℕ) (some : 1 ≤ k) where
  abbrev L : Kit
  L = kit_of p.settings

  -- after j picks, of which none has failed, a state that began in the area c is ready for the next one
  abbrev Goes : List ℕ → ℕ → State → Type 0
  Goes c j st = AfterPicks p w c m j st.place st.area × (st.place.window.start.0 ≡ 1 + (j - k))

  -- two states after j picks, from a and from b on; failed or not, no more is charged than j picks may
  record SameHeld (j : ℕ) (s t : State) : Type 0 where
    same : Beside s t
    left : s.place.marks.failed ≡ false → Goes a j s
    right : t.place.marks.failed ≡ false → Goes b j t
    comps : t.place.counts.compositions.0 ≤ per_pick * (j + 1)
    tests : t.place.counts.tests.0 ≤ per_pick * (j + 1)

  goes_on : (test : Kit → State → State) (c : List ℕ) (j : ℕ) (st : State) → j < m → Keeps st.place (test (kit_of st.place.settings))
      → (held_step (test (kit_of st.place.settings)) (kit_of st.place.settings) k (lent_pick p.settings.boards w j) st).place
      ≡ (held_step (tried (kit_of st.place.settings)) (kit_of st.place.settings) k (lent_pick p.settings.boards w j) st).place
      → Goes c j st → Goes c (suc j) (held_step (test L) L k (lent_pick p.settings.boards w j) st)
  goes_on test c j st h keeps same g =
      let pick = lent_pick p.settings.boards w j in
      subst (λ (i : ℕ). Goes c i (held_step (test L) L k pick st)) (add-one j)
      (subst (λ (y : Settings). Goes c (j + 1) (held_step (test (kit_of y)) (kit_of y) k pick st)) g.0.settings
      (held_along some g.0 g.1 h (test (kit_of st.place.settings)) keeps same (refl, refl)))

  same_next : (j : ℕ) (s t : State) → j < m → SameHeld j s t → SameHeld (suc j)
      (unless_failed (held_step (bare_tested L) L k (lent_pick p.settings.boards w j)) s)
      (unless_failed (held_step (tried L) L k (lent_pick p.settings.boards w j)) t)
  unfolding unless_failed
  same_next j s t h old =
      go s.place.marks.failed t.place.marks.failed refl refl (ap (λ (q : Place). q.marks.failed) old.same.0)
    where
      pick : List ℕ
      pick = lent_pick p.settings.boards w j

      -- neither has failed
      on : Goes a j s → Goes b j t → SameHeld (suc j) (held_step (bare_tested L) L k pick s) (held_step (tried L) L k pick t)
      on l r =
          let q = s.place in
          let e = old.same.0 in
          let able : Able q.settings (length t.area) = subst (λ (y : Place). Able y.settings (length t.area)) (sym e) r.0.ready.able in
          let u = held_beside q k pick s.area t.area l.0.ready.able able (held_entry some l.0 l.1 h) (held_shape some l.0 l.1 h) old.same.1 in
          let z = goes_on tried b j t h (tried_keeps t.place) refl r in
          let zc = z.0.comps in
          let zt = z.0.tests in
          record {
            same = subst (λ (y : Place). Beside (held_step (bare_tested L) L k pick s) (held_step (tried L) L k pick (state y t.area))) e
                (subst (λ (y : Settings). Beside (held_step (bare_tested (kit_of y)) (kit_of y) k pick s) (held_step (tried (kit_of y)) (kit_of y) k pick
                (state q t.area))) l.0.settings u);
            left = λ o. goes_on bare_tested a j s h (unkept_keeps q) (held_place (kit_of q.settings) k pick s) l;
            right = λ o. z;
            comps = zc;
            tests = zt;
          }

      go : (y z : Bool) → s.place.marks.failed ≡ y → t.place.marks.failed ≡ z → s.place.marks.failed ≡ t.place.marks.failed
          → SameHeld (suc j) (cond y s (held_step (bare_tested L) L k pick s)) (cond z t (held_step (tried L) L k pick t))
      go true true e f g =
          let c = old.comps in
          let u = old.tests in
          record {
            same = old.same;
            left = λ o. absurd (false≢true (sym o ∙ e));
            right = λ o. absurd (false≢true (sym o ∙ f));
            comps = omega arith;
            tests = omega arith;
          }
      go true false e f g = absurd (false≢true (sym f ∙ sym g ∙ e))
      go false true e f g = absurd (false≢true (sym e ∙ g ∙ f))
      go false false e f g = on (old.left e) (old.right f)

  -- AFTER j PICKS both have come to one place.
  same_held : Starts p m w a → Starts p m w b → Alike p a b → (j : ℕ) → j ≤ m
      → SameHeld j (held_bare p k w a j) (held_steps (tried L) L k p.settings.boards w j (state p b))
  unfolding held_steps
  same_held sa sb x zero h =
      let g = along_start p w b m sb in
      record {
        same = (refl, x);
        left = λ o. (along_start p w a m sa, held_first k sa);
        right = λ o. (g, held_first k sb);
        comps = g.comps;
        tests = g.tests;
      }
  same_held sa sb x (suc j) h = same_next j _ _ h (same_held sa sb x j (omega arith))

-- ---- the loop over the picks

-- the first j are taken, and the words of the others are left
pub record Holding (p : Place) (w a : List ℕ) (m k j : ℕ) (rest : List ℕ) (q : Place) (b : List ℕ) : Type 0 where
  pub behind : Behind p.settings.boards m w j rest
  pub after : AfterPicks p w a m j q b
  pub start : q.window.start.0 ≡ 1 + (j - k)
  pub stepped : state q b ≡ held_bare p k w a j

pub holding_start : (k : ℕ) {p : Place} {w a : List ℕ} {m : ℕ} → Starts p m w a → Holding p w a m k 0 (take (m * p.settings.boards) w) p a
holding_start k {p} {w} {a} {m} s = record {
  behind = behind_all p.settings.boards m w;
  after = along_start p w a m s;
  start = held_first k s;
  stepped = held_none p k w a;
}

module _ {p q : Place} {w a rest b : List ℕ} {m k j : ℕ} (some : 1 ≤ k) (g : Holding p w a m k j rest q b) where
  pub holding_turn : {x rest' : List ℕ} → 1 ≤ p.settings.boards → rest ≡ x ++ rest' → length x ≡ p.settings.boards
      → Turn {m = m} g.after.starts.words g.behind x rest'
  holding_turn low e l = behind_turn g.after.starts.words g.behind low e l

  pub holding_enters : {x rest' : List ℕ} → Turn g.after.starts.words g.behind x rest' → Enters (Held k) q (length x)
  holding_enters t = subst (λ (x : List ℕ). Enters (Held k) q (length x)) (sym t.pick) (held_enters some g.after g.start t.more)

  pub holding_next : {x rest' d : List ℕ} {r : Place} → Turn g.after.starts.words g.behind x rest' → q.marks.failed ≡ false
      → Does (held_step (bare_tested (kit_of q.settings)) (kit_of q.settings) k x) q b r d → Holding p w a m k (j + 1) rest' r d
  holding_next t f e =
      let h = rw t.pick at e in
      let u = unkept_along some g.after g.start t.more h in
      record { behind = t.behind; after = u.0; start = u.1; stepped = held_next k g.after g.stepped f h }

  pub holding_end : length rest < p.settings.boards → Leaves p k m w a q b
  holding_end h = let e = behind_none g.after.starts.words g.behind h in held_end k g.after g.stepped (omega arith)

-- WHAT THE WALK HELD AT k COMES TO: the place, from whatever area a decision begins in.
pub held_ends : (n measure m k : ℕ) (w a : List ℕ) {p q : Place} {b d : List ℕ} → Runs n measure m w a → 1 ≤ k → Begins n measure m w a p b
    → length b ≡ length a → Does (held_steps (bare_tested (kit_of p.settings)) (kit_of p.settings) k p.settings.boards w m) p b q d
    → q ≡ (held_after n measure m w k a m).place
unfolding held_after whole_start charged fresh
held_ends n measure m k w a {p} {q} {b} {d} f some g l e =
    let z = f.words in
    let o = opened_length n measure m (unions n w m) a f.room (λ x. sym (length-unions n w m (omega arith))) in
    let r = same_held p k m w b (opened_area n measure m (unions n w m) a) some
    (whole_starts n measure m _ w a f (list-cost measure m f.cap) g.place l)
    (whole_starts n measure m _ w a f (list-cost measure m f.cap) g.place o) g.alike m (le_refl m) in
    e.0 ∙ r.same.0 ∙ ap (λ (y : Place). (held_steps (tried (kit_of y.settings)) (kit_of y.settings) k y.settings.boards w m
    (state y (opened_area n measure m (unions n w m) a))).place) g.place

-- its counts: no more than m picks may charge, and the list before them
pub held_counts : (n measure m k : ℕ) (w a : List ℕ) → Runs n measure m w a → 1 ≤ k
    → ((held_after n measure m w k a m).place.counts.compositions.0 ≤ per_pick * (m + 1)) × ((held_after n measure m w k a m).place.counts.tests.0
    ≤ per_pick * (m + 1))
unfolding held_after whole_start charged fresh
held_counts n measure m k w a f some =
    let z = f.words in
    let st = whole_start n measure m w a in
    let s = whole_starts n measure m _ w a f (list-cost measure m f.cap) refl
    (opened_length n measure m (unions n w m) a f.room (λ x. sym (length-unions n w m (omega arith)))) in
    let r = same_held st.place k m w st.area st.area some s s (alike_fresh st.place st.area st.area refl refl) m (le_refl m) in
    (r.comps, r.tests)
