-- For callers of `step`: a place that is ready takes a pick, and is ready again after it. From step to step the counts grow by
-- less than `per_pick`, so 4096 picks from small counts stay below what `Takes` allows. Assumes nothing.
use Prim.Native.Nat.{ℕ, ◌+◌, ◌-◌, ◌*◌, ◌≤◌, ◌<◌, max}
use native.Mathlib.Omega.{arith}
use mathlib.Core.Path.{◌≡◌, refl, sym, ap}
use mathlib.Core.Logic.{◌≢◌, ⊎_elim}
use mathlib.Core.Bool.{Bool, false}
use mathlib.Core.List.{List}
use lib.Dec.{eqb, eqb→eq}
use lib.ListN.{length}
use Rattle.model.specs.Journey.{val}
use Rattle.model.proofs.Logic.{eq_or, cond_ind}
use Rattle.measures.specs.Kit.{hops01}
use Rattle.area.specs.Parts.{part_size}
use Rattle.place.specs.declared.Place.{Place}
use Rattle.place.specs.Places.{Sound, picks_taken, per_pick, most_counted}
use Rattle.steps.specs.Walk.{State, state, kit_of, entered, tried, cleared, min_step, climbed, ended, max_step, stepped}
use Rattle.steps.specs.Fit.{rise, Takes, Ready}
use Rattle.steps.proofs.Fit.{able_kept}
use Rattle.model.proofs.Bits.{val_le}
use Rattle.steps.proofs.Grown.{Grown, grown_on, grown_to, picks_grown, grown_counted, entered_grown, entered_near, tried_grown, tried_bound}
use Rattle.steps.proofs.Enough.{Enough, entered_enough}
use Rattle.steps.proofs.Rises.{climbed_along}
use Rattle.area.proofs.Laws.{kit_wide, own_wide}
use Rattle.steps.proofs.Frames.{Frame, stepped_frame, Untouched}

-- ---- what `step` requires

-- no mark is set before the first pick, so the start moves within the picks taken
ahead : {p : Place} {words : ℕ} → Ready p words → (x : Bool) → (p.window.taken.0 ≡ 0 → x ≡ false)
    → p.window.start.0 + val x ≤ p.window.taken.0 + 1
ahead {p} r x none =
    let n = r.near in
    let b = r.bound in
    ⊎_elim (λ (z : p.window.taken.0 ≡ 0). let v : val x ≡ 0 = ap val (none z) in omega arith)
    (λ z. let i = r.inside (omega arith) in omega (arith, val_le x))
    (eq_or p.window.taken.0 0)

pub ahead_passed : {p : Place} {words : ℕ} → Ready p words → p.window.start.0 + val p.marks.passed ≤ p.window.taken.0 + 1
ahead_passed {p} r = ahead r p.marks.passed r.none_passed

pub ahead_failed : {p : Place} {words : ℕ} → Ready p words → p.window.start.0 + val p.marks.failed ≤ p.window.taken.0 + 1
ahead_failed {p} r = ahead r p.marks.failed r.none_failed

pub step_takes : {p : Place} {words links : ℕ} → Ready p words → p.window.taken.0 < p.settings.limit
    → p.counts.compositions.0 + per_pick ≤ most_counted
    → p.counts.tests.0 + per_pick ≤ most_counted → p.settings.boards ≡ links → Takes p links
step_takes r h c t e = record {
  passed = record { start = r.start; ahead = ahead_passed r; top = omega arith; bound = r.bound; comps = c; tests = t };
  failed = record { start = r.start; ahead = ahead_failed r; top = omega arith; bound = r.bound; comps = c; tests = t };
  shape = e;
}

-- what cause 16 leaves is ready, where the area has room
pub sound_ready : {p : Place} {words : ℕ} → Sound p → (p.settings.limit + 4) * part_size (kit_of p.settings) ≤ words → Ready p words
sound_ready s room = record {
  able = record { few = s.boards_high; cap = s.limit_high; room = room };
  start = s.start_low;
  near = s.start_high;
  bound = s.boundary_high;
  inside = s.start_taken;
  none_failed = s.none_failed;
  none_passed = s.none_passed;
}

pub sound_takes : {p : Place} {words links : ℕ} → Sound p → (p.settings.limit + 4) * part_size (kit_of p.settings) ≤ words
    → p.window.taken.0 < p.settings.limit → p.settings.boards ≡ links → Takes p links
sound_takes s room h e =
    let l = s.limit_high in
    let c = s.compositions_high in
    let t = s.tests_high in
    step_takes (sound_ready s room) h (omega arith) (omega arith) e

-- ---- what `step` leaves

-- A pick is taken, and the start rises by some number; it is then within b + 1 and within the picks taken. At most one test is
-- made for each pick from the old start up to the new pick, and one composition less than that; under every measure but 1 exactly one test.
pub record Stepped (p q : Place) : Type 0 where
  pub by : ℕ
  pub tests : ℕ
  pub grown : Grown p q 1 by (p.window.taken.0 + 1 - p.window.start.0) tests
  pub near : q.window.start.0 ≤ q.window.boundary.0 + 1
  pub inside : q.window.start.0 ≤ q.window.taken.0
  pub few : tests ≤ p.window.taken.0 + 2 - p.window.start.0
  pub one : p.settings.measure ≢ 1 → tests ≡ 1

module _ (p : Place) (a w : List ℕ) {words : ℕ} (r : Ready p words) where
  -- entered and tested
  tried_on : (k : ℕ) → Grown p (tried (kit_of p.settings) (entered (kit_of p.settings) k w (state p a))).place 1 k (p.window.taken.0 + 3) 1
  tried_on k = grown_to (grown_on (entered_grown (kit_of p.settings) k w (state p a)) (tried_grown (kit_of p.settings) (entered (kit_of p.settings) k w
      (state p a)))) refl (omega arith) (omega arith) refl

  tried_near : (k : ℕ) → p.window.start.0 + k ≤ p.window.taken.0 + 1
      → (tried (kit_of p.settings) (entered (kit_of p.settings) k w (state p a))).place.window.start.0 ≤ (tried (kit_of p.settings)
      (entered (kit_of p.settings) k w (state p a))).place.window.boundary.0 + 1
  tried_near k low =
      let st = entered (kit_of p.settings) k w (state p a) in
      let n = entered_near (kit_of p.settings) k w (state p a) low in
      let s = (tried_grown (kit_of p.settings) st).start in
      let b = tried_bound (kit_of p.settings) st in
      omega arith

  -- what is enough for the pick then
  pick_enough : (k : ℕ) → Enough (p.counts.compositions.0 + (p.window.taken.0 + 1 - (p.window.start.0 + k))) 1
      (tried (kit_of p.settings) (entered (kit_of p.settings) k w (state p a))).place
  pick_enough k = entered_enough (kit_of p.settings) k w (state p a) r.bound

  min_place : Stepped p (min_step (kit_of p.settings) w (state p a)).place
  unfolding min_step cleared
  min_place =
      let k = val p.marks.passed in
      let s = ahead_passed r in
      let g = tried_on k in
      let gs = g.start in
      let gm = g.taken in
      record {
        by = k;
        tests = 1;
        grown = grown_to (grown_counted g (pick_enough k).within) refl refl (omega arith) refl;
        near = tried_near k s;
        inside = omega arith;
        few = omega arith;
        one = λ n. refl;
      }

  module _ (is_one : p.settings.measure ≡ 1) where
    climbed_place : Stepped p (climbed (kit_of p.settings) (tried (kit_of p.settings) (entered (kit_of p.settings) (val p.marks.failed) w
        (state p a)))).place
    climbed_place =
        let k = val p.marks.failed in
        let st = tried (kit_of p.settings) (entered (kit_of p.settings) k w (state p a)) in
        let s = ahead_failed r in
        let g = tried_on k in
        let gs = g.start in
        let gm = g.taken in
        let u = climbed_along (kit_of p.settings) st (omega arith) in
        let most = u.1.0 in
        let v = u.1.1.grown in
        let vs = v.start in
        let vm = v.taken in
        record {
          by = k + u.0;
          tests = 1 + u.0;
          grown = grown_to (grown_counted (grown_on g v) (u.1.1.enough _ (pick_enough k)).within) refl refl (omega arith) refl;
          near = u.1.1.near (tried_near k s);
          inside = omega arith;
          few = omega arith;
          one = λ n. absurd (n is_one);
        }

    max_place : Stepped p (max_step (kit_of p.settings) w (state p a)).place
    unfolding max_step cleared picks_taken
    max_place =
        let n = r.near in
        let b = r.bound in
        cond_ind (λ (q : State). Stepped p q.place) (ended p) (state (picks_taken p 1) a) _
        (λ t. record {
          by = 0;
          tests = 0;
          grown = grown_to (picks_grown p 1) refl refl (omega arith) refl;
          near = n;
          inside = omega arith;
          few = omega arith;
          one = λ n. absurd (n is_one);
        })
        (λ t. climbed_place)

  pub stepped_grown : Stepped p (stepped (kit_of p.settings) w (state p a)).place
  unfolding stepped
  stepped_grown =
      cond_ind (λ (q : State). Stepped p q.place) (eqb p.settings.measure 1) _ _ (λ t. max_place (eqb→eq p.settings.measure 1 t))
      (λ t. min_place)

-- the parts of the area that a pick may write; the others and the words beyond them stay
pub stepped_framed : (p : Place) (a w : List ℕ) → Ready p (length a) → p.window.taken.0 < p.settings.limit → p.settings.boards ≡ length w
    → Frame (kit_of p.settings) (state p a) (stepped (kit_of p.settings) w (state p a)) (Untouched (max (p.window.start.0 + rise p)
    (p.window.boundary.0 + 2)) (p.window.taken.0 + 1) p.settings.limit)
stepped_framed p a w r h e =
    let n = r.near in
    let b = r.bound in
    stepped_frame (kit_of p.settings) (kit_wide p.settings.measure p.settings.boards) w (state p a) r.able.room r.start (omega arith) h
    (own_wide hops01 p.settings.measure p.settings.boards (p.window.taken.0 + 1) w (sym e))

-- a place that took a pick, its start within b + 1 and within the picks taken, is ready again
pub ready_on : {p q : Place} {words k c t : ℕ} → Grown p q 1 k c t → q.window.start.0 ≤ q.window.boundary.0 + 1
    → q.window.start.0 ≤ q.window.taken.0 → Ready p words → Ready q words
ready_on g near inside r =
    let m = g.taken in
    let l = g.start in
    let rl = r.start in
    record {
      able = able_kept g.settings r.able;
      start = omega arith;
      near = near;
      bound = g.bound r.bound;
      inside = λ x. inside;
      none_failed = λ z. absurd (omega arith);
      none_passed = λ z. absurd (omega arith);
    }
