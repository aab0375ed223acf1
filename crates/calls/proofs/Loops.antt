-- The loops of a whole run, and what it leaves. Assumes nothing.
use mathlib.Core.Path.{◌≡◌, refl, sym, ap, ap₂, ◌∙◌, subst}
use mathlib.Core.Logic.{◌≢◌}
use mathlib.Core.Bool.{Bool, true, false, not, cond}
use mathlib.Core.List.{List, ◌++◌}
use Prim.Native.Nat.{ℕ, zero, suc, ◌+◌, ◌-◌, ◌*◌, ◌≤◌, ◌<◌, zero-le}
use native.Mathlib.Nat.{le_refl, add-zero, zero-add}
use native.Mathlib.Numerals.{add-one}
use native.Mathlib.Omega.{arith}
use borrow.Author.Tests.{eq-eqb, ne_eqb, ltb-true}
use lib.Dec.{eqb, ltb}
use lib.ListN.{length, take, drop}
use Rattle.lists.specs.Tab.{zeros, splice}
use Rattle.lists.proofs.Tab.{length-zeros}
use Rattle.links.specs.Tables.{union}
use Rattle.links.specs.Picks.{lent_pick, united_picks}
use Rattle.links.proofs.Picks.{lent_long, length_united}
use Rattle.links.proofs.Chunks.{Behind, Turn, behind_all, behind_turn, behind_none}
use Rattle.measures.specs.Kit.{Kit, kit}
use Rattle.measures.proofs.Words.{size_links}
use Rattle.area.specs.Parts.{stored, table, part_size, width_of, table_at, put_part, put_table, zero_at, zeroed}
use Rattle.area.proofs.Stored.{stored-size, table-stored}
use Rattle.area.proofs.Laws.{put_same, put_beyond, zeroed-part}
use Rattle.place.specs.declared.Settings.{Settings}
use Rattle.place.specs.declared.Place.{Place}
use Rattle.place.proofs.Laws.{and_left, and_right}
use Rattle.place.specs.Places.{settings_of, fresh, charged, picks_taken, per_pick}
use Rattle.verdicts.specs.Verdicts.{needed}
use Rattle.verdicts.specs.Fit.{Runs}
use Rattle.steps.specs.Walk.{State, state, kit_of, ended, stepped}
use Rattle.steps.specs.Fit.{Able, Takes, Ready, Does}
use Rattle.steps.specs.Alike.{Alike, finished}
use Rattle.steps.specs.Bare.{bare_step}
use Rattle.steps.proofs.Fit.{boards_of, limit-of, charged_none}
use Rattle.steps.proofs.Grown.{Grown}
use Rattle.steps.proofs.Ready.{Stepped, step_takes, stepped_grown, stepped_framed, ready_on}
use Rattle.steps.proofs.Alike.{StillAlike, alike_fresh, finished-step, finished_stays}
use Rattle.steps.proofs.Bare.{bare_place, bare_whole, bare_walks, bare_frame}
use Rattle.steps.proofs.Closes.{kept-one}
use Rattle.calls.specs.Calls.{opened_area, unions, steps_of, bare_steps, whole_start, whole_after}
use Rattle.calls.specs.Fit.{Starts, Begins, Ends}
use Rattle.calls.proofs.Opened.{opened_length, opened_list}

-- ---- the union of the picks

-- onto pick 1 the picks after it are united
unions_united : (n : ℕ) (w : List ℕ) (k : ℕ) → unions n w (suc k) ≡ united_picks n (lent_pick n w 0) w 1 k
unfolding unions united_picks
unions_united n w zero = refl
unions_united n w (suc k) = let e : suc k ≡ 1 + k = omega arith in ap₂ (union n) (unions_united n w k) (ap (lent_pick n w) e)

pub length-unions : (n : ℕ) (w : List ℕ) (k : ℕ) → k * n ≤ length w → length (unions n w k) ≡ n
unfolding unions
length-unions n w zero room = length-zeros n
length-unions n w (suc k) room = ap length (unions_united n w k) ∙ length_united n _ w 1 k (lent_long n 0 (suc k) w room (omega arith))

-- t is pick 1 as code copies it
pub unions_made : (n m : ℕ) (w t s : List ℕ) → 1 ≤ m → t ≡ lent_pick n w 0 → s ≡ united_picks n t w 1 (m - 1) → s ≡ unions n w m
unions_made n zero w t s h e f = absurd (omega arith)
unions_made n (suc k) w t s h e f =
    let i : suc k - 1 ≡ k = omega arith in
    f ∙ ap₂ (λ (x : List ℕ) (y : ℕ). united_picks n x w 1 y) e i ∙ sym (unions_united n w k)

-- ---- the start

pub start_uncounted : (measure n m : ℕ) {p : Place} → p ≡ fresh measure n m → p.counts.compositions.0 ≡ 0
unfolding fresh
start_uncounted measure n m e = ap (λ (x : Place). x.counts.compositions.0) e

module _ (n measure m : ℕ) (w a : List ℕ) (f : Runs n measure m w a) where
  abbrev E : ℕ
  E = width_of measure n

  abbrev K : Kit
  K = kit measure n

  united : length (unions n w m) ≡ n
  united = let z = f.words in length-unions n w m (omega arith)

  begun : {p : Place} (t : List ℕ) {b : List ℕ} → p ≡ (whole_start n measure m w a).place → length t ≡ E → b ≡ put_part E a (m + 3) t
      → table K.size t ≡ table_at K (opened_area n measure m (unions n w m) a) (m + 3) → Begins n measure m w a p b
  unfolding whole_start charged fresh
  begun {p} t {b} e l g h =
      let at : table_at K b (m + 3) ≡ table_at K (opened_area n measure m (unions n w m) a) (m + 3) =
      ap (λ (x : List ℕ). table_at K x (m + 3)) g ∙ ap (table K.size) (put_same E (m + 4) a f.room (m + 3) (omega arith) (omega arith) t l) ∙ h in
      record {
        place = e;
        alike = subst (λ (x : Place). Alike x b (opened_area n measure m (unions n w m) a)) (sym e) (alike_fresh _ b _ refl at);
        beyond = ap (drop ((m + 4) * E)) g ∙ put_beyond E (m + 4) a f.room (m + 3) (omega arith) (omega arith) t l;
      }

  -- under the other measures there is no footprint
  pub start_other : {p : Place} {b : List ℕ} → measure ≢ 2 → p ≡ fresh measure n m → b ≡ zero_at (kit measure n) a (m + 3)
      → Begins n measure m w a p b
  unfolding whole_start opened_area zero_at
  start_other ne e g =
      begun (zeros E) (e ∙ charged_none (fresh measure n m) ∙ rw (ne_eqb measure 2 ne)) (length-zeros E) g
      (ap (table K.size) (sym (rw (ne_eqb measure 2 ne) (zeroed-part E (m + 4) a (m + 3) (omega arith) (omega arith)))))

  -- under measure 2 it is made in part m + 3
  pub start_footprint : {p q : Place} {made : ℕ} {t b : List ℕ} → measure ≡ 2 → q ≡ fresh measure n m → p ≡ charged q made
      → (made ≡ m - 1) × (t ≡ unions n w m) → b ≡ put_table K a (m + 3) t → Begins n measure m w a p b
  unfolding whole_start
  start_footprint {p} {q} {made} {t} {b} two g e u h =
      let long : length t ≡ K.size = ap length u.1 ∙ united ∙ sym (size_links measure n (λ x. omega arith)) in
      begun (stored K t) (e ∙ ap₂ charged g u.0 ∙ rw (eq-eqb measure 2 two)) (stored-size K t long) h
      (table-stored K t long ∙ u.1 ∙ sym (opened_list n measure m (unions n w m) a f.room (λ x. sym united) two))

-- ---- the steps

-- what holds after k picks: the place is ready for the next one, and the words beyond the parts are as they were
pub record AfterPicks (p : Place) (w a : List ℕ) (m k : ℕ) (q : Place) (b : List ℕ) : Type 0 where
  pub starts : Starts p m w a
  pub low : k ≤ m
  pub ready : Ready q (length b)
  pub size : length b ≡ length a
  pub settings : q.settings ≡ p.settings
  pub taken : q.window.taken.0 ≡ k
  pub comps : q.counts.compositions.0 ≤ per_pick * (k + 1)
  pub tests : q.counts.tests.0 ≤ per_pick * (k + 1)
  pub beyond : drop ((p.settings.limit + 4) * part_size (kit_of p.settings)) b ≡ drop ((p.settings.limit + 4) * part_size (kit_of p.settings)) a

pub along_start : (p : Place) (w a : List ℕ) (m : ℕ) → Starts p m w a → AfterPicks p w a m 0 p a
along_start p w a m s =
    let c = s.comps in
    let t = s.tests in
    record {
      starts = s;
      low = zero-le;
      ready = s.ready;
      size = refl;
      settings = refl;
      taken = s.none_taken;
      comps = omega arith;
      tests = omega arith;
      beyond = refl;
    }

module _ {p q : Place} {w a b : List ℕ} {m k : ℕ} (g : AfterPicks p w a m k q b) (h : k < m) where
  abbrev pick : List ℕ
  pick = lent_pick p.settings.boards w k

  shape : q.settings.boards ≡ length pick
  shape = boards_of g.settings ∙ sym (lent_long p.settings.boards k m w g.starts.words h)

  room : q.window.taken.0 < q.settings.limit
  room = let t = g.taken in let l = limit-of g.settings in let z = g.starts.limit in omega arith

  -- the next step is taken
  pub along_takes : Takes q (length pick)
  along_takes =
      let c = g.comps in
      let t = g.tests in
      let z = g.starts.ready.able.cap in
      let y = g.starts.limit in
      step_takes g.ready room (omega arith) (omega arith) shape

  -- a pick that leaves the place ready again, charges no more than a pick may, and writes no word beyond the parts
  pub along_grown : {r : Place} {d : List ℕ} {i c t : ℕ} → Grown q r 1 i c t → r.window.start.0 ≤ r.window.boundary.0 + 1
      → r.window.start.0 ≤ r.window.taken.0 → c ≤ per_pick → t ≤ per_pick → length d ≡ length b
      → drop ((q.settings.limit + 4) * part_size (kit_of q.settings)) d ≡ drop ((q.settings.limit + 4) * part_size (kit_of q.settings)) b
      → AfterPicks p w a m (k + 1) r d
  along_grown {r} {d} u near inside few-comps few_tests size out =
      let sc = u.comps in
      let sT = u.tests in
      let sm = u.taken in
      let gc = g.comps in
      let gt = g.tests in
      let gm = g.taken in
      record {
        starts = g.starts;
        low = omega arith;
        ready = subst (λ (x : ℕ). Ready r x) (sym size) (ready_on u near inside g.ready);
        size = size ∙ g.size;
        settings = u.settings ∙ g.settings;
        taken = omega arith;
        comps = omega arith;
        tests = omega arith;
        beyond = subst (λ (s : Settings). drop ((s.limit + 4) * part_size (kit_of s)) d ≡ drop ((s.limit + 4) * part_size (kit_of s)) b) g.settings out
            ∙ g.beyond;
      }

  -- a step that comes to the place of the walk
  pub along_turn : {r : Place} {d : List ℕ} → r ≡ (stepped (kit_of q.settings) pick (state q b)).place → length d ≡ length b
      → drop ((q.settings.limit + 4) * part_size (kit_of q.settings)) d ≡ drop ((q.settings.limit + 4) * part_size (kit_of q.settings)) b
      → AfterPicks p w a m (k + 1) r d
  along_turn {r} {d} e size out =
      let s = subst (λ (x : Place). Stepped q x) (sym e) (stepped_grown q b pick g.ready) in
      let sf = s.few in
      let gm = g.taken in
      let z = g.starts.ready.able.cap in
      let y = g.starts.limit in
      along_grown s.grown s.near s.inside (omega arith) (omega arith) size out

  -- a step of the walk
  pub along_walk : AfterPicks p w a m (k + 1) (stepped (kit_of q.settings) pick (state q b)).place (stepped (kit_of q.settings) pick (state q b)).area
  along_walk = let f = stepped_framed q b pick g.ready room shape in along_turn refl f.size f.beyond

  -- a step of a whole run
  pub along_bare : {r : Place} {d : List ℕ} → Does (bare_step (kit_of q.settings) pick) q b r d → AfterPicks p w a m (k + 1) r d
  along_bare {r} {d} e =
      let f = bare_frame q pick b g.ready.able along_takes in
      along_turn (e.0 ∙ bare_place q pick b) (ap length e.1 ∙ f.0) (ap (drop ((q.settings.limit + 4) * part_size (kit_of q.settings))) e.1 ∙ f.1)

-- the state after one pick more
pub bare_next : {p q r : Place} {w a b d : List ℕ} {m k : ℕ} → AfterPicks p w a m k q b
    → state q b ≡ bare_steps (kit_of p.settings) p.settings.boards w k (state p a)
    → Does (bare_step (kit_of q.settings) (lent_pick p.settings.boards w k)) q b r d
    → state r d ≡ bare_steps (kit_of p.settings) p.settings.boards w (k + 1) (state p a)
unfolding bare_steps
bare_next {p} {q} {r} {w} {a} {b} {d} {m} {k} g s e =
    rw (add-one k) (ap₂ state e.0 e.1 ∙ ap₂ (λ (K : Kit) (x : State). bare_step K (lent_pick p.settings.boards w k) x)
    (ap kit_of g.settings) s)

pub bare_none : (K : Kit) (n : ℕ) (w : List ℕ) (st : State) → st ≡ bare_steps K n w 0 st
unfolding bare_steps
bare_none K n w st = refl

-- after the last pick
pub along_end : {p q : Place} {w a b : List ℕ} {m k : ℕ} → AfterPicks p w a m k q b
    → state q b ≡ bare_steps (kit_of p.settings) p.settings.boards w k (state p a) → m ≤ k
    → Does (bare_steps (kit_of p.settings) p.settings.boards w m) p a q b × Ends p m a q b
along_end {p} {q} {w} {a} {b} {m} {k} g s h =
    let l = g.low in
    let t = g.taken in
    let e : k ≡ m = omega arith in
    let s' : state q b ≡ bare_steps (kit_of p.settings) p.settings.boards w m (state p a) = s
    ∙ ap (λ (x : ℕ). bare_steps (kit_of p.settings) p.settings.boards w x (state p a)) e in (
      (ap (λ (x : State). x.place) s', ap (λ (x : State). x.area) s'),
      record { inside = λ y. g.ready.inside (omega arith); all-taken = omega arith; beyond = g.beyond },
    )

-- ---- the loop over the picks

-- the first k are taken, and the words of the others are left
pub record Bared (p : Place) (w a : List ℕ) (m k : ℕ) (rest : List ℕ) (q : Place) (b : List ℕ) : Type 0 where
  pub behind : Behind p.settings.boards m w k rest
  pub after : AfterPicks p w a m k q b
  pub stepped : state q b ≡ bare_steps (kit_of p.settings) p.settings.boards w k (state p a)

pub bared_start : {p : Place} {w a : List ℕ} {m : ℕ} → Starts p m w a → Bared p w a m 0 (take (m * p.settings.boards) w) p a
bared_start {p} {w} {a} {m} s = record { behind = behind_all p.settings.boards m w; after = along_start p w a m s; stepped = bare_none _ _ _ _ }

module _ {p q : Place} {w a rest b : List ℕ} {m k : ℕ} (g : Bared p w a m k rest q b) where
  -- one pick more
  pub bared_turn : {x rest' : List ℕ} → 1 ≤ p.settings.boards → rest ≡ x ++ rest' → length x ≡ p.settings.boards
      → Turn {m = m} g.after.starts.words g.behind x rest'
  bared_turn some e l = behind_turn g.after.starts.words g.behind some e l

  pub bared_takes : {x rest' : List ℕ} → Turn g.after.starts.words g.behind x rest' → Takes q (length x)
  bared_takes t = subst (λ (x : List ℕ). Takes q (length x)) (sym t.pick) (along_takes g.after t.more)

  pub bared_next : {x rest' d : List ℕ} {r : Place} → Turn g.after.starts.words g.behind x rest' → Does (bare_step (kit_of q.settings) x) q b r d
      → Bared p w a m (k + 1) rest' r d
  bared_next t e =
      let f = rw t.pick at e in record { behind = t.behind; after = along_bare g.after t.more f; stepped = bare_next g.after g.stepped f }

  pub bared_end : length rest < p.settings.boards → Does (bare_steps (kit_of p.settings) p.settings.boards w m) p a q b × Ends p m a q b
  bared_end h = let e = behind_none g.after.starts.words g.behind h in along_end g.after g.stepped (omega arith)

-- ---- the steps of the walk

pub walked : (p : Place) (w a : List ℕ) (m : ℕ) → Starts p m w a → (k : ℕ) → k ≤ m
    → AfterPicks p w a m k (steps_of (kit_of p.settings) p.settings.boards w k (state p a)).place (steps_of (kit_of p.settings) p.settings.boards w k
    (state p a)).area
unfolding steps_of
walked p w a m s zero h = along_start p w a m s
walked p w a m s (suc k) h =
    let g = walked p w a m s k (omega arith) in
    let st = steps_of (kit_of p.settings) p.settings.boards w k (state p a) in
    let pick = lent_pick p.settings.boards w k in
    subst (λ (i : ℕ). AfterPicks p w a m i (stepped (kit_of p.settings) pick st).place (stepped (kit_of p.settings) pick st).area) (add-one k)
    (subst (λ (K : Kit). AfterPicks p w a m (k + 1) (stepped K pick st).place (stepped K pick st).area) (ap kit_of g.settings) (along_walk g (omega arith)))

-- ---- the steps of a whole run beside those of the walk

module _ (p : Place) (w a b : List ℕ) (m : ℕ) (sa : Starts p m w a) (sb : Starts p m w b) (x : Alike p a b) where
  abbrev bare : ℕ → State
  bare k = bare_steps (kit_of p.settings) p.settings.boards w k (state p a)

  abbrev walk : ℕ → State
  walk k = steps_of (kit_of p.settings) p.settings.boards w k (state p b)

  -- after k picks both have come to one place, and to areas that no step tells apart
  pub record SamePlace (k : ℕ) : Type 0 where
    pub same : (bare k).place ≡ (walk k).place
    pub still : StillAlike (bare k).place (bare k).area (walk k).area
    pub left : AfterPicks p w a m k (bare k).place (bare k).area

  pub beside : (k : ℕ) → k ≤ m → SamePlace k
  unfolding bare_steps steps_of
  beside zero h = record { same = refl; still = λ z. x; left = along_start p w a m sa }
  beside (suc k) h =
      let g = beside k (omega arith) in
      let q = (bare k).place in
      let pick = lent_pick p.settings.boards w k in
      let kl : kit_of q.settings ≡ kit_of p.settings = ap kit_of g.left.settings in
      let able : Able q.settings (length (walk k).area) =
      subst (λ (y : Place). Able y.settings (length (walk k).area)) (sym g.same) (walked p w b m sb k (omega arith)).ready.able in
      let n = bare_walks q pick (bare k).area (walk k).area g.left.ready.able able (along_takes g.left (omega arith)) g.still in
      let e : ((bare_step (kit_of p.settings) pick (bare k)).place ≡ (stepped (kit_of p.settings) pick (walk k)).place)
      × StillAlike (bare_step (kit_of p.settings) pick (bare k)).place (bare_step (kit_of p.settings) pick (bare k)).area
      (stepped (kit_of p.settings) pick (walk k)).area =
      subst (λ (y : Place). ((bare_step (kit_of p.settings) pick (bare k)).place ≡ (stepped (kit_of p.settings) pick (state y (walk k).area)).place)
      × StillAlike (bare_step (kit_of p.settings) pick (bare k)).place (bare_step (kit_of p.settings) pick (bare k)).area
      (stepped (kit_of p.settings) pick (state y (walk k).area)).area) g.same
      (subst (λ (K : Kit). ((bare_step K pick (bare k)).place ≡ (stepped K pick (state q (walk k).area)).place)
      × StillAlike (bare_step K pick (bare k)).place (bare_step K pick (bare k)).area (stepped K pick (state q (walk k).area)).area) kl n) in
      let l : AfterPicks p w a m (k + 1) (bare_step (kit_of p.settings) pick (bare k)).place (bare_step (kit_of p.settings) pick (bare k)).area =
      subst (λ (K : Kit). AfterPicks p w a m (k + 1) (bare_step K pick (bare k)).place (bare_step K pick (bare k)).area) kl (along_bare g.left (omega arith)
      (refl, refl)) in
      record {
        same = e.0;
        still = e.1;
        left = subst (λ (i : ℕ). AfterPicks p w a m i (bare_step (kit_of p.settings) pick (bare k)).place
            (bare_step (kit_of p.settings) pick (bare k)).area) (add-one k) l;
      }

-- ---- after the end of measure 1

-- a step only counts the pick, and it stays the end
finished_brief : (q : Place) (w b : List ℕ) → finished q ≡ true → bare_step (kit_of q.settings) w (state q b) ≡ state (picks_taken q 1) b
finished_brief q w b e =
    bare_whole q w b (kept-one q.settings false (and_left (eqb q.settings.measure 1) (ended q) e)) ∙ finished-step q w b e

taken_next : (q : Place) (j : ℕ) → picks_taken (picks_taken q 1) j ≡ picks_taken q (suc j)
unfolding picks_taken
taken_next q j = let e : q.window.taken.0 + 1 + j ≡ q.window.taken.0 + suc j = omega arith in rw e

taken_none : (q : Place) → q ≡ picks_taken q 0
unfolding picks_taken
taken_none q = rw add-zero

finished_steps : (K : Kit) (n : ℕ) (w : List ℕ) (st : State) (k j : ℕ) (q : Place) (b : List ℕ) → kit_of q.settings ≡ K
    → finished q ≡ true → state q b ≡ bare_steps K n w k st
    → state (picks_taken q j) b ≡ bare_steps K n w (j + k) st
unfolding bare_steps picks_taken
finished_steps K n w st k zero q b f e g = rw zero-add (ap (λ (x : Place). state x b) (sym (taken_none q)) ∙ g)
finished_steps K n w st k (suc j) q b f e g =
    let h : state (picks_taken q 1) b ≡ bare_steps K n w (suc k) st = sym (finished_brief q (lent_pick n w k) b e)
    ∙ ap₂ (λ (L : Kit) (x : State). bare_step L (lent_pick n w k) x) f g in
    let i : j + suc k ≡ suc j + k = omega arith in
    ap (λ (x : Place). state x b) (sym (taken_next q j)) ∙ finished_steps K n w st (suc k) j (picks_taken q 1) b f (finished_stays q e) h
    ∙ ap (λ (x : ℕ). bare_steps K n w x st) i

-- the picks that are left
pub along_finished : {p q r : Place} {w a b : List ℕ} {m k : ℕ} → AfterPicks p w a m k q b
    → state q b ≡ bare_steps (kit_of p.settings) p.settings.boards w k (state p a) → k ≤ m → finished q ≡ true
    → r ≡ picks_taken q (m - k) → Does (bare_steps (kit_of p.settings) p.settings.boards w m) p a r b × Ends p m a r b
unfolding picks_taken
along_finished {p} {q} {r} {w} {a} {b} {m} {k} g s h e f =
    let i : m - k + k ≡ m = omega arith in
    let t = finished_steps (kit_of p.settings) p.settings.boards w (state p a) k (m - k) q b (ap kit_of g.settings) e s
    ∙ ap (λ (x : ℕ). bare_steps (kit_of p.settings) p.settings.boards w x (state p a)) i in
    let gt = g.taken in
    let gi = g.ready.inside (ltb-true 0 q.window.taken.0 (and_left (ltb 0 q.window.taken.0) (not q.marks.passed)
    (and_right (eqb q.settings.measure 1) (ended q) e))) in (
      (f ∙ ap (λ (x : State). x.place) t, ap (λ (x : State). x.area) t),
      subst (λ (x : Place). Ends p m a x b) (sym f) (record { inside = λ y. omega arith; all-taken = omega arith; beyond = g.beyond }),
    )

pub list-cost : (measure m : ℕ) → m ≤ 4096 → cond (eqb measure 2) (m - 1) 0 ≤ 4096
list-cost measure m h = go (eqb measure 2)
  where
    go : (x : Bool) → cond x (m - 1) 0 ≤ 4096
    go true = omega arith
    go false = omega arith

-- ---- from the start to the end

-- a whole run starts with its own settings
pub start_settings : (n measure m : ℕ) (w a : List ℕ) {p : Place} → p ≡ (whole_start n measure m w a).place
    → p.settings ≡ settings_of measure n m
unfolding whole_start charged fresh
start_settings n measure m w a e = ap (λ (x : Place). x.settings) e

-- the place and the area that a whole run starts from
pub whole_starts : (n measure m c : ℕ) (w a : List ℕ) {p : Place} {b : List ℕ} → Runs n measure m w a → c ≤ 4096
    → p ≡ charged (fresh measure n m) c → length b ≡ length a → Starts p m w b
unfolding charged fresh
whole_starts n measure m c w a {p} {b} f h e l =
    let z = f.words in
    subst (λ (x : Place). Starts x m w b) (sym e) (record {
      ready = record {
        able = record { few = f.few; cap = f.cap; room = let r = f.room in omega arith };
        start = le_refl 1;
        near = le_refl 1;
        bound = le_refl 0;
        inside = λ y. absurd (omega arith);
        none_failed = λ y. refl;
        none_passed = λ y. refl;
      };
      none_taken = refl;
      limit = refl;
      words = omega arith;
      comps = omega arith;
      tests = omega arith;
    })

-- what the walk of a whole run comes to
pub whole_ends : (n measure m : ℕ) (w a : List ℕ) {p q : Place} {b d : List ℕ} → Runs n measure m w a → Begins n measure m w a p b
    → length b ≡ length a
    → Does (bare_steps (kit_of p.settings) p.settings.boards w m) p b q d → q ≡ (whole_after n measure m w a m).place
unfolding whole_after whole_start charged fresh
whole_ends n measure m w a {p} {q} {b} {d} f g l e =
    let z = f.words in
    let o = opened_length n measure m (unions n w m) a f.room (λ x. sym (length-unions n w m (omega arith))) in
    let r = beside p w b (opened_area n measure m (unions n w m) a) m (whole_starts n measure m _ w a f (list-cost measure m f.cap) g.place l)
    (whole_starts n measure m _ w a f (list-cost measure m f.cap) g.place o) g.alike m (le_refl m) in
    e.0 ∙ r.same ∙ ap (λ (y : Place). (steps_of (kit_of y.settings)
    y.settings.boards w m (state y (opened_area n measure m (unions n w m) a))).place) g.place

-- the words beyond the needed ones
pub whole_beyond : (n measure m : ℕ) (w a d : List ℕ) {p : Place} {b : List ℕ} → Begins n measure m w a p b
    → drop ((p.settings.limit + 4) * part_size (kit_of p.settings)) d ≡ drop ((p.settings.limit + 4) * part_size (kit_of p.settings)) b
    → zeroed (needed measure n m) d ≡ zeroed (needed measure n m) a
unfolding splice whole_start charged fresh
whole_beyond n measure m w a d {p} {b} g h =
    let k : drop (needed measure n m) d ≡ drop (needed measure n m) b =
    subst (λ (x : Place). drop ((x.settings.limit + 4) * part_size (kit_of x.settings)) d
    ≡ drop ((x.settings.limit + 4) * part_size (kit_of x.settings)) b)
    g.place h in
    ap (λ (x : List ℕ). zeros (needed measure n m) ++ x) (k ∙ g.beyond)
