-- CONDITION 2 for a course by any measure: after each pick the walk reports the length of the picks so far, its parts hold what document 01 says, and its
-- counts keep within the bounds. Minimisation and maximisation, each once; of the measure nothing is used but its facts. Assumes nothing.
use mathlib.Core.Path.{◌≡◌, refl, ◌∙◌, sym, ap, ap₂, subst}
use mathlib.Core.Bool.{Bool, true, false, ◌&&◌, not, cond}
use mathlib.Core.List.{List}
use Prim.Native.Nat.{ℕ, zero, suc, ◌+◌, ◌-◌, ◌*◌, ◌≤◌}
use native.Mathlib.Omega.{arith}
use lib.Dec.{eqb, T, eqb→eq}
use Rattle.model.specs.Recording.{pick_at}
use Rattle.model.specs.Journey.{val, at_most}
use Rattle.measures.specs.Kit.{Kit, turn01}
use Rattle.place.specs.declared.Settings.{Settings}
use Rattle.place.specs.declared.Place.{Place}
use Rattle.place.specs.Places.{picks_taken, charged, Sound, settings_of, fresh}
use Rattle.steps.specs.Walk.{State, state, entered, tried, cleared, min_step}
use Rattle.steps.specs.Walk.{again, climb, climbed, ended, max_step, stepped, reported}
use Rattle.law.specs.Ladders.{m_of, s_of, b_of, limit_of, WindowTables, holds, Zero, Law, Decides, Laddered, Holds, last_entered, Framed}
use Rattle.law.specs.Course.{walk_from, Course, OfDocument, kit_in, list_in, PassesIn, FactsIn, tables, start, state_at, Charge, CourseTold}
use Rattle.law.specs.Course.{ToldClaim, PartsClaim}
use mathlib.Core.Logic.{◌≢◌, inl, inr}
use native.Mathlib.Numerals.{add-one}
use lib.ListN.{length}
use Rattle.model.specs.Length.{Upward, Downward}
use Rattle.model.proofs.Lengths.{Agree}
use Rattle.model.proofs.Logic.{eq_refl, eqb_ne, T→≡, F→≡, cond_ind}
use Rattle.model.proofs.Windows.{pick-at}
use Rattle.area.proofs.Laws.{join_wide, own_wide}
use Rattle.steps.proofs.Fit.{boards_of, measure_of, limit-of}
use Rattle.steps.proofs.Grown.{Grown, grown_on, tried_grown, entered_grown, again_grown}
use Rattle.calls.proofs.Opened.{opened_list, opened_length, opened_part}
use Rattle.calls.specs.Answers.{Outcome}
use Rattle.law.specs.Invariants.{MinAnswer, MinInvariant, MaxAnswer, at_end, MaxInvariant, MaxGoing}
use Rattle.law.specs.Facts.{ComposesWith, Monotone, minimises, maximises}
use Rattle.law.specs.Correct.{Passes, Right, answered, none_exists, Counted}
use Rattle.law.proofs.MinWalk.{min_keeps, min_right, min_counts}
use Rattle.law.proofs.MaxWalk.{max_keeps, max_right, max_tests, max_comps}
use Rattle.law.proofs.Faithful.{window_tells, split_law, single_law}
use Rattle.law.proofs.Kits.{facts}
use Rattle.law.proofs.Unlimited.{passes_agree, right_unlimited}
use native.Mathlib.Nat.{le_refl}
use mathlib.Core.Option.{Option, none, some}
use Rattle.calls.specs.Calls.{report_says}

-- ---- what a pick keeps of the place

pub record Settled (s : Settings) (m : ℕ) (q : Place) : Type 0 where
  pub settings : q.settings ≡ s
  pub taken : q.window.taken.0 ≡ m

-- one step after another
settled_on : {s : Settings} {q r : Place} {m k l : ℕ} → Settled s m q → Settled q.settings k r → k ≡ l → Settled s l r
settled_on a b e = record { settings = b.settings ∙ a.settings; taken = b.taken ∙ e }

pub grown_settled : {p q : Place} {m k c t l : ℕ} → Grown p q m k c t → p.window.taken.0 + m ≡ l → Settled p.settings l q
grown_settled g e = record { settings = g.settings; taken = g.taken ∙ e }

climb_settled : (K : Kit) (k : ℕ) (st : State) → Settled st.place.settings (m_of st) (climb K k st).place
unfolding climb
climb_settled K zero st = record { settings = refl; taken = refl }
climb_settled K (suc k) st =
    cond_ind (λ (q : State). Settled st.place.settings (m_of st) q.place) st.place.marks.passed st (climb K k (again K st))
    (λ t. record { settings = refl; taken = refl })
    (λ t. let a = grown_settled (again_grown K st) (omega arith) in settled_on a (climb_settled K k (again K st)) a.taken)

pub stepped_settled : (K : Kit) (w : List ℕ) (st : State) → Settled st.place.settings (m_of st + 1) (stepped K w st).place
unfolding stepped min_step max_step cleared climbed picks_taken
stepped_settled K w st =
    cond_ind Out (eqb st.place.settings.measure 1) (max_step K w st) (min_step K w st)
    (λ t. cond_ind Out (ended st.place) (state (picks_taken st.place 1) st.area) _
    (λ t. record { settings = refl; taken = refl })
    (λ t. let a = seen (val st.place.marks.failed) in let q = tried K (entered K (val st.place.marks.failed) w st) in
    settled_on a (climb_settled K (m_of q - s_of q) q) a.taken))
    (λ t. seen (val st.place.marks.passed))
  where
    Out : State → Type 0
    Out q = Settled st.place.settings (m_of st + 1) q.place

    seen : (k : ℕ) → Settled st.place.settings (m_of st + 1) (tried K (entered K k w st)).place
    seen k = grown_settled (grown_on (entered_grown K k w st) (tried_grown K (entered K k w st))) (omega arith)

-- ---- some picks, one after the other

pub walked_settled : (K : Kit) (r : List (List ℕ)) (st : State) (k : ℕ) → Settled st.place.settings (m_of st + k) (walk_from K r st k).place
unfolding walk_from
walked_settled K r st zero = record { settings = refl; taken = let e : m_of st ≡ m_of st + 0 = omega arith in e }
walked_settled K r st (suc k) =
    let a = walked_settled K r st k in let t = a.taken in settled_on a (stepped_settled K (pick_at r (suc k)) (walk_from K r st k)) (omega arith)

-- ---- before pick 1

module _ (c : Course) where
  open c use {n, measure, limit, footprint, area, room, fits}

  -- under measure 2 the footprint has a word for each board
  pub listed-words : measure ≡ 2 → n ≡ length footprint
  listed-words e = sym (fits e).0.words.size

  pub opened_laddered : (x : ℕ) → Laddered (tables c) (start c x)
  unfolding fresh charged
  opened_laddered x = record {
    frame = record
        { start = le_refl 1; top = omega arith; room = let e = opened_length n measure limit footprint area room listed-words in omega arith; list = refl };
    bound = le_refl 0;
    near = le_refl 1;
    lefts = λ i x y. absurd (omega arith);
    owns = λ i x y. absurd (omega arith);
    rights = λ x. absurd (omega arith);
    empty = λ x. opened_part n measure limit footprint area room listed-words (limit + 1) (omega arith) (omega arith) (λ e. omega arith);
  }

  pub opened_min : (P : ℕ → ℕ → Type 0) (x : ℕ) → MinInvariant (tables c) P x (start c x)
  unfolding fresh charged
  opened_min P x = record {
    ladders = opened_laddered x;
    ahead = le_refl 1;
    inside = λ h. absurd (omega arith);
    window = λ h. absurd (omega arith);
    spare = opened_part n measure limit footprint area room listed-words (limit + 4) (omega arith) (le_refl (limit + 4)) (λ e. omega arith);
    good = λ t. absurd t;
    bad = λ h t q. omega arith;
    before = λ i x y. absurd (omega arith);
    below = λ h. absurd (omega arith);
    count_tests = refl;
    count_comps = omega arith;
  }

  pub opened_max : (P : ℕ → ℕ → Type 0) → MaxGoing (tables c) P (start c 0)
  unfolding fresh charged
  opened_max P = record {
    ladders = opened_laddered 0;
    ahead = le_refl 1;
    inside = λ h. absurd (omega arith);
    window = λ h. absurd (omega arith);
    spare = opened_part n measure limit footprint area room listed-words (limit + 4) (omega arith) (le_refl (limit + 4)) (λ e. omega arith);
    good = λ h. absurd (omega arith);
    upto = λ i j x y q. absurd (omega arith);
    above = λ t. absurd t;
    whole = λ t. refl;
    count_tests = omega arith;
    count_comps = omega arith;
  }

-- ---- pick after pick

holds_of : {X : WindowTables} {m : ℕ} {st : State} → m_of st ≡ m → Laddered X st → holds X st (limit_of st + 2) ≡ X.win (s_of st) (m_of st)
    → Zero X st (limit_of st + 4) → Holds X m st
holds_of {X} {m} {st} e a w z = subst (λ (x : ℕ). Holds X x st) e (record {
  lefts = a.lefts;
  owns = a.owns;
  rights = a.rights;
  empty = a.empty;
  window = w;
  list = a.frame.list;
  spare = z;
})

module _ (c : Course) where
  open c use {hops, turn, n, measure, limit, footprint, area, picks, recorded, few}

  abbrev st : ℕ → ℕ → State
  st x k = state_at c x k

  pub course_facts : FactsIn c
  course_facts = facts hops turn n c.few_boards picks recorded measure c.measure_low c.measure_high (list_in c)
      (λ two. rw (opened_list n measure limit footprint area c.room (listed-words c) two) (c.fits two))

  pub course_law : Law (tables c)
  course_law =
      let f = course_facts.faithful in
      let K = kit_in c in
      let win = (tables c).win in
      record {
        wide = join_wide measure n;
        own_wide = λ i a b. own_wide hops measure n i (pick_at picks i) (pick-at n picks recorded i a b).words.size;
        single = single_law K.join K.own picks _ f;
        split = λ i k j a b d e. ap (λ (x : ℕ). K.join (win i k) (win x j)) (add-one k) ∙ split_law K.join K.own picks _ f i k j a b d e;
      }

  -- the composed table of a window tells of it, and its test whether it passes
  pub course_tells : (i j : ℕ) → 1 ≤ i → i ≤ j → j ≤ length picks → ComposesWith (at_most hops) measure n picks i j ((tables c).win i j)
  course_tells i j x y z = window_tells (kit_in c).join (kit_in c).own picks _ course_facts.faithful i j x y z

  pub course_decides : Decides (tables c) (PassesIn c)
  course_decides i j x y z = course_facts.tested i j ((tables c).win i j) x y z (course_tells i j x y z)

  course_list : measure ≡ 2 → list_in c ≡ footprint
  course_list = opened_list n measure limit footprint area c.room (listed-words c)

  -- by the kit of document 01 a window passes as document 01 says, and what is right is right by document 01
  pub course_agree : OfDocument c → Agree (PassesIn c) (Passes measure n footprint picks) (length picks)
  course_agree d = rw (d.0, d.1) (passes_agree n c.few_boards picks recorded turn01 measure (list_in c) footprint course_list)

  pub course_right : OfDocument c → (k : ℕ) → k ≤ length picks → (o : Outcome) → Right measure (PassesIn c) k o
      → Right measure (Passes measure n footprint picks) k o
  course_right d = rw (d.0, d.1) (right_unlimited n c.few_boards picks recorded turn01 measure (list_in c) footprint course_list)

  -- the place keeps its settings, and has k picks
  pub course_settled : (x k : ℕ) → Settled (settings_of measure n limit) k (st x k).place
  unfolding fresh charged
  course_settled x k = let e = walked_settled (kit_in c) picks (start c x) k in let t = e.taken in record { settings = e.settings; taken = omega arith }

  -- the next pick's own table
  pub own_at : {m k : ℕ} → m ≡ k → (kit_in c).own (m + 1) (pick_at picks (suc k)) ≡ (tables c).own (m + 1)
  own_at {m} {k} e = let i : suc k ≡ m + 1 = omega arith in ap (λ (z : ℕ). (kit_in c).own (m + 1) (pick_at picks z)) i

  pub own_next : (x k : ℕ) → (kit_in c).own (m_of (st x k) + 1) (pick_at picks (suc k)) ≡ (tables c).own (m_of (st x k) + 1)
  own_next x k = own_at (course_settled x k).taken

  -- a place that cause 16 lets through
  sound_at : (x k : ℕ) → 1 ≤ k → k ≤ length picks → 1 ≤ s_of (st x k) → s_of (st x k) ≤ b_of (st x k) + 1 → b_of (st x k) ≤ m_of (st x k)
      → s_of (st x k) ≤ m_of (st x k) → (st x k).place.counts.compositions.0 ≤ 4 * (k - 1) → (st x k).place.counts.tests.0 ≤ 2 * k
      → Sound (st x k).place
  sound_at x k a b s1 s2 b1 s3 c1 t1 =
      let q = course_settled x k in
      let qb = boards_of q.settings in
      let qm = measure_of q.settings in
      let ql = limit-of q.settings in
      let t = q.taken in
      let n2 = c.some_boards in
      let n32 = c.few_boards in
      let low = c.measure_low in
      let high = c.measure_high in
      let cap = c.cap in
      let f = few in
      record {
        boards_low = omega arith;
        boards_high = omega arith;
        measure_low = omega arith;
        measure_high = omega arith;
        limit_low = omega arith;
        limit_high = omega arith;
        taken_high = omega arith;
        boundary_high = b1;
        start_low = s1;
        start_high = s2;
        start_taken = λ h. s3;
        none_failed = λ h. absurd (omega arith);
        none_passed = λ h. absurd (omega arith);
        compositions_high = omega arith;
        tests_high = omega arith;
      }

  -- ---- minimisation

  module _ (not-one : measure ≢ 1) (up : Upward (PassesIn c) (length picks)) (x : ℕ) where
    other : (k : ℕ) → (st x k).place.settings.measure ≢ 1
    other k e = not-one (sym (measure_of (course_settled x k).settings) ∙ e)

    step-min : (k : ℕ) (w : List ℕ) → min_step (kit_in c) w (st x k) ≡ stepped (kit_in c) w (st x k)
    unfolding stepped
    step-min k w = let m = (st x k).place.settings.measure in
        ap (λ (b : Bool). cond b (max_step (kit_in c) w (st x k)) (min_step (kit_in c) w (st x k))) (sym (F→≡ (eqb m 1) (λ t. other k (eqb→eq m 1 t))))

    -- the invariant after each pick
    pub min-after : (k : ℕ) → k ≤ length picks → MinInvariant (tables c) (PassesIn c) x (st x k)
    unfolding walk_from
    min-after zero h = opened_min c (PassesIn c) x
    min-after (suc k) h =
        let q = course_settled x k in
        let t = q.taken in
        let b = limit-of q.settings in
        let f = few in
        subst (MinInvariant (tables c) (PassesIn c) x) (step-min k (pick_at picks (suc k)))
        (min_keeps (tables c) course_law (PassesIn c) course_decides up x (pick_at picks (suc k)) (st x k) (omega arith) (omega arith) (own_next x k)
        (min-after k (omega arith)))

    -- the answer, and the counts
    pub min-answer : (k : ℕ) → 1 ≤ k → k ≤ length picks → MinAnswer (PassesIn c) k (reported (st x k).place)
    min-answer k a b =
        let t = (course_settled x k).taken in
        subst (λ (m : ℕ). MinAnswer (PassesIn c) m (reported (st x k).place)) t
        (min_right (tables c) course_law (PassesIn c) course_decides up x (st x k) (omega arith) (omega arith)
        (eqb_ne (st x k).place.settings.measure 1 (other k)) (min-after k b))

    pub min_tests : (k : ℕ) → k ≤ length picks → (st x k).place.counts.tests.0 ≡ k
    min_tests k b = (min-after k b).count_tests ∙ (course_settled x k).taken

    pub min_compositions : (k : ℕ) → 1 ≤ k → k ≤ length picks → (st x k).place.counts.compositions.0 ≤ x + 3 * (k - 1)
    min_compositions k a b =
        let t = (course_settled x k).taken in
        omega (arith, min_counts (st x k) (min-after k b) (omega arith))

    pub min_parts : (k : ℕ) → 1 ≤ k → k ≤ length picks → Holds (tables c) (last_entered (st x k).place) (st x k)
    min_parts k a b =
        let i = min-after k b in
        let t = (course_settled x k).taken in
        let p = (st x k).place in
        let m = p.settings.measure in
        holds_of (ap (λ (z : Bool). cond (z && not p.marks.passed) p.window.start.0 p.window.taken.0)
        (sym (F→≡ (eqb m 1) (λ t. other k (eqb→eq m 1 t)))))
        i.ladders (i.window (omega arith)) i.spare

    -- a place as left is never 16
    pub min_sound : x ≡ 0 → (k : ℕ) → 1 ≤ k → k ≤ length picks → Sound (st x k).place
    min_sound e k a b =
        let i = min-after k b in
        let t = (course_settled x k).taken in
        let cc = min_compositions k a b in
        let ct = min_tests k b in
        sound_at x k a b i.ladders.frame.start i.ladders.near i.ladders.bound (i.inside (omega arith)) (omega arith) (omega arith)

  -- ---- maximisation

  module _ (one : measure ≡ 1) (down : Downward (PassesIn c) (length picks)) where
    is_one : (k : ℕ) → eqb (st 0 k).place.settings.measure 1 ≡ true
    is_one k = T→≡ _ (eq_refl (measure_of (course_settled 0 k).settings ∙ one))

    step-max : (k : ℕ) (w : List ℕ) → max_step (kit_in c) w (st 0 k) ≡ stepped (kit_in c) w (st 0 k)
    unfolding stepped
    step-max k w = ap (λ (b : Bool). cond b (max_step (kit_in c) w (st 0 k)) (min_step (kit_in c) w (st 0 k))) (sym (is_one k))

    pub max-after : (k : ℕ) → k ≤ length picks → MaxInvariant (tables c) (PassesIn c) (st 0 k)
    unfolding walk_from
    max-after zero h = inl (opened_max c (PassesIn c))
    max-after (suc k) h =
        let q = course_settled 0 k in
        let t = q.taken in
        let b = limit-of q.settings in
        let f = few in
        subst (MaxInvariant (tables c) (PassesIn c)) (step-max k (pick_at picks (suc k)))
        (max_keeps (tables c) course_law (PassesIn c) course_decides down (pick_at picks (suc k)) (st 0 k) (omega arith) (omega arith) (own_next 0 k)
        (max-after k (omega arith)))

    pub max-answer : (k : ℕ) → 1 ≤ k → k ≤ length picks → MaxAnswer (PassesIn c) k (reported (st 0 k).place)
    max-answer k a b =
        let t = (course_settled 0 k).taken in
        subst (λ (m : ℕ). MaxAnswer (PassesIn c) m (reported (st 0 k).place)) t
        (max_right (tables c) course_law (PassesIn c) course_decides down (st 0 k) (omega arith) (omega arith) (subst T (sym (is_one k)) tt) (max-after k b))

    pub max_tests_within : (k : ℕ) → 1 ≤ k → k ≤ length picks → (st 0 k).place.counts.tests.0 ≤ 2 * k
    max_tests_within k a b =
        let t = (course_settled 0 k).taken in
        omega (arith, max_tests (st 0 k) (omega arith) (max-after k b))

    pub max_compositions : (k : ℕ) → 1 ≤ k → k ≤ length picks → (st 0 k).place.counts.compositions.0 ≤ 4 * (k - 1)
    max_compositions k a b =
        let t = (course_settled 0 k).taken in
        omega (arith, max_comps (st 0 k) (omega arith) (max-after k b))

    pub max_sound : (k : ℕ) → 1 ≤ k → k ≤ length picks → Sound (st 0 k).place
    max_sound k a b = go (max-after k b)
      where
        go : MaxInvariant (tables c) (PassesIn c) (st 0 k) → Sound (st 0 k).place
        go (inl i) = let t = (course_settled 0 k).taken in
            sound_at 0 k a b i.ladders.frame.start i.ladders.near i.ladders.bound (i.inside (omega arith)) (max_compositions k a b)
            (max_tests_within k a b)
        go (inr i) = sound_at 0 k a b i.start i.near i.bound i.inside (max_compositions k a b) (max_tests_within k a b)

    last_is : (k : ℕ) (b : Bool) → (st 0 k).place.marks.passed ≡ b → cond (not b) (s_of (st 0 k)) (m_of (st 0 k)) ≡ last_entered (st 0 k).place
    last_is k b e = sym (ap₂ (λ (x y : Bool). cond (x && not y) (s_of (st 0 k)) (m_of (st 0 k))) (is_one k) e)

    pub max_parts : (k : ℕ) → 1 ≤ k → k ≤ length picks → Holds (tables c) (last_entered (st 0 k).place) (st 0 k)
    unfolding at_end
    max_parts k a b = go (max-after k b)
      where
        go : MaxInvariant (tables c) (PassesIn c) (st 0 k) → Holds (tables c) (last_entered (st 0 k).place) (st 0 k)
        go (inl i) = let t = (course_settled 0 k).taken in
            holds_of (last_is k true (T→≡ _ (i.good (omega arith)))) i.ladders (i.window (omega arith)) i.spare
        go (inr i) = subst (λ (m : ℕ). Holds (tables c) m (st 0 k)) (last_is k false (F→≡ _ i.bad)) (record {
          lefts = i.ladders.lefts;
          owns = i.ladders.owns;
          rights = i.ladders.rights;
          empty = i.ladders.empty;
          window = i.window;
          list = i.ladders.frame.list;
          spare = i.spare;
        })

-- ---- what is told

-- a report is right where what it says is
right_max : (P : ℕ → ℕ → Type 0) (m : ℕ) (o : Option ℕ) (p : Place) → MaxAnswer P m o → Right 1 P m (report_says o p)
right_max P m none p a = none_exists refl a
right_max P m (some k) p a = answered refl a

right_min : (x : ℕ) (P : ℕ → ℕ → Type 0) (m : ℕ) (o : Option ℕ) (p : Place) → MinAnswer P m o → Right (suc (suc x)) P m (report_says o p)
right_min x P m none p a = none_exists refl a
right_min x P m (some k) p a = answered refl a

counts_of : (o : Option ℕ) (p : Place) → ((report_says o p).compositions ≡ p.counts.compositions.0) × ((report_says o p).tests ≡ p.counts.tests.0)
counts_of none p = (refl, refl)
counts_of (some k) p = (refl, refl)

module _ (c : Course) where
  told_by : Monotone c.measure (PassesIn c) (length c.picks) → (x : ℕ) → Charge c.measure x → (k : ℕ) → 1 ≤ k → k ≤ length c.picks
      → CourseTold c x k (state_at c x k).place
  told_by (minimises y e up) x charge k a b =
      let p = (state_at c x k).place in
      let cs = counts_of (reported p) p in
      let cs0 = cs.0 in
      let other : c.measure ≡ 1 → ⊥ = λ o. omega arith in
      let cc = min_compositions c other up x k a b in
      record {
        right = subst (λ (z : ℕ). Right z (PassesIn c) k (report_says (reported p) p)) (sym e)
            (right_min y (PassesIn c) k (reported p) p (min-answer c other up x k a b));
        counted = subst (λ (z : ℕ). Counted z x k (report_says (reported p) p)) (sym e) (omega arith, cs.1 ∙ min_tests c other up x k b);
        sound = λ z. min_sound c other up x z k a b;
      }
  told_by (maximises e down) x charge k a b = subst (λ (z : ℕ). CourseTold c z k (state_at c z k).place) (sym (charge e)) told_max
    where
      told_max : CourseTold c 0 k (state_at c 0 k).place
      told_max =
          let p = (state_at c 0 k).place in
          let cs = counts_of (reported p) p in
          let cs0 = cs.0 in
          let cs1 = cs.1 in
          let cc = max_compositions c e down k a b in
          let ct = max_tests_within c e down k a b in
          record {
            right = subst (λ (z : ℕ). Right z (PassesIn c) k (report_says (reported p) p)) (sym e)
                (right_max (PassesIn c) k (reported p) p (max-answer c e down k a b));
            counted = subst (λ (z : ℕ). Counted z 0 k (report_says (reported p) p)) (sym e) (omega arith, omega arith);
            sound = λ z. max_sound c e down k a b;
          }

  parts_by : Monotone c.measure (PassesIn c) (length c.picks) → (x : ℕ) → Charge c.measure x → (k : ℕ) → 1 ≤ k
      → k ≤ length c.picks
      → Holds (tables c) (last_entered (state_at c x k).place) (state_at c x k)
  parts_by (minimises y e up) x charge k a b = min_parts c (λ o. omega arith) up x k a b
  parts_by (maximises e down) x charge k a b =
      subst (λ (z : ℕ). Holds (tables c) (last_entered (state_at c z k).place) (state_at c z k)) (sym (charge e)) (max_parts c e down k a b)

pub told : ToldClaim
told c = told_by c (course_facts c).monotone

pub parts : PartsClaim
parts c = parts_by c (course_facts c).monotone

-- THE FRAME of each state: room for the parts, and the list in its part.
framed_by : (c : Course) → Monotone c.measure (PassesIn c) (length c.picks) → (k : ℕ) → k ≤ length c.picks
    → Framed (tables c) (state_at c 0 k)
unfolding at_end
framed_by c (minimises y e up) k b = (min-after c (λ o. omega arith) up 0 k b).ladders.frame
framed_by c (maximises e down) k b = go (max-after c e down k b)
  where
    go : MaxInvariant (tables c) (PassesIn c) (state_at c 0 k) → Framed (tables c) (state_at c 0 k)
    go (inl i) = i.ladders.frame
    go (inr i) =
        let q = course_settled c 0 k in
        let t = q.taken in
        let l = limit-of q.settings in
        let f = c.few in
        record { start = i.start; top = omega arith; room = i.room; list = i.ladders.frame.list }

pub framed : (c : Course) (k : ℕ) → k ≤ length c.picks → Framed (tables c) (state_at c 0 k)
framed c = framed_by c (course_facts c).monotone
