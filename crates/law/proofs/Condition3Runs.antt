-- CONDITION 3 of the mission over the calls: the tables that the call writes for two recordings are equal exactly when no words before and
-- after tell the two apart by whole runs under measure 3. Assumes nothing.
use mathlib.Core.Path.{◌≡◌, refl, sym, ap, ap₂, ◌∙◌, subst}
use mathlib.Core.Logic.{◌⊎◌, inl, inr, ⊎_elim, ◌↔◌}
use mathlib.Core.Bool.{Bool, cond}
use mathlib.Core.List.{List, ◌++◌, [], ◌∷◌, append-nil, append_assoc}
use Prim.Native.Nat.{ℕ, zero, suc, ◌+◌, ◌/◌, ◌≤◌, ◌<◌, ◌-◌, ◌*◌}
use native.Mathlib.Nat.{le_refl, add-mul, mul-div_cancel, suc-mul, one-mul, zero-mul}
use native.Mathlib.Omega.{arith}
use lib.Dec.{T, eqb, eqb→eq}
use lib.ListN.{length, get_or, drop, length-append, get_or-append, take, length-drop}
use Rattle.model.proofs.Causes.{among, is_among}
use Rattle.model.specs.Causes.{Causes, answers, Among, is_first, is_later}
use Rattle.model.specs.Recording.{Recording}
use Rattle.model.specs.Journey.{unlimited}
use Rattle.model.specs.Measures.{PassesReach}
use Rattle.model.specs.Length.{NoLength, HasSmallest}
use Rattle.model.proofs.Logic.{F→≡, le_or_lt, or_l, or_r, eq_refl}
use Rattle.lists.specs.Tab.{zeros}
use Rattle.lists.proofs.Tab.{length-zeros, every_in, every_out}
use Rattle.links.specs.Composed.{reach}
use Rattle.links.specs.Picks.{lent_pick}
use Rattle.checks.specs.Lent.{lent_picks, clean_picks, clean_pick}
use Rattle.links.proofs.Picks.{lent_end}
use Rattle.checks.proofs.Lent.{length_lent, lent-recording}
use Rattle.measures.specs.Kit.{hops01}
use Rattle.verdicts.specs.Verdicts.{needed, whole_causes, whole_verdict}
use Rattle.calls.specs.Answers.{Outcome, outcome}
use Rattle.calls.specs.Calls.{whole_report, whole_says}
use Rattle.reach.specs.Tables.{table_verdict, table_of, table_leaves}
use Rattle.law.specs.Condition3.{HasReach, NoReach, SameTables, Around, NeverApart}
use Rattle.law.specs.Claim2.{lent_recording}
use Rattle.law.specs.Claim3.{Lent, SameWritten, Between, RunsNeverApart, RunsClaim}
use Rattle.law.specs.Correct.{Right, answered, none_exists}
use Rattle.law.proofs.Unlimited.{reach_told, condition_3_unlimited}
use Rattle.law.proofs.Whole.{whole}
use Rattle.verdicts.proofs.Verdicts.{runs_verdict}
use Rattle.reach.proofs.Picks.{tables_verdict}
use lib.Seq.{take_all, take-append-le, drop-append-le, drop-append-add}
use Rattle.checks.specs.Checks.{clean}
use Rattle.checks.proofs.Clean.{clean_is}

-- ---- words x for i picks, and words y after them

module _ (n i : ℕ) (x y : List ℕ) (size : length x ≡ i * n) where
  -- a pick of the first
  pick_first : (k : ℕ) → k < i → lent_pick n (x ++ y) k ≡ lent_pick n x k
  unfolding lent_pick
  pick_first k h =
      let e = lent_end n h in
      ap (λ (z : List ℕ). take n z) (drop-append-le (k * n) x y (omega arith)) ∙ take-append-le n (drop (k * n) x) y (omega (arith, length-drop (k * n) x))

  -- a pick of the second
  pick_second : (k : ℕ) → lent_pick n (x ++ y) (i + k) ≡ lent_pick n y k
  unfolding lent_pick
  pick_second k =
      let e : (i + k) * n ≡ length x + k * n = omega (arith, add-mul i k n) in
      ap (λ (z : ℕ). take n (drop z (x ++ y))) e ∙ ap (λ (z : List ℕ). take n z) (drop-append-add x y (k * n))

  picks_first : (k : ℕ) → k ≤ i → lent_picks n (x ++ y) k ≡ lent_picks n x k
  unfolding lent_picks
  picks_first zero h = refl
  picks_first (suc k) h = ap₂ (λ (r : List (List ℕ)) (p : List ℕ). r ++ (p ∷ [])) (picks_first k (omega arith)) (pick_first k h)

  -- the picks of both
  pub picks_join : (k : ℕ) → lent_picks n (x ++ y) (i + k) ≡ lent_picks n x i ++ lent_picks n y k
  unfolding lent_picks
  picks_join zero = let e : i + 0 ≡ i = omega arith in ap (lent_picks n (x ++ y)) e ∙ picks_first i (le_refl i) ∙ sym (append-nil (lent_picks n x i))
  picks_join (suc k) =
      let e : i + suc k ≡ suc (i + k) = omega arith in
      ap (lent_picks n (x ++ y)) e
      ∙ ap₂ (λ (r : List (List ℕ)) (p : List ℕ). r ++ (p ∷ [])) (picks_join k) (pick_second k)
      ∙ append_assoc (lent_picks n x i) (lent_picks n y k) (lent_pick n y k ∷ [])

  pub clean_join : (j : ℕ) → T (clean_picks n x i) → T (clean_picks n y j) → T (clean_picks n (x ++ y) (i + j))
  unfolding clean_picks clean_pick
  clean_join j a b = every_in (clean_pick n (x ++ y)) (i + j) (λ k h.
      ⊎_elim (λ (l : i ≤ k). let e : i + (k - i) ≡ k = omega arith in
      subst (λ (z : ℕ). T (clean n (lent_pick n (x ++ y) z))) e
      (subst (λ (p : List ℕ). T (clean n p)) (sym (pick_second (k - i))) (every_out (clean_pick n y) j b (k - i) (omega arith))))
      (λ (l : k < i). subst (λ (p : List ℕ). T (clean n p)) (sym (pick_first k l)) (every_out (clean_pick n x) i a k l)) (le_or_lt i k))

-- ---- the words of a recording

-- one pick after the other
abbrev pub flat : List (List ℕ) → List ℕ
flat [] = []
flat (p ∷ ps) = p ++ flat ps

pub flat_words : (n : ℕ) (r : List (List ℕ)) → Recording n r → length (flat r) ≡ length r * n
flat_words n [] k = sym (zero-mul n)
flat_words n (p ∷ ps) k = let a = flat_words n ps k.1 in let b = k.0.words.size in omega (arith, length-append p (flat ps), suc-mul (length ps) n)

-- one pick lent alone
first_pick : (n : ℕ) (p : List ℕ) → length p ≡ n → lent_pick n p 0 ≡ p
unfolding lent_pick
first_pick n p e = ap (λ (z : ℕ). take n (drop z p)) (zero-mul n) ∙ take_all n p (omega arith)

pub flat_picks : (n : ℕ) (r : List (List ℕ)) → Recording n r → lent_picks n (flat r) (length r) ≡ r
unfolding lent_picks
flat_picks n [] k = refl
flat_picks n (p ∷ ps) k =
    let e : suc (length ps) ≡ 1 + length ps = omega arith in
    let z = k.0.words.size in
    ap (lent_picks n (p ++ flat ps)) e
    ∙ picks_join n 1 p (flat ps) (omega (arith, one-mul n)) (length ps)
    ∙ ap₂ (λ (q : List ℕ) (r : List (List ℕ)). q ∷ r) (first_pick n p z) (flat_picks n ps k.1)

pub flat_clean : (n : ℕ) (r : List (List ℕ)) → Recording n r → T (clean_picks n (flat r) (length r))
unfolding clean_picks clean_pick
flat_clean n [] k = every_in (clean_pick n []) 0 (λ i h. absurd (omega arith))
flat_clean n (p ∷ ps) k =
    let e : 1 + length ps ≡ suc (length ps) = omega arith in
    let z = k.0.words.size in
    subst (λ (m : ℕ). T (clean_picks n (p ++ flat ps) m)) e (clean_join n 1 p (flat ps) (omega (arith, one-mul n)) (length ps)
    (every_in (clean_pick n p) 1 (λ i h. let i0 : 0 ≡ i = omega arith in
    subst (λ (m : ℕ). T (clean n (lent_pick n p m))) i0 (subst (λ (q : List ℕ). T (clean n q)) (sym (first_pick n p z)) ((clean_is n p z).1 k.0))))
    (flat_clean n ps k.1))

-- ---- what a run says

-- no cause of a whole run that is found before the walk is 9
verdict_not : (n measure : ℕ) (w a : List ℕ) → whole_verdict n measure w a ≡ 9 → ⊥
unfolding whole_verdict
verdict_not n measure w a e = listed_in (subst (λ (x : ℕ). Among x (answers causes (0 ∷ []))) e (among causes))
  where
    causes : Causes
    causes = whole_causes n measure w a

    listed_in : {x : ℕ} {ys : List ℕ} → Among x ys → T (is_among x ys)
    listed_in {x} (is_first {y} {ys} e) = or_l (eqb x y) (is_among x ys) (eq_refl e)
    listed_in {x} (is_later {y} {ys} h) = or_r (eqb x y) (is_among x ys) (listed_in h)

cond_says : (v c : ℕ) (o : Outcome) → (cond (eqb v 0) o (outcome v 0 0 0)).refusal ≡ c → (v ≡ 0) ⊎ (v ≡ c)
cond_says zero c o e = inl refl
cond_says (suc v) c o e =
    let ne = F→≡ (eqb (suc v) 0) (λ t. let z = eqb→eq (suc v) 0 t in absurd (omega arith)) in
    inr (sym (ap (λ (b : Bool). (cond b o (outcome (suc v) 0 0 0)).refusal) ne) ∙ e)

-- an answer, and a 9, come from a run that no cause refuses
ran_answer : (n measure : ℕ) (w a : List ℕ) → (whole_says n measure w a).refusal ≡ 0 → whole_verdict n measure w a ≡ 0
unfolding whole_says
ran_answer n measure w a e = ⊎_elim (λ x. x) (λ x. x) (cond_says (whole_verdict n measure w a) 0 (whole_report n measure (length w / n) w a) e)

ran_none : (n measure : ℕ) (w a : List ℕ) → (whole_says n measure w a).refusal ≡ 9 → whole_verdict n measure w a ≡ 0
unfolding whole_says
ran_none n measure w a e =
    ⊎_elim (λ x. x) (λ x. absurd (verdict_not n measure w a x)) (cond_says (whole_verdict n measure w a) 9 (whole_report n measure (length w / n) w a) e)

module _ (P : ℕ → ℕ → Type 0) (m : ℕ) (o : Outcome) where
  right_has : Right 3 P m o → (o.refusal ≡ 0) ↔ HasSmallest P m
  right_has (answered x y) = (λ e. (o.length, y), λ h. x)
  right_has (none_exists x f) = (λ e. absurd (omega arith), λ h. absurd (f h.0 h.1.low h.1.high h.1.every))

  right_none : Right 3 P m o → (o.refusal ≡ 9) ↔ NoLength P m
  right_none (answered x y) = (λ e. absurd (omega arith), λ f. absurd (f o.length y.low y.high y.every))
  right_none (none_exists x f) = (λ e. f, λ g. x)

module _ (n : ℕ) (w a : List ℕ) (e : whole_verdict n 3 w a ≡ 0) where
  right_all : Right 3 (PassesReach (lent_recording n w) n unlimited) (length (lent_recording n w)) (whole_says n 3 w a)
  right_all =
      let d = whole n 3 w a e in
      subst (λ (m : ℕ). Right 3 (PassesReach (lent_recording n w) n unlimited) m (whole_says n 3 w a)) (sym d.picks) d.right

  says_has : ((whole_says n 3 w a).refusal ≡ 0) ↔ HasReach n unlimited (lent_recording n w)
  says_has = right_has (PassesReach (lent_recording n w) n unlimited) (length (lent_recording n w)) (whole_says n 3 w a) right_all

  says_none : ((whole_says n 3 w a).refusal ≡ 9) ↔ NoReach n unlimited (lent_recording n w)
  says_none = right_none (PassesReach (lent_recording n w) n unlimited) (length (lent_recording n w)) (whole_says n 3 w a) right_all

-- ---- recordings lent as words

module _ (n : ℕ) (n2 : 2 ≤ n) where
  picks_of : {m : ℕ} {w : List ℕ} → Lent n m w → length w / n ≡ m
  picks_of {m} {w} l = ap (λ (z : ℕ). z / n) l.words ∙ mul-div_cancel m (omega arith)

  recording_of : {m : ℕ} {w : List ℕ} → Lent n m w → lent_recording n w ≡ lent_picks n w m
  recording_of {m} {w} l = ap (lent_picks n w) (picks_of l)

  recording_long : {m : ℕ} {w : List ℕ} → Lent n m w → length (lent_recording n w) ≡ m
  recording_long {m} {w} l = length_lent n w (length w / n) ∙ picks_of l

  recording_clean : {m : ℕ} {w : List ℕ} → Lent n m w → Recording n (lent_recording n w)
  recording_clean {m} {w} l = subst (Recording n) (sym (recording_of l)) (lent-recording n w m (omega (arith, l.words)) l.clean m (le_refl m))

  -- two recordings, one after the other
  lent_join : {i j : ℕ} {x y : List ℕ} → Lent n i x → Lent n j y → Lent n (i + j) (x ++ y)
  lent_join {i} {j} {x} {y} k l = record {
    words = let e = k.words in let f = l.words in omega (arith, length-append x y, add-mul i j n);
    clean = clean_join n i x y k.words j k.clean l.clean;
  }

  recording_join : {i j : ℕ} {x y : List ℕ} → Lent n i x → Lent n j y → lent_recording n (x ++ y) ≡ lent_recording n x ++ lent_recording n y
  recording_join {i} {j} {x} {y} k l =
      recording_of (lent_join k l) ∙ picks_join n i x y k.words j ∙ ap₂ (λ (r s : List (List ℕ)). r ++ s) (sym (recording_of k))
      (sym (recording_of l))

  recording_three : {b i a : ℕ} {before x after : List ℕ} → Lent n b before → Lent n i x → Lent n a after
      → lent_recording n (before ++ x ++ after) ≡ lent_recording n before ++ lent_recording n x ++ lent_recording n after
  recording_three {after = after} p k s = recording_join (lent_join p k) s ∙ ap (λ (r : List (List ℕ)). r ++ lent_recording n after) (recording_join p k)

  -- the words of a recording lend it
  lent_flat : (r : List (List ℕ)) → Recording n r → Lent n (length r) (flat r)
  lent_flat r k = record { words = flat_words n r k; clean = flat_clean n r k }

  recording_flat : (r : List (List ℕ)) → Recording n r → lent_recording n (flat r) ≡ r
  recording_flat r k = recording_of (lent_flat r k) ∙ flat_picks n r k

  -- ---- no cause refuses them

  module _ (n32 : n ≤ 32) (m : ℕ) (w : List ℕ) (l : Lent n m w) (some : 1 ≤ m) (cap : m ≤ 4096) where
    all_words : length w ≡ length w / n * n
    all_words = l.words ∙ ap (λ (z : ℕ). z * n) (sym (picks_of l))

    all_clean : T (clean_picks n w (length w / n))
    all_clean = subst (λ (z : ℕ). T (clean_picks n w z)) (sym (picks_of l)) l.clean

    run-passes : (a : List ℕ) → needed 3 n (length w / n) ≤ length a → whole_verdict n 3 w a ≡ 0
    run-passes a room = let p = picks_of l in runs_verdict n 3 w a (record {
      some_boards = n2;
      few = n32;
      measure_low = omega arith;
      measure_high = omega arith;
      words = all_words;
      some_picks = omega arith;
      cap = omega arith;
      room = room;
      clean = all_clean;
    })

    table-passes : (o : List ℕ) → n ≤ length o → table_verdict n w o ≡ 0
    table-passes o room = let p = picks_of l in
        tables_verdict n w o
        (record { some_boards = n2; few = n32; words = all_words; some_picks = omega arith; cap = omega arith; room = room; clean = all_clean })

    -- the words written are those of the table of reach
    table_word : (o : List ℕ) → n ≤ length o → (u : ℕ) → u < n → get_or (table_leaves n w o) u 0 ≡ get_or (reach n hops01 (lent_recording n w)) u 0
    unfolding table_leaves table_of
    table_word o room u h =
        let t = (reach_told n n32 (lent_recording n w) (recording_clean l) (omega (arith, recording_long l))).clean.words.size in
        ap (λ (v : ℕ). get_or (cond (eqb v 0) (table_of n w ++ drop n o) o) u 0) (table-passes o room)
        ∙ get_or-append (reach n hops01 (lent_recording n w)) (drop n o) 0 u (omega arith)

-- ---- runs, and the recordings that they read

module _ (n : ℕ) (v w : List ℕ) (r s : List (List ℕ)) (e : lent_recording n v ≡ r) (f : lent_recording n w ≡ s) where
  runs_from : ((HasReach n unlimited r × NoReach n unlimited s) → ⊥) → RunsNeverApart n v w
  runs_from g a b h k = g (
    subst (HasReach n unlimited) e ((says_has n v a (ran_answer n 3 v a h)).0 h),
    subst (NoReach n unlimited) f ((says_none n w b (ran_none n 3 w b k)).0 k),
  )

  -- areas of zeros are long enough
  runs_to : 2 ≤ n → n ≤ 32 → (c d : ℕ) → Lent n c v → Lent n d w → 1 ≤ c → c ≤ 4096 → 1 ≤ d → d ≤ 4096
      → RunsNeverApart n v w → (HasReach n unlimited r × NoReach n unlimited s) → ⊥
  runs_to n2 n32 c d lv lw c1 c2 d1 d2 g h =
      g (area v) (area w)
      ((says_has n v (area v) (run-passes n n2 n32 c v lv c1 c2 (area v) (room v))).1 (subst (HasReach n unlimited) (sym e) h.0))
      ((says_none n w (area w) (run-passes n n2 n32 d w lw d1 d2 (area w) (room w))).1 (subst (NoReach n unlimited) (sym f) h.1))
    where
      area : List ℕ → List ℕ
      area z = zeros (needed 3 n (length z / n))

      room : (z : List ℕ) → needed 3 n (length z / n) ≤ length (area z)
      room z = subst (λ (k : ℕ). needed 3 n (length z / n) ≤ k) (sym (length-zeros (needed 3 n (length z / n)))) (le_refl (needed 3 n (length z / n)))

-- ---- THE CLAIM

pub condition_3_runs : RunsClaim
condition_3_runs n n2 n32 x y i j lx ly i1 i2 j1 j2 =
    let c = condition_3_unlimited n n2 n32 (lent_recording n x) (lent_recording n y) (recording_clean n n2 lx) (recording_clean n n2 ly)
    (omega (arith, recording_long n n2 lx)) (omega (arith, recording_long n n2 lx)) (omega (arith, recording_long n n2 ly))
    (omega (arith, recording_long n n2 ly)) in (
      λ s. from (c.0 (tables s)),
      λ f. written (c.1 (to f)),
    )
  where
    word_x : (o : List ℕ) → n ≤ length o → (u : ℕ) → u < n → get_or (table_leaves n x o) u 0 ≡ get_or (reach n hops01 (lent_recording n x)) u 0
    word_x = table_word n n2 n32 i x lx i1 (omega arith)

    word_y : (o : List ℕ) → n ≤ length o → (u : ℕ) → u < n → get_or (table_leaves n y o) u 0 ≡ get_or (reach n hops01 (lent_recording n y)) u 0
    word_y = table_word n n2 n32 j y ly j1 (omega arith)

    tables : SameWritten n x y → SameTables n hops01 (lent_recording n x) (lent_recording n y)
    tables s u h =
        let room : n ≤ length (zeros n) = omega (arith, length-zeros n) in
        sym (word_x (zeros n) room u h) ∙ s (zeros n) (zeros n) room room u h ∙ word_y (zeros n) room u h

    written : SameTables n hops01 (lent_recording n x) (lent_recording n y) → SameWritten n x y
    written s o p ro rp u h = word_x o ro u h ∙ s u h ∙ sym (word_y p rp u h)

    around : (before after : List ℕ) → Between n i j before after
        → Around n (lent_recording n x) (lent_recording n y) (lent_recording n before) (lent_recording n after)
    around before after c =
        let p = lent_recording n before in
        let s = lent_recording n after in
        let r = lent_recording n x in
        let q = lent_recording n y in
        let lb = recording_long n n2 c.before_lent in
        let la = recording_long n n2 c.after_lent in
        let li = recording_long n n2 lx in
        let lj = recording_long n n2 ly in
        let b1 = c.some_before in
        let a1 = c.some_after in
        let f1 = c.fits_first in
        let f2 = c.fits_second in
        record {
          before_recorded = recording_clean n n2 c.before_lent;
          after_recorded = recording_clean n n2 c.after_lent;
          some_before = omega arith;
          some_after = omega arith;
          fits_first = omega (arith, length-append (p ++ r) s, length-append p r);
          fits_second = omega (arith, length-append (p ++ q) s, length-append p q);
        }

    from : NeverApart n unlimited (lent_recording n x) (lent_recording n y) → (before after : List ℕ) → Between n i j before after
        → RunsNeverApart n (before ++ x ++ after) (before ++ y ++ after) × RunsNeverApart n (before ++ y ++ after) (before ++ x ++ after)
    from f before after c =
        let g = f (lent_recording n before) (lent_recording n after) (around before after c) in
        let ex = recording_three n n2 c.before_lent lx c.after_lent in
        let ey = recording_three n n2 c.before_lent ly c.after_lent in (
          runs_from n (before ++ x ++ after) (before ++ y ++ after) _ _ ex ey g.0,
          runs_from n (before ++ y ++ after) (before ++ x ++ after) _ _ ey ex g.1,
        )

    to : ((before after : List ℕ) → Between n i j before after → RunsNeverApart n (before ++ x ++ after) (before ++ y ++ after)
        × RunsNeverApart n (before ++ y ++ after) (before ++ x ++ after))
        → NeverApart n unlimited (lent_recording n x) (lent_recording n y)
    to f p s c =
        let lp = lent_flat n n2 p c.before_recorded in
        let ls = lent_flat n n2 s c.after_recorded in
        let ep = recording_flat n n2 p c.before_recorded in
        let es = recording_flat n n2 s c.after_recorded in
        let b1 = c.some_before in
        let a1 = c.some_after in
        let li = recording_long n n2 lx in
        let lj = recording_long n n2 ly in
        let f1 = c.fits_first in
        let f2 = c.fits_second in
        let q1 : length p + i + length s ≤ 4096 = omega (arith, length-append (p ++ lent_recording n x) s, length-append p (lent_recording n x)) in
        let q2 : length p + j + length s ≤ 4096 = omega (arith, length-append (p ++ lent_recording n y) s, length-append p (lent_recording n y)) in
        let g = f (flat p) (flat s)
        (record { b = length p; a = length s; before_lent = lp; after_lent = ls; some_before = b1; some_after = a1; fits_first = q1; fits_second = q2 }) in
        let ex = recording_three n n2 lp lx ls ∙ ap₂ (λ (k l : List (List ℕ)). k ++ lent_recording n x ++ l) ep es in
        let ey = recording_three n n2 lp ly ls ∙ ap₂ (λ (k l : List (List ℕ)). k ++ lent_recording n y ++ l) ep es in
        let kx = lent_join n n2 (lent_join n n2 lp lx) ls in
        let ky = lent_join n n2 (lent_join n n2 lp ly) ls in (
          runs_to n (flat p ++ x ++ flat s) (flat p ++ y ++ flat s) _ _ ex ey n2 n32 _ _ kx ky (omega arith) q1 (omega arith) q2 g.0,
          runs_to n (flat p ++ y ++ flat s) (flat p ++ x ++ flat s) _ _ ey ex n2 n32 _ _ ky kx (omega arith) q2 (omega arith) q1 g.1,
        )
