-- More picks than were handed over, proved. Assumes nothing.
use mathlib.Core.Path.{◌≡◌, refl, sym, ap, ◌∙◌, subst}
use mathlib.Core.Logic.Iff
use mathlib.Core.Logic.{◌↔◌, ⊎_elim}
use mathlib.Core.List.{List, [], ◌∷◌, ◌++◌, append_assoc}
use Prim.Native.Nat.{ℕ, zero, suc, max, ◌+◌, ◌-◌, ◌*◌, ◌/◌, ◌%◌, ◌≤◌, ◌<◌}
use native.Mathlib.Nat.{le_refl, zero-mul, suc-mul, le-mul_of_pos_right, mod-lt, mod-eq_of_lt, add-mod_left, add-mul-mod_self_right, div-add-mod'}
use native.Mathlib.Omega.{arith}
use lib.Dec.{T}
use lib.ListN.{length, get_or, length-append, get_or-append}
use lib.Seq.{length-take-le, get_or-take, get_or-append-add}
use Rattle.model.specs.Recording.{link, Recording, pick_at}
use Rattle.model.specs.Journey.{Limit, unlimited}
use Rattle.model.specs.Measures.{SomeLink}
use Rattle.model.specs.Length.{Every, Smallest, Upward}
use Rattle.model.proofs.Logic.{le_or_lt}
use Rattle.model.proofs.Windows.{rec_left, rec_append}
use Rattle.model.proofs.Lengths.{smallest-one, smallest_agree, smallest_all, every_narrower, every_both, smallest_both}
use Rattle.model.proofs.Monotone.{some_wider, common_down}
use Rattle.model.proofs.Shifted.{Shifted, shifted_back, some_shifted, listed_left, listed-append}
use Rattle.measures.specs.Kit.{turn01}
use Rattle.verdicts.specs.Verdicts.{whole_verdict}
use Rattle.verdicts.proofs.Verdicts.{open_sound}
use Rattle.calls.specs.Answers.{Outcome}
use Rattle.calls.specs.Calls.{unions, whole_says}
use Rattle.decision.specs.Decisions.{decision_verdict, decide_says}
use Rattle.decision.proofs.Verdicts.{decision_sound}
use Rattle.law.specs.Correct.{PassesWith, Passes, Right, answered, none_exists}
use Rattle.law.specs.Claim2.{after_picks, Fits, lent_recording}
use Rattle.law.proofs.Longer.{is_smallest, passes_up, passes-listed, passes_alike, left_inside, right_inside}
use Rattle.law.proofs.Online.{online}
use Rattle.law.proofs.Whole.{whole}
use Rattle.law.proofs.Decisions.{decisions}
use Rattle.numbers.specs.Events.{after_events, taken_of}
use Rattle.numbers.proofs.Events.{any_order}
use Rattle.acceptance.specs.Longer.{SaysLength, rounds, repetition, RepeatedDesign, RepeatedRuns, RepeatedDecisions, RepeatedCommon, WalkAnswers, GoneOn}
use Rattle.acceptance.specs.Longer.{one-walk, next-walk, greatest, GoingOn, GoingOnCommon}

-- an outcome that is right is the smallest length, unless it is a refusal
right_smallest : {P : ℕ → ℕ → Type 0} {m k : ℕ} {o : Outcome} (measure : ℕ) → 2 ≤ measure → Right measure P m o → SaysLength o k → Smallest P m k
right_smallest measure h (answered e s) z = rw z.1 at ((is_smallest measure h).0 s)
right_smallest measure h (none_exists e f) z = let y = z.0 in absurd (omega arith)

-- the other way: where there is a smallest length, it says so
smallest_right : {P : ℕ → ℕ → Type 0} {m k : ℕ} {o : Outcome} (measure : ℕ) → 2 ≤ measure → Right measure P m o → Smallest P m k → SaysLength o k
smallest_right measure h (answered e s) t = (e, smallest-one ((is_smallest measure h).0 s) t)
smallest_right {k = k} measure h (none_exists e f) t = absurd (f k t.low t.high t.every)

-- ---- a design that is repeated

-- pick i of the repetition of d picks is pick x of the first round, q rounds on
record InRound (d i : ℕ) : Type 0 where
  q : ℕ
  x : ℕ
  from : 1 ≤ x
  upto : x ≤ d
  at : i ≡ x + q * d

in_round : (d i : ℕ) → 1 ≤ d → 1 ≤ i → InRound d i
in_round d i h a = record {
  q = (i - 1) / d;
  x = suc ((i - 1) % d);
  from = omega arith;
  upto = mod-lt (i - 1) h;
  at = omega (arith, div-add-mod' (i - 1) d);
}

module _ (design : List (List ℕ)) (some : 1 ≤ length design) where
  abbrev d : ℕ
  d = length design

  rounds_long : (k : ℕ) → length (rounds k design) ≡ k * d
  unfolding rounds
  rounds_long zero = sym (zero-mul d)
  rounds_long (suc k) = omega (arith, length-append design (rounds k design), rounds_long k, suc-mul k d)

  rounds_at : (k t : ℕ) → t < k * d → get_or (rounds k design) t [] ≡ get_or design (t % d) []
  unfolding rounds
  rounds_at zero t h = absurd (omega (arith, zero-mul d))
  rounds_at (suc k) t h =
      let z = suc-mul k d in
      ⊎_elim (λ (g : d ≤ t). let e : t ≡ d + (t - d) = omega arith in
      subst (λ (x : ℕ). get_or (design ++ rounds k design) x [] ≡ get_or design (x % d) []) (sym e)
      (get_or-append-add design (rounds k design) (t - d) [] ∙ rounds_at k (t - d) (omega arith)
      ∙ ap (λ (x : ℕ). get_or design x []) (sym (add-mod_left d (t - d)))))
      (λ (g : t < d). get_or-append design (rounds k design) [] t g ∙ ap (λ (x : ℕ). get_or design x []) (sym (mod-eq_of_lt g))) (le_or_lt d t)

  repetition_long : (m : ℕ) → length (repetition design m) ≡ m
  unfolding repetition
  repetition_long m = length-take-le m (rounds m design) (omega (arith, rounds_long m, le-mul_of_pos_right m some))

  repetition_at : (m t : ℕ) → t < m → pick_at (repetition design m) (suc t) ≡ get_or design (t % d) []
  unfolding repetition
  repetition_at m t h = get_or-take m (rounds m design) t [] h ∙ rounds_at m t (omega (arith, le-mul_of_pos_right m some))

  -- q rounds on, the picks are the same
  repetition_shifted : (m more q i j h l : ℕ) → 1 ≤ i → j ≤ m → l ≤ more → h ≡ i + q * d → l ≡ j + q * d
      → Shifted (repetition design m) i j (repetition design more) h l
  repetition_shifted m more q i j h l a b c e f = record { long = omega arith; same = at }
    where
      at : (t x : ℕ) → i ≤ t → t ≤ j → x + i ≡ t + h → pick_at (repetition design m) t ≡ pick_at (repetition design more) x
      at zero x u v g = absurd (omega arith)
      at (suc t) x u v g =
          let z : suc (t + q * d) ≡ x = omega arith in
          repetition_at m t (omega arith) ∙ ap (λ (y : ℕ). get_or design y []) (sym (add-mul-mod_self_right t q d))
          ∙ sym (repetition_at more (t + q * d) (omega arith)) ∙ ap (pick_at (repetition design more)) z

  module _ (m more : ℕ) (longer : m ≤ more) where
    first_shifted : (i j h l : ℕ) → 1 ≤ i → j ≤ m → h ≡ i + 0 → l ≡ j + 0 → Shifted (repetition design m) i j (repetition design more) h l
    first_shifted i j h l a b e f = repetition_shifted m more 0 i j h l a b (omega arith) (omega arith) (omega arith)

    -- a round or more has the links of all
    some_repetition : d ≤ m → (u v : ℕ) → SomeLink (repetition design m) 1 m u v ↔ SomeLink (repetition design more) 1 more u v
    some_repetition a u v = (
      λ f. some_wider (repetition design more) u v (le_refl 1) longer
          (some_shifted (first_shifted 1 m 1 m (le_refl 1) (le_refl m) (omega arith) (omega arith)) u v f),
      λ f. let t : ℕ = f.0 in
          let g = in_round d t some f.1 in
          some_wider (repetition design m) u v g.from (omega arith)
          (some_shifted (shifted_back (repetition_shifted m more g.q g.x g.x t t g.from (omega arith) f.2 g.at g.at)) u v
          (t, le_refl t, le_refl t, f.3)),
    )

    module _ (L : Limit) (turn measure n : ℕ) (footprint : List ℕ) where
      -- a window of at most m - d + 1 picks, wherever it stands, is one of the first m picks
      every-repetition : {k : ℕ} → 1 ≤ k → k + d ≤ m + 1 → Every (PassesWith L turn measure n footprint (repetition design m)) m k
          → Every (PassesWith L turn measure n footprint (repetition design more)) more k
      every-repetition {k} low room s i j a b e =
          let g = in_round d i some a in
          let y = g.x + k - 1 in
          (passes_alike L turn measure n footprint (repetition_shifted m more g.q g.x y i j g.from (omega arith) b g.at (omega arith))
          (omega arith)).0 (s g.x y g.from (omega arith) (omega arith))

      smallest-repetition : {k : ℕ} → k + d ≤ m + 1 → Smallest (PassesWith L turn measure n footprint (repetition design m)) m k
          → Smallest (PassesWith L turn measure n footprint (repetition design more)) more k
      smallest-repetition room s =
          smallest_all (λ i j h l a b c e f. passes_alike L turn measure n footprint (first_shifted i j h l a c e f) b) longer s
          (every-repetition s.low room s.every)

pub repeated_design : RepeatedDesign
repeated_design n measure footprint low design some m more k longer s room =
    (is_smallest measure low).1
    (smallest-repetition design some m more longer unlimited turn01 measure n footprint (omega arith) ((is_smallest measure low).0 s))

pub repeated_common : RepeatedCommon
repeated_common n footprint design some m more k l longer s low few room =
    every-repetition design some m more longer unlimited turn01 1 n footprint low (omega arith)
    (every_narrower l (common_down (repetition design m) n m) s.high low few s.every)

-- what a whole run tells of m picks r: its footprint has exactly their links, and its outcome is right
record RunTells (n measure : ℕ) (w : List ℕ) (o : Outcome) (r : List (List ℕ)) (m : ℕ) : Type 0 where
  links : (u v : ℕ) → T (link (unions n w (length w / n)) u v) ↔ SomeLink r 1 m u v
  right : Right measure (Passes measure n (unions n w (length w / n)) r) m o

run_tells : (n measure : ℕ) (w a : List ℕ) → whole_verdict n measure w a ≡ 0 → (design : List (List ℕ)) → 1 ≤ length design → (m : ℕ)
    → lent_recording n w ≡ repetition design m
    → RunTells n measure w (whole_says n measure w a) (repetition design m) m
run_tells n measure w a e design some m same =
    let o = whole_says n measure w a in
    let f = whole n measure w a e in
    let c : length w / n ≡ m = sym f.picks ∙ ap length same ∙ repetition_long design some m in
    subst (RunTells n measure w o (repetition design m)) c
    (subst (λ (r : List (List ℕ)). RunTells n measure w o r (length w / n)) same (record { links = f.footprint; right = f.right }))

pub repeated_runs : RepeatedRuns
repeated_runs n measure low design some m more k longer w a e same says room x b e-more same_more =
    let f = unions n w (length w / n) in
    let l = unions n x (length x / n) in
    let t = run_tells n measure w a e design some m same in
    let u = run_tells n measure x b e-more design some more same_more in
    let s = right_smallest measure low t.right says in
    let k1 = s.low in
    let links = some_repetition design some m more longer (omega arith) in
    smallest_right measure low u.right
    (smallest_agree (passes-listed unlimited turn01 measure n more f l (repetition design more)
    (λ y z. Iff.trans (t.links y z) (Iff.trans (links y z) (Iff.symm (u.links y z)))))
    (smallest-repetition design some m more longer unlimited turn01 measure n f (omega arith) s))

-- what a decision tells of m picks r: the footprint of the run has exactly their links, and yes is that every window passes
record DecisionTells (n measure : ℕ) (w : List ℕ) (k : ℕ) (a : List ℕ) (r : List (List ℕ)) (m : ℕ) : Type 0 where
  links : (u v : ℕ) → T (link (unions n w (length w / n)) u v) ↔ SomeLink r 1 m u v
  yes : T (decide_says n measure w k a).yes ↔ Every (Passes measure n (unions n w (length w / n)) r) m k
  low : 1 ≤ k

decision_tells : (n measure : ℕ) (w : List ℕ) (k : ℕ) (a : List ℕ) → decision_verdict n measure w k a ≡ 0 → (design : List (List ℕ)) → 1 ≤ length design
    → (m : ℕ) → lent_recording n w ≡ repetition design m → DecisionTells n measure w k a (repetition design m) m
decision_tells n measure w k a e design some m same =
    let s = decision_sound n measure w k a e in
    let c : length w / n ≡ m = sym (whole n measure w a s.0).picks ∙ ap length same ∙ repetition_long design some m in
    record {
      links = (run_tells n measure w a s.0 design some m same).links;
      yes = subst (λ (x : ℕ). T (decide_says n measure w k a).yes ↔ Every (Passes measure n (unions n w (length w / n)) (repetition design m)) x k) c
          (subst (λ (r : List (List ℕ)). T (decide_says n measure w k a).yes ↔ Every (Passes measure n (unions n w (length w / n)) r) (length w / n) k) same
          (decisions n measure w k a e).yes);
      low = s.1;
    }

pub repeated_decisions : RepeatedDecisions
repeated_decisions n measure design some m more k longer w a e same says room x b e-more same_more =
    let f = unions n w (length w / n) in
    let l = unions n x (length x / n) in
    let t = decision_tells n measure w k a e design some m same in
    let u = decision_tells n measure x k b e-more design some more same_more in
    let low = t.low in
    let links = some_repetition design some m more longer (omega arith) in
    let agree = passes-listed unlimited turn01 measure n more f l (repetition design more)
    (λ y z. Iff.trans (t.links y z) (Iff.trans (links y z) (Iff.symm (u.links y z)))) in
    let every = every-repetition design some m more longer unlimited turn01 measure n f low (omega arith) (t.yes.0 says) in
    u.yes.1 (λ i j from upto row. (agree i j from (omega arith) upto).0 (every i j from upto row))

-- ---- going on past the limit

-- before the first pick the length call refuses
some_taken : (n measure limit : ℕ) (footprint a : List ℕ) (ws : List (List ℕ)) (k : ℕ) → WalkAnswers n measure limit footprint a ws k → 1 ≤ length ws
unfolding after_picks after_events taken_of
some_taken n measure limit footprint a [] k g =
    let e = ap (λ (o : Outcome). o.refusal) ((any_order n measure limit footprint a g.opened []).none_yet refl) in
    let z = g.says.0 in
    absurd (omega arith)
some_taken n measure limit footprint a (w ∷ ws) k g = omega arith

-- all picks so far are a recording, under measure 2 with links of the footprint only, and k is their length
record SoFar (n measure : ℕ) (footprint : List ℕ) (ws : List (List ℕ)) (k : ℕ) : Type 0 where
  few : n ≤ 32
  high : measure ≤ 4
  recorded : Recording n ws
  fits : Fits measure footprint ws n
  smallest : Smallest (Passes measure n footprint ws) (length ws) k

module _ (n measure : ℕ) (footprint : List ℕ) (low : 2 ≤ measure) where
  upward : {ws : List (List ℕ)} {k : ℕ} → SoFar n measure footprint ws k → Upward (Passes measure n footprint ws) (length ws)
  upward {ws} t = passes_up n measure footprint ws t.few low t.high t.recorded t.fits

  of_walk : {limit k : ℕ} {a : List ℕ} {ws : List (List ℕ)} → WalkAnswers n measure limit footprint a ws k → SoFar n measure footprint ws k
  of_walk {limit} {k} {a} {ws} g =
      let f = open_sound n measure limit footprint a g.opened in
      let t = online n measure limit footprint a g.opened ws g.taken (some_taken n measure limit footprint a ws k g) in
      record {
        few = f.few;
        high = f.measure_high;
        recorded = t.recorded;
        fits = t.fits;
        smallest = right_smallest measure low t.right g.says;
      }

  one_more : (before last after : List (List ℕ)) (k l : ℕ) → SoFar n measure footprint (before ++ last) k → SoFar n measure footprint (last ++ after) l
      → max k l ≤ length last + 1 → SoFar n measure footprint (before ++ (last ++ after)) (max k l)
  one_more before last after k l s t room =
      let c = length-append before last in
      let d = length-append last after in
      let e = length-append before (last ++ after) in
      record {
        few = s.few;
        high = s.high;
        recorded = rec_append n before (last ++ after) (rec_left n before last s.recorded) t.recorded;
        fits = λ two. ((t.fits two).0, listed-append before (last ++ after) footprint (listed_left before last footprint (s.fits two).1) (t.fits two).1);
        smallest = smallest_both (length before) (rw append_assoc at (left_inside unlimited turn01 measure n footprint (before ++ last) after)) (omega arith)
            (right_inside unlimited turn01 measure n footprint before (last ++ after)) (omega arith) (upward s) (upward t) s.smallest t.smallest
            (omega arith);
      }

  so_far : {overlap : ℕ} {ws : List (List ℕ)} {ks : List ℕ} → GoneOn n measure footprint overlap ws ks → greatest ks ≤ overlap + 1
      → SoFar n measure footprint ws (greatest ks)
  so_far (one-walk {k = k} {ws = ws} g) room = let e : k ≡ max k 0 = omega arith in subst (SoFar n measure footprint ws) e (of_walk g)
  so_far (next-walk {k = k} {ks = ks} before last after f size g) room =
      let e : max (greatest ks) k ≡ max k (greatest ks) = omega arith in
      subst (SoFar n measure footprint (before ++ (last ++ after))) e
      (one_more before last after (greatest ks) k (so_far f (omega arith)) (of_walk g) (omega arith))

pub going_on : GoingOn
going_on n measure footprint low overlap ws ks g room = (is_smallest measure low).1 (so_far n measure footprint low g room).smallest

-- each walk of measure 1 lets every window of l of its picks pass
walk_common : (n limit : ℕ) (footprint a : List ℕ) (ws : List (List ℕ)) (k l : ℕ) → WalkAnswers n 1 limit footprint a ws k → 1 ≤ l → l ≤ k
    → Every (Passes 1 n footprint ws) (length ws) l
walk_common n limit footprint a ws k l g low few =
    go (online n 1 limit footprint a g.opened ws g.taken (some_taken n 1 limit footprint a ws k g)).right g.says
  where
    go : {o : Outcome} → Right 1 (Passes 1 n footprint ws) (length ws) o → SaysLength o k → Every (Passes 1 n footprint ws) (length ws) l
    go (answered e s) z = every_narrower l (common_down ws n (length ws)) s.high low (rw z.1 few) s.every
    go (none_exists e f) z = let y = z.0 in absurd (omega arith)

pub going_on_common : GoingOnCommon
going_on_common n footprint overlap ws ks (one-walk {limit} {k} {a} g) l low few room = walk_common n limit footprint a ws k l g low few.0
going_on_common n footprint overlap ws ks (next-walk {limit} {k} {a} {ks = rest} before last after f size g) l low few room =
    let c = length-append before last in
    let d = length-append last after in
    let e = length-append before (last ++ after) in
    every_both (length before) (rw append_assoc at (left_inside unlimited turn01 1 n footprint (before ++ last) after))
    (right_inside unlimited turn01 1 n footprint before (last ++ after)) (omega arith) low (omega arith)
    (going_on_common n footprint overlap (before ++ last) rest f l low few.1 room) (walk_common n limit footprint a (last ++ after) k l g low few.0)
