-- What makes a decision right, over the definitions that the call promises: yes exactly when every window of k picks passes, by the meaning.
use Rattle.std.specs.Prelude.{◌≡◌, ◌≢◌, ◌↔◌, false, List, ℕ, suc, ◌+◌, ◌-◌, ◌*◌, ◌/◌, ◌≤◌, ◌<◌, T, length}
use Rattle.model.specs.Length.{Every}
use Rattle.verdicts.specs.Verdicts.{whole_verdict}
use Rattle.calls.specs.Answers.{Outcome}
use Rattle.calls.specs.Calls.{unions, whole_says}
use Rattle.decision.specs.Decisions.{Decided, decision_verdict, decide_says}
use Rattle.law.specs.Correct.{Passes, Fails}
use Rattle.law.specs.Claim2.{lent_recording, list_cost}

-- the decision d for windows of k of the picks 1 to m is right, c compositions having been charged before the first
pub record RightDecision (P : ℕ → ℕ → Type 0) (c m k : ℕ) (d : Decided) : Type 0 where
  pub answered : d.refusal ≡ 0
  -- yes exactly when every window of k picks passes, no exactly when some window does not
  pub yes : T d.yes ↔ Every P m k
  pub no : (d.yes ≡ false) ↔ Fails P m k
  -- within 3(m - 1) compositions and m tests; one test at least, and one for each window at most: on yes for each
  pub compositions : d.compositions ≤ c + 3 * (m - 1)
  pub tests : d.tests ≤ m
  pub some_test : 1 ≤ d.tests
  pub few_tests : d.tests ≤ m - k + 1
  pub each-window : T d.yes → d.tests ≡ m - k + 1
  -- on no the window tested last is the first that fails: the windows from pick 1 on are tested in turn, and none after it
  pub first_failure : d.yes ≡ false → (P d.tests (d.tests + k - 1) → ⊥)
  pub before_failure : d.yes ≡ false → (i j : ℕ) → 1 ≤ i → i < d.tests → suc j ≡ i + k → P i j

-- A decision that no cause refuses is right: of the recording that is lent, under measure 2 with the union of its picks as the footprint.
abbrev pub DecisionClaim : Type 0
DecisionClaim = (n measure : ℕ) (w : List ℕ) (k : ℕ) (a : List ℕ) → decision_verdict n measure w k a ≡ 0
    → RightDecision (Passes measure n (unions n w (length w / n)) (lent_recording n w)) (list_cost measure (length w / n)) (length w / n) k
    (decide_says n measure w k a)

-- a decision d for windows of k picks, beside what a whole run of the same recording answers
pub record AgreesWithLength (measure k : ℕ) (d : Decided) (o : Outcome) : Type 0 where
  -- measures 2 to 4: yes exactly when the length is at most k; measure 1: when k is at most the length
  pub smallest : measure ≢ 1 → o.refusal ≡ 0 → T d.yes ↔ (o.length ≤ k)
  pub largest : measure ≡ 1 → o.refusal ≡ 0 → T d.yes ↔ (k ≤ o.length)
  -- no length exists: no, for every k
  pub none : o.refusal ≡ 9 → d.yes ≡ false

-- Decisions and lengths agree, in whatever two areas.
abbrev pub AgreesClaim : Type 0
AgreesClaim = (n measure : ℕ) (w : List ℕ) (k : ℕ) (a b : List ℕ) → decision_verdict n measure w k a ≡ 0 → whole_verdict n measure w b ≡ 0
    → AgreesWithLength measure k (decide_says n measure w k a) (whole_says n measure w b)
