-- Recordings by hand: the ten cases of document 01 as one table against the whole run's definition, each in an area exact to the word.
use Rattle.std.specs.Prelude.{◌≡◌, ℕ, ◌/◌, ◌≤◌, List, [], ◌∷◌, length}
use Rattle.lists.specs.Tab.{zeros}
use Rattle.calls.specs.Answers.{Outcome, outcome}
use Rattle.verdicts.specs.Verdicts.{needed}
use Rattle.calls.specs.Calls.{unions, whole_says}
use Rattle.reach.specs.Tables.{table_of}
use Rattle.law.specs.Correct.{Passes, Right}
use Rattle.law.specs.Claim2.{lent_recording}

-- the whole run in an area exact to the word
unfoldable pub run : ℕ → ℕ → List ℕ → Outcome
run n measure w = whole_says n measure w (zeros (needed measure n (length w / n)))

-- 0→1, 1→0, 0→1, 1→0
abbrev pub A : List ℕ
A = 2 ∷ 0 ∷ 0 ∷ 1 ∷ 2 ∷ 0 ∷ 0 ∷ 1 ∷ []

-- three picks with both links
abbrev pub B : List ℕ
B = 2 ∷ 1 ∷ 2 ∷ 1 ∷ 2 ∷ 1 ∷ []

-- all links; only 0→1, 1→2, 2→0; only 1→0, 2→1, 0→2
abbrev pub C : List ℕ
C = 6 ∷ 5 ∷ 3 ∷ 2 ∷ 4 ∷ 1 ∷ 4 ∷ 1 ∷ 2 ∷ []

-- both links, then none
abbrev pub D : List ℕ
D = 2 ∷ 1 ∷ 0 ∷ 0 ∷ []

-- one pick without links
abbrev pub F : List ℕ
F = 0 ∷ 0 ∷ []

-- THE TABLE of document 01: boards, measure, recording; refusal, length, compositions, tests. `Case` says it of each.
abbrev pub TenCases : (ℕ → ℕ → List ℕ → Outcome → Type 0) → Type 0
TenCases Case =
    Case 2 1 A (outcome 9 0 0 1)
    × Case 2 2 A (outcome 0 2 6 4)
    × Case 2 3 A (outcome 0 2 3 4)
    × Case 2 4 A (outcome 0 3 4 4)
    × Case 2 1 B (outcome 0 3 2 3)
    × Case 2 3 B (outcome 0 1 0 3)
    × Case 3 1 C (outcome 0 1 3 5)
    × Case 2 1 D (outcome 9 0 1 3)
    × Case 2 3 D (outcome 0 2 0 2)
    × Case 2 2 F (outcome 0 1 0 1)

-- the whole run answers o in an area exact to the word
abbrev pub Answers : ℕ → ℕ → List ℕ → Outcome → Type 0
Answers n measure w o = run n measure w ≡ o

-- The ten are answered as the table says.
abbrev pub CasesAnswered : Type 0
CasesAnswered = TenCases Answers

-- the whole run answers o in every area that is long enough, whatever it held
abbrev pub Anywhere : ℕ → ℕ → List ℕ → Outcome → Type 0
Anywhere n measure w o = (a : List ℕ) → needed measure n (length w / n) ≤ length a → whole_says n measure w a ≡ o

-- So are the ten.
abbrev pub CasesAnywhere : Type 0
CasesAnywhere = TenCases Anywhere

-- o is right by the meaning: the length over all windows, or 9 where there is none
abbrev pub RightCase : ℕ → ℕ → List ℕ → Outcome → Type 0
RightCase n measure w o = Right measure (Passes measure n (unions n w (length w / n)) (lent_recording n w)) (length w / n) o

-- Each of the ten is right by the meaning.
abbrev pub CasesRight : Type 0
CasesRight = TenCases RightCase

-- The table of reach of A is words 2, 1.
abbrev pub TableOfA : Type 0
TableOfA = table_of 2 A ≡ 2 ∷ 1 ∷ []

-- recordings over three boards
abbrev pub G : List ℕ
G = 4 ∷ 1 ∷ 0 ∷ 0 ∷ 1 ∷ 2 ∷ []

abbrev pub H : List ℕ
H = 4 ∷ 1 ∷ 1 ∷ 2 ∷ 5 ∷ 0 ∷ []

-- What the ten leave open, checked by the bare definitions: measure 3 and measure 4 over three boards, and B under measure 4.
abbrev pub MoreCases : Type 0
MoreCases =
    (run 3 3 G ≡ outcome 0 2 1 2)
    × (run 3 4 H ≡ outcome 0 2 1 2)
    × (run 2 4 B ≡ outcome 0 1 0 3)
