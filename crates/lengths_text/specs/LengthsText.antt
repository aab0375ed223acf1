-- The bytes that program `lengths` prints for a file: 01, "Program `lengths`". Limit 40, and an area of 5,676 words.
use Rattle.std.specs.Prelude.{List, [], ◌∷◌, ◌++◌, cond, ℕ, zero, suc, ◌+◌, ◌*◌, eqb, ltb, take}
use Rattle.lists.specs.Tab.{zeros}
use Rattle.area.specs.Parts.{width_of}
use Rattle.calls.specs.Answers.{Outcome, outcome}
use Rattle.calls.specs.Calls.{whole_says}
use Rattle.recording.specs.Answers.{Read, read_says, read_leaves}
use Rattle.columns.specs.declared.Cell.{Cell}
use Rattle.columns.specs.declared.Cell.TheVariants.{Number, Dash, File}
use Rattle.columns.specs.Text.{line5}

-- measure length refusal compositions tests
abbrev pub header : List ℕ
header =
    109 ∷ 101 ∷ 97 ∷ 115 ∷ 117 ∷ 114 ∷ 101 ∷ 32 ∷
    108 ∷ 101 ∷ 110 ∷ 103 ∷ 116 ∷ 104 ∷ 32 ∷
    114 ∷ 101 ∷ 102 ∷ 117 ∷ 115 ∷ 97 ∷ 108 ∷ 32 ∷
    99 ∷ 111 ∷ 109 ∷ 112 ∷ 111 ∷ 115 ∷ 105 ∷ 116 ∷ 105 ∷ 111 ∷ 110 ∷ 115 ∷ 32 ∷
    116 ∷ 101 ∷ 115 ∷ 116 ∷ 115 ∷ 10 ∷ []

-- what a measure answers for n boards and k picks, whose words are w: 8, then 4 where the area would not do for 40 picks, then the whole run
unfoldable pub row_of : ℕ → ℕ → List ℕ → ℕ → Outcome
row_of n k w measure =
    cond (eqb k 0) (outcome 8 0 0 0)
    (cond (ltb 5676 (44 * width_of measure n)) (outcome 4 0 0 0)
    (whole_says n measure w (zeros 5676)))

-- a dash is no length
abbrev pub length_cell : Outcome → Cell
length_cell o = cond (eqb o.refusal 0) (Number o.length) Dash

-- a measure's line
unfoldable pub line_of : ℕ → Outcome → List ℕ
line_of measure o = line5 (Number measure) (length_cell o) (Number o.refusal) (Number o.compositions) (Number o.tests)

-- the lines of measures 1 to m
unfoldable pub lines_of : ℕ → ℕ → List ℕ → ℕ → List ℕ
lines_of n k w zero = []
lines_of n k w (suc m) = lines_of n k w m ++ line_of (m + 1) (row_of n k w (m + 1))

-- what stands under the header, after a reading that leaves the words w: four lines, or the one of a refused file
unfoldable pub under_header : Read → List ℕ → List ℕ
under_header f w =
    cond (eqb f.refusal 0) (lines_of f.boards f.picks (take (f.picks * f.boards) w) 4)
    (line5 File Dash (Number f.refusal) (Number 0) (Number 0))

-- all that is printed for a file
unfoldable pub text_of : List ℕ → List ℕ
text_of bytes = header ++ under_header (read_says 40 bytes (zeros 1280)) (read_leaves 40 bytes (zeros 1280))
