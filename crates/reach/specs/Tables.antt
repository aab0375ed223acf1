-- The call for the table of reach, for every input: what it answers and what it leaves. A cause is its number, 0 where there is none.
use Rattle.std.specs.Prelude.{ℕ, ◌/◌, not, cond, List, [], ◌∷◌, ◌++◌, eqb, ltb, length, drop}
use Rattle.model.specs.Causes.{between, Causes, first_of}
use Rattle.links.specs.Composed.{reach}
use Rattle.checks.specs.Lent.{lent_picks, clean_picks}
use Rattle.measures.specs.Kit.{hops01}
use Rattle.verdicts.specs.Verdicts.{lent_causes}

-- what the table is asked after the causes of every lent recording: 4 (n output words), 5
abbrev pub out_causes : ℕ → List ℕ → ℕ → List ℕ → Causes
out_causes n w m out = (ltb (length out) n, 4) ∷ (not (clean_picks n w m), 5) ∷ []

-- 1, 10, 8, 3, 4, 5; m = length w / n picks are lent
abbrev pub table_causes : ℕ → List ℕ → List ℕ → Causes
table_causes n w out = (not (between 2 n 32), 1) ∷ (lent_causes n w ++ out_causes n w (length w / n) out)

unfoldable pub table_verdict : ℕ → List ℕ → List ℕ → ℕ
table_verdict n w out = first_of (table_causes n w out)

-- the table of the picks lent, with document 01's links in one pick
unfoldable pub table_of : ℕ → List ℕ → List ℕ
table_of n w = reach n hops01 (lent_picks n w (length w / n))

-- the first n words are the table, and the others stay
unfoldable pub table_leaves : ℕ → List ℕ → List ℕ → List ℕ
table_leaves n w out = cond (eqb (table_verdict n w out) 0) (table_of n w ++ drop n out) out
