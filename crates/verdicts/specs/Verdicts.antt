-- What the checks of the calls find, for every input: the causes of document 01 in its order. A cause is its number, 0 where there is none.
use Rattle.std.specs.Prelude.{ℕ, ◌+◌, ◌*◌, ◌/◌, ◌%◌, ◌&&◌, not, List, [], ◌∷◌, ◌++◌, eqb, leb, ltb, length, Result, Ok, Err}
use Rattle.model.specs.Causes.{between, Causes, first_of}
use Rattle.model.specs.declared.Refusal.{Refusal}
use Rattle.model.specs.Refusals.{number}
use Rattle.checks.specs.Checks.{clean, listed}
use Rattle.checks.specs.Lent.{clean_picks}
use Rattle.measures.specs.Kit.{kit}
use Rattle.area.specs.Parts.{width_of, table_at}
use Rattle.place.specs.declared.Place.{Place}
use Rattle.place.specs.Places.{sound_place}

-- the number of the first cause, 0 for none
abbrev pub verdict_says : {A : Type 0} → Result A Refusal → ℕ
verdict_says (Ok x) = 0
verdict_says (Err c) = number c

-- the words that the area needs
abbrev pub needed : ℕ → ℕ → ℕ → ℕ
needed measure n limit = (limit + 4) * width_of measure n

-- what every recording that is lent whole is asked first, m = length w / n picks being lent: 10, 8, 3
abbrev pub lent_causes : ℕ → List ℕ → Causes
lent_causes n w = (not (eqb (length w % n) 0), 10) ∷ (eqb (length w / n) 0, 8) ∷ (ltb 4096 (length w / n), 3) ∷ []

-- opening: 1, 2, 3, 10, 5, 4; the list of measure 2 is the footprint, and no list is read under the other measures
abbrev pub open_causes : ℕ → ℕ → ℕ → List ℕ → List ℕ → Causes
open_causes n measure limit footprint a =
    (not (between 2 n 32), 1)
    ∷ (not (between 1 measure 4), 2)
    ∷ (not (between 1 limit 4096), 3)
    ∷ (eqb measure 2 && not (eqb (length footprint) n), 10)
    ∷ (eqb measure 2 && not (clean n footprint), 5)
    ∷ (ltb (length a) (needed measure n limit), 4)
    ∷ []

-- the footprint that is found in part limit + 3
abbrev pub footprint_in : Place → List ℕ → List ℕ
footprint_in p a = table_at (kit p.settings.measure p.settings.boards) a (p.settings.limit + 3)

-- pick: 16, 7, 10, 5, 4, 6
abbrev pub pick_causes : Place → List ℕ → List ℕ → Causes
pick_causes p a w =
    (not (sound_place p), 16)
    ∷ (leb p.settings.limit p.window.taken.0, 7)
    ∷ (not (eqb (length w) p.settings.boards), 10)
    ∷ (not (clean p.settings.boards w), 5)
    ∷ (ltb (length a) (needed p.settings.measure p.settings.boards p.settings.limit), 4)
    ∷ (eqb p.settings.measure 2 && not (listed p.settings.boards (footprint_in p a) w), 6)
    ∷ []

-- what a whole run of m picks is asked after that: 4, 5
abbrev pub run_causes : ℕ → ℕ → List ℕ → ℕ → List ℕ → Causes
run_causes n measure w m a = (ltb (length a) (needed measure n m), 4) ∷ (not (clean_picks n w m), 5) ∷ []

-- whole run: 1, 2, 10, 8, 3, 4, 5
abbrev pub whole_causes : ℕ → ℕ → List ℕ → List ℕ → Causes
whole_causes n measure w a =
    (not (between 2 n 32), 1)
    ∷ (not (between 1 measure 4), 2)
    ∷ (lent_causes n w ++ run_causes n measure w (length w / n) a)

-- what a window of k picks is asked, m being lent: 17
abbrev pub window_causes : ℕ → ℕ → Causes
window_causes k m = (not (between 1 k m), 17) ∷ []

-- the first of them, 0 for none
unfoldable pub open_verdict : ℕ → ℕ → ℕ → List ℕ → List ℕ → ℕ
open_verdict n measure limit footprint a = first_of (open_causes n measure limit footprint a)

unfoldable pub pick_verdict : Place → List ℕ → List ℕ → ℕ
pick_verdict p a w = first_of (pick_causes p a w)

unfoldable pub whole_verdict : ℕ → ℕ → List ℕ → List ℕ → ℕ
whole_verdict n measure w a = first_of (whole_causes n measure w a)
