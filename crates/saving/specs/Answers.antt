-- What the call answers and leaves, for every input. A cause is its number, 0 where there is none.
use Rattle.std.specs.Prelude.{not, cond, Result, Ok, Err, List, [], ◌∷◌, ℕ, ◌/◌, ◌%◌, eqb, ltb, length, take}
use Rattle.model.specs.Causes.{between, Causes, first_of}
use Rattle.model.specs.declared.Refusal.{Refusal}
use Rattle.model.specs.Refusals.{number}
use Rattle.lists.specs.Tab.{splice}
use Rattle.checks.specs.Lent.{lent_picks, clean_picks}
use Rattle.saving.specs.File.{file}

-- the number of the refusal, 0 for none; how many bytes the file has, 0 where refused
pub record Saved : Type 0 where
  pub refusal : ℕ
  pub length : ℕ

abbrev pub saved : ℕ → ℕ → Saved
saved c k = record { refusal = c; length = k }

abbrev pub saving_says : Result ℕ Refusal → Saved
saving_says (Ok k) = saved 0 k
saving_says (Err r) = saved (number r) 0

-- the file of the words lent, n words a pick
unfoldable pub lent_file : ℕ → List ℕ → List ℕ
lent_file n w = file n (lent_picks n w (length w / n))

-- 1, 10, 3 (above 4,096 picks only), 5, 18; m = length w / n picks are lent
abbrev pub save_causes : ℕ → List ℕ → List ℕ → Causes
save_causes n w out =
    (not (between 2 n 32), 1)
    ∷ (not (eqb (length w % n) 0), 10)
    ∷ (ltb 4096 (length w / n), 3)
    ∷ (not (clean_picks n w (length w / n)), 5)
    ∷ (ltb (length out) (length (lent_file n w)), 18)
    ∷ []

-- the first of them, 0 for none
unfoldable pub save_verdict : ℕ → List ℕ → List ℕ → ℕ
save_verdict n w out = first_of (save_causes n w out)

unfoldable pub save_says : ℕ → List ℕ → List ℕ → Saved
unfolding first_of save_verdict
save_says n w out = cond (eqb (save_verdict n w out) 0) (saved 0 (length (lent_file n w))) (saved (save_verdict n w out) 0)

-- the first bytes are the file, and the others stay; refused: every byte as it was
unfoldable pub save_leaves : ℕ → List ℕ → List ℕ → List ℕ
unfolding first_of save_verdict
save_leaves n w out = cond (eqb (save_verdict n w out) 0) (splice 0 (length (lent_file n w)) (lent_file n w) out) out

-- the file that a call has written: as many bytes of the output as it answers
unfoldable pub saved_file : ℕ → List ℕ → List ℕ → List ℕ
saved_file n w out = take (save_says n w out).length (save_leaves n w out)
