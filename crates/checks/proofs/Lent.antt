-- Clean picks lent as words are a recording. Assumes nothing.
use mathlib.Core.Path.{◌≡◌, refl, ap, ◌∙◌, subst}
use mathlib.Core.Logic.{⊎_elim}
use mathlib.Core.List.{List, [], ◌∷◌}
use Prim.Native.Nat.{ℕ, zero, suc, ◌+◌, ◌*◌, ◌≤◌, ◌<◌}
use native.Mathlib.Nat.{eq-or-lt_of_le, le_of_suc-le-suc}
use native.Mathlib.Numerals.{add-one}
use native.Mathlib.Omega.{arith}
use lib.Dec.{T}
use lib.ListN.{length, length-append, get_or-append}
use lib.Seq.{get_or_at}
use Rattle.model.specs.Recording.{Clean, Recording, pick_at}
use Rattle.model.proofs.Windows.{rec_append, pick-at}
use Rattle.lists.proofs.Tab.{every_out, every_in}
use Rattle.links.specs.Picks.{lent_pick}
use Rattle.links.proofs.Picks.{lent_long}
use Rattle.checks.specs.Lent.{lent_picks, clean_pick, clean_picks}
use Rattle.checks.proofs.Clean.{clean_is}

pub length_lent : (n : ℕ) (w : List ℕ) (k : ℕ) → length (lent_picks n w k) ≡ k
unfolding lent_picks
length_lent n w zero = refl
length_lent n w (suc k) = length-append (lent_picks n w k) (lent_pick n w k ∷ []) ∙ ap (λ (x : ℕ). x + 1) (length_lent n w k) ∙ add-one k

-- clean picks are a recording
pub lent-recording : (n : ℕ) (w : List ℕ) (m : ℕ) → m * n ≤ length w → T (clean_picks n w m) → (k : ℕ) → k ≤ m
    → Recording n (lent_picks n w k)
unfolding lent_picks clean_picks clean_pick
lent-recording n w m room c zero h = tt
lent-recording n w m room c (suc k) h =
    rec_append n (lent_picks n w k) (lent_pick n w k ∷ []) (lent-recording n w m room c k (omega arith))
    ((clean_is n (lent_pick n w k) (lent_long n k m w room h)).0 (every_out (clean_pick n w) m c k h), tt)

-- pick k + 1 of the recording is the pick with k before it
pub lent_at : (n : ℕ) (w : List ℕ) (m k : ℕ) → k < m → pick_at (lent_picks n w m) (suc k) ≡ lent_pick n w k
unfolding lent_picks
lent_at n w zero k h = absurd (omega arith)
lent_at n w (suc m) k h =
    ⊎_elim (λ (e : k ≡ m). rw e (get_or_at (lent_picks n w m) (lent_pick n w m) [] [] m (length_lent n w m)))
    (λ (l : k < m). get_or-append (lent_picks n w m) (lent_pick n w m ∷ []) [] k (omega (arith, length_lent n w m)) ∙ lent_at n w m k l)
    (eq-or-lt_of_le (le_of_suc-le-suc h))

-- and a recording is clean picks
pub recording_lent : (n : ℕ) (w : List ℕ) (m : ℕ) → m * n ≤ length w → Recording n (lent_picks n w m) → T (clean_picks n w m)
unfolding clean_picks clean_pick
recording_lent n w m room r =
    every_in (clean_pick n w) m (λ k h. (clean_is n (lent_pick n w k) (lent_long n k m w room h)).1
    (subst (Clean n) (lent_at n w m k h) (pick-at n (lent_picks n w m) r (suc k) (omega arith) (omega (arith, length_lent n w m)))))
