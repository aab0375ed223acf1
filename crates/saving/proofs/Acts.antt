-- Commands one after the other, and their bytes. Assumes nothing.
use mathlib.Core.Path.{◌≡◌, refl}
use mathlib.Core.Logic.{⊎_elim}
use mathlib.Core.List.{List, [], ◌∷◌, ◌++◌, append_assoc, append-nil}
use Prim.Native.Nat.{ℕ, zero, suc, ◌+◌, ◌≤◌, ◌<◌}
use native.Mathlib.Nat.{not-suc-le-zero, eq-or-lt_of_le, le_of_suc-le-suc}
use native.Mathlib.Omega.{arith}
use lib.ListN.{length, length-append}
use Rattle.recording.specs.Grammar.{Act, spell_all}
use Rattle.saving.specs.File.{each}
use Rattle.saving.specs.Puts.{bytes_of}

-- what stands behind f 0, .., f k in f 0, .., f (m - 1)
pub each_split : (f : ℕ → List Act) (m k : ℕ) → k < m → (post : List Act) × (each f m ≡ each f k ++ (f k ++ post))
unfolding each
each_split f zero k h = absurd (not-suc-le-zero h)
each_split f (suc m) k h =
    ⊎_elim (λ (e : k ≡ m). ([], rw (e, append-nil)))
    (λ (l : k < m). let (post, q) = each_split f m k l in (post ++ f m, rw (q, append_assoc, append_assoc)))
    (eq-or-lt_of_le (le_of_suc-le-suc h))

-- no command
pub each_none : (f : ℕ → List Act) → ((k : ℕ) → f k ≡ []) → (m : ℕ) → each f m ≡ []
unfolding each
each_none f h zero = refl
each_none f h (suc m) = rw (each_none f h m) (h m)

pub bytes_append : (xs ys : List Act) → bytes_of (xs ++ ys) ≡ bytes_of xs ++ bytes_of ys
unfolding bytes_of
bytes_append [] ys = refl
bytes_append (x ∷ xs) ys = rw (bytes_append xs ys, append_assoc)

pub bytes_length : (xs ys : List Act) → length (bytes_of (xs ++ ys)) ≡ length (bytes_of xs) + length (bytes_of ys)
bytes_length xs ys = rw (bytes_append xs ys, length-append)

-- the bytes of f 0, .., f k are no more
pub each_within : (f : ℕ → List Act) (m k : ℕ) → k < m → length (bytes_of (each f k)) + length (bytes_of (f k)) ≤ length (bytes_of (each f m))
each_within f m k h =
    let (post, q) = each_split f m k h in
    let l : length (bytes_of (each f m)) ≡ length (bytes_of (each f k)) + (length (bytes_of (f k)) + length (bytes_of post)) =
    rw (q, bytes_length, bytes_length) in
    omega arith

-- with the 45 behind them
pub bytes_all : (xs : List Act) → spell_all xs ≡ bytes_of xs ++ (0x45 ∷ [])
unfolding bytes_of spell_all
bytes_all [] = refl
bytes_all (x ∷ xs) = rw (bytes_all xs, append_assoc)
