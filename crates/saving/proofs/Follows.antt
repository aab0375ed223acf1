-- Commands behind commands, by the grammar: which may follow, which links are open then, what stands before each pick. Assumes nothing.
use mathlib.Core.Path.{◌≡◌, refl, ap}
use mathlib.Core.List.{List, [], ◌∷◌, ◌++◌}
use Prim.Native.Nat.{ℕ}
use Rattle.recording.specs.Grammar.{Act, sets, pick, befores, Follow}

-- the acts before what comes next, the last of them first
abbrev pub after : List Act → List Act → List Act
after earlier [] = earlier
after earlier (x ∷ xs) = after (x ∷ earlier) xs

pub after-append : (e xs ys : List Act) → after e (xs ++ ys) ≡ after (after e xs) ys
after-append e [] ys = refl
after-append e (x ∷ xs) ys = after-append (x ∷ e) xs ys

pub follow-append : (n : ℕ) (e xs ys : List Act) → Follow n e xs → Follow n (after e xs) ys → Follow n e (xs ++ ys)
unfolding Follow
follow-append n e [] ys f g = g
follow-append n e (sets x a b ∷ xs) ys f g = (f.0, follow-append n (sets x a b ∷ e) xs ys f.1 g)
follow-append n e (pick ∷ xs) ys f g = follow-append n (pick ∷ e) xs ys f g

pub befores-append : (e xs ys : List Act) → befores e (xs ++ ys) ≡ befores e xs ++ befores (after e xs) ys
unfolding befores
befores-append e [] ys = refl
befores-append e (sets x a b ∷ xs) ys = befores-append (sets x a b ∷ e) xs ys
befores-append e (pick ∷ xs) ys = ap (λ (l : List (List Act)). e ∷ l) (befores-append (pick ∷ e) xs ys)
