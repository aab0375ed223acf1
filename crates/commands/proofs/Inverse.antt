-- What a command reads as, wherever it stands. Assumes nothing.
use mathlib.Core.Path.{◌≡◌}
use mathlib.Core.Bool.{Bool, false}
use mathlib.Core.List.{List, ◌∷◌, ◌++◌}
use Prim.Native.Nat.{ℕ, ◌+◌, ◌≤◌, ◌<◌}
use native.Mathlib.Omega.{arith}
use borrow.Author.Tests.{lt-ltb, le-ltb}
use lib.ListN.{length, get_or, length-append}
use lib.Seq.{get_or-append_seam, get_or-append-add}
use Rattle.model.specs.Causes.{first_or}
use Rattle.std.specs.Prelude.{Some, Ok}
use Rattle.commands.specs.Commands.{misplaced, arity_of, command_of, command_at}

-- a command byte in its place, with its k operands behind it, is taken apart to what it says, whatever stands before and after
pub command_here : (first : Bool) (pre rest : List ℕ) (c k : ℕ) → misplaced first c ≡ false → arity_of c ≡ Some k → k ≤ length rest
    → command_at first (pre ++ (c ∷ rest)) (length pre) ≡ Ok (command_of c (get_or rest 0 0) (get_or rest 1 0))
unfolding command_at first_or
command_here first pre rest c k e w h =
    let l : length pre < length (pre ++ (c ∷ rest)) = rw length-append (omega arith) in
    let m : length pre + 1 + k ≤ length (pre ++ (c ∷ rest)) = rw length-append (omega arith) in
    let x : get_or (pre ++ (c ∷ rest)) (length pre + 1) 0 ≡ get_or rest 0 0 = get_or-append-add pre (c ∷ rest) 1 0 in
    let y : get_or (pre ++ (c ∷ rest)) (length pre + 2) 0 ≡ get_or rest 1 0 = get_or-append-add pre (c ∷ rest) 2 0 in
    simp (lt-ltb _ _ l, get_or-append_seam pre c rest 0, e, w, le-ltb _ _ m, x, y)
