-- A command that is taken apart first, and then has to fit the causes of its own. Assumes nothing.
use mathlib.Core.Path.{◌≡◌, refl, ap}
use mathlib.Core.Bool.{Bool, true, false, not, cond}
use mathlib.Core.List.{List, [], ◌∷◌, ◌++◌}
use Prim.Native.Nat.{ℕ, ◌+◌, ◌≤◌, ◌<◌}
use native.Mathlib.Omega.{arith}
use borrow.Author.Tests.{lt-ltb, le-ltb}
use lib.ListN.{length, get_or}
use Rattle.std.specs.Prelude.{Result, Ok, Err}
use Rattle.model.specs.declared.Refusal.{Refusal}
use Rattle.model.specs.declared.Refusal.TheVariants as cause
use Rattle.model.specs.Causes.{between, RefusalCauses, first_or}
use Rattle.commands.specs.declared.Command.{Command}
use Rattle.commands.specs.Commands.{arity_of, operands_of, unreadable, spelled_at, command_at}
use Rattle.commands.specs.Causes.{boards_causes, later_causes, boards_in, item_in, head_at, next}

-- what is taken of a command that was taken apart, unless a cause of its own refuses it
abbrev pub fitted : {A : Type 0} → (Command → RefusalCauses) → (Command → Result A Refusal) → Result Command Refusal → Result A Refusal
fitted own part (Ok x) = first_or Err (own x) (part x)
fitted own part (Err r) = Err r

then_fitted : {A : Type 0} (own : Command → RefusalCauses) (part : Command → Result A Refusal) (cs : RefusalCauses) (x : Command)
    → first_or Err (cs ++ own x) (part x) ≡ fitted own part (first_or Err cs (Ok x))
unfolding first_or
then_fitted own part [] x = refl
then_fitted own part ((true, r) ∷ cs) x = refl
then_fitted own part ((false, r) ∷ cs) x = then_fitted own part cs x

pub head_then : (limit room : ℕ) (bytes : List ℕ) (start : ℕ)
    → head_at limit room bytes start
    ≡ cond (not (between 1 limit 4096)) (Err cause.Picks) (fitted (boards_causes limit room) boards_in (command_at true bytes start))
unfolding head_at first_or command_at
head_then limit room bytes start =
    ap (cond (not (between 1 limit 4096)) (Err cause.Picks))
    (then_fitted (boards_causes limit room) boards_in (unreadable true bytes start) (spelled_at bytes start))

pub next_then : (bytes : List ℕ) (n limit at count : ℕ) (links : List ℕ)
    → next bytes n limit at count links ≡ fitted (later_causes n limit count links) item_in (command_at false bytes at)
unfolding next command_at
next_then bytes n limit at count links =
    then_fitted (later_causes n limit count links) item_in (unreadable false bytes at) (spelled_at bytes at)

-- no byte stands at the place: 12
pub stopped_here : (first : Bool) (bytes : List ℕ) (at : ℕ) → length bytes ≤ at → command_at first bytes at ≡ Err cause.Stopped
unfolding command_at first_or
stopped_here first bytes at h =
    let k : length bytes < at + 1 + operands_of (arity_of (get_or bytes at 0)) = omega arith in
    rw (le-ltb at (length bytes) h, lt-ltb (length bytes) _ k)
