-- Which causes a file can have: 1, 3, 4, 7 and 11 to 15, by one induction on the turns. Assumes nothing.
use mathlib.Core.List.{List, [], ◌∷◌, ◌++◌}
use Prim.Native.Nat.{ℕ, zero, suc, ◌+◌}
use lib.Dec.{T}
use lib.ListN.{length}
use Rattle.model.specs.Causes.{Among}
use Rattle.model.proofs.Causes.{is_among, among_in, Each, each_refused}
use Rattle.lists.specs.Tab.{zeros}
use Rattle.std.specs.Prelude.{Result, Ok, Err}
use Rattle.model.specs.declared.Refusal.{Refusal}
use Rattle.commands.specs.declared.Command.{Command}
use Rattle.commands.specs.declared.Command.TheVariants.{Boards, Later}
use Rattle.commands.specs.declared.Item.{Item}
use Rattle.commands.specs.declared.Item.TheVariants.{Link, Pick, End}
use Rattle.commands.specs.Commands.{spelled_at}
use Rattle.commands.specs.Causes.{boards_causes, later_causes, boards_in, item_in, head_at, next}
use Rattle.recording.specs.Format.{Content, ended, refused, follow, commands, after_head, recording_at, alone, read_file}
use Rattle.recording.specs.Answers.{file_says}

-- 01's line of numbers, and 0
abbrev pub file_numbers : List ℕ
file_numbers = 3 ∷ 11 ∷ 12 ∷ 1 ∷ 4 ∷ 13 ∷ 14 ∷ 7 ∷ 15 ∷ 0 ∷ []

abbrev Caused : Content → Type 0
Caused o = T (is_among (file_says o).refusal file_numbers)

-- ---- one command

-- a command that is refused is refused by such a cause
abbrev Told : {A : Type 0} → Result A Refusal → Type 0
Told (Ok x) = Unit
Told (Err r) = Caused (refused r)

told_boards : (c : Command) → Told (boards_in c)
told_boards (Boards n) = tt
told_boards (Later i) = tt

told_item : (c : Command) → Told (item_in c)
told_item (Boards n) = tt
told_item (Later i) = tt

own_boards : (limit room : ℕ) (c : Command) → Each Err (Told {A = ℕ}) (boards_causes limit room c)
own_boards limit room (Boards n) = (tt, (tt, tt))
own_boards limit room (Later i) = tt

own_later : (n limit count : ℕ) (links : List ℕ) (c : Command) → Each Err (Told {A = Item}) (later_causes n limit count links c)
own_later n limit count links (Later (Link a b v)) = (tt, (tt, tt))
own_later n limit count links (Later Pick) = (tt, tt)
own_later n limit count links (Later End) = tt
own_later n limit count links (Boards m) = tt

told_head : (limit room : ℕ) (bytes : List ℕ) (start : ℕ) → Told (head_at limit room bytes start)
unfolding head_at
told_head limit room bytes start =
    each_refused Err (Told {A = ℕ}) _ _ (tt, (tt, (tt, own_boards limit room (spelled_at bytes start)))) (told_boards (spelled_at bytes start))

told_next : (bytes : List ℕ) (n limit at count : ℕ) (links : List ℕ) → Told (next bytes n limit at count links)
unfolding next
told_next bytes n limit at count links =
    each_refused Err (Told {A = Item}) _ _ (tt, (tt, own_later n limit count links (spelled_at bytes at))) (told_item (spelled_at bytes at))

-- ---- the file

caused_follow : (more : ℕ → List (List ℕ) → List ℕ → Content) → ((at : ℕ) (picks : List (List ℕ)) (links : List ℕ)
    → Caused (more at picks links))
    → (n at : ℕ) (picks : List (List ℕ)) (links : List ℕ) (c : Result Item Refusal) → Told c → Caused (follow more n at picks links c)
caused_follow more h n at picks links (Ok (Link a b v)) k = h (at + 3) picks _
caused_follow more h n at picks links (Ok Pick) k = h (at + 1) (picks ++ (links ∷ [])) links
caused_follow more h n at picks links (Ok End) k = tt
caused_follow more h n at picks links (Err r) k = k

caused_commands : (bytes : List ℕ) (n limit turns at : ℕ) (picks : List (List ℕ)) (links : List ℕ)
    → Caused (commands bytes n limit turns at picks links)
unfolding commands
caused_commands bytes n limit zero at picks links = tt
caused_commands bytes n limit (suc turns) at picks links =
    caused_follow (commands bytes n limit turns) (caused_commands bytes n limit turns) n at picks links (next bytes n limit at (length picks) links)
    (told_next bytes n limit at (length picks) links)

caused_after_head : (limit : ℕ) (bytes : List ℕ) (start : ℕ) (c : Result ℕ Refusal) → Told c → Caused (after_head limit bytes start c)
caused_after_head limit bytes start (Ok n) h = caused_commands bytes n limit (length bytes) (start + 2) [] (zeros n)
caused_after_head limit bytes start (Err r) h = h

caused_at : (limit room : ℕ) (bytes : List ℕ) (start : ℕ) → Caused (recording_at limit room bytes start)
unfolding recording_at
caused_at limit room bytes start = caused_after_head limit bytes start (head_at limit room bytes start) (told_head limit room bytes start)

caused_alone : (bytes : List ℕ) (o : Content) → Caused o → Caused (alone bytes o)
caused_alone bytes (ended n picks end) h = each_refused refused Caused _ _ (tt, tt) tt
caused_alone bytes (refused r) h = h

pub file-numbers : (limit room : ℕ) (bytes : List ℕ) → Among (file_says (read_file limit room bytes)).refusal file_numbers
unfolding read_file
file-numbers limit room bytes = among_in _ file_numbers (caused_alone bytes (recording_at limit room bytes 0) (caused_at limit room bytes 0))
