-- What a recording file says, and which words a reading of it leaves: 01, "Recording files". Why a command is refused is in commands, `Causes`.
use Rattle.std.specs.Prelude.{Bool, true, false, Result, Ok, Err, List, [], ◌∷◌, ◌++◌, ℕ, zero, suc, ◌+◌, ◌^◌, ltb, length, get_or, set}
use Rattle.std.specs.Int.Bits.{bit_xor}
use Rattle.model.specs.declared.Refusal.{Refusal}
use Rattle.model.specs.declared.Refusal.TheVariants as cause
use Rattle.model.specs.Causes.{first_or}
use Rattle.lists.specs.Tab.{zeros, splice}
use Rattle.commands.specs.declared.Item.{Item}
use Rattle.commands.specs.declared.Item.TheVariants.{Link, Pick, End}
use Rattle.commands.specs.Causes.{head_at, next}

-- what a file says: n, the picks (n words each) and the place behind its 45; or why it is refused
pub data Content : Type 0 where
  ended : (n : ℕ) (picks : List (List ℕ)) (end : ℕ) → Content
  refused : (r : Refusal) → Content

-- ---- the reading

-- a link that is not as the command wants it is changed
unfoldable pub flipped : List ℕ → ℕ → ℕ → List ℕ
flipped links a b = set links a (bit_xor (get_or links a 0) (2 ^ b))

-- a command that is not refused is followed, and one that is ends the reading: `more` reads on from a place, with the picks and the open links
abbrev pub follow : (ℕ → List (List ℕ) → List ℕ → Content) → ℕ → ℕ → List (List ℕ) → List ℕ → Result Item Refusal → Content
follow more n at picks links (Ok (Link a b v)) = more (at + 3) picks (flipped links a.0 b.0)
follow more n at picks links (Ok Pick) = more (at + 1) (picks ++ (links ∷ [])) links
follow more n at picks links (Ok End) = ended n picks (at + 1)
follow more n at picks links (Err r) = refused r

-- the commands after the first, at most `turns` of them: a file has no more commands than bytes
unfoldable pub commands : List ℕ → ℕ → ℕ → ℕ → ℕ → List (List ℕ) → List ℕ → Content
commands bytes n limit zero at picks links = refused cause.Stopped
commands bytes n limit (suc turns) at picks links =
    follow (commands bytes n limit turns) n at picks links (next bytes n limit at (length picks) links)

-- what follows the 42 and its n; all links start shut
abbrev pub body : ℕ → List ℕ → ℕ → ℕ → Content
body limit bytes start n = commands bytes n limit (length bytes) (start + 2) [] (zeros n)

abbrev pub after_head : ℕ → List ℕ → ℕ → Result ℕ Refusal → Content
after_head limit bytes start (Ok n) = body limit bytes start n
after_head limit bytes start (Err r) = refused r

-- the recording that starts at a place of the file and ends with its 45
unfoldable pub recording_at : ℕ → ℕ → List ℕ → ℕ → Content
recording_at limit room bytes start = after_head limit bytes start (head_at limit room bytes start)

-- bytes after 45
abbrev pub alone : List ℕ → Content → Content
alone bytes (ended n picks end) = first_or refused ((ltb end (length bytes), cause.Trailing) ∷ []) (ended n picks end)
alone bytes (refused r) = refused r

-- a whole file, with room for `room` words of output
unfoldable pub read_file : ℕ → ℕ → List ℕ → Content
unfolding first_or
read_file limit room bytes = alone bytes (recording_at limit room bytes 0)

-- ---- the output words

abbrev pub is_ended : Content → Bool
is_ended (ended n picks end) = true
is_ended (refused r) = false

-- the words of all picks, one after the other
unfoldable pub words : List (List ℕ) → List ℕ
words [] = []
words (p ∷ ps) = p ++ words ps

-- the output words after a reading
abbrev pub output_after : Content → List ℕ → List ℕ
output_after (ended n picks end) out = splice 0 (length (words picks)) (words picks) out
output_after (refused r) out = out
