-- 01's recording A, and a damaged file for each refusal, computed. Assumes nothing.
use mathlib.Core.Path.{◌≡◌, refl}
use mathlib.Core.List.{List, [], ◌∷◌, ◌++◌}
use Prim.Native.Nat.{ℕ}
use lib.ListN.{replicate}
use Rattle.model.specs.Recording.{bit, link}
use Rattle.model.specs.Causes.{between, first_or}
use Rattle.lists.specs.Tab.{zeros, splice}
use Rattle.commands.specs.Commands.{arity_of, command_of, command_at}
use Rattle.commands.specs.Causes.{head_at, next}
use Rattle.recording.specs.Format.{ended, flipped, commands, recording_at, read_file, words}
use Rattle.recording.specs.Answers.{read, read_at, read_says, read_leaves, read_at_says}

unfoldable pub file_a : List ℕ
file_a =
    0x42 ∷ 0x02 ∷ 0x4F ∷ 0x00 ∷ 0x01 ∷ 0x50 ∷ 0x53 ∷ 0x00 ∷ 0x01 ∷ 0x4F ∷ 0x01 ∷ 0x00 ∷ 0x50 ∷ 0x53 ∷ 0x01 ∷ 0x00 ∷ 0x4F ∷ 0x00 ∷ 0x01 ∷ 0x50
    ∷ 0x53 ∷ 0x00 ∷ 0x01 ∷ 0x4F ∷ 0x01 ∷ 0x00 ∷ 0x50 ∷ 0x45 ∷ []

unfoldable pub picks_of_a : List (List ℕ)
picks_of_a = (2 ∷ 0 ∷ []) ∷ (0 ∷ 1 ∷ []) ∷ (2 ∷ 0 ∷ []) ∷ (0 ∷ 1 ∷ []) ∷ []

-- n = 2, picks 0→1, 1→0, 0→1, 1→0; the limit 4 and 8 words are just enough
pub reads-A : read_file 4 8 file_a ≡ ended 2 picks_of_a 28
unfolding file_a picks_of_a arity_of first_or command_of command_at zeros bit link flipped head_at between next commands recording_at read_file
reads-A = refl

pub answers-A : read_says 4 file_a (replicate 8 7) ≡ read 0 2 4
unfolding file_a arity_of first_or command_of command_at zeros bit link flipped head_at between next commands recording_at read_file read_says
answers-A = refl

-- ten words of output, of which the last two stay
pub writes-A : read_leaves 4 file_a (replicate 10 7) ≡ 2 ∷ 0 ∷ 0 ∷ 1 ∷ 2 ∷ 0 ∷ 0 ∷ 1 ∷ 7 ∷ 7 ∷ []
unfolding file_a arity_of first_or command_of command_at zeros bit link flipped head_at between
    next commands recording_at read_file words splice read_leaves
writes-A = refl

-- a file that is refused, with its limit and its room
pub record Damaged : Type 0 where
  pub limit : ℕ
  pub room : ℕ
  pub bytes : List ℕ

abbrev pub numbers : List Damaged → List ℕ
numbers [] = []
numbers (d ∷ ds) = (read_says d.limit d.bytes (replicate d.room 7)).refusal ∷ numbers ds

unfoldable pub damaged : List Damaged
damaged =
    record { limit = 4; room = 8; bytes = 0x42 ∷ 0x01 ∷ 0x45 ∷ [] }
    ∷ record { limit = 4; room = 8; bytes = 0x42 ∷ 0x21 ∷ 0x45 ∷ [] }
    ∷ record { limit = 0; room = 8; bytes = [] }
    ∷ record { limit = 4097; room = 8; bytes = file_a }
    ∷ record { limit = 4; room = 7; bytes = file_a }
    ∷ record { limit = 3; room = 8; bytes = file_a }
    ∷ record { limit = 4; room = 8; bytes = 0x4F ∷ [] }
    ∷ record { limit = 4; room = 8; bytes = 0x42 ∷ 0x02 ∷ 0x42 ∷ [] }
    ∷ record { limit = 4; room = 8; bytes = 0x42 ∷ 0x02 ∷ 0x51 ∷ [] }
    ∷ record { limit = 4; room = 8; bytes = [] }
    ∷ record { limit = 4; room = 8; bytes = 0x42 ∷ [] }
    ∷ record { limit = 4; room = 8; bytes = 0x42 ∷ 0x02 ∷ 0x4F ∷ 0x05 ∷ [] }
    ∷ record { limit = 4; room = 8; bytes = 0x42 ∷ 0x02 ∷ 0x50 ∷ [] }
    ∷ record { limit = 4; room = 8; bytes = 0x42 ∷ 0x02 ∷ 0x4F ∷ 0x01 ∷ 0x01 ∷ 0x45 ∷ [] }
    ∷ record { limit = 4; room = 8; bytes = 0x42 ∷ 0x02 ∷ 0x4F ∷ 0x00 ∷ 0x02 ∷ 0x45 ∷ [] }
    ∷ record { limit = 4; room = 8; bytes = 0x42 ∷ 0x02 ∷ 0x53 ∷ 0x00 ∷ 0x01 ∷ 0x45 ∷ [] }
    ∷ record { limit = 4; room = 8; bytes = 0x42 ∷ 0x02 ∷ 0x4F ∷ 0x00 ∷ 0x01 ∷ 0x4F ∷ 0x00 ∷ 0x01 ∷ 0x45 ∷ [] }
    ∷ record { limit = 4; room = 8; bytes = file_a ++ (0x00 ∷ []) }
    ∷ []

pub refuses : numbers damaged ≡ 1 ∷ 1 ∷ 3 ∷ 3 ∷ 4 ∷ 7 ∷ 11 ∷ 11 ∷ 11 ∷ 12 ∷ 12 ∷ 12 ∷ 12 ∷ 13 ∷ 13 ∷ 14 ∷ 14 ∷ 15 ∷ []
unfolding file_a damaged arity_of first_or command_of command_at zeros bit link flipped head_at between next commands recording_at read_file read_says
refuses = refl

-- n = 2 and 32 are taken, and a file without picks is read
pub edges : read_file 1 2 (0x42 ∷ 0x02 ∷ 0x45 ∷ []) ≡ ended 2 [] 3
unfolding arity_of first_or command_of command_at zeros bit link flipped head_at between next commands recording_at read_file
edges = refl

pub edges_32 : read_file 1 32 (0x42 ∷ 0x20 ∷ 0x50 ∷ 0x45 ∷ []) ≡ ended 32 (zeros 32 ∷ []) 4
unfolding arity_of first_or command_of command_at bit link flipped head_at between next commands recording_at read_file
edges_32 = refl

-- two recordings one after the other: the first ends where the second starts
pub first_of_two : read_at_says 4 (file_a ++ file_a) 0 (replicate 8 7) ≡ read_at 0 2 4 28
unfolding file_a arity_of first_or command_of command_at zeros bit link flipped head_at between next commands recording_at read_at_says
first_of_two = refl

pub second_of_two : read_at_says 4 (file_a ++ file_a) 28 (replicate 8 7) ≡ read_at 0 2 4 56
unfolding file_a arity_of first_or command_of command_at zeros bit link flipped head_at between next commands recording_at read_at_says
second_of_two = refl
