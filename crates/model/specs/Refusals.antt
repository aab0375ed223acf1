-- The number of each cause: 01's, and after 16 those of the requests.
use Rattle.std.specs.Prelude.{ℕ, ◌≡◌, ◌≢◌, Result, MatchResult}
use Rattle.model.specs.declared.NoCause.{NoCause}
use Rattle.model.specs.declared.Refusal.{Refusal}
use Rattle.model.specs.declared.Refusal.TheVariants.{Boards, Measure, Picks, Room, Forbidden, Unlisted, Full, NoPick, NoLength, Shape, Command}
use Rattle.model.specs.declared.Refusal.TheVariants.{Stopped, Operands, Unchanged, Trailing, BadPlace, WindowLength, FileRoom}

abbrev pub number : Refusal → ℕ
number Boards = 1
number Measure = 2
number Picks = 3
number Room = 4
number Forbidden = 5
number Unlisted = 6
number Full = 7
number NoPick = 8
number NoLength = 9
number Shape = 10
number Command = 11
number Stopped = 12
number Operands = 13
number Unchanged = 14
number Trailing = 15
number BadPlace = 16
number WindowLength = 17
number FileRoom = 18

-- the cause with this number, or that no cause has it: `number` the other way
abbrev pub HasNumber : ℕ → Result Refusal NoCause → Type 0
HasNumber x r = MatchResult r (λ c. number c ≡ x) (λ _. (c : Refusal) → number c ≢ x)
