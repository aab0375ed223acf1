-- THE GRAMMAR of recording files: 01's section "Recording files" without a reader. Which bytes are a file, and which links are open at each pick.
use Rattle.std.specs.Prelude.{◌≡◌, ◌≢◌, ◌↔◌, Bool, true, false, ◌&&◌, not, cond, List, [], ◌∷◌, ◌++◌, ℕ, ◌*◌, ◌≤◌, ◌<◌, T, eqb, length, get_or}
use Rattle.model.specs.Recording.{link}
use Rattle.links.specs.Picks.{lent_pick}
use Rattle.recording.specs.Answers.{read, read_says, read_leaves}

-- what stands between the 42 with its n and the 45
pub data Act : Type 0 where
  -- a link opens (true) or shuts (false): from, to
  sets : Bool → ℕ → ℕ → Act
  -- "pick: the links now open"
  pick : Act

-- ---- byte by byte

-- 4F opens a link, 53 shuts it
abbrev pub code : Bool → ℕ
code true = 0x4F
code false = 0x53

abbrev pub spell : Act → List ℕ
spell (sets x a b) = code x ∷ a ∷ b ∷ []
spell pick = 0x50 ∷ []

-- the acts one after the other, and the 45
unfoldable pub spell_all : List Act → List ℕ
spell_all [] = 0x45 ∷ []
spell_all (x ∷ xs) = spell x ++ spell_all xs

unfoldable pub spell_file : ℕ → List Act → List ℕ
spell_file n xs = 0x42 ∷ n ∷ spell_all xs

-- ---- which acts may follow each other; `earlier` has the acts before, the last of them first

-- "All links start shut and stay as set": open or shut as the last act that names the link has set it
unfoldable pub is_open : List Act → ℕ → ℕ → Bool
is_open [] u v = false
is_open (sets x a b ∷ earlier) u v = cond (eqb a u && eqb b v) x (is_open earlier u v)
is_open (pick ∷ earlier) u v = is_open earlier u v

-- what stands before each pick, one list of acts for each
unfoldable pub befores : List Act → List Act → List (List Act)
befores earlier [] = []
befores earlier (sets x a b ∷ xs) = befores (sets x a b ∷ earlier) xs
befores earlier (pick ∷ xs) = earlier ∷ befores (pick ∷ earlier) xs

-- the operands are different boards below n (13), and the link is not so already (14)
pub record Sets (n : ℕ) (earlier : List Act) (x : Bool) (a b : ℕ) : Type 0 where
  pub apart : a ≢ b
  pub from : a < n
  pub to : b < n
  pub changes : is_open earlier a b ≡ not x

unfoldable pub Follow : ℕ → List Act → List Act → Type 0
Follow n earlier [] = Unit {0}
Follow n earlier (sets x a b ∷ xs) = Sets n earlier x a b × Follow n (sets x a b ∷ earlier) xs
Follow n earlier (pick ∷ xs) = Follow n (pick ∷ earlier) xs

-- ---- the clauses of a reading, with room for `room` words of output

pub record Reads (limit room : ℕ) (bytes : List ℕ) : Type 0 where
  pub limit_low : 1 ≤ limit
  pub limit_high : limit ≤ 4096
  pub n : ℕ
  pub acts : List Act
  -- the file: 42, n, the acts and 45, and no byte more
  pub spelled : bytes ≡ spell_file n acts
  pub boards_low : 2 ≤ n
  pub boards_high : n ≤ 32
  pub room_for : limit * n ≤ room
  pub follow : Follow n [] acts
  -- no pick beyond the limit
  pub few : length (befores [] acts) ≤ limit

-- ---- what a reading then gives: n, as many picks as there are 50s, and at each pick just the links that are open then

pub record AsWritten (limit : ℕ) (bytes out : List ℕ) (n : ℕ) (acts : List Act) : Type 0 where
  pub answer : read_says limit bytes out ≡ read 0 n (length (befores [] acts))
  pub links : (k : ℕ) → k < length (befores [] acts) → (u v : ℕ)
      → T (link (lent_pick n (read_leaves limit bytes out) k) u v) ↔ T (is_open (get_or (befores [] acts) k []) u v)
