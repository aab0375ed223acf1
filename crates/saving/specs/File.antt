-- THE FILE of a recording. 02, A2: "42 and n, then for each pick the links that shut, ascending by from and then to, then those that open in the same
-- order, then 50; at last 45". Commands and their bytes are those of the grammar of recording files.
use Rattle.std.specs.Prelude.{Bool, true, false, not, ◌&&◌, cond, List, [], ◌∷◌, ◌++◌, ℕ, zero, suc, length, get_or}
use Rattle.model.specs.Recording.{link}
use Rattle.lists.specs.Tab.{zeros}
use Rattle.recording.specs.Grammar.{Act, sets, pick, spell_file}

-- f 0, f 1, .., f (k - 1), one after the other
unfoldable pub each : (ℕ → List Act) → ℕ → List Act
each f zero = []
each f (suc k) = each f k ++ f k

-- a link that was so, and is so now, becomes shut (false) or open (true)
abbrev pub becomes : Bool → Bool → Bool → Bool
becomes false was is = was && not is
becomes true was is = not was && is

-- the command of the link from a to b, if it shuts, or opens, from the links `old` to the links `new`
unfoldable pub link_acts : Bool → List ℕ → List ℕ → ℕ → ℕ → List Act
link_acts x old new a b = cond (becomes x (link old a b) (link new a b)) (sets x a b ∷ []) []

-- those of the links from a, ascending by to
unfoldable pub row_acts : Bool → List ℕ → List ℕ → ℕ → ℕ → List Act
row_acts x old new n a = each (link_acts x old new a) n

-- those of all links, ascending by from and then to
unfoldable pub table_acts : Bool → List ℕ → List ℕ → ℕ → List Act
table_acts x old new n = each (row_acts x old new n) n

-- the links that shut, then those that open
unfoldable pub change_acts : ℕ → List ℕ → List ℕ → List Act
change_acts n old new = table_acts false old new n ++ table_acts true old new n

-- then 50
unfoldable pub pick_acts : ℕ → List ℕ → List ℕ → List Act
pick_acts n old new = change_acts n old new ++ (pick ∷ [])

-- the links open at pick p; before pick 1 all are shut
abbrev pub links_at : ℕ → List (List ℕ) → ℕ → List ℕ
links_at n picks p = get_or (zeros n ∷ picks) p []

-- the pick with k picks before it
unfoldable pub acts_at : ℕ → List (List ℕ) → ℕ → List Act
acts_at n picks k = pick_acts n (links_at n picks k) (links_at n picks (suc k))

unfoldable pub file_acts : ℕ → List (List ℕ) → List Act
file_acts n picks = each (acts_at n picks) (length picks)

-- 42 and n, the commands, 45
unfoldable pub file : ℕ → List (List ℕ) → List ℕ
file n picks = spell_file n (file_acts n picks)
