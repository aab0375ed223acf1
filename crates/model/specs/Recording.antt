-- Words, picks, recordings and windows: document 01's "Boards, picks, links", and the sequence of graphs G_1, G_2, .. of section 2 of
-- source document 002. Boards are numbered from 0, picks from 1.
use Rattle.std.specs.Prelude.{◌≡◌, Bool, List, [], ◌∷◌, ℕ, suc, ◌-◌, ◌/◌, ◌%◌, ◌^◌, ◌<◌, T, eqb, length, get_or, take, drop}

-- bit b of the word w, of value 2 to the b, is set
unfoldable pub bit : ℕ → ℕ → Bool
bit w b = eqb (w / 2 ^ b % 2) 1

-- Bit v of word u of t is set. Of a pick: light passes from u to v. Of a table: the pair u, v is marked.
unfoldable pub link : List ℕ → ℕ → ℕ → Bool
link t u v = bit (get_or t u 0) v

-- n words without a bit of board n or above
pub record Words (n : ℕ) (t : List ℕ) : Type 0 where
  pub size : length t ≡ n
  pub small : (u : ℕ) → get_or t u 0 < 2 ^ n

-- A pick, or a table, over n boards without a forbidden bit: no bit of board n or above, and no link from a board to itself.
pub record Clean (n : ℕ) (t : List ℕ) : Type 0 where
  pub words : Words n t
  pub loopless : (u : ℕ) → T (link t u u) → ⊥

-- a recording over n boards: picks without a forbidden bit
abbrev pub Recording : ℕ → List (List ℕ) → Type 0
Recording n [] = Unit {0}
Recording n (p ∷ ps) = Clean n p × Recording n ps

-- pick t of a recording
abbrev pub pick_at : List (List ℕ) → ℕ → List ℕ
pick_at r t = get_or ([] ∷ r) t []

-- the window of the picks i to j, as a recording (the subsequence G_i, .., G_j)
unfoldable pub window : List (List ℕ) → ℕ → ℕ → List (List ℕ)
window r i j = take (suc j - i) (drop (i - 1) r)
