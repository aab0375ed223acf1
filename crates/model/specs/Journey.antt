-- Journeys (source document 002, definition 8; document 01, "A journey from u to v in a window .."), earliest arrivals and latest departures.
use Rattle.std.specs.Prelude.{List, [], ◌∷◌, Bool, true, false, ℕ, ◌+◌, ◌≤◌, ◌<◌, T, eqb}
use Rattle.model.specs.Recording.{link, pick_at}

-- The most links that a journey may cross in one pick. Document 01 has no limit.
pub data Limit : Type 0 where
  unlimited : Limit
  at_most : ℕ → Limit

-- 32 boards need no more links in one pick: at most so many are no limit (`proofs/Hops`, `no_limit`)
abbrev pub most_links : ℕ
most_links = 31

-- c links in one pick are within the limit
abbrev pub Within : Limit → ℕ → Type 0
Within unlimited c = Unit {0}
Within (at_most h) c = c ≤ h

-- light passes from u to v at pick t
abbrev pub Open : List (List ℕ) → ℕ → ℕ → ℕ → Type 0
Open r t u v = T (link (pick_at r t) u v)

-- Open links lead from u to v. They are crossed at the picks of the list, whose numbers never fall and lie from i to j.
pub data Crosses (r : List (List ℕ)) (j : ℕ) : ℕ → ℕ → ℕ → List ℕ → Type 0 where
  stay : {i u : ℕ} → Crosses r j i u u []
  cross : {i u v w t : ℕ} {ts : List ℕ} → i ≤ t → t ≤ j → Open r t u w → Crosses r j t w v ts → Crosses r j i u v (t ∷ ts)

-- 1 for yes, 0 for no
abbrev pub val : Bool → ℕ
val true = 1
val false = 0

-- how often t stands in a list
abbrev pub count : ℕ → List ℕ → ℕ
count t [] = 0
count t (x ∷ xs) = val (eqb t x) + count t xs

-- a journey from u to v in the window of the picks i to j, within the limit L at each pick
pub record Journey (r : List (List ℕ)) (L : Limit) (i j u v : ℕ) : Type 0 where
  pub picks : List ℕ
  pub crosses : Crosses r j i u v picks
  pub hops : (t : ℕ) → Within L (count t picks)

-- a is the earliest arrival of a journey from u at v in the window i to j
pub record Arrival (r : List (List ℕ)) (L : Limit) (i j u v a : ℕ) : Type 0 where
  pub from : i ≤ a
  pub upto : a ≤ j
  pub there : Journey r L i a u v
  pub first : (x : ℕ) → i ≤ x → x < a → Journey r L i x u v → ⊥

-- d is the latest departure of a journey from u to v in the window i to j
pub record Departure (r : List (List ℕ)) (L : Limit) (i j u v d : ℕ) : Type 0 where
  pub from : i ≤ d
  pub upto : d ≤ j
  pub there : Journey r L d j u v
  pub last : (x : ℕ) → d < x → x ≤ j → Journey r L x j u v → ⊥
