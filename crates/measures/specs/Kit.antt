-- A measure over n boards, as the walk needs it: the words of a table, a pick's own table, the composition, the test of a table. Only the
-- definitions here go by the measure's number (1 common, 2 return, 3 reach, 4 round trip); the walk is written once, over a kit.
use Rattle.std.specs.Prelude.{ℕ, Bool, cond, List, ◌≡◌, length, eqb}
use Rattle.model.specs.Journey.{most_links}
use Rattle.links.specs.Tables.{intersection, union, compose, within, full, connected, same}
use Rattle.times.specs.Times.{times_words, compose_times, own_times, all_in_time}

-- the words of a table
unfoldable pub size_of : ℕ → ℕ → ℕ
size_of measure n = cond (eqb measure 4) (times_words n) n

-- pick i's own table, with at most `hops` links crossed in it
unfoldable pub own_of : ℕ → ℕ → ℕ → ℕ → List ℕ → List ℕ
own_of hops measure n i w = cond (eqb measure 4) (own_times n i (within n hops w)) (cond (eqb measure 3) (within n hops w) w)

-- the composition of an earlier table with a later one
unfoldable pub join_of : ℕ → ℕ → List ℕ → List ℕ → List ℕ
join_of measure n s t =
    cond (eqb measure 4) (compose_times n s t)
    (cond (eqb measure 3) (compose n s t)
    (cond (eqb measure 2) (union n s t) (intersection n s t)))

-- whether a table passes; a round trip turns round in `turn` picks, and the footprint is that of measure 2
unfoldable pub pass_of : ℕ → ℕ → ℕ → List ℕ → List ℕ → Bool
pass_of turn measure n footprint t =
    cond (eqb measure 4) (all_in_time n turn t)
    (cond (eqb measure 3) (full n t)
    (cond (eqb measure 2) (same n footprint t) (connected n t)))

pub record Kit : Type 0 where
  pub size : ℕ
  pub own : ℕ → List ℕ → List ℕ
  pub join : List ℕ → List ℕ → List ℕ
  pub pass : List ℕ → List ℕ → Bool

-- its compositions have the words of a table
abbrev pub Wide : Kit → Type 0
Wide K = (s t : List ℕ) → length (K.join s t) ≡ K.size

-- the kit with the most links in one pick and the turn-round left open
abbrev pub kit_with : ℕ → ℕ → ℕ → ℕ → Kit
kit_with hops turn measure n = record { size = size_of measure n; own = own_of hops measure n; join = join_of measure n; pass = pass_of turn measure n }

-- document 01's settings: no limit on the links in one pick, and a round trip may turn round within a pick. Nothing else says which they are.
abbrev pub hops01 : ℕ
hops01 = most_links

abbrev pub turn01 : ℕ
turn01 = 0

abbrev pub kit : ℕ → ℕ → Kit
kit measure n = kit_with hops01 turn01 measure n
