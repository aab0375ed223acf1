-- Tables of links between n boards: n words, bit v of word u for the pair u, v. Each operation is defined on the words as they are found,
-- forbidden bits included; boards are those below n.
use Rattle.std.specs.Prelude.{Bool, ◌||◌, not, cond, List, ℕ, zero, suc, ◌-◌, ◌^◌, eqb, get_or}
use Rattle.std.specs.Int.Bits.{bit_and, bit_or}
use Rattle.model.specs.Recording.{bit, link}
use Rattle.model.specs.Journey.{most_links}
use Rattle.lists.specs.Tab.{tab, kept, zeros, every, how_many_pairs}

-- the word x with bit u clear
unfoldable pub without : ℕ → ℕ → ℕ
without x u = bit_and x (2 ^ 32 - 1 - 2 ^ u)

-- bit v, where x is not 0
unfoldable pub mark_of : ℕ → ℕ → ℕ
mark_of x v = kept (not (eqb x 0)) (2 ^ v)

-- ---- compositions

-- measure 1: links open in both
unfoldable pub both_row : List ℕ → List ℕ → ℕ → ℕ
both_row s t u = bit_and (get_or s u 0) (get_or t u 0)

unfoldable pub intersection : ℕ → List ℕ → List ℕ → List ℕ
intersection n s t = tab (both_row s t) n

-- measure 2: links open in either
unfoldable pub either_row : List ℕ → List ℕ → ℕ → ℕ
either_row s t u = bit_or (get_or s u 0) (get_or t u 0)

unfoldable pub union : ℕ → List ℕ → List ℕ → List ℕ
union n s t = tab (either_row s t) n

-- x, united with word w of t for each of the first k boards w that `row` has the bit of
unfoldable pub gathered : ℕ → ℕ → List ℕ → ℕ → ℕ
gathered x row t zero = x
gathered x row t (suc k) = bit_or (gathered x row t k) (kept (bit row k) (get_or t k 0))

-- row u of the union, with the first k boards gone through
unfoldable pub through_row : List ℕ → List ℕ → ℕ → ℕ → ℕ
through_row s t k u = gathered (either_row s t u) (get_or s u 0) t k

-- measure 3: the union, plus u to v where u gets to w in the earlier part and w to v in the later; own bits clear
unfoldable pub compose_row : ℕ → List ℕ → List ℕ → ℕ → ℕ
compose_row n s t u = without (through_row s t n u) u

unfoldable pub compose : ℕ → List ℕ → List ℕ → List ℕ
compose n s t = tab (compose_row n s t) n

-- ---- a pick's own table

-- the pairs joined within the pick p by at most h links
unfoldable pub within : ℕ → ℕ → List ℕ → List ℕ
within n zero p = zeros n
within n (suc h) p = compose n (within n h p) p

-- ---- tests

-- u is v, or the pair is marked
unfoldable pub pair_full : List ℕ → ℕ → ℕ → Bool
pair_full t u v = eqb u v || link t u v

unfoldable pub row_full : ℕ → List ℕ → ℕ → Bool
row_full n t u = every (pair_full t u) n

-- measure 3: every ordered pair of different boards is marked
unfoldable pub full : ℕ → List ℕ → Bool
full n t = every (row_full n t) n

-- measure 1: links of the table lead from every board to every other
unfoldable pub connected : ℕ → List ℕ → Bool
connected n t = full n (within n most_links t)

-- measure 2: the n words are those of the footprint, as whole words
unfoldable pub row_same : List ℕ → List ℕ → ℕ → Bool
row_same footprint t u = eqb (get_or t u 0) (get_or footprint u 0)

unfoldable pub same : ℕ → List ℕ → List ℕ → Bool
same n footprint t = every (row_same footprint t) n

-- ---- how many conditions are unmet (request A3 of document 02)

-- u and v are different boards, and the pair is not marked
unfoldable pub pair_unmarked : List ℕ → ℕ → ℕ → Bool
pair_unmarked t u v = not (pair_full t u v)

-- measure 3: the ordered pairs of different boards that are not marked
unfoldable pub unmarked : ℕ → List ℕ → ℕ
unmarked n t = how_many_pairs (pair_unmarked t) n n

-- measure 1: those that no links of the table lead between
unfoldable pub unconnected : ℕ → List ℕ → ℕ
unconnected n t = unmarked n (within n most_links t)

-- the link is in only one of the two tables
unfoldable pub link_differs : List ℕ → List ℕ → ℕ → ℕ → Bool
link_differs footprint t u v = cond (link footprint u v) (not (link t u v)) (link t u v)

-- measure 2: the links that are in only one of footprint and table, as bits of whole words
unfoldable pub differing : ℕ → List ℕ → List ℕ → ℕ
differing n footprint t = how_many_pairs (link_differs footprint t) 32 n
