-- What the parts hold after one is written: the table in it, and every other part and the words beyond as they were. The area has room for
-- N parts of E words. Assumes nothing.
use mathlib.Core.Path.{◌≡◌, ap, ap₂, ◌∙◌}
use mathlib.Core.Logic.{◌≢◌, ⊎_elim}
use mathlib.Core.Bool.{Bool, true, false, cond}
use mathlib.Core.List.{List}
use Prim.Native.Nat.{ℕ, ◌+◌, ◌-◌, ◌*◌, ◌≤◌, ◌<◌, zero-le}
use native.Mathlib.Nat.{mul-le-mul_right}
use native.Mathlib.Omega.{arith}
use lib.Dec.{eqb}
use lib.ListN.{length, take, drop, length-append}
use Rattle.model.proofs.Logic.{le_or_lt}
use Rattle.lists.specs.Tab.{zeros, splice}
use Rattle.lists.proofs.Splice.{read_front, read_before, read_inside, splice-length, splice-after, splice-again}
use Rattle.lists.proofs.Zeros.{zeros_inside}
use Rattle.lists.proofs.Tab.{length-tab, length-zeros}
use Rattle.links.specs.Tables.{intersection, union, compose, within}
use Rattle.links.proofs.Ways.{length-within}
use Rattle.times.specs.Times.{times_words, compose_times, arrivals, departures, own_times}
use Rattle.times.proofs.Cells.{length-rows}
use Rattle.measures.specs.Kit.{Kit, Wide, kit, size_of, own_of, join_of}
use Rattle.area.specs.Parts.{stored, table, part_size, Has, part, put_part, table_at, put_table, compose_at, copy_at, zero_at, own_at, zeroed}
use Rattle.area.proofs.Stored.{stored-size, table_size, table-stored}
use Rattle.area.proofs.Lent.{fits, part_long}

-- part i of N lies in the area
pub has : (E N words i : ℕ) → N * E ≤ words → 1 ≤ i → i ≤ N → Has E words i
has E N words i room low high = record { from = low; upto = omega (arith, mul-le-mul_right E high) }

pub length_part : (E N : ℕ) (a : List ℕ) (i : ℕ) → N * E ≤ length a → 1 ≤ i → i ≤ N → length (part E a i) ≡ E
length_part E N a i room low high = part_long a (has E N (length a) i room low high)

-- a part ends before a later one begins
pub ends_before : (E i j : ℕ) → 1 ≤ i → i < j → (i - 1) * E + E ≤ (j - 1) * E
ends_before E i j low h =
    let p : Has E ((j - 1) * E) i = has E (j - 1) ((j - 1) * E) i (omega arith) low (omega arith) in fits p

-- ---- a table put as a part

module _ (E N : ℕ) (a : List ℕ) (room : N * E ≤ length a) (i : ℕ) (low : 1 ≤ i) (high : i ≤ N) (t : List ℕ) (size : length t ≡ E) where
  lies : (i - 1) * E + E ≤ length a
  lies = fits (has E N (length a) i room low high)

  begins : (i - 1) * E ≤ length a
  begins = let h = lies in omega arith

  pub put_length : length (put_part E a i t) ≡ length a
  put_length = splice-length ((i - 1) * E) E t a size begins lies

  pub put_same : part E (put_part E a i t) i ≡ t
  unfolding part
  put_same = read_inside ((i - 1) * E) E t a size begins

  -- part j may lie beyond the area
  pub put_other : (j : ℕ) → 1 ≤ j → j ≢ i → part E (put_part E a i t) j ≡ part E a j
  unfolding part
  put_other j h ne =
      ⊎_elim (λ (l : i ≤ j). ap (take E) (splice-after ((i - 1) * E) E t a size begins ((j - 1) * E) (ends_before E i j low (omega arith))))
      (λ (l : j < i). read_before ((i - 1) * E) E t a size begins ((j - 1) * E) E (ends_before E j i h l))
      (le_or_lt i j)

  put_again : (u : List ℕ) → put_part E (put_part E a i t) i u ≡ put_part E a i u
  put_again = splice-again ((i - 1) * E) E t a size begins

  pub put_beyond : drop (N * E) (put_part E a i t) ≡ drop (N * E) a
  put_beyond = splice-after ((i - 1) * E) E t a size begins (N * E) (fits (has E N (N * E) i (omega arith) low high))

-- ---- the first words zero

module _ (k : ℕ) (a : List ℕ) (room : k ≤ length a) where
  pub zeroed-length : length (zeroed k a) ≡ length a
  zeroed-length = splice-length 0 k (zeros k) a (length-zeros k) zero-le (omega arith)

  pub zeroed_beyond : drop k (zeroed k a) ≡ drop k a
  zeroed_beyond = splice-after 0 k (zeros k) a (length-zeros k) zero-le k (omega arith)

pub zeroed-part : (E N : ℕ) (a : List ℕ) (i : ℕ) → 1 ≤ i → i ≤ N → part E (zeroed (N * E) a) i ≡ zeros E
unfolding part splice
zeroed-part E N a i low high =
    let l : (i - 1) * E + E ≤ N * E = fits (has E N (N * E) i (omega arith) low high) in
    read_front (zeros (N * E)) (drop (N * E) a) ((i - 1) * E) E (omega (arith, length-zeros (N * E))) ∙ zeros_inside ((i - 1) * E) E (N * E) l

-- ---- tables of a measure have its size

times_wide : (n : ℕ) (s t : List ℕ) → length (compose_times n s t) ≡ times_words n
unfolding compose_times arrivals departures
times_wide n s t = simp (length-append, length-rows)

links_wide : (n : ℕ) (s t : List ℕ) → length (compose n s t) ≡ n
unfolding compose
links_wide n s t = length-tab _ n

union_wide : (n : ℕ) (s t : List ℕ) → length (union n s t) ≡ n
unfolding union
union_wide n s t = length-tab _ n

common_wide : (n : ℕ) (s t : List ℕ) → length (intersection n s t) ≡ n
unfolding intersection
common_wide n s t = length-tab _ n

join_by : (four three two : Bool) (n : ℕ) (s t : List ℕ)
    → length (cond four (compose_times n s t) (cond three (compose n s t) (cond two (union n s t) (intersection n s t)))) ≡ cond four (times_words n) n
join_by true three two n s t = times_wide n s t
join_by false true two n s t = links_wide n s t
join_by false false true n s t = union_wide n s t
join_by false false false n s t = common_wide n s t

pub join_wide : (measure n : ℕ) (s t : List ℕ) → length (join_of measure n s t) ≡ size_of measure n
unfolding join_of size_of
join_wide measure n s t = join_by (eqb measure 4) (eqb measure 3) (eqb measure 2) n s t

own_times_wide : (n i : ℕ) (w : List ℕ) → length (own_times n i w) ≡ times_words n
unfolding own_times
own_times_wide n i w = simp (length-append, length-rows)

own_by : (four three : Bool) (n i : ℕ) (p w : List ℕ) → length p ≡ n → length w ≡ n
    → length (cond four (own_times n i p) (cond three p w)) ≡ cond four (times_words n) n
own_by true three n i p w e f = own_times_wide n i p
own_by false true n i p w e f = e
own_by false false n i p w e f = f

pub own_wide : (hops measure n i : ℕ) (w : List ℕ) → length w ≡ n → length (own_of hops measure n i w) ≡ size_of measure n
unfolding own_of size_of
own_wide hops measure n i w e = own_by (eqb measure 4) (eqb measure 3) n i (within n hops w) w (length-within n hops w) e

pub kit_wide : (measure n : ℕ) → Wide (kit measure n)
kit_wide measure n = join_wide measure n

-- ---- the steps of a walk

module _ (K : Kit) (N : ℕ) (a : List ℕ) (room : N * part_size K ≤ length a) where
  pub table_long : (i : ℕ) → 1 ≤ i → i ≤ N → length (table_at K a i) ≡ K.size
  table_long i low high = table_size K.size _ (length_part (part_size K) N a i room low high)

  module _ (d : ℕ) (low : 1 ≤ d) (high : d ≤ N) where
    -- the table t in part d
    module _ (t : List ℕ) (size : length t ≡ K.size) where
      pub table-length : length (put_table K a d t) ≡ length a
      table-length = put_length (part_size K) N a room d low high (stored K t) (stored-size K t size)

      pub table_same : table_at K (put_table K a d t) d ≡ t
      table_same = ap (table K.size) (put_same (part_size K) N a room d low high (stored K t) (stored-size K t size)) ∙ table-stored K t size

      pub table_other : (j : ℕ) → 1 ≤ j → j ≢ d → part (part_size K) (put_table K a d t) j ≡ part (part_size K) a j
      table_other = put_other (part_size K) N a room d low high (stored K t) (stored-size K t size)

      table-again : (u : List ℕ) → put_table K (put_table K a d t) d u ≡ put_table K a d u
      table-again u = put_again (part_size K) N a room d low high (stored K t) (stored-size K t size) (stored K u)

      pub table_beyond : drop (N * part_size K) (put_table K a d t) ≡ drop (N * part_size K) a
      table_beyond = put_beyond (part_size K) N a room d low high (stored K t) (stored-size K t size)

    module _ (wide : Wide K) (l r : ℕ) where
      pub compose-length : length (compose_at K a d l r) ≡ length a
      unfolding compose_at
      compose-length = table-length _ (wide _ _)

      pub compose-same : table_at K (compose_at K a d l r) d ≡ K.join (table_at K a l) (table_at K a r)
      unfolding compose_at
      compose-same = table_same _ (wide _ _)

      pub compose_other : (j : ℕ) → 1 ≤ j → j ≢ d → part (part_size K) (compose_at K a d l r) j ≡ part (part_size K) a j
      unfolding compose_at
      compose_other = table_other _ (wide _ _)

      pub compose_beyond : drop (N * part_size K) (compose_at K a d l r) ≡ drop (N * part_size K) a
      unfolding compose_at
      compose_beyond = table_beyond _ (wide _ _)

    module _ (l : ℕ) (llow : 1 ≤ l) (lhigh : l ≤ N) where
      pub copy_length : length (copy_at K a d l) ≡ length a
      unfolding copy_at
      copy_length = table-length _ (table_long l llow lhigh)

      pub copy_same : table_at K (copy_at K a d l) d ≡ table_at K a l
      unfolding copy_at
      copy_same = table_same _ (table_long l llow lhigh)

      pub copy_other : (j : ℕ) → 1 ≤ j → j ≢ d → part (part_size K) (copy_at K a d l) j ≡ part (part_size K) a j
      unfolding copy_at
      copy_other = table_other _ (table_long l llow lhigh)

      pub copy_beyond : drop (N * part_size K) (copy_at K a d l) ≡ drop (N * part_size K) a
      unfolding copy_at
      copy_beyond = table_beyond _ (table_long l llow lhigh)

      copy_again : (u : List ℕ) → put_table K (copy_at K a d l) d u ≡ put_table K a d u
      unfolding copy_at
      copy_again = table-again _ (table_long l llow lhigh)

      -- a table composed onto a copy
      pub compose_copied : (r : ℕ) → 1 ≤ r → r ≢ d → compose_at K (copy_at K a d l) d d r ≡ compose_at K a d l r
      unfolding compose_at
      compose_copied r rlow ne =
          ap₂ (λ (s t : List ℕ). put_table K (copy_at K a d l) d (K.join s t)) copy_same (ap (table K.size) (copy_other r rlow ne)) ∙ copy_again _

    -- `own_wide` says `size` of the kit of a measure
    module _ (w : List ℕ) (size : length (K.own d w) ≡ K.size) where
      pub own_length : length (own_at K a d w) ≡ length a
      unfolding own_at
      own_length = table-length _ size

      pub own_same : table_at K (own_at K a d w) d ≡ K.own d w
      unfolding own_at
      own_same = table_same _ size

      pub own_other : (j : ℕ) → 1 ≤ j → j ≢ d → part (part_size K) (own_at K a d w) j ≡ part (part_size K) a j
      unfolding own_at
      own_other = table_other _ size

      pub own_beyond : drop (N * part_size K) (own_at K a d w) ≡ drop (N * part_size K) a
      unfolding own_at
      own_beyond = table_beyond _ size

    pub zero_length : length (zero_at K a d) ≡ length a
    unfolding zero_at
    zero_length = put_length (part_size K) N a room d low high (zeros (part_size K)) (length-zeros (part_size K))

    pub zero_same : part (part_size K) (zero_at K a d) d ≡ zeros (part_size K)
    unfolding zero_at
    zero_same = put_same (part_size K) N a room d low high (zeros (part_size K)) (length-zeros (part_size K))

    pub zero_other : (j : ℕ) → 1 ≤ j → j ≢ d → part (part_size K) (zero_at K a d) j ≡ part (part_size K) a j
    unfolding zero_at
    zero_other = put_other (part_size K) N a room d low high (zeros (part_size K)) (length-zeros (part_size K))

    pub zero_beyond : drop (N * part_size K) (zero_at K a d) ≡ drop (N * part_size K) a
    unfolding zero_at
    zero_beyond = put_beyond (part_size K) N a room d low high (zeros (part_size K)) (length-zeros (part_size K))
