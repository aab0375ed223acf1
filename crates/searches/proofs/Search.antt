-- The searches from board 0, on the words as they are found: what they find, and that from every board links lead to every other exactly when
-- they lead from board 0 to all and from all to board 0. Assumes nothing.
use mathlib.Core.Path.{◌≡◌, sym, ap, ◌∙◌, subst}
use mathlib.Core.Logic.{◌≢◌, ◌⊎◌, inl, inr, ⊎_elim}
use mathlib.Core.Bool.{Bool, false, true, ◌||◌, ◌&&◌, not}
use mathlib.Core.List.{List}
use Prim.Native.Nat.{ℕ, zero, suc, ◌+◌, ◌-◌, ◌/◌, ◌%◌, ◌^◌, ◌≤◌, ◌<◌}
use native.Mathlib.Nat.{add-zero, add-suc, not-suc-le-zero, le_of_suc-le-suc, eq-or-lt_of_le, lt_of_lt_of_le, le_of_lt, le_refl, le_trans}
use native.Mathlib.Numerals.{add-one}
use native.Mathlib.Omega.{arith}
use lib.Bits.{bit_and, bit_or}
use lib.Dec.{T, eqb, eqb→eq, eqb_refl}
use lib.ListN.{get_or}
use lib.Pow.{pow_pos, ones_lt}
use Rattle.model.specs.Recording.{bit, link}
use Rattle.model.specs.Journey.{most_links}
use borrow.Author.Tests.{ne_eqb as not_equal}
use Rattle.model.proofs.Logic.{tr, T→≡, bool_ext, or_l, or_r, or_cases, and_both, and_l, and_r, not_in, not_out, ne_eqb, eq_or, eq_refl}
use Rattle.model.proofs.Bits.{bit_zero, bit_suc, bit_high, bit-or, bit-and, bit-one}
use Rattle.model.proofs.Ones.{bit_low, all_in, all_out}
use Rattle.lists.specs.Tab.{kept}
use Rattle.lists.proofs.Tab.{every_in, every_out}
use Rattle.links.specs.Tables.{mark_of, without, within, pair_full, row_full, full}
use Rattle.links.proofs.Bits.{bit_kept, bit_left, without_less, bit_below, without_lt, below_pow}
use Rattle.links.proofs.Ways.{Way, one, more, snoc, Short, within_way, way_short, Led, onward}
use Rattle.searches.specs.Search.{collect, side_pair, side_full}

-- v is board 0, or links over boards below n lead from there to v, or with `back` from v to there
abbrev Found : Bool → ℕ → List ℕ → ℕ → Type 0
Found false n t v = (◌≡◌ {A = ℕ} 0 v) ⊎ Led t n 0 v
Found true n t v = (◌≡◌ {A = ℕ} 0 v) ⊎ ((v < n) × Led t n v 0)

-- ---- onward

from_next : {n w v : ℕ} {t : List ℕ} → w < n → Found false n t w → T (link t w v) → Found false n t v
from_next {v = v} {t = t} h (inl e) l = inr (1, one (subst (λ (x : ℕ). T (link t x v)) (sym e) l))
from_next h (inr p) l = inr (suc p.0, snoc p.1 h l)

-- ---- backward

-- a word that is not 0 has a bit
some_bit : (m x : ℕ) → x < 2 ^ m → x ≢ 0 → (v : ℕ) × T (bit x v)
some_bit zero x h ne = absurd (ne (omega arith))
some_bit (suc m) x h ne =
    ⊎_elim (λ (e : x % 2 ≡ 1). (0, tr (sym (bit_zero x)) (eq_refl e)))
    (λ (e : x % 2 ≢ 1). let q = some_bit m (x / 2) (omega arith) (λ z. ne (omega arith)) in (suc q.0, tr (sym (bit_suc x q.0)) q.1))
    (eq_or (x % 2) 1)

-- a row and s have a board in common
meets : ℕ → ℕ → Bool
meets row s = not (eqb (bit_and row s) 0)

meets_in : (row s v : ℕ) → T (bit row v) → T (bit s v) → T (meets row s)
unfolding meets
meets_in row s v a b =
    not_in (eqb (bit_and row s) 0) (λ m. tr (ap (λ (x : ℕ). bit x v) (eqb→eq (bit_and row s) 0 m) ∙ bit_high 0 v (pow_pos v))
    (tr (sym (bit-and row s v)) (and_both (bit row v) (bit s v) a b)))

meets_out : (row s : ℕ) → T (meets row s) → (v : ℕ) × T (bit row v) × T (bit s v)
unfolding meets
meets_out row s m =
    let q = some_bit (bit_and row s) (bit_and row s) (below_pow (bit_and row s)) (ne_eqb (bit_and row s) 0 m) in
    let b = tr (bit-and row s q.0) q.1 in
    (q.0, and_l (bit row q.0) (bit s q.0) b, and_r (bit row q.0) (bit s q.0) b)

collect-step : (t : List ℕ) (s k u : ℕ) → bit (collect t s (suc k)) u ≡ bit (collect t s k) u || (meets (get_or t k 0) s && eqb k u)
unfolding collect mark_of meets
collect-step t s k u =
    bit-or x (kept (meets row s) (2 ^ k)) u ∙ ap (λ (b : Bool). bit x u || b) (bit_kept (meets row s) (2 ^ k) u
    ∙ ap (λ (b : Bool). meets row s && b) (bit-one k u))
  where
    x : ℕ
    x = collect t s k

    row : ℕ
    row = get_or t k 0

collect_grow : (t : List ℕ) (s k u : ℕ) → T (bit s u) → T (bit (collect t s k) u)
unfolding collect
collect_grow t s zero u m = m
collect_grow t s (suc k) u m = tr (sym (collect-step t s k u)) (or_l (bit (collect t s k) u) (meets (get_or t k 0) s && eqb k u) (collect_grow t s k u m))

-- a link to a board of s is followed
collect-link : (t : List ℕ) (s n w v : ℕ) → w < n → T (link t w v) → T (bit s v) → T (bit (collect t s n) w)
unfolding link
collect-link t s zero w v h l m = absurd (not-suc-le-zero h)
collect-link t s (suc n) w v h l m =
    tr (sym (collect-step t s n w))
    (⊎_elim (λ (e : w ≡ n). or_r (bit x w) (meets (get_or t n 0) s && eqb n w) (and_both (meets (get_or t n 0) s) (eqb n w)
    (meets_in (get_or t n 0) s v (subst (λ (y : ℕ). T (bit (get_or t y 0) v)) e l) m) (eq_refl (sym e))))
    (λ (q : w < n). or_l (bit x w) (meets (get_or t n 0) s && eqb n w) (collect-link t s n w v q l m)) (eq-or-lt_of_le (le_of_suc-le-suc h)))
  where
    x : ℕ
    x = collect t s n

to_next : {n w v : ℕ} {t : List ℕ} → w < n → T (link t w v) → Found true n t v → Found true n t w
to_next {w = w} {t = t} h l (inl e) = inr (h, (1, one (subst (λ (x : ℕ). T (link t w x)) (sym e) l)))
to_next h l (inr p) = inr (h, (suc p.1.0, more l p.0 p.1.1))

collect_to : (n : ℕ) (t : List ℕ) (s k : ℕ) → k ≤ n → ((u : ℕ) → T (bit s u) → Found true n t u) → (u : ℕ)
    → T (bit (collect t s k) u) → Found true n t u
unfolding collect link
collect_to n t s zero h f u m = f u m
collect_to n t s (suc k) h f u m =
    ⊎_elim (collect_to n t s k (le_of_lt h) f u) (λ (b : T (meets row s && eqb k u)).
    let q = meets_out row s (and_l (meets row s) (eqb k u) b) in
    subst (Found true n t) (eqb→eq k u (and_r (meets row s) (eqb k u) b)) (to_next h q.1 (f q.0 q.2)))
    (or_cases (bit (collect t s k) u) (meets row s && eqb k u) (tr (collect-step t s k u) m))
  where
    row : ℕ
    row = get_or t k 0

-- ---- the searches: onward, or with `back` backward

-- c links over boards below n lead from board 0 to v, or with `back` from v to board 0
abbrev Away : Bool → ℕ → List ℕ → ℕ → ℕ → Type 0
Away false n t c v = Way t n c 0 v
Away true n t c v = Way t n c v 0

-- The invariant of a search: s has board 0, boards of `Found` alone, and those at most k links away.
pub record Seen (back : Bool) (n : ℕ) (t : List ℕ) (s k : ℕ) : Type 0 where
  first : T (bit s 0)
  sound : (v : ℕ) → T (bit s v) → Found back n t v
  far : (c v : ℕ) → v < n → c ≤ k → Away back n t c v → T (bit s v)

none : {t : List ℕ} {b c u v : ℕ} → Way t b c u v → c ≤ 0 → ⊥
none (one l) h = not-suc-le-zero h
none (more l k s) h = not-suc-le-zero h

zero-first : T (bit 1 0)
zero-first = tr (sym (bit-one 0 0)) (eqb_refl 0)

first_only : (v : ℕ) → T (bit 1 v) → ◌≡◌ {A = ℕ} 0 v
first_only v m = eqb→eq 0 v (tr (bit-one 0 v) m)

pub seen_start : (back : Bool) (n : ℕ) (t : List ℕ) → Seen back n t 1 0
seen_start false n t = record { first = zero-first; sound = λ v m. inl (first_only v m); far = λ c v h l p. absurd (none p l) }
seen_start true n t = record { first = zero-first; sound = λ v m. inl (first_only v m); far = λ c v h l p. absurd (none p l) }

-- a turn backward
pub seen_next : {n s k : ℕ} {t : List ℕ} → Seen true n t s k → Seen true n t (collect t s n) (k + 1)
seen_next {n} {s} {k} {t} m = record {
  first = collect_grow t s n 0 m.first;
  sound = collect_to n t s n (le_refl n) m.sound;
  far = λ c u h l p. let q : c ≤ suc k = omega arith in go h q p;
}
  where
    go : {c u : ℕ} → u < n → c ≤ suc k → Way t n c u 0 → T (bit (collect t s n) u)
    go {u = u} h q (one l) = collect-link t s n u 0 h l m.first
    go {u = u} h q (more {c = c} {w = w} l j p) = collect-link t s n u w h l (m.far c w j (le_of_suc-le-suc q) p)

-- a search that finds no more in a turn finds no more at all
pub seen_stays : {n s k : ℕ} {t : List ℕ} → collect t s n ≡ s → Seen true n t s k → (j : ℕ) → Seen true n t s (k + j)
seen_stays e m zero = rw add-zero m
seen_stays e m (suc j) = rw add-suc (rw (e, add-one) at (seen_next (seen_stays e m j)))

-- The invariant of the search onward: s has board 0, boards of `Found` alone, and the links of each board that is not in `rest`.
pub record Gone (n : ℕ) (t : List ℕ) (s rest : ℕ) : Type 0 where
  first : T (bit s 0)
  sound : (v : ℕ) → T (bit s v) → Found false n t v
  few : rest < 2 ^ n
  done : (w v : ℕ) → w < n → T (not (bit rest w)) → T (link t w v) → T (bit s v)

pub gone_start : (n : ℕ) (t : List ℕ) → Gone n t 1 (2 ^ n - 1)
gone_start n t = record {
  first = zero-first;
  sound = λ v m. inl (first_only v m);
  few = ones_lt n;
  done = λ w v h m l. absurd (not_out (bit (2 ^ n - 1) w) m (bit_low n w h));
}

-- a board of `rest` is below n
pub gone_below : {n s rest : ℕ} {t : List ℕ} (w : ℕ) → Gone n t s rest → T (bit (bit_and s rest) w) → w < n
gone_below {s = s} {rest = rest} w m b = bit_below rest m.few (and_r (bit s w) (bit rest w) (tr (bit-and s rest w) b))

-- the links of board w are followed
pub gone_next : {n s rest : ℕ} {t : List ℕ} (w : ℕ) → n ≤ 32 → Gone n t s rest → T (bit (bit_and s rest) w)
    → Gone n t (bit_or s (get_or t w 0)) (without rest w)
unfolding link
gone_next {n} {s} {rest} {t} w n32 m b = record {
  first = grow 0 m.first;
  sound = λ v k. ⊎_elim (m.sound v) (λ (l : T (bit (get_or t w 0) v)). from_next below (m.sound w both.0) l) (or_cases (bit s v) (bit (get_or t w 0) v)
      (tr (bit-or s (get_or t w 0) v) k));
  few = without_lt n rest w m.few;
  done = λ x v h k l. ⊎_elim (λ (e : w ≡ x). tr (sym (bit-or s (get_or t w 0) v)) (or_r (bit s v) (bit (get_or t w 0) v)
      (subst (λ (y : ℕ). T (bit (get_or t y 0) v)) (sym e) l)))
      (λ (ne : w ≢ x). grow v (m.done x v h (still x h ne k) l)) (eq_or w x);
}
  where
    both : T (bit s w) × T (bit rest w)
    both = let q = tr (bit-and s rest w) b in (and_l (bit s w) (bit rest w) q, and_r (bit s w) (bit rest w) q)

    below : w < n
    below = gone_below w m b

    grow : (v : ℕ) → T (bit s v) → T (bit (bit_or s (get_or t w 0)) v)
    grow v k = tr (sym (bit-or s (get_or t w 0) v)) (or_l (bit s v) (bit (get_or t w 0) v) k)

    still : (x : ℕ) → x < n → w ≢ x → T (not (bit (without rest w) x)) → T (not (bit rest x))
    still x h ne k = subst (λ (q : Bool). T (not q)) (bit_left rest w x (lt_of_lt_of_le below n32) (lt_of_lt_of_le h n32) ne) k

-- `rest` becomes less
pub gone_less : {n s rest : ℕ} {t : List ℕ} (w : ℕ) → n ≤ 32 → Gone n t s rest → T (bit (bit_and s rest) w) → without rest w < rest
gone_less {s = s} {rest = rest} w n32 m b =
    without_less rest w (lt_of_lt_of_le (gone_below w m b) n32) (and_r (bit s w) (bit rest w) (tr (bit-and s rest w) b))

-- what was found so far
pub gone_seen : {n s rest : ℕ} {t : List ℕ} → Gone n t s rest → Seen false n t s 0
gone_seen m = record { first = m.first; sound = m.sound; far = λ c v h l p. absurd (none p l) }

-- the links of all that it has are followed
pub gone_end : {n s rest : ℕ} {t : List ℕ} → Gone n t s rest → bit_and s rest ≡ 0 → Seen false n t s most_links
gone_end {n} {s} {rest} {t} m e = record { first = m.first; sound = m.sound; far = λ c v h l p. go (omega arith) m.first p }
  where
    left : (w : ℕ) → T (bit s w) → T (not (bit rest w))
    left w k = not_in (bit rest w) (λ r. tr (ap (λ (x : ℕ). bit x w) e
        ∙ bit_high 0 w (pow_pos w)) (tr (sym (bit-and s rest w)) (and_both (bit s w) (bit rest w) k r)))

    go : {c u v : ℕ} → u < n → T (bit s u) → Way t n c u v → T (bit s v)
    go {u = u} {v = v} h k (one l) = m.done u v h (left u k) l
    go {u = u} h k (more {w = w} l j p) = go j (m.done u w h (left u k) l) p

-- ---- what a search tells

-- a marked pair of the closure, as ways
pair_in : (n : ℕ) (t : List ℕ) (u v : ℕ) → n ≤ 32 → u < n → v < n → Led t n u v → T (pair_full (within n most_links t) u v)
unfolding pair_full
pair_in n t u v n32 hu hv p =
    ⊎_elim (λ (e : u ≡ v). or_l (eqb u v) (link (within n most_links t) u v) (eq_refl e))
    (λ (ne : u ≢ v). let hv32 = lt_of_lt_of_le hv n32 in or_r (eqb u v) (link (within n most_links t) u v)
    ((within_way n most_links t n32 u v hu hv32).1 (ne, way_short n32 hu hv32 ne p.1))) (eq_or u v)

pub pair_out : (n : ℕ) (t : List ℕ) (u v : ℕ) → n ≤ 32 → u < n → v < n → T (pair_full (within n most_links t) u v) → (u ≡ v) ⊎ Short n most_links t u v
unfolding pair_full
pair_out n t u v n32 hu hv m =
    ⊎_elim (λ (e : T (eqb u v)). inl (eqb→eq u v e))
    (λ (l : T (link (within n most_links t) u v)). inr ((within_way n most_links t n32 u v hu (lt_of_lt_of_le hv n32)).0 l).1)
    (or_cases (eqb u v) (link (within n most_links t) u v) m)

pair_same : (t : List ℕ) {u v : ℕ} → u ≡ v → T (pair_full t u v)
unfolding pair_full
pair_same t {u} {v} e = or_l (eqb u v) (link t u v) (eq_refl e)

-- what is found is marked
up : (back : Bool) (n : ℕ) (t : List ℕ) (v : ℕ) → n ≤ 32 → v < n → Found back n t v → T (side_pair back (within n most_links t) v)
up false n t v n32 h r = ⊎_elim (pair_same (within n most_links t)) (pair_in n t 0 v n32 (omega arith) h) r
up true n t v n32 h r =
    ⊎_elim (λ (e : ◌≡◌ {A = ℕ} 0 v). pair_same (within n most_links t) (sym e)) (λ (p : (v < n) × Led t n v 0). pair_in n t v 0 n32 h (omega arith) p.1) r

-- what is marked is board 0, or at most `most_links` away
down : (back : Bool) (n : ℕ) (t : List ℕ) (v : ℕ) → n ≤ 32 → v < n → T (side_pair back (within n most_links t) v)
    → (◌≡◌ {A = ℕ} 0 v) ⊎ ((c : ℕ) × (c ≤ most_links) × Away back n t c v)
down false n t v n32 h m = pair_out n t 0 v n32 (omega arith) h m
down true n t v n32 h m = ⊎_elim (λ (e : v ≡ 0). inl (sym e)) (λ (p : Short n most_links t v 0). inr p) (pair_out n t v 0 n32 h (omega arith) m)

module _ {back : Bool} {n s k : ℕ} {t : List ℕ} (n32 : n ≤ 32) (m : Seen back n t s k) where
  -- it has all boards
  pub seen_all : bit_and s (2 ^ n - 1) ≡ 2 ^ n - 1 → T (side_full back n (within n most_links t))
  unfolding side_full
  seen_all e = every_in (side_pair back (within n most_links t)) n (λ v h. up back n t v n32 h (m.sound v (all_out n s e v h)))

  -- it has all that there are
  pub seen_end : most_links ≤ k → eqb (bit_and s (2 ^ n - 1)) (2 ^ n - 1) ≡ side_full back n (within n most_links t)
  unfolding side_full
  seen_end l =
      bool_ext (eqb (bit_and s (2 ^ n - 1)) (2 ^ n - 1)) (side_full back n (within n most_links t))
      (λ e. seen_all (eqb→eq (bit_and s (2 ^ n - 1)) (2 ^ n - 1) e))
      (λ e. eq_refl (all_in n s (λ v h. ⊎_elim (λ (z : ◌≡◌ {A = ℕ} 0 v). subst (λ (x : ℕ). T (bit s x)) z m.first)
      (λ (q : (c : ℕ) × (c ≤ most_links) × Away back n t c v). m.far q.0 v h (le_trans q.1 l) q.2)
      (down back n t v n32 h (every_out (side_pair back (within n most_links t)) n e v h)))))

  pub seen_full : bit_and s (2 ^ n - 1) ≡ 2 ^ n - 1 → side_full back n (within n most_links t) ≡ true
  seen_full e = T→≡ (side_full back n (within n most_links t)) (seen_all e)

-- a turn that finds no more ends it
pub seen_stop : {n s k : ℕ} {t : List ℕ} → n ≤ 32 → Seen true n t s k → collect t s n ≡ s → (bit_and s (2 ^ n - 1) ≢ 2 ^ n - 1)
    → side_full true n (within n most_links t) ≡ false
seen_stop n32 m e ne =
    sym (seen_end n32 (seen_stays e m most_links) (omega arith)) ∙ not_equal _ _ ne

-- the same onward: it has all boards once the links of w are followed
pub gone_full : {n s rest : ℕ} {t : List ℕ} (w : ℕ) → n ≤ 32 → Gone n t s rest → T (bit (bit_and s rest) w)
    → bit_and (bit_or s (get_or t w 0)) (2 ^ n - 1) ≡ 2 ^ n - 1 → side_full false n (within n most_links t) ≡ true
gone_full w n32 m b e = seen_full n32 (gone_seen (gone_next w n32 m b)) e

pub gone_stop : {n s rest : ℕ} {t : List ℕ} → n ≤ 32 → Gone n t s rest → bit_and s rest ≡ 0
    → eqb (bit_and s (2 ^ n - 1)) (2 ^ n - 1) ≡ side_full false n (within n most_links t)
gone_stop n32 m e = seen_end n32 (gone_end m e) (le_refl most_links)

pub ruleset onward_turns = (gone_start, gone_below, gone_next, gone_less, gone_full, gone_stop)

pub ruleset backward_turns = (seen_start, seen_next, seen_full, seen_stop, seen_end)

-- THEOREM. Links lead from every board to every other exactly when they lead from board 0 to all and from all to board 0.
pub full_first : (n : ℕ) (t : List ℕ) → n ≤ 32
    → full n (within n most_links t) ≡ side_full false n (within n most_links t) && side_full true n (within n most_links t)
unfolding full row_full side_full
full_first n t n32 =
    bool_ext (full n c) (side_full false n c && side_full true n c)
    (λ m. and_both (side_full false n c) (side_full true n c)
    (every_in (side_pair false c) n (λ v h. every_out (pair_full c 0) n (every_out (row_full n c) n m 0 (omega arith)) v h))
    (every_in (side_pair true c) n (λ u h. every_out (pair_full c u) n (every_out (row_full n c) n m u h) 0 (omega arith))))
    (λ m. every_in (row_full n c) n (λ u hu. every_in (pair_full c u) n (λ v hv. both u v hu hv
    (every_out (side_pair true c) n (and_r (side_full false n c) (side_full true n c) m) u hu) (every_out (side_pair false c) n (and_l (side_full false n c)
    (side_full true n c) m) v hv))))
  where
    c : List ℕ
    c = within n most_links t

    both : (u v : ℕ) → u < n → v < n → T (pair_full c u 0) → T (pair_full c 0 v) → T (pair_full c u v)
    both u v hu hv a b =
        ⊎_elim (λ (e : u ≡ 0). subst (λ (x : ℕ). T (pair_full c x v)) (sym e) b)
        (λ (p : Short n most_links t u 0). ⊎_elim (λ (e : ◌≡◌ {A = ℕ} 0 v). subst (λ (x : ℕ). T (pair_full c u x)) e a)
        (λ (q : Short n most_links t 0 v). pair_in n t u v n32 hu hv (onward p.2 (omega arith) (q.0, q.2))) (pair_out n t 0 v n32 (omega arith) hv b))
        (pair_out n t u 0 n32 hu (omega arith) a)
