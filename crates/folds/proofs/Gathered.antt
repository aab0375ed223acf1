-- Folds: the loops that make them, and that a row with its fold is the composition. Assumes nothing.
use Rattle.std.proofs.Common.{◌≡◌, ℕ, zero, suc, ◌+◌, ◌-◌, ◌*◌, ◌^◌, ◌<◌, ◌≤◌, Bool, true, false, cond, not, ◌&&◌, ◌||◌, T, eqb, List, ◌++◌, length, get_or, take, drop, sym, refl, ap, ◌∙◌, subst, ap₂, ⊎_elim, le_refl, lt_of_lt_of_le, le_of_suc-le-suc, mul-le-mul_right, suc-mul, eq-or-lt_of_le, arith, get_or-take, ext_get_or, pow_pos, eq-eqb, ne_eqb, eqb-true}
use borrow.Author.Tests.{eqb-false}
use Rattle.model.proofs.Logic.{T→≡}
use Rattle.model.proofs.Bits.{bit_high}
use Rattle.links.specs.Tables.{without}
use Rattle.links.proofs.Bits.{without_lt, bit_left, bit_out, bit_below, without_less}
use Rattle.model.specs.Recording.{bit}
use Rattle.lists.specs.Tab.{tab, zeros, kept}
use lib.ListN.{get_or-append}
use Rattle.lists.proofs.Tab.{length-tab, get_or-tab, tab_ext, tab_zero}
use Rattle.times.specs.Times.{cell, rows, sooner, later, after, apart, arrive_by, arrival, arrivals, depart_by, departure, departures, compose_times}
use Rattle.times.proofs.Rows.{cell_lt, part_length, row_cell, row_lent, Rowed}
use Rattle.times.proofs.Cells.{length-rows, cell-rows}
use Rattle.sets.specs.Marks.{some_of, set_of}
use Rattle.folds.specs.Folds.{each, better, cross_by, crossed, gather, with_fold, fold_of, joined_row, transposed, column_set, Small, Shared}
use Rattle.sets.proofs.Bits.{some_none, bit-set, set_ext, set_lt}
use Rattle.folds.proofs.Better.{better_none, better_assoc, better_comm, better_self}

-- ---- the loops

-- rows below board w do not look at its bit
gather-same : (late : Bool) (n : ℕ) (t : List ℕ) (set w v k : ℕ) → w < 32 → k ≤ w
    → gather late n t (without set w) k v ≡ gather late n t set k v
unfolding gather
gather-same late n t set w v zero h l = refl
gather-same late n t set w v (suc k) h l =
    ap₂ (λ (x : ℕ) (b : Bool). better late x (kept b (cell n t k v))) (gather-same late n t set w v k h (omega arith))
    (bit_left set w k h (omega arith) (omega arith))

-- row w taken out of a set that has it
gather_out : (late : Bool) (n : ℕ) (t : List ℕ) (set w v k : ℕ) → w < k → k ≤ 32 → T (bit set w)
    → gather late n t set k v ≡ better late (cell n t w v) (gather late n t (without set w) k v)
unfolding gather
gather_out late n t set w v zero h l b = absurd (omega arith)
gather_out late n t set w v (suc k) h l b =
    ⊎_elim (λ (e : w ≡ k). subst (λ (i : ℕ). better late (gather late n t set i v) (kept (bit set i) (cell n t i v))
    ≡ better late (cell n t w v) (better late (gather late n t (without set w) i v) (kept (bit (without set w) i) (cell n t i v)))) e own)
    (λ (m : w < k). ap₂ (λ (x : ℕ) (c : Bool). better late x (kept c (cell n t k v))) (gather_out late n t set w v k m (omega arith) b)
    (sym (bit_left set w k (omega arith) (omega arith) (omega arith))) ∙ better_assoc late _ _ _)
    (eq-or-lt_of_le (le_of_suc-le-suc h))
  where
    own : better late (gather late n t set w v) (kept (bit set w) (cell n t w v))
        ≡ better late (cell n t w v) (better late (gather late n t (without set w) w v) (kept (bit (without set w) w) (cell n t w v)))
    own =
        rw (T→≡ (bit set w) b, bit_out set w (omega arith), gather-same late n t set w v w (omega arith) (le_refl w), better_none) (better_comm late _ _)

gather_empty : (late : Bool) (n : ℕ) (t : List ℕ) (v k : ℕ) → gather late n t 0 k v ≡ 0
unfolding gather
gather_empty late n t v zero = refl
gather_empty late n t v (suc k) = rw (gather_empty late n t v k, bit_high 0 k (pow_pos k)) (better_none late 0)

pub fold_empty : (late : Bool) (n : ℕ) (t : List ℕ) {set : ℕ} {xs : List ℕ} → set ≡ 0 → xs ≡ zeros n → xs ≡ tab (gather late n t set n) n
fold_empty late n t e q = q ∙ sym (tab_zero n) ∙ tab_ext _ _ n (λ v h. sym (rw e (gather_empty late n t v n)))

-- the first row, then the others
pub fold_first : (late : Bool) (n : ℕ) (t : List ℕ) (set w : ℕ) {left : ℕ} {row xs : List ℕ} → n ≤ 32 → w < n → T (bit set w)
    → left ≡ without set w
    → row ≡ tab (cell n t w) n → xs ≡ tab (with_fold late n t left row) n → xs ≡ tab (gather late n t set n) n
unfolding with_fold
fold_first late n t set w n32 h b l e q =
    q ∙ tab_ext _ _ n (λ v m. rw (l, e, get_or-tab (cell n t w) n v m) (sym (gather_out late n t set w v n h n32 b)))

-- The invariant of a loop that takes in the rows of a set: out, with those of `rest`, is row₀ with all.
pub record Folded (late : Bool) (n : ℕ) (t : List ℕ) (set : ℕ) (row₀ out : List ℕ) (rest : ℕ) : Type 0 where
  pub size : n ≡ length out
  pub small : rest < 2 ^ n
  pub made : (v : ℕ) → v < n → with_fold late n t rest out v ≡ with_fold late n t set row₀ v

module _ {late : Bool} {n : ℕ} {t : List ℕ} {set : ℕ} {row₀ out : List ℕ} {rest : ℕ} (m : Folded late n t set row₀ out rest) where
  pub folded_below : (w : ℕ) → T (bit rest w) → w < n
  folded_below w b = bit_below rest m.small b

  pub folded_less : (w : ℕ) → n ≤ 32 → T (bit rest w) → without rest w < rest
  folded_less w n32 b = without_less rest w (lt_of_lt_of_le (folded_below w b) n32) b

  pub folded_next : (w : ℕ) {row xs : List ℕ} {left : ℕ} → n ≤ 32 → T (bit rest w) → left ≡ without rest w
      → row ≡ tab (cell n t w) n → xs ≡ tab (each (better late) out row) (length out) → Folded late n t set row₀ xs left
  unfolding with_fold
  folded_next w {row} {xs} {left} n32 b l q e = record {
    size = m.size ∙ sym (ap length e ∙ length-tab _ _);
    small = subst (λ (x : ℕ). x < 2 ^ n) (sym l) (without_lt n rest w m.small);
    made = λ v h. rw (l, e, get_or-tab (each (better late) out row) (length out) v (rw (← m.size) h), q, get_or-tab (cell n t w) n v h)
        (better_assoc late _ _ _ ∙ ap (better late (get_or out v 0)) (sym (gather_out late n t rest w v n (folded_below w b) n32 b)) ∙ m.made v h);
  }

  pub folded_all : rest ≡ 0 → out ≡ tab (with_fold late n t set row₀) n
  unfolding with_fold
  folded_all e =
      ext_get_or 0 out (tab (with_fold late n t set row₀) n) (sym m.size ∙ sym (length-tab _ n))
      (λ v l. let h : v < n = omega (arith, m.size) in
      sym (better_none late _) ∙ ap (better late (get_or out v 0)) (sym (rw e (gather_empty late n t v n))) ∙ m.made v h
      ∙ sym (get_or-tab (with_fold late n t set row₀) n v h))

-- a row with its fold, as they are lent: s is the half, of which the rows from u on are as they were
pub joined_lent : (late : Bool) (n u : ℕ) (s f half : List ℕ) {row out : List ℕ} → u * n + n ≤ length s → drop (u * n) half ≡ drop (u * n) s
    → row ≡ tab (cell n f u) n
    → (let lent = take (u * n + n - u * n) (drop (u * n) half) in
    out ≡ tab (joined_row late (λ v. get_or lent v 0) (λ v. get_or row v 0) u) (length lent))
    → out ≡ tab (joined_row late (cell n s u) (cell n f u) u) n
joined_lent late n u s f half room e q p =
    p ∙ rw (e, ← part_length n (u * n) s room)
    (tab_ext _ _ n (λ v h. ap₂ (λ (x y : ℕ). apart u v (better late x y)) (row_cell n u s v h) (rw q (get_or-tab (cell n f u) n v h))))

-- ---- rows of folds

-- the fold of an earlier row with the same set
pub same_fold : (late : Bool) (n : ℕ) (t sets : List ℕ) (u : ℕ) (folds : List ℕ) (k : ℕ) → Shared late n t sets u folds → k < u
    → get_or sets k 0 ≡ get_or sets u 0
    → take (k * n + n - k * n) (drop (k * n) folds) ≡ tab (fold_of late n t sets u) n
same_fold late n t sets u folds k s h e =
    let b : k < n = omega (arith, s.below) in
    row_lent n k folds b s.room ∙ tab_ext _ _ n (λ v l. s.made k v h l ∙ ap (λ (x : ℕ). gather late n t x n v) e)

-- the folds below u are made
pub shared : (late : Bool) (n : ℕ) (t sets folds₀ folds : List ℕ) (u : ℕ) → n ≤ 32 → n ≤ length sets → n * n ≤ length t → n * n ≤ length folds
    → Small n sets → u < n → Rowed n (fold_of late n t sets) folds₀ folds u → Shared late n t sets u folds
shared late n t sets folds₀ folds u few words table room small below m = record {
  few = few;
  below = below;
  words = words;
  table = table;
  room = room;
  small = small.small u below;
  made = λ k v h l.
      rw m
      (get_or-append (rows n (fold_of late n t sets) u) (drop (u * n) folds₀) 0 (k * n + v)
      (omega (arith, length-rows n (fold_of late n t sets) u, mul-le-mul_right n h, suc-mul k n))
      ∙ cell-rows n (fold_of late n t sets) u k v h l);
}

-- ---- a row with its fold is the composition

module _ (late : Bool) (n : ℕ) (s t : List ℕ) (u v : ℕ) (hu : u < n) (hv : v < n) where
  abbrev set : ℕ
  set = set_of (cell n s u) n (some_of n t) u

  -- over the first k boards, as the definition goes
  over : ℕ → ℕ
  over zero = 0
  over (suc k) = better late (over k) (after (cell n s u k) (cell n t k v))

  cross_over : (k : ℕ) → cross_by late n s t k u v ≡ better late (better late (cell n s u v) (cell n t u v)) (over k)
  unfolding cross_by over
  cross_over zero = sym (better_none late _)
  cross_over (suc k) = ap (λ (x : ℕ). better late x (after (cell n s u k) (cell n t k v))) (cross_over k) ∙ better_assoc late _ _ _

  -- rows without a time do not matter
  kept_some : (x : Bool) (k : ℕ) → k < n → kept (x && bit (some_of n t) k) (cell n t k v) ≡ kept x (cell n t k v)
  kept_some x k h = by x (bit (some_of n t) k) refl
    where
      by : (x b : Bool) → bit (some_of n t) k ≡ b → kept (x && b) (cell n t k v) ≡ kept x (cell n t k v)
      by true true e = refl
      by true false e = sym (some_none n t k v h hv e)
      by false b e = refl

  -- what row k gives
  gives : (k : ℕ) → k < n → kept (bit set k) (cell n t k v) ≡ kept (not (eqb (cell n s u k) 0) || eqb u k) (cell n t k v)
  gives k h = ap (λ (b : Bool). kept b (cell n t k v)) (bit-set (cell n s u) n (some_of n t) u k h) ∙ kept_some (not (eqb (cell n s u k) 0) || eqb u k) k h

  gives_after : (k : ℕ) → k < n → eqb u k ≡ false → kept (bit set k) (cell n t k v) ≡ after (cell n s u k) (cell n t k v)
  unfolding after
  gives_after k h e = gives k h ∙ rw e (by (eqb (cell n s u k) 0))
    where
      by : (b : Bool) → kept (not b || false) (cell n t k v) ≡ cond b 0 (cell n t k v)
      by true = refl
      by false = refl

  gives_own : kept (bit set u) (cell n t u v) ≡ cell n t u v
  gives_own = gives u hu ∙ rw (eq-eqb u u refl) (by (not (eqb (cell n s u u) 0)))
    where
      by : (b : Bool) → kept (b || true) (cell n t u v) ≡ cell n t u v
      by true = refl
      by false = refl

  -- the row of u itself is taken in once or twice: that is the same
  own_twice : (x : ℕ) → better late x (cell n t u v) ≡ better late (cell n t u v) (better late x (after (cell n s u u) (cell n t u v)))
  unfolding after
  own_twice x = by (eqb (cell n s u u) 0)
    where
      by : (b : Bool) → better late x (cell n t u v) ≡ better late (cell n t u v) (better late x (cond b 0 (cell n t u v)))
      by true = better_comm late x _ ∙ ap (better late (cell n t u v)) (sym (better_none late x))
      by false =
          ap (better late x) (sym (better_self late _)) ∙ sym (better_assoc late x _ _)
          ∙ better_comm late (better late x (cell n t u v)) _

  -- before the row of u
  gather_before : (k : ℕ) → k ≤ u → gather late n t set k v ≡ over k
  unfolding gather over
  gather_before zero h = refl
  gather_before (suc k) h = ap₂ (better late) (gather_before k (omega arith)) (gives_after k (omega arith) (ne_eqb u k (omega arith)))

  -- from there on
  gather_from : (k : ℕ) → u < k → k ≤ n → gather late n t set k v ≡ better late (cell n t u v) (over k)
  unfolding gather over
  gather_from zero h l = absurd (omega arith)
  gather_from (suc k) h l =
      ⊎_elim (λ (e : u ≡ k). subst (λ (i : ℕ). better late (gather late n t set i v) (kept (bit set i) (cell n t i v))
      ≡ better late (cell n t u v) (better late (over i) (after (cell n s u i) (cell n t i v)))) e
      (ap₂ (better late) (gather_before u (le_refl u)) gives_own ∙ own_twice (over u)))
      (λ (m : u < k). ap₂ (better late) (gather_from k m (omega arith)) (gives_after k (omega arith) (ne_eqb u k (omega arith))) ∙ better_assoc late _ _ _)
      (eq-or-lt_of_le (le_of_suc-le-suc h))

  pub cross_gather : crossed late n s t u v ≡ apart u v (better late (cell n s u v) (gather late n t set n v))
  unfolding crossed
  cross_gather =
      ap (apart u v) (cross_over n ∙ better_assoc late _ _ _ ∙ ap (better late (cell n s u v)) (sym (gather_from n hu (le_refl n))))

rows_ext : (n : ℕ) (f g : ℕ → ℕ → ℕ) (k : ℕ) → ((u v : ℕ) → u < k → v < n → f u v ≡ g u v) → rows n f k ≡ rows n g k
unfolding rows
rows_ext n f g zero h = refl
rows_ext n f g (suc k) h =
    ap₂ (λ (a b : List ℕ). a ++ b) (rows_ext n f g k (λ u v l m. h u v (omega arith) m)) (tab_ext (f k) (g k) n (λ v m. h k v (omega arith) m))

-- all rows
pub crossed_rows : (late : Bool) (n : ℕ) (s t sets folds : List ℕ) → sets ≡ tab (λ u. set_of (cell n s u) n (some_of n t) u) n
    → folds ≡ rows n (fold_of late n t sets) n → rows n (λ u. joined_row late (cell n s u) (cell n folds u) u) n ≡ rows n (crossed late n s t) n
crossed_rows late n s t sets folds e f = rows_ext n _ _ n row
  where
    row : (u v : ℕ) → u < n → v < n → joined_row late (cell n s u) (cell n folds u) u v ≡ crossed late n s t u v
    row u v hu hv =
        let a : cell n folds u v ≡ fold_of late n t sets u v = rw f (cell-rows n (fold_of late n t sets) n u v hu hv) in
        let b : get_or sets u 0 ≡ set_of (cell n s u) n (some_of n t) u = rw e (get_or-tab (λ i. set_of (cell n s i) n (some_of n t) i) n u hu) in
        ap (λ (x : ℕ). apart u v (better late (cell n s u v) x)) (a ∙ ap (λ (x : ℕ). gather late n t x n v) b)
        ∙ sym (cross_gather late n s t u v hu hv)

-- ---- the two halves of a table

-- a word of the first half, as it is lent
first_cell : (n : ℕ) (s : List ℕ) (u v : ℕ) → u < n → v < n → cell n (take (n * n) s) u v ≡ cell n s u v
first_cell n s u v hu hv = get_or-take (n * n) s (u * n + v) 0 (cell_lt n hu hv)

cross_arrive : (n : ℕ) (s t : List ℕ) (k u v : ℕ) → k ≤ n → u < n → v < n
    → cross_by false n (take (n * n) s) t k u v ≡ arrive_by n s t k u v
unfolding cross_by arrive_by better
cross_arrive n s t zero u v h hu hv = ap (λ (x : ℕ). sooner x (cell n t u v)) (first_cell n s u v hu hv)
cross_arrive n s t (suc k) u v h hu hv =
    ap₂ (λ (x y : ℕ). sooner x (after y (cell n t k v))) (cross_arrive n s t k u v (omega arith) hu hv) (first_cell n s u k hu h)

pub crossed_arrivals : (n : ℕ) (s t : List ℕ) → rows n (crossed false n (take (n * n) s) t) n ≡ arrivals n s t
unfolding crossed arrivals arrival
crossed_arrivals n s t = rows_ext n _ _ n (λ u v hu hv. ap (apart u v) (cross_arrive n s t n u v (le_refl n) hu hv))

eqb_comm : (u v : ℕ) → eqb v u ≡ eqb u v
eqb_comm u v = by (eqb v u) refl
  where
    by : (b : Bool) → eqb v u ≡ b → b ≡ eqb u v
    by true e = sym (eq-eqb u v (sym (eqb-true v u e)))
    by false e = sym (ne_eqb u v (λ q. eqb-false v u e (sym q)))

apart_comm : (u v x : ℕ) → apart v u x ≡ apart u v x
unfolding apart
apart_comm u v x = ap (λ (b : Bool). cond b 0 x) (eqb_comm u v)

module _ (n : ℕ) (s t near far : List ℕ) (e : near ≡ rows n (transposed n t) n) (f : far ≡ rows n (transposed n s) n) where
  cross_depart : (k u v : ℕ) → k ≤ n → u < n → v < n → cross_by true n near far k v u ≡ depart_by n s t k u v
  unfolding cross_by depart_by better
  cross_depart zero u v h hu hv =
      ap₂ later (rw e (cell-rows n (transposed n t) n v u hv hu)) (rw f (cell-rows n (transposed n s) n v u hv hu))
      ∙ better_comm true (cell n t u v) (cell n s u v)
  cross_depart (suc k) u v h hu hv =
      ap₂ later (cross_depart k u v (omega arith) hu hv)
      (ap₂ after (rw e (cell-rows n (transposed n t) n v k hv h)) (rw f (cell-rows n (transposed n s) n k u h hu)))

  near_cell : (u v : ℕ) → u < n → v < n → cell n near u v ≡ cell n t v u
  near_cell u v hu hv = rw e (cell-rows n (transposed n t) n u v hu hv)

  crossed_apart : (u v : ℕ) → u < n → v < n → crossed true n near far v u ≡ apart u v (depart_by n s t n u v)
  unfolding crossed
  crossed_apart u v hu hv = apart_comm u v _ ∙ ap (apart u v) (cross_depart n u v (le_refl n) hu hv)

  -- the fold of column v, which is row v of the transposed table
  cross_column : (sets : List ℕ) → sets ≡ tab (column_set n t far) n
      → (u v : ℕ) → u < n → v < n → joined_row true (cell n t u) (λ i. fold_of true n far sets i u) u v ≡ departure n s t u v
  unfolding departure
  cross_column sets q u v hu hv =
      let a : get_or sets v 0 ≡ column_set n t far v = rw q (get_or-tab (column_set n t far) n v hv) in
      let d = a ∙ set_ext (λ w. cell n t w v) (cell n near v) n (some_of n far) v (λ w h. sym (near_cell v w hv h)) in
      sym (apart_comm u v _) ∙ ap₂ (λ (x y : ℕ). apart v u (better true x (gather true n far y n u))) (sym (near_cell v u hv hu)) d
      ∙ sym (cross_gather true n near far v u hv hu) ∙ crossed_apart u v hu hv

pub crossed_departures : (n : ℕ) (s t far sets folds back : List ℕ) → far ≡ rows n (transposed n s) n → sets ≡ tab (column_set n t far) n
    → folds ≡ rows n (fold_of true n far sets) n → back ≡ rows n (transposed n folds) n
    → rows n (λ u. joined_row true (cell n back u) (cell n t u) u) n ≡ departures n s t
unfolding departures
crossed_departures n s t far sets folds back f q g k =
    rows_ext n _ _ n (λ u v hu hv.
    let a : cell n back u v ≡ cell n folds v u = rw k (cell-rows n (transposed n folds) n u v hu hv) in
    let b : cell n folds v u ≡ fold_of true n far sets v u = rw g (cell-rows n (fold_of true n far sets) n v u hv hu) in
    ap (apart u v) (better_comm true (cell n back u v) (cell n t u v) ∙ ap (better true (cell n t u v)) (a ∙ b))
    ∙ cross_column n s t (rows n (transposed n t) n) far refl f sets q u v hu hv)

-- ---- the sets that are made

pub small_sets : (n : ℕ) (f : ℕ → ℕ → ℕ) (t sets : List ℕ) → sets ≡ tab (λ u. set_of (f u) n (some_of n t) u) n → Small n sets
small_sets n f t sets e =
    record { small = λ u h. subst (λ (x : ℕ). x < 2 ^ n) (sym (rw e (get_or-tab (λ i. set_of (f i) n (some_of n t) i) n u h))) (set_lt (f u) n t u) }

-- ---- both halves

pub composed : (n : ℕ) (s t a d : List ℕ) → a ≡ rows n (crossed false n (take (n * n) s) t) n → d ≡ departures n (drop (n * n) s) (drop (n * n) t)
    → a ++ d ≡ compose_times n s t
unfolding compose_times
composed n s t a d e f = ap₂ (λ (x y : List ℕ). x ++ y) (e ∙ crossed_arrivals n s t) f

pub ruleset first_rows = (bit_below, without_lt, fold_empty)
