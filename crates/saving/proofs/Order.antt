-- The file of a recording is in the order of the request. Assumes nothing.
use mathlib.Core.Path.{◌≡◌, refl, sym, ◌∙◌}
use mathlib.Core.Bool.{Bool, true, false, cond, true≢false}
use mathlib.Core.Logic.{◌⊎◌, inl, inr, ⊎_elim}
use mathlib.Core.List.{List, [], ◌∷◌, ◌++◌}
use Prim.Native.Nat.{ℕ, zero, suc, ◌≤◌, ◌<◌}
use native.Mathlib.Nat.{le_refl}
use native.Mathlib.Omega.{arith}
use Rattle.model.specs.Recording.{link}
use Rattle.recording.specs.Grammar.{Act, sets, pick, is_open}
use Rattle.saving.specs.File.{each, becomes, link_acts, row_acts, table_acts, change_acts, pick_acts, acts_at}
use Rattle.saving.specs.Order.{Before, Ordered, last_of, Lasting}
use Rattle.saving.proofs.Follows.{after}

pub ordered_append : (e : Act) (xs ys : List Act) → Ordered e xs → Ordered (last_of e xs) ys → Ordered e (xs ++ ys)
unfolding Ordered last_of
ordered_append e [] ys h k = k
ordered_append e (x ∷ xs) ys h k = (h.0, ordered_append x xs ys h.1 k)

pub last_append : (e : Act) (xs ys : List Act) → last_of e (xs ++ ys) ≡ last_of (last_of e xs) ys
unfolding last_of
last_append e [] ys = refl
last_append e (x ∷ xs) ys = last_append x xs ys

-- ---- the commands of links, from the link from a to k on

-- any of them may stand behind the act l
abbrev Low : Bool → ℕ → ℕ → Act → Type 0
Low x a k l = (u v : ℕ) → (a < u) ⊎ ((a ≡ u) × (k ≤ v)) → Before l (sets x u v)

record Climbs (x : Bool) (e : Act) (xs : List Act) (a k : ℕ) : Type 0 where
  ordered : Ordered e xs
  low : Low x a k (last_of e xs)

climbs_none : {x : Bool} {e : Act} {a k : ℕ} → Low x a k e → Climbs x e [] a k
unfolding Ordered last_of
climbs_none h = record { ordered = tt; low = h }

climbs_on : {x : Bool} {e : Act} (xs ys : List Act) {a k c j : ℕ} → Climbs x e xs a k → Climbs x (last_of e xs) ys c j → Climbs x e (xs ++ ys) c j
climbs_on {x} {e} xs ys l m = record { ordered = ordered_append e xs ys l.ordered m.ordered; low = rw (last_append e xs ys) m.low }

module _ (x : Bool) (old new : List ℕ) (n : ℕ) where
  one : (a k : ℕ) (e : Act) → Low x a k e → Climbs x e (link_acts x old new a k) a (suc k)
  unfolding link_acts Ordered last_of
  one a k e h = by (becomes x (link old a k) (link new a k))
    where
      by : (y : Bool) → Climbs x e (cond y (sets x a k ∷ []) []) a (suc k)
      by true = record {
        ordered = (h a k (inr (refl, le_refl k)), tt);
        low = λ u v o. inr (refl, ⊎_elim (λ (l : a < u). inl l) (λ (q : (a ≡ u) × (suc k ≤ v)). inr q) o);
      }
      by false = climbs_none (λ u v o. h u v (⊎_elim (λ (l : a < u). inl l) (λ (q : (a ≡ u) × (suc k ≤ v)). let z = q.1 in inr (q.0, omega arith)) o))

  row : (a : ℕ) (e : Act) → Low x a 0 e → (k : ℕ) → Climbs x e (each (link_acts x old new a) k) a k
  unfolding each
  row a e h zero = climbs_none h
  row a e h (suc k) =
      let l = row a e h k in
      climbs_on (each (link_acts x old new a) k) (link_acts x old new a k) l (one a k (last_of e (each (link_acts x old new a) k)) l.low)

  rows : (e : Act) → Low x 0 0 e → (a : ℕ) → Climbs x e (each (row_acts x old new n) a) a 0
  unfolding each row_acts
  rows e h zero = climbs_none h
  rows e h (suc a) =
      let l = rows e h a in
      let r = row a (last_of e (each (row_acts x old new n) a)) l.low n in
      climbs_on (each (row_acts x old new n) a) (row_acts x old new n a) l
      record {
        ordered = r.ordered;
        low = λ u v o. r.low u v (inl (⊎_elim (λ (i : suc a < u). omega arith) (λ (q : (suc a ≡ u) × (0 ≤ v)). let z = q.0 in omega arith) o));
      }

-- what may stand before a link that shuts may stand before any that opens
open_low : (n : ℕ) (l : Act) → Low false n 0 l → Low true 0 0 l
open_low n pick h u v o = tt
open_low n (sets x a b) h u v o =
    ⊎_elim (λ (q : (x ≡ false) × (false ≡ true)). absurd (true≢false (sym q.1)))
    (λ (q : (x ≡ false) × ((a < suc n) ⊎ ((a ≡ suc n) × (b < 0)))). inl (q.0, refl)) (h (suc n) 0 (inl (omega arith)))

module _ (n : ℕ) (old new : List ℕ) where
  -- a pick's commands, behind a pick
  pick_ordered : Ordered pick (pick_acts n old new) × (last_of pick (pick_acts n old new) ≡ pick)
  unfolding pick_acts change_acts table_acts
  pick_ordered =
      let xs = table_acts false old new n in
      let ys = table_acts true old new n in
      let s = rows false old new n pick (λ u v o. tt) n in
      let o = rows true old new n (last_of pick xs) (open_low n (last_of pick xs) s.low) n in
      let b : Before (last_of (last_of pick xs) ys) pick = behind (last_of (last_of pick xs) ys) in (
        ordered_append pick (xs ++ ys) (pick ∷ []) (ordered_append pick xs ys s.ordered o.ordered)
            (unfold Ordered in (rw (last_append pick xs ys) b, tt)),
        last_append pick (xs ++ ys) (pick ∷ []) ∙ (unfold last_of in refl),
      )
    where
      behind : (l : Act) → Before l pick
      behind (sets x a b) = tt
      behind pick = tt

pub file_ordered : (n : ℕ) (picks : List (List ℕ)) (k : ℕ) → Ordered pick (each (acts_at n picks) k) × (last_of pick (each (acts_at n picks) k) ≡ pick)
unfolding each acts_at
file_ordered n picks zero = (unfold Ordered in tt, unfold last_of in refl)
file_ordered n picks (suc k) =
    let (o, l) = file_ordered n picks k in
    let (p, q) = pick_ordered n _ _ in
    let xs = each (acts_at n picks) k in
    (ordered_append pick xs (acts_at n picks k) o (rw l p), last_append pick xs (acts_at n picks k) ∙ rw l q)

-- ---- the links that are named

-- P holds of every link that is named, with what it is set to
unfoldable Named : (Bool → ℕ → ℕ → Type 0) → List Act → Type 0
Named P [] = Unit {0}
Named P (sets x a b ∷ xs) = P x a b × Named P xs
Named P (pick ∷ xs) = Named P xs

named_append : (P : Bool → ℕ → ℕ → Type 0) (xs ys : List Act) → Named P xs → Named P ys → Named P (xs ++ ys)
unfolding Named
named_append P [] ys h k = k
named_append P (sets x a b ∷ xs) ys h k = (h.0, named_append P xs ys h.1 k)
named_append P (pick ∷ xs) ys h k = named_append P xs ys h k

named_each : (P : Bool → ℕ → ℕ → Type 0) (f : ℕ → List Act) → ((k : ℕ) → Named P (f k)) → (m : ℕ) → Named P (each f m)
unfolding each
named_each P f h zero = unfold Named in tt
named_each P f h (suc m) = named_append P (each f m) (f m) (named_each P f h m) (h m)

module _ (n : ℕ) (old new : List ℕ) (g : ℕ → ℕ → Bool) (same : (a b : ℕ) → g a b ≡ link new a b) where
  abbrev SetSo : Bool → ℕ → ℕ → Type 0
  SetSo x a b = g a b ≡ x

  -- a link that shuts is shut afterwards, and one that opens is open
  changed_so : (x y z : Bool) → becomes x y z ≡ true → z ≡ x
  changed_so true true z h = absurd (true≢false (sym h))
  changed_so true false z h = h
  changed_so false true true h = sym h
  changed_so false true false h = refl
  changed_so false false z h = absurd (true≢false (sym h))

  named_link : (x : Bool) (a b : ℕ) → Named SetSo (link_acts x old new a b)
  unfolding link_acts Named
  named_link x a b = by (becomes x (link old a b) (link new a b)) refl
    where
      by : (y : Bool) → becomes x (link old a b) (link new a b) ≡ y → Named SetSo (cond y (sets x a b ∷ []) [])
      by true e = (same a b ∙ changed_so x (link old a b) (link new a b) e, tt)
      by false e = tt

  named_table : (x : Bool) → Named SetSo (table_acts x old new n)
  unfolding table_acts row_acts
  named_table x = named_each SetSo (row_acts x old new n) (λ a. named_each SetSo (link_acts x old new a) (named_link x a) n) n

  named_change : Named SetSo (change_acts n old new)
  unfolding change_acts
  named_change = named_append SetSo (table_acts false old new n) (table_acts true old new n) (named_table false) (named_table true)

-- behind a pick no link is named yet
pub left_pick : (w e : List Act) → Lasting w (pick ∷ e)
unfolding Lasting
left_pick w e = tt

left_after : (w e xs : List Act) → Named (λ x a b. is_open w a b ≡ x) xs → Lasting w e → Lasting w (after e xs)
unfolding Named Lasting
left_after w e [] h l = l
left_after w e (sets x a b ∷ xs) h l = left_after w (sets x a b ∷ e) xs h.1 (h.0, l)
left_after w e (pick ∷ xs) h l = left_after w (pick ∷ e) xs h tt

-- before its 50 each link that a pick's commands name is as they set it
pub change_left : (n : ℕ) (old new : List ℕ) (earlier : List Act)
    → ((u v : ℕ) → is_open (after earlier (change_acts n old new)) u v ≡ link new u v) → ((w : List Act) → Lasting w earlier)
    → Lasting (after earlier (change_acts n old new)) (after earlier (change_acts n old new))
change_left n old new earlier h l =
    let w = after earlier (change_acts n old new) in
    left_after w earlier (change_acts n old new) (named_change n old new (is_open w) h) (l w)
