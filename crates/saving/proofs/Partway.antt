-- The links while the commands of a pick are gone over: those passed are as they are to be, the others as they were. Assumes nothing.
use mathlib.Core.Path.{◌≡◌, refl, sym, ◌∙◌}
use mathlib.Core.Bool.{Bool, true, false, not, ◌&&◌, cond, true≢false}
use mathlib.Core.Logic.{◌⊎◌, inl, inr, ⊎_elim, ◌≢◌}
use mathlib.Core.List.{List, [], ◌∷◌, ◌++◌}
use Prim.Native.Nat.{ℕ, zero, suc, ◌≤◌, ◌<◌}
use native.Mathlib.Nat.{not-suc-le-zero, eq-or-lt_of_le, le_of_suc-le-suc}
use native.Mathlib.Omega.{arith}
use borrow.Author.Tests.{eq-eqb, ne_eqb}
use Rattle.model.specs.Recording.{link, Clean}
use Rattle.model.proofs.Logic.{F→≡, le_or_lt}
use Rattle.model.proofs.Links.{link_from, link_to}
use Rattle.recording.specs.Grammar.{Act, sets, is_open, befores, Follow}
use Rattle.saving.specs.File.{each, becomes, link_acts, row_acts, table_acts, change_acts}
use Rattle.saving.proofs.Follows.{after, after-append, follow-append, befores-append}

-- ---- the links h on the way from f to g, those before the link from a to k passed

record Partway (f g : ℕ → ℕ → Bool) (a k : ℕ) (h : ℕ → ℕ → Bool) : Type 0 where
  above : (u v : ℕ) → u < a → h u v ≡ g u v
  left : (v : ℕ) → v < k → h a v ≡ g a v
  right : (v : ℕ) → k ≤ v → h a v ≡ f a v
  below : (u v : ℕ) → a < u → h u v ≡ f u v

-- the link that an act names, and the others
set_here : (x : Bool) (e : List Act) (a b : ℕ) → is_open (sets x a b ∷ e) a b ≡ x
unfolding is_open
set_here x e a b = rw (eq-eqb a a refl, eq-eqb b b refl)

set_beside : (x : Bool) (e : List Act) (a b v : ℕ) → v ≢ b → is_open (sets x a b ∷ e) a v ≡ is_open e a v
unfolding is_open
set_beside x e a b v h = rw (eq-eqb a a refl, ne_eqb b v (λ q. h (sym q)))

set_apart : (x : Bool) (e : List Act) (a b u v : ℕ) → u ≢ a → is_open (sets x a b ∷ e) u v ≡ is_open e u v
unfolding is_open
set_apart x e a b u v h = rw (ne_eqb a u (λ q. h (sym q)))

module _ {f g : ℕ → ℕ → Bool} {a k : ℕ} where
  -- a link that stays
  part_stay : {h : ℕ → ℕ → Bool} → Partway f g a k h → f a k ≡ g a k → Partway f g a (suc k) h
  part_stay p e =
      record {
        above = p.above;
        left = λ v l. ⊎_elim (λ (q : v ≡ k). rw q (p.right k (omega arith) ∙ e)) (λ (i : v < k). p.left v i) (eq-or-lt_of_le (le_of_suc-le-suc l));
        right = λ v l. p.right v (omega arith);
        below = p.below;
      }

  -- a link that is set
  part-set : (e : List Act) (x : Bool) → Partway f g a k (is_open e) → g a k ≡ x → Partway f g a (suc k) (is_open (sets x a k ∷ e))
  part-set e x p q =
      record {
        above = λ u v l. set_apart x e a k u v (λ z. omega arith) ∙ p.above u v l;
        left = λ v l. ⊎_elim (λ (z : v ≡ k). rw z (set_here x e a k ∙ sym q))
            (λ (i : v < k). set_beside x e a k v (λ z. omega arith) ∙ p.left v i) (eq-or-lt_of_le (le_of_suc-le-suc l));
        right = λ v l. set_beside x e a k v (λ z. omega arith) ∙ p.right v (omega arith);
        below = λ u v l. set_apart x e a k u v (λ z. omega arith) ∙ p.below u v l;
      }

-- ---- commands that lead so far

record UpTo (n : ℕ) (e xs : List Act) (f g : ℕ → ℕ → Bool) (a k : ℕ) : Type 0 where
  follow : Follow n e xs
  part : Partway f g a k (is_open (after e xs))
  -- no pick is among them
  none : befores e xs ≡ []

up_to_none : (n : ℕ) {e : List Act} {f g : ℕ → ℕ → Bool} {a k : ℕ} → Partway f g a k (is_open e) → UpTo n e [] f g a k
unfolding Follow befores
up_to_none n p = record { follow = tt; part = p; none = refl }

up_to_on : (n : ℕ) {e : List Act} (xs ys : List Act) {f g : ℕ → ℕ → Bool} {a k c j : ℕ} → UpTo n e xs f g a k → UpTo n (after e xs) ys f g c j
    → UpTo n e (xs ++ ys) f g c j
up_to_on n {e} xs ys l m =
    record {
      follow = follow-append n e xs ys l.follow m.follow;
      part = rw (after-append e xs ys) m.part;
      none = befores-append e xs ys ∙ rw (l.none, m.none);
    }

-- the links that change so are those in which f and g differ; beyond n boards they are alike
record Differ (x : Bool) (old new : List ℕ) (n : ℕ) (f g : ℕ → ℕ → Bool) : Type 0 where
  apart : (a b : ℕ) → becomes x (link old a b) (link new a b) ≡ true → a ≢ b
  before : (a b : ℕ) → becomes x (link old a b) (link new a b) ≡ true → f a b ≡ not x
  behind : (a b : ℕ) → becomes x (link old a b) (link new a b) ≡ true → g a b ≡ x
  stays : (a b : ℕ) → becomes x (link old a b) (link new a b) ≡ false → f a b ≡ g a b
  beyond : (a b : ℕ) → (n ≤ a) ⊎ (n ≤ b) → f a b ≡ g a b

module _ {x : Bool} {old new : List ℕ} {n : ℕ} {f g : ℕ → ℕ → Bool} (t : Differ x old new n f g) where
  one : (a k : ℕ) (e : List Act) → a < n → k < n → Partway f g a k (is_open e) → UpTo n e (link_acts x old new a k) f g a (suc k)
  unfolding link_acts
  one a k e h i p = by (becomes x (link old a k) (link new a k)) refl
    where
      by : (y : Bool) → becomes x (link old a k) (link new a k) ≡ y → UpTo n e (cond y (sets x a k ∷ []) []) f g a (suc k)
      by true q =
          record {
            follow = unfold Follow in
                (record { apart = t.apart a k q; from = h; to = i; changes = p.right k (omega arith) ∙ t.before a k q }, tt);
            part = part-set e x p (t.behind a k q);
            none = unfold befores in refl;
          }
      by false q = up_to_none n (part_stay p (t.stays a k q))

  row : (a : ℕ) (e : List Act) → a < n → Partway f g a 0 (is_open e) → (k : ℕ) → k ≤ n → UpTo n e (each (link_acts x old new a) k) f g a k
  unfolding each
  row a e h p zero i = up_to_none n p
  row a e h p (suc k) i =
      let l = row a e h p k (omega arith) in
      up_to_on n (each (link_acts x old new a) k) (link_acts x old new a k) l (one a k (after e (each (link_acts x old new a) k)) h i l.part)

  part_row : {a : ℕ} {h : ℕ → ℕ → Bool} → Partway f g a n h → Partway f g (suc a) 0 h
  part_row {a} {h} p =
      record {
        above = λ u v l. ⊎_elim (λ (q : u ≡ a). rw q (whole v)) (λ (i : u < a). p.above u v i) (eq-or-lt_of_le (le_of_suc-le-suc l));
        left = λ v l. absurd (not-suc-le-zero l);
        right = λ v l. p.below (suc a) v (omega arith);
        below = λ u v l. p.below u v (omega arith);
      }
    where
      whole : (v : ℕ) → h a v ≡ g a v
      whole v = ⊎_elim (λ (i : n ≤ v). p.right v i ∙ t.beyond a v (inr i)) (λ (i : v < n). p.left v i) (le_or_lt n v)

  rows : (e : List Act) → Partway f g 0 0 (is_open e) → (a : ℕ) → a ≤ n → UpTo n e (each (row_acts x old new n) a) f g a 0
  unfolding each row_acts
  rows e p zero h = up_to_none n p
  rows e p (suc a) h =
      let l = rows e p a (omega arith) in
      let r = row a (after e (each (row_acts x old new n) a)) h l.part n (omega arith) in
      up_to_on n (each (row_acts x old new n) a) (row_acts x old new n a) l
      record { follow = r.follow; part = part_row r.part; none = r.none }

-- ---- commands that lead from one set of links to another

pub record LeadsTo (n : ℕ) (e xs : List Act) (g : ℕ → ℕ → Bool) : Type 0 where
  pub follow : Follow n e xs
  pub links : (u v : ℕ) → is_open (after e xs) u v ≡ g u v
  pub none : befores e xs ≡ []

module _ {x : Bool} {old new : List ℕ} {n : ℕ} {f g : ℕ → ℕ → Bool} (t : Differ x old new n f g) where
  table : (e : List Act) → ((u v : ℕ) → is_open e u v ≡ f u v) → LeadsTo n e (table_acts x old new n) g
  unfolding table_acts
  table e h =
      let p : Partway f g 0 0 (is_open e) =
      record { above = λ u v l. absurd (not-suc-le-zero l); left = λ v l. absurd (not-suc-le-zero l); right = λ v l. h 0 v; below = λ u v l. h u v } in
      let l = rows t e p n (omega arith) in
      record { follow = l.follow; links = λ u v. by l.part u v (le_or_lt n u); none = l.none }
    where
      by : {h : ℕ → ℕ → Bool} → Partway f g n 0 h → (u v : ℕ) → (n ≤ u) ⊎ (u < n) → h u v ≡ g u v
      by p u v (inr i) = p.above u v i
      by p u v (inl i) =
          ⊎_elim (λ (q : n ≡ u). rw (sym q) (p.right v (omega arith))) (λ (j : n < u). p.below u v j) (eq-or-lt_of_le i) ∙ t.beyond u v (inl i)

-- ---- the two groups of a pick

-- a link that stays open while others shut
abbrev both : List ℕ → List ℕ → ℕ → ℕ → Bool
both old new a b = link old a b && link new a b

-- no link leads from or to a board that is not there
far : {n : ℕ} (w : List ℕ) → Clean n w → (a b : ℕ) → (n ≤ a) ⊎ (n ≤ b) → link w a b ≡ false
far {n} w c a b o =
    F→≡ (link w a b) (λ h.
    let i = link_from n w c.words a b h in
    let j = link_to n w c.words a b h in
    ⊎_elim (λ (l : n ≤ a). omega arith) (λ (l : n ≤ b). omega arith) o)

module _ (n : ℕ) (old new : List ℕ) (c : Clean n old) (d : Clean n new) where
  own : (x : Bool) (a b : ℕ) → becomes x (link old a b) (link new a b) ≡ true → a ≢ b
  own x a b h e = no x (link old a b) (link new a b) (shut old c) (shut new d) h
    where
      shut : (w : List ℕ) → Clean n w → link w a b ≡ false
      shut w c = rw (sym e) (F→≡ (link w a a) (c.loopless a))

      no : (x y z : Bool) → y ≡ false → z ≡ false → becomes x y z ≡ true → ⊥
      no true true z p q h = true≢false p
      no true false z p q h = true≢false (sym h ∙ q)
      no false true z p q h = true≢false p
      no false false z p q h = true≢false (sym h)

  shuts : Differ false old new n (link old) (both old new)
  shuts =
      record {
        apart = own false;
        before = λ a b. by (link old a b) (link new a b);
        behind = λ a b. on (link old a b) (link new a b);
        stays = λ a b. no (link old a b) (link new a b);
        beyond = λ a b o. rw (far old c a b o);
      }
    where
      by : (x y : Bool) → becomes false x y ≡ true → x ≡ true
      by true y h = refl
      by false y h = h

      on : (x y : Bool) → becomes false x y ≡ true → x && y ≡ false
      on true true h = sym h
      on true false h = refl
      on false y h = refl

      no : (x y : Bool) → becomes false x y ≡ false → x ≡ x && y
      no true true h = refl
      no true false h = h
      no false y h = refl

  opens : Differ true old new n (both old new) (link new)
  opens =
      record {
        apart = own true;
        before = λ a b. by (link old a b) (link new a b);
        behind = λ a b. on (link old a b) (link new a b);
        stays = λ a b. no (link old a b) (link new a b);
        beyond = λ a b o. rw (far old c a b o, far new d a b o);
      }
    where
      by : (x y : Bool) → becomes true x y ≡ true → x && y ≡ false
      by true y h = absurd (true≢false (sym h))
      by false y h = refl

      on : (x y : Bool) → becomes true x y ≡ true → y ≡ true
      on true y h = absurd (true≢false (sym h))
      on false y h = h

      no : (x y : Bool) → becomes true x y ≡ false → x && y ≡ y
      no true y h = refl
      no false y h = sym h

  -- the changes of a pick lead from the links of the pick before to its own
  pub change : (e : List Act) → ((u v : ℕ) → is_open e u v ≡ link old u v) → LeadsTo n e (change_acts n old new) (link new)
  unfolding change_acts
  change e h =
      let xs = table_acts false old new n in
      let ys = table_acts true old new n in
      let s = table shuts e h in
      let o = table opens (after e xs) s.links in
      record {
        follow = follow-append n e xs ys s.follow o.follow;
        links = rw (after-append e xs ys) o.links;
        none = befores-append e xs ys ∙ rw (s.none, o.none);
      }
