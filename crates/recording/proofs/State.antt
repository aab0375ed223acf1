-- The reader's state and the acts read so far, one act after the other. Assumes nothing.
use mathlib.Core.Path.{◌≡◌, refl, sym, ap, ◌∙◌}
use mathlib.Core.Bool.{Bool, true, false, not, ◌&&◌, cond}
use mathlib.Core.List.{List, [], ◌∷◌}
use Prim.Native.Nat.{ℕ, ◌+◌, ◌≤◌}
use native.Mathlib.Omega.{arith}
use lib.Dec.{eqb}
use lib.ListN.{length, length-append}
use Rattle.model.specs.Recording.{link, Clean}
use Rattle.model.proofs.Logic.{F→≡}
use Rattle.lists.specs.Tab.{zeros}
use Rattle.links.proofs.Bits.{zeros_none, zeros-clean}
use Rattle.recording.specs.Grammar.{Act, sets, pick, is_open, befores, Follow}
use Rattle.recording.proofs.Bits.{clean_flip, link-flipped}
use Rattle.recording.proofs.Turn.{May, links_after, picks_after}

-- the links are as the acts have set them, and the picks are within the limit
pub record Now (n limit : ℕ) (earlier : List Act) (picks : List (List ℕ)) (links : List ℕ) : Type 0 where
  pub clean : Clean n links
  pub each : (u v : ℕ) → link links u v ≡ is_open earlier u v
  pub few : length picks ≤ limit

pub now_start : (n limit : ℕ) → Now n limit [] [] (zeros n)
unfolding is_open
now_start n limit = record { clean = zeros-clean n; each = λ u v. F→≡ (link (zeros n) u v) (zeros_none n u v); few = omega arith }

-- a link that is not so already is set
set_so : (t x y z : Bool) → y ≡ not x → cond t (not y) z ≡ cond t x z
set_so true true y z e = ap not e
set_so true false y z e = ap not e
set_so false x y z e = refl

module _ {n limit : ℕ} {earlier : List Act} {picks : List (List ℕ)} {links : List ℕ} (s : Now n limit earlier picks links) where
  pub now_on : (x : Act) → May n limit (length picks) links x → Now n limit (x ∷ earlier) (picks_after picks links x) (links_after links x)
  unfolding is_open
  now_on (sets x a b) m =
      record {
        clean = clean_flip n links a b s.clean m.0;
        each = λ u v. link-flipped links a b (omega (arith, s.clean.words.size, m.0.from)) u v
            ∙ set_so (eqb a u && eqb b v) x (link links a b) (link links u v) m.1
            ∙ ap (cond (eqb a u && eqb b v) x) (s.each u v);
        few = s.few;
      }
  now_on pick m = record { clean = s.clean; each = s.each; few = rw length-append (omega arith) }

  -- an act may follow just where the reader goes past it
  pub may_follow : (x : Act) (xs : List Act) → May n limit (length picks) links x → Follow n (x ∷ earlier) xs → Follow n earlier (x ∷ xs)
  unfolding Follow
  may_follow (sets x a b) xs m f =
      (record { apart = m.0.apart; from = m.0.from; to = m.0.to; changes = sym (s.each a b) ∙ m.1 }, f)
  may_follow pick xs m f = f

  pub follow_may : (x : Act) (xs : List Act) → Follow n earlier (x ∷ xs) → length picks + length (befores earlier (x ∷ xs)) ≤ limit
      → May n limit (length picks) links x × Follow n (x ∷ earlier) xs
  unfolding Follow befores
  follow_may (sets x a b) xs f h =
      ((record { apart = f.0.apart; from = f.0.from; to = f.0.to }, s.each a b ∙ f.0.changes), f.1)
  follow_may pick xs f h = (omega arith, f)

-- the picks so far and those to come are together as many
pub as_many : (picks : List (List ℕ)) (links : List ℕ) (earlier : List Act) (x : Act) (xs : List Act)
    → length (picks_after picks links x) + length (befores (x ∷ earlier) xs) ≡ length picks + length (befores earlier (x ∷ xs))
unfolding befores
as_many picks links earlier (sets x a b) xs = refl
as_many picks links earlier pick xs = rw length-append (omega arith)
