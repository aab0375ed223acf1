-- The words of a pick and of the one before it, and a pass over the picks. Assumes nothing.
use mathlib.Core.Path.{◌≡◌, refl, sym, ap, ◌∙◌}
use mathlib.Core.Bool.{true}
use mathlib.Core.List.{List, [], ◌++◌}
use Prim.Native.Nat.{ℕ, zero, suc, ◌+◌, ◌*◌, ◌≤◌, ◌<◌}
use native.Mathlib.Nat.{le_refl}
use native.Mathlib.Numerals.{add-one}
use native.Mathlib.Omega.{arith}
use lib.ListN.{length, get_or, take}
use Rattle.std.proofs.lemmas.List.{take-replicate}
use Rattle.model.specs.Recording.{Clean, Recording}
use Rattle.model.proofs.Windows.{pick-at}
use Rattle.lists.specs.Tab.{zeros}
use Rattle.links.specs.Picks.{lent_pick}
use Rattle.links.proofs.Chunks.{Behind, behind_all, behind_turn, behind_none}
use Rattle.links.proofs.Bits.{zeros-clean}
use Rattle.model.proofs.Logic.{tr}
use Rattle.checks.specs.Lent.{lent_picks, clean_picks}
use Rattle.checks.proofs.Lent.{length_lent, lent-recording, lent_at}
use Rattle.saving.specs.declared.File.{File}
use Rattle.saving.specs.File.{links_at, pick_acts, acts_at}
use Rattle.saving.specs.Changes.{picks_of}

-- neither has a forbidden bit
pub before_clean : (n : ℕ) (picks : List (List ℕ)) → Recording n picks → (k : ℕ) → k ≤ length picks → Clean n (links_at n picks k)
before_clean n picks r zero h = zeros-clean n
before_clean n picks r (suc k) h = pick-at n picks r (suc k) (omega arith) h

pub pick_clean : (n : ℕ) (picks : List (List ℕ)) → Recording n picks → (k : ℕ) → k < length picks → Clean n (get_or picks k [])
pick_clean n picks r k h = pick-at n picks r (suc k) (omega arith) h

module _ (l : File) where
  pub this_pick : (k : ℕ) → k < l.lent.m → links_at l.lent.n (picks_of l) (suc k) ≡ lent_pick l.lent.n l.lent.words.now k
  this_pick k h = lent_at l.lent.n l.lent.words.now l.lent.m k h

  pub clean_before : (k : ℕ) → k < l.lent.m → Clean l.lent.n (links_at l.lent.n (picks_of l) k)
  clean_before zero h = zeros-clean l.lent.n
  clean_before (suc j) h = rw (this_pick j (omega arith)) (l.clean j (omega arith))

-- as the check of a lent sequence finds them
pub clean_lent : (n m : ℕ) (w : List ℕ) → m * n ≤ length w → true ≡ clean_picks n w m → (k : ℕ) → k < m → Clean n (lent_pick n w k)
clean_lent n m w room e k h =
    let r = lent-recording n w m room (tr e tt) m (le_refl m) in rw (lent_at n w m k h) at (pick_clean n (lent_picks n w m) r k (rw length_lent h))

-- ---- a pass over the picks: what is left of the words after k of them, and the links before the next one

pub record Passing (l : File) (k size : ℕ) (rest was : List ℕ) : Type 0 where
  pub wide : size ≡ l.lent.n
  pub behind : Behind l.lent.n l.lent.m l.lent.words.now k rest
  pub before : was ≡ links_at l.lent.n (picks_of l) k

pub passing_start : (l : File) {size : ℕ} {rest was : List ℕ} → size ≡ l.lent.n → rest ≡ take (l.lent.m * l.lent.n) l.lent.words.now
    → was ≡ take l.lent.n (zeros 32) → Passing l 0 size rest was
unfolding zeros
passing_start l e f g = record {
  wide = e;
  behind = rw f (behind_all l.lent.n l.lent.m l.lent.words.now);
  before = g ∙ take-replicate l.lent.n 32 0 l.boards.1;
}

module _ {l : File} {k size : ℕ} {rest was : List ℕ} (p : Passing l k size rest was) where
  -- the pick that comes next, and the change to it
  pub record NextPick (next : ℕ) (pick more : List ℕ) : Type 0 where
    pub inside : k < l.lent.m
    pub few : length was ≤ 32
    pub was_clean : Clean (length was) was
    pub is_clean : Clean (length was) pick
    pub acts : pick_acts (length was) was pick ≡ acts_at l.lent.n (picks_of l) k
    pub on : Passing l (k + 1) next more pick

  pub passing_turn : {next : ℕ} {pick more : List ℕ} → next ≡ size → rest ≡ pick ++ more → length pick ≡ size → NextPick next pick more
  unfolding acts_at
  passing_turn {next} {pick} {more} d e f =
      let t = behind_turn l.lent.room p.behind l.lent.some e (f ∙ p.wide) in
      let h = t.more in
      let b = clean_before l k h in
      let z : length was ≡ l.lent.n = ap length p.before ∙ b.words.size in
      let i : pick ≡ links_at l.lent.n (picks_of l) (suc k) = t.pick ∙ sym (this_pick l k h) in
      record {
        inside = h;
        few = rw z l.boards.1;
        was_clean = rw (z, p.before) b;
        is_clean = rw (z, t.pick) (l.clean k h);
        acts = rw (z, p.before, i) refl;
        on = record { wide = d ∙ p.wide; behind = t.behind; before = rw add-one i };
      }

  pub passing_all : length rest < size → k ≡ l.lent.m
  passing_all h = behind_none l.lent.room p.behind (rw p.wide at h)
