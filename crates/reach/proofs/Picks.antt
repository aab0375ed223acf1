-- The table of reach, pick by pick, and what a verdict says. Assumes nothing.
use mathlib.Core.Path.{◌≡◌, refl, sym, ap, ap₂, ◌∙◌}
use mathlib.Core.List.{List, [], ◌∷◌, ◌++◌}
use Prim.Native.Nat.{ℕ, suc, ◌+◌, ◌*◌, ◌/◌, ◌≤◌, ◌<◌}
use native.Mathlib.Nat.{le_refl}
use native.Mathlib.Numerals.{add-one}
use native.Mathlib.Omega.{arith}
use lib.Dec.{T}
use lib.ListN.{length, take}
use Rattle.model.proofs.Causes.{none_holds, between_says, in-range, holds_by, not_of_true}
use Rattle.links.specs.Tables.{compose, within}
use Rattle.links.specs.Composed.{composed_from, composed, reach}
use Rattle.links.specs.Picks.{lent_pick}
use Rattle.links.proofs.Chunks.{Behind, behind_all, behind_turn, behind_none}
use Rattle.checks.specs.Lent.{lent_picks, clean_picks}
use Rattle.checks.proofs.Lent.{length_lent}
use Rattle.verdicts.proofs.Verdicts.{true_of, not_short, long_enough, lent_sound, lent_none}
use Rattle.reach.specs.Tables.{table_causes, table_verdict}

from_snoc : (n h i : ℕ) (t : List ℕ) (ps : List (List ℕ)) (p : List ℕ)
    → composed_from (compose n) (λ i. within n h) i t (ps ++ (p ∷ [])) ≡ compose n (composed_from (compose n) (λ i. within n h) i t ps) (within n h p)
unfolding composed_from
from_snoc n h i t [] p = refl
from_snoc n h i t (q ∷ ps) p = from_snoc n h (suc i) (compose n t (within n h q)) ps p

-- one pick more
pub reach_snoc : (n h : ℕ) (r : List (List ℕ)) (p : List ℕ) → 1 ≤ length r → reach n h (r ++ (p ∷ [])) ≡ compose n (reach n h r) (within n h p)
unfolding reach composed
reach_snoc n h [] p l = absurd (omega arith)
reach_snoc n h (q ∷ r) p l = from_snoc n h 2 (within n h q) r p

-- the first pick
pub reach_first : (n h : ℕ) (w : List ℕ) → reach n h (lent_picks n w 1) ≡ within n h (lent_pick n w 0)
unfolding reach composed composed_from lent_picks
reach_first n h w = refl

-- what a table that is written relies on
pub record Tables (n m : ℕ) (w out : List ℕ) : Type 0 where
  pub some_boards : 2 ≤ n
  pub few : n ≤ 32
  pub words : length w ≡ m * n
  pub some_picks : 1 ≤ m
  pub cap : m ≤ 4096
  pub room : n ≤ length out
  pub clean : T (clean_picks n w m)

pub table_sound : (n : ℕ) (w out : List ℕ) → table_verdict n w out ≡ 0 → Tables n (length w / n) w out
unfolding table_verdict
table_sound n w out e =
    let s = (none_holds (table_causes n w out) tt).0 e in
    let t = s.1 in
    let l = lent_sound n w (t.0, (t.1.0, (t.1.1.0, tt))) in
    let b = between_says 2 n 32 (holds_by refl s.0) in
    record {
      some_boards = b.0;
      few = b.1;
      words = l.0;
      some_picks = l.1;
      cap = l.2;
      room = not_short (length out) n t.1.1.1.0;
      clean = true_of (clean_picks n w (length w / n)) t.1.1.1.1.0;
    }

-- the other way
pub tables_verdict : (n : ℕ) (w out : List ℕ) → Tables n (length w / n) w out → table_verdict n w out ≡ 0
unfolding table_verdict
tables_verdict n w out o =
    let l = lent_none n w o.words o.some_picks o.cap in
    (none_holds (table_causes n w out) tt).1 (
      in-range 2 n 32 o.some_boards o.few,
      (
        l.0,
        (
          l.1.0,
          (
            l.1.1.0,
            (
              long_enough (length out) n o.room,
              (not_of_true (clean_picks n w (length w / n)) o.clean, tt),
            ),
          ),
        ),
      ),
    )

-- ---- the loop over the picks after the first: the table of the first k, and the words of the others

pub record Reached (n h m : ℕ) (w : List ℕ) (k : ℕ) (rest out : List ℕ) : Type 0 where
  pub some : 1 ≤ k
  pub behind : Behind n m w k rest
  pub table : out ≡ reach n h (lent_picks n w k)

pub reached_first : {n h m : ℕ} {w rest rest' out : List ℕ} (p : List ℕ) → m * n ≤ length w → 1 ≤ n → rest ≡ take (m * n) w → rest ≡ p ++ rest'
    → length p ≡ n → out ≡ within (length p) h p → Reached n h m w 1 rest' out
reached_first {n} {h} {m} {w} p room some r e l c =
    let t = behind_turn room (behind_all n m w) some (sym r ∙ e) l in record {
      some = le_refl 1;
      behind = t.behind;
      table = rw l at c ∙ ap (within n h) t.pick ∙ sym (reach_first n h w);
    }

pub reached_turn : {n h m k : ℕ} {w rest out rest' out' : List ℕ} (p : List ℕ) → m * n ≤ length w → 1 ≤ n → Reached n h m w k rest out
    → rest ≡ p ++ rest' → length p ≡ n → out' ≡ compose (length p) out (within (length p) h p) → Reached n h m w (k + 1) rest' out'
unfolding lent_picks
reached_turn {n} {h} {m} {k} {w} p room some r e l c =
    let t = behind_turn room r.behind some e l in record {
      some = omega arith;
      behind = t.behind;
      table = rw l at c ∙ ap₂ (λ (x y : List ℕ). compose n x (within n h y)) r.table t.pick
          ∙ sym (reach_snoc n h (lent_picks n w k) (lent_pick n w k) (let s = r.some in omega (arith, length_lent n w k)))
          ∙ ap (λ (i : ℕ). reach n h (lent_picks n w i)) (sym (add-one k));
    }

pub reached_all : {n h m k : ℕ} {w rest out : List ℕ} → m * n ≤ length w → Reached n h m w k rest out → length rest < n
    → out ≡ reach n h (lent_picks n w m)
reached_all {n} {h} {m} {k} {w} room r short = rw (behind_none room r.behind short) at r.table
