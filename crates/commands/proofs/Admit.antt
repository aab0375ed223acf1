-- What is known of a command that was not refused. Assumes nothing.
use mathlib.Core.Path.{◌≡◌, refl, sym, ap, ◌∙◌}
use mathlib.Core.Bool.{Bool, true, false, not, true≢false}
use mathlib.Core.List.{List, [], ◌∷◌, ◌++◌}
use Prim.Native.Nat.{ℕ, ◌+◌, ◌*◌, ◌≤◌, ◌<◌}
use native.Mathlib.Omega.{arith}
use borrow.Author.Tests.{ltb-false, leb-false, eqb-false, lt-ltb}
use lib.Dec.{eqb, leb}
use lib.ListN.{length, get_or}
use Rattle.std.specs.Prelude.{Option, None, Some, Result, Ok, Err}
use Rattle.std.proofs.lemmas.Bool.{or_parts}
use Rattle.model.specs.declared.Board.{Board}
use Rattle.model.specs.declared.Refusal.{Refusal}
use Rattle.model.specs.declared.Refusal.TheVariants as cause
use Rattle.model.specs.Recording.{link}
use Rattle.model.specs.Causes.{between, NoneHolds, RefusalCauses, first_or, by_number}
use Rattle.model.proofs.Causes.{none_refused, holds_by, between_says}
use Rattle.commands.specs.declared.Command.{Command}
use Rattle.commands.specs.declared.Command.TheVariants.{Boards, Later}
use Rattle.commands.specs.declared.Item.{Item}
use Rattle.commands.specs.declared.Item.TheVariants.{Link, Pick, End}
use Rattle.commands.specs.Commands.{arity_of, misplaced, is_unknown, operands_of, unreadable, spelled_at, operands_in}
use Rattle.commands.specs.Causes.{no_link, unchanged, boards_causes, later_causes, boards_in, item_in, head_at, next}
use Rattle.commands.proofs.Table.{arity_law}

pub record Linkable (n a b : ℕ) : Type 0 where
  pub apart : a ≡ b → ⊥
  pub from : a < n
  pub to : b < n

pub linkable : (n a b : ℕ) → no_link n a b ≡ false → Linkable n a b
linkable n a b e =
    let p = or_parts (eqb a b) _ e in
    let q = or_parts (leb n a) (leb n b) p.1 in
    record { apart = eqb-false a b p.0; from = leb-false n a q.0; to = leb-false n b q.1 }

-- ---- a command that is taken

-- its byte is in the table and in its place, its operands are within the file, and of its own causes none holds
pub record Stood {A : Type 0} (own : Command → RefusalCauses) (part : Command → Result A Refusal) (Q : Result A Refusal → Type 0)
    (first : Bool) (bytes : List ℕ) (at : ℕ) : Type 0 where
  pub operands : ℕ
  pub arity : arity_of (get_or bytes at 0) ≡ Some operands
  pub placed : misplaced first (get_or bytes at 0) ≡ false
  pub within : at + 1 + operands ≤ length bytes
  pub fits : NoneHolds (by_number (own (spelled_at bytes at)))
  pub says : Q (part (spelled_at bytes at))

-- `Q` holds of no refusal
pub stood : {A : Type 0} (own : Command → RefusalCauses) (part : Command → Result A Refusal) (Q : Result A Refusal → Type 0)
    → ((r : Refusal) → Q (Err r) → ⊥) → (first : Bool) (bytes : List ℕ) (at : ℕ)
    → Q (first_or Err (unreadable first bytes at ++ own (spelled_at bytes at)) (part (spelled_at bytes at))) → Stood own part Q first bytes at
stood own part Q never first bytes at q =
    let p = none_refused Err Q never (unreadable first bytes at ++ own (spelled_at bytes at)) (part (spelled_at bytes at)) q in
    let n = p.0 in
    let m = misplaced first (get_or bytes at 0) in
    let w = arity_of (get_or bytes at 0) in
    let h = ltb-false (length bytes) (at + 1 + operands_of w) n.1.0 in
    let t = or_parts m (is_unknown w) (rw (lt-ltb at (length bytes) (omega arith)) at n.0) in
    by w refl t.0 t.1 h n.1.1 p.1
  where
    by : (w : Option ℕ) → arity_of (get_or bytes at 0) ≡ w → misplaced first (get_or bytes at 0) ≡ false → is_unknown w ≡ false
        → at + 1 + operands_of w ≤ length bytes
        → NoneHolds (by_number (own (spelled_at bytes at))) → Q (part (spelled_at bytes at)) → Stood own part Q first bytes at
    by (Some k) i m u h f q = record { operands = k; arity = i; placed = m; within = h; fits = f; says = q }
    by None i m u h f q = absurd (true≢false u)

-- as the command y, of which `part` takes x
pub record StoodAs {A : Type 0} (own : Command → RefusalCauses) (part : Command → Result A Refusal) (first : Bool) (bytes : List ℕ) (at : ℕ)
    (x : A) (y : Command) : Type 0 where
  pub stands : Stood own part (λ (z : Result A Refusal). z ≡ Ok x) first bytes at
  pub spelled : spelled_at bytes at ≡ y
  pub inside : at + 1 + operands_in y ≤ length bytes
  pub fits : NoneHolds (by_number (own y))

stood_as : {A : Type 0} (own : Command → RefusalCauses) (part : Command → Result A Refusal) (first : Bool) (bytes : List ℕ) (at : ℕ) (x : A)
    (y : Command) → ((z : Command) → part z ≡ Ok x → z ≡ y)
    → first_or Err (unreadable first bytes at ++ own (spelled_at bytes at)) (part (spelled_at bytes at)) ≡ Ok x → StoodAs own part first bytes at x y
stood_as {A} own part first bytes at x y only e =
    let s = stood own part (λ (z : Result A Refusal). z ≡ Ok x) (λ r i. cc) first bytes at e in
    let z : spelled_at bytes at ≡ y = only (spelled_at bytes at) s.says in
    let o : operands_in y ≡ s.operands =
    ap operands_in (sym z) ∙ arity_law (get_or bytes at 0) s.operands (get_or bytes (at + 1) 0) (get_or bytes (at + 2) 0) s.arity in
    record { stands = s; spelled = z; inside = rw o s.within; fits = rw z at s.fits }

only_later : (i : Item) (z : Command) → item_in z ≡ Ok i → z ≡ Later i
only_later i (Later j) e = let q : j ≡ i = cc in ap Later q
only_later i (Boards n) e = cc

only_boards : (n : ℕ) (z : Command) → boards_in z ≡ Ok n → z ≡ Boards n
only_boards n (Boards m) e = let q : m ≡ n = cc in ap Boards q
only_boards n (Later i) e = cc

module _ (bytes : List ℕ) (n limit at count : ℕ) (links : List ℕ) where
  pub record LinkAdmitted (a b : ℕ) (v : Bool) : Type 0 where
    pub able : no_link n a b ≡ false
    pub changes : unchanged v (link links a b) ≡ false

  taken : (i : Item) → next bytes n limit at count links ≡ Ok i → StoodAs (later_causes n limit count links) item_in false bytes at i (Later i)
  unfolding next
  taken i e = stood_as (later_causes n limit count links) item_in false bytes at i (Later i) (only_later i) e

  pub next-link : (a b : Board) (v : Bool) → next bytes n limit at count links ≡ Ok (Link a b v) → LinkAdmitted a.0 b.0 v
  next-link a b v e = let f = (taken (Link a b v) e).fits in record { able = f.0; changes = f.1.0 }

  pub next_pick : next bytes n limit at count links ≡ Ok Pick → count < limit
  next_pick e = leb-false limit count (taken Pick e).fits.0

  pub next_end : next bytes n limit at count links ≡ Ok End → at < length bytes
  next_end e = let h = (taken End e).inside in omega arith

-- what a first command that is taken says
pub record Headed (limit room : ℕ) (bytes : List ℕ) (start n : ℕ) : Type 0 where
  pub some : 1 ≤ limit
  pub few : limit ≤ 4096
  pub low : 2 ≤ n
  pub high : n ≤ 32
  pub room_for : limit * n ≤ room
  pub there : start + 2 ≤ length bytes
  pub stands : StoodAs (boards_causes limit room) boards_in true bytes start n (Boards n)

pub headed : (limit room : ℕ) (bytes : List ℕ) (start n : ℕ) → head_at limit room bytes start ≡ Ok n → Headed limit room bytes start n
unfolding head_at first_or
headed limit room bytes start n e =
    let (l, i) = none_refused Err (λ (z : Result ℕ Refusal). z ≡ Ok n) (λ r z. cc) ((not (between 1 limit 4096), cause.Picks) ∷ []) _ e in
    let s = stood_as (boards_causes limit room) boards_in true bytes start n (Boards n) (only_boards n) i in
    let b = between_says 1 limit 4096 (holds_by refl l.0) in
    let c = between_says 2 n 32 (holds_by refl s.fits.0) in
    record {
      some = b.0;
      few = b.1;
      low = c.0;
      high = c.1;
      room_for = ltb-false room (limit * n) s.fits.1.0;
      there = omega (arith, s.inside);
      stands = s;
    }
