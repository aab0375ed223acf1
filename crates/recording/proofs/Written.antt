-- The invariant of the loop over the commands: what is left of the file, read from here, gives what the whole gives; and where it is written, the
-- words of the picks so far stand over the front of the output. Assumes nothing.
use mathlib.Core.Path.{◌≡◌, refl, sym, ap, ◌∙◌}
use mathlib.Core.Bool.{Bool, true, false, false≢true, cond}
use mathlib.Core.List.{List, [], ◌∷◌, ◌++◌, append-nil, append_assoc}
use Prim.Native.Nat.{ℕ, zero, suc, ◌+◌, ◌-◌, ◌*◌, ◌≤◌, ◌<◌, zero-le}
use native.Mathlib.Nat.{mul-le-mul_right, zero-mul}
use native.Mathlib.Omega.{arith}
use lib.ListN.{length, length-append}
use Rattle.lists.proofs.Splice.{splice-more, splice_none}
use Rattle.lists.specs.Tab.{splice}
use Rattle.commands.proofs.Admit.{linkable, next-link, next_pick}
use Rattle.commands.proofs.Fitted.{next_then, stopped_here}
use Rattle.model.specs.declared.Board.{Board}
use Rattle.model.specs.declared.Refusal.{Refusal}
use Rattle.model.specs.declared.Refusal.TheVariants as cause
use Rattle.model.specs.Causes.{first_or}
use Rattle.std.specs.Prelude.{Result, Ok, Err}
use Rattle.commands.specs.declared.Item.{Item}
use Rattle.commands.specs.declared.Item.TheVariants.{Link, Pick, End}
use Rattle.commands.specs.Causes.{next}
use Rattle.recording.specs.Format.{Content, refused, flipped, follow, commands, words, is_ended}
use Rattle.recording.specs.Answers.{GoneOver}

pub words_snoc : (ps : List (List ℕ)) (p : List ℕ) → words (ps ++ (p ∷ [])) ≡ words ps ++ p
unfolding words
words_snoc [] p = append-nil p
words_snoc (q ∷ ps) p = ap (λ (l : List ℕ). q ++ l) (words_snoc ps p) ∙ sym (append_assoc q (words ps) p)

-- a pick within the limit has room
pub has_room : (n : ℕ) {count limit room : ℕ} → count < limit → limit * n ≤ room → count * n + n ≤ room
has_room n {count} {limit} h l = omega (arith, mul-le-mul_right n h)

-- a pick put, or not where nothing is written
put_kept : (writes : Bool) (xs p out₀ out : List ℕ) (at : ℕ) → length xs ≡ at → out ≡ cond writes (splice 0 (length xs) xs out₀) out₀
    → cond writes (splice at (length p) p out) out ≡ cond writes (splice 0 (length (xs ++ p)) (xs ++ p) out₀) out₀
put_kept true xs p out₀ out at e f = rw (f, length-append) (splice-more 0 (length xs) xs out₀ refl zero-le at (length p) p (omega arith))
put_kept false xs p out₀ out at e f = f

pub nothing_kept : (writes : Bool) (out : List ℕ) → out ≡ cond writes (splice 0 0 [] out) out
nothing_kept true out = splice_none 0 out
nothing_kept false out = refl

-- what is written was found whole: a reading that ends in a refusal writes nothing
pub refused_over : (writes : Bool) (xs out₀ out : List ℕ) {whole : Content} {r : Refusal} → (writes ≡ true → is_ended whole ≡ true)
    → whole ≡ refused r
    → out ≡ cond writes xs out₀ → GoneOver writes whole out₀ (Err r) out
refused_over true xs out₀ out may e f = absurd (false≢true (rw e at (may refl)))
refused_over false xs out₀ out may e f = rw e record { says = refl; leaves = f }

-- the file has stopped
pub stopped : (bytes : List ℕ) (n limit turns at : ℕ) (picks : List (List ℕ)) (links : List ℕ) → length bytes ≤ at
    → commands bytes n limit turns at picks links ≡ refused cause.Stopped
unfolding commands first_or
stopped bytes n limit zero at picks links h = refl
stopped bytes n limit (suc turns) at picks links h = simp (next_then, stopped_here false bytes at h)

-- `whole` is what the reading from a place, after some picks and with these links, comes to; `out` is what the output `out₀` now holds
pub record Underway (bytes : List ℕ) (n limit : ℕ) (whole : Content) (writes : Bool) (out₀ : List ℕ) (at count : ℕ)
    (links out : List ℕ) : Type 0 where
  pub turns : ℕ
  pub picks : List (List ℕ)
  pub enough : length bytes ≤ at + turns
  pub counted : count ≡ length picks
  pub rest : commands bytes n limit turns at picks links ≡ whole
  pub long : length (words picks) ≡ count * n
  pub front : out ≡ cond writes (splice 0 (length (words picks)) (words picks) out₀) out₀

pub underway_start : (bytes : List ℕ) (n limit start : ℕ) (links : List ℕ) (writes : Bool) (out : List ℕ)
    → Underway bytes n limit (commands bytes n limit (length bytes) start [] links) writes out start 0 links out
unfolding words
underway_start bytes n limit start links writes out =
    record {
      turns = length bytes;
      picks = [];
      enough = omega arith;
      counted = refl;
      rest = refl;
      long = sym (zero-mul n);
      front = nothing_kept writes out;
    }

module _ {bytes : List ℕ} {n limit : ℕ} {whole : Content} {writes : Bool} {out₀ : List ℕ} {at count : ℕ} {links out : List ℕ}
    (a : Underway bytes n limit whole writes out₀ at count links out) where
  pub underway_stop : (writes ≡ true → is_ended whole ≡ true) → length bytes ≤ at → GoneOver writes whole out₀ (Err cause.Stopped) out
  underway_stop may h = refused_over writes _ out₀ out may (sym a.rest ∙ stopped bytes n limit a.turns at a.picks links h) a.front

  -- x is what `next` returned; the links are n words
  module _ {x : Result Item Refusal} (e : x ≡ next bytes (length links) limit at count links) (w : length links ≡ n) (h : at < length bytes) where
    next_is : x ≡ next bytes n limit at count links
    next_is = rw w at e

    -- one turn: the next command, followed
    turn : {y : Result Item Refusal} → x ≡ y → follow (commands bytes n limit (a.turns - 1)) n at a.picks links y ≡ whole
    unfolding commands
    turn q =
        let k : a.turns ≡ suc (a.turns - 1) = omega (arith, a.enough) in
        rw (sym q, next_is, a.counted) (rw k at a.rest)

    -- a command that is refused ends the reading
    pub underway_refused : {r : Refusal} → (writes ≡ true → is_ended whole ≡ true) → x ≡ Err r → GoneOver writes whole out₀ (Err r) out
    underway_refused may q = refused_over writes _ out₀ out may (sym (turn q)) a.front

    -- a link's operands are an index of the links and a shift
    pub underway_able : {f t : Board} {v : Bool} → x ≡ Ok (Link f t v) → n ≤ 32 → (f.0 < length links) × (t.0 < 32)
    underway_able {f} {t} {v} q b =
        let l = linkable n f.0 t.0 (next-link bytes n limit at count links f t v (sym next_is ∙ q)).able in
        (omega (arith, l.from), omega (arith, l.to))

    -- a pick is within the limit
    pub underway_within : x ≡ Ok Pick → count < limit
    underway_within q = next_pick bytes n limit at count links (sym next_is ∙ q)

    pub underway_link : {f t : Board} {v : Bool} → x ≡ Ok (Link f t v)
        → Underway bytes n limit whole writes out₀ (at + 3) count (flipped links f.0 t.0) out
    underway_link q =
        record {
          turns = a.turns - 1;
          picks = a.picks;
          enough = omega (arith, a.enough);
          counted = a.counted;
          rest = turn q;
          long = a.long;
          front = a.front;
        }

    pub underway_pick : x ≡ Ok Pick
        → Underway bytes n limit whole writes out₀ (at + 1) (count + 1) links
        (cond writes (splice (count * length links) (length links) links out) out)
    underway_pick q =
        record {
          turns = a.turns - 1;
          picks = a.picks ++ (links ∷ []);
          enough = omega (arith, a.enough);
          counted = ap (λ (k : ℕ). k + 1) a.counted ∙ sym (length-append a.picks (links ∷ []));
          rest = turn q;
          long = rw (words_snoc, length-append) (omega (arith, a.long));
          front = rw words_snoc (put_kept writes (words a.picks) links out₀ out (count * length links) (rw w a.long) a.front);
        }

    pub underway_end : x ≡ Ok End → GoneOver writes whole out₀ (Ok (record { reading = record { boards = length links; picks = count }; end = at + 1 })) out
    underway_end q = rw (sym (turn q)) record { says = rw (w, a.counted); leaves = a.front }
