-- The loop over the links of one board that are still to be written. Assumes nothing.
use mathlib.Core.Path.{◌≡◌, sym, ap, ◌∙◌}
use mathlib.Core.Bool.{Bool, true, false, not}
use mathlib.Core.Logic.{⊎_elim}
use mathlib.Core.List.{List, [], ◌∷◌}
use Prim.Native.Nat.{ℕ, ◌+◌, ◌-◌, ◌^◌, ◌≤◌, ◌<◌}
use native.Mathlib.Nat.{not-suc-le-zero, eq-or-lt_of_le, le_refl}
use native.Mathlib.Omega.{arith}
use lib.Dec.{T}
use lib.ListN.{length, get_or}
use lib.Pow.{pow_pos}
use Rattle.model.specs.Recording.{bit, link, Clean}
use Rattle.model.proofs.Logic.{tr, T→≡, and_l, and_r, le_or_lt}
use Rattle.model.proofs.Bits.{bit_high, bit-and}
use Rattle.model.proofs.Links.{link_to}
use Rattle.links.specs.Tables.{without}
use Rattle.links.proofs.Bits.{bit_left, bit_out}
use Rattle.recording.specs.Grammar.{sets}
use Rattle.saving.specs.File.{becomes, link_acts, row_acts}
use Rattle.saving.specs.Puts.{bytes_of, Puts, Changed}
use Rattle.saving.proofs.Put.{Wrote, wrote_start, wrote_room, wrote_turn, wrote_on, wrote_all}

-- a bit that is set where another is cleared was set before
without_in : (x w v : ℕ) → T (bit (without x w) v) → T (bit x v)
unfolding without
without_in x w v t = and_l (bit x v) (bit (2 ^ 32 - 1 - 2 ^ w) v) (tr (bit-and x (2 ^ 32 - 1 - 2 ^ w) v) t)

-- a link that changes goes to a board below n
becomes_below : (x : Bool) (n : ℕ) {old new : List ℕ} (a b : ℕ) → Clean n old → Clean n new → T (becomes x (link old a b) (link new a b)) → b < n
becomes_below true n {old} {new} a b p q t = link_to n new q.words a b (and_r (not (link old a b)) (link new a b) t)
becomes_below false n {old} {new} a b p q t = link_to n old p.words a b (and_l (link old a b) (not (link new a b)) t)

-- The invariant: the links below k are passed, and `rest` has those of the others that change.
pub record Passed (x : Bool) (old new : List ℕ) (n a at : ℕ) (out₀ out : List ℕ) (next rest : ℕ) : Type 0 where
  k : ℕ
  wrote : Wrote (link_acts x old new a) n at out₀ out next k
  inside : (b : ℕ) → T (bit rest b) → b < n
  below : (b : ℕ) → b < k → bit rest b ≡ false
  onward : (b : ℕ) → k ≤ b → b < n → bit rest b ≡ becomes x (link old a b) (link new a b)

pub passed_start : {x : Bool} {old new : List ℕ} {n a at : ℕ} {out₀ : List ℕ} {rest : ℕ} → Clean n old → Clean n new
    → at + length (bytes_of (row_acts x old new n a)) ≤ length out₀ → Changed x (get_or old a 0) (get_or new a 0) rest
    → Passed x old new n a at out₀ out₀ at rest
unfolding row_acts link
passed_start {x} {old} {new} {n} {a} p q h e = record {
  k = 0;
  wrote = wrote_start h;
  inside = λ b t. becomes_below x n a b p q (tr (e b) t);
  below = λ b l. absurd (not-suc-le-zero l);
  onward = λ b l m. e b;
}

module _ {x : Bool} {old new : List ℕ} {n a at : ℕ} {out₀ out : List ℕ} {next rest : ℕ} (p : Passed x old new n a at out₀ out next rest) where
  -- no command up to j, where `rest` has no bit below j
  reached : (j : ℕ) → p.k ≤ j → j ≤ n → ((b : ℕ) → b < j → bit rest b ≡ false) → Wrote (link_acts x old new a) n at out₀ out next j
  unfolding link_acts
  reached j l h z = wrote_on j l h (λ i s t. rw (sym (p.onward i s (omega arith)) ∙ z i t)) p.wrote

  pub passed_all : rest ≡ 0 → Puts out₀ out at next (row_acts x old new n a)
  unfolding row_acts
  passed_all e = wrote_all (reached n p.wrote.low (le_refl n) (λ b l. ap (λ (w : ℕ). bit w b) e ∙ bit_high 0 b (pow_pos b))) (le_refl n)

  -- the first board of `rest`
  module _ (b : ℕ) (t : T (bit rest b)) (z : (i : ℕ) → i < b → bit rest i ≡ false) where
    -- it is not passed, so the commands before it are put
    k_le : p.k ≤ b
    k_le = ⊎_elim (λ (l : p.k ≤ b). l) (λ (l : b < p.k). absurd (tr (p.below b l) t)) (le_or_lt p.k b)

    here : Wrote (link_acts x old new a) n at out₀ out next b
    here = let h = p.inside b t in reached b k_le (omega arith) z

    own : link_acts x old new a b ≡ sets x a b ∷ []
    unfolding link_acts
    own = rw (sym (p.onward b k_le (p.inside b t)) ∙ T→≡ (bit rest b) t)

    pub passed_room : next + 3 ≤ length out
    unfolding bytes_of
    passed_room = rw own at (wrote_room here (p.inside b t))

    pub passed_turn : {out₂ : List ℕ} {next₂ left : ℕ} → n ≤ 32 → left ≡ without rest b → Puts out out₂ next next₂ (sets x a b ∷ [])
        → Passed x old new n a at out₀ out₂ next₂ left
    passed_turn n32 e q =
        let h = p.inside b t in
        rw e record {
          k = b + 1;
          wrote = wrote_turn here h (rw own q);
          inside = λ v s. p.inside v (without_in rest b v s);
          below = λ v l. ⊎_elim (λ (i : v ≡ b). rw i (bit_out rest b (omega arith)))
              (λ (i : v < b). bit_left rest b v (omega arith) (omega arith) (omega arith) ∙ z v i) (eq-or-lt_of_le (omega arith));
          onward = λ v l m. bit_left rest b v (omega arith) (omega arith) (omega arith) ∙ p.onward v (omega (arith, k_le)) m;
        }
