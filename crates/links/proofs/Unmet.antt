-- How many conditions of a table are unmet: none exactly where its test holds; the number by the meaning; and the bits that are counted. Assumes nothing.
use mathlib.Core.Path.{◌≡◌, refl, sym, ap, ap₂, ◌∙◌}
use mathlib.Core.Logic.{◌≢◌, ◌⊎◌, inl, inr, ⊎_elim, ◌↔◌}
use mathlib.Core.Bool.{Bool, true, false, ◌||◌, not, cond}
use mathlib.Core.List.{List}
use Prim.Native.Nat.{ℕ, ◌+◌, ◌-◌, ◌^◌, ◌≤◌, ◌<◌}
use native.Mathlib.Omega.{arith}
use lib.Bits.{bit_xor, xor_lt, or_lt}
use lib.Count.{ones}
use lib.Dec.{T, eqb, eqb→eq}
use lib.ListN.{get_or}
use Rattle.std.proofs.Common.{Fits, w32}
use lib.Pow.{pow_mono}
use Rattle.model.specs.Recording.{bit, link, Words, Clean}
use Rattle.model.specs.Journey.{most_links}
use Rattle.model.specs.Count.{NumberOfPairs}
use Rattle.model.specs.Measures.{Leads, Unmet}
use Rattle.model.proofs.Bits.{bit_high, bit-xor, bits_ext}
use Rattle.model.proofs.Logic.{tr, bool_ext, cases, or_cases, or_l, or_r, not_in, not_out, eq_refl}
use Rattle.lists.specs.Tab.{how_many, how_many_pairs}
use Rattle.lists.proofs.Tab.{get_or-tab, every_in, every_out}
use Rattle.lists.proofs.Many.{many_ext, many_above, pairs_ext, pairs_none_yet, pairs_le, row_counted, counted_rows, pairs_zero, none_denied, ones_bits}
use Rattle.links.specs.Tables.{either_row, union, within, pair_full, row_full, full, connected, row_same, same}
use Rattle.links.specs.Tables.{pair_unmarked, unmarked, unconnected, link_differs, differing}
use Rattle.links.specs.Tells.{Marks}
use Rattle.links.proofs.Tells.{Below, within_leads}

-- ---- none is unmet exactly where the test holds

pub unmarked_none : (n : ℕ) (t : List ℕ) → eqb (unmarked n t) 0 ≡ full n t
unfolding unmarked pair_unmarked full row_full
unmarked_none n t = none_denied (pair_full t) (pair_unmarked t) n n (λ u v. refl)

pub unconnected_none : (n : ℕ) (t : List ℕ) → eqb (unconnected n t) 0 ≡ connected n t
unfolding unconnected connected
unconnected_none n t = unmarked_none n (within n most_links t)

-- the first n words are words of 32 bits
abbrev pub Small : ℕ → List ℕ → Type 0
Small n t = (u : ℕ) → u < n → get_or t u 0 < 2 ^ 32

pub union_small : (n : ℕ) (s t : List ℕ) → Small n s → Small n t → Small n (union n s t)
unfolding union either_row
union_small n s t p q u h = rw (get_or-tab (either_row s t) n u h) (or_lt 32 (get_or s u 0) (get_or t u 0) (p u h) (q u h))

differs : (a b : Bool) → T (cond a (not b) b) → a ≡ b → ⊥
differs true true x e = x
differs true false x e = not_out false tt (tr e tt)
differs false true x e = not_out true (tr (ap not e) tt) tt
differs false false x e = x

agrees : (a b : Bool) → (T (cond a (not b) b) → ⊥) → a ≡ b
agrees true true f = refl
agrees true false f = absurd (f tt)
agrees false true f = absurd (f tt)
agrees false false f = refl

pub differing_none : (n : ℕ) (l t : List ℕ) → Small n l → Small n t → eqb (differing n l t) 0 ≡ same n l t
unfolding differing link_differs same row_same link
differing_none n l t p q =
    bool_ext (eqb (differing n l t) 0) (same n l t)
    (λ z. every_in (row_same l t) n (λ u hu. eq_refl (bits_ext 32 (get_or t u 0) (get_or l u 0) (q u hu) (p u hu) (λ b h.
    sym (agrees (bit (get_or l u 0) b) (bit (get_or t u 0) b) ((pairs_zero (link_differs l t) 32 n).0 (eqb→eq (differing n l t) 0 z) u b hu h))))))
    (λ m. eq_refl ((pairs_zero (link_differs l t) 32 n).1 (λ u b hu h x. differs (bit (get_or l u 0) b) (bit (get_or t u 0) b) x
    (ap (λ (w : ℕ). bit w b) (sym (eqb→eq (get_or t u 0) (get_or l u 0) (every_out (row_same l t) n m u hu)))))))

-- ---- the number by the meaning

-- the pairs of different boards that t does not mark are those that J does not hold of
pub unmarked-number : (n : ℕ) (J : ℕ → ℕ → Type 0) (t : List ℕ) → ((u v : ℕ) → u < n → v < n → T (link t u v) ↔ ((u ≢ v) × J u v))
    → NumberOfPairs n (Unmet J) (unmarked n t)
unfolding unmarked pair_unmarked pair_full
unmarked-number n J t f =
    counted_rows (pair_unmarked t) (Unmet J) n n (λ u v hu hv. (
      λ x. (
        λ e. not_out (eqb u v || link t u v) x (or_l (eqb u v) (link t u v) (eq_refl e)),
        λ j. not_out (eqb u v || link t u v) x (tested u v hu hv j),
      ),
      λ x. not_in (eqb u v || link t u v) (λ m. ⊎_elim (λ (e : T (eqb u v)). x.0 (eqb→eq u v e)) (λ (l : T (link t u v)). x.1 ((f u v hu hv).0 l).1)
          (or_cases (eqb u v) (link t u v) m)),
    ))
  where
    tested : (u v : ℕ) → u < n → v < n → J u v → T (eqb u v || link t u v)
    tested u v hu hv j =
        ⊎_elim (or_l (eqb u v) (link t u v)) (λ (g : T (eqb u v) → ⊥). or_r (eqb u v) (link t u v) ((f u v hu hv).1 (λ e. g (eq_refl e), j)))
        (cases (eqb u v))

-- measure 1: those that links of R do not lead between
pub unconnected-number : (n : ℕ) (R : ℕ → ℕ → Type 0) (t : List ℕ) → n ≤ 32 → Below n R → Marks n R t → NumberOfPairs n (Unmet (Leads R)) (unconnected n t)
unfolding unconnected
unconnected-number n R t n32 low a = unmarked-number n (Leads R) (within n most_links t) (within_leads n R t n32 low a)

-- measure 2: the links of one alone
abbrev pub OneAlone : (ℕ → ℕ → Type 0) → List ℕ → ℕ → ℕ → Type 0
OneAlone R l u v = (R u v × (T (link l u v) → ⊥)) ⊎ (T (link l u v) × (R u v → ⊥))

-- no bit of board n or above differs
clean-row : (n : ℕ) (l t : List ℕ) (u : ℕ) → n ≤ 32 → Words n l → Words n t → how_many (link_differs l t u) 32 ≡ how_many (link_differs l t u) n
unfolding link_differs link
clean-row n l t u n32 p q =
    let e : 32 ≡ n + (32 - n) = omega arith in
    ap (how_many (link_differs l t u)) e ∙ many_above (link_differs l t u) n (32 - n) (λ v h.
    ap₂ (λ (a b : Bool). cond a (not b) b) (high l p v h) (high t q v h))
  where
    high : (s : List ℕ) → Words n s → (v : ℕ) → n ≤ v → bit (get_or s u 0) v ≡ false
    high s w v h = bit_high (get_or s u 0) v (let x : get_or s u 0 < 2 ^ n = w.small u in let y : 2 ^ n ≤ 2 ^ v = pow_mono h in omega arith)

one_of : {A B : Type 0} (a b : Bool) → T a ↔ A → T b ↔ B → T (cond a (not b) b) ↔ ((B × (A → ⊥)) ⊎ (A × (B → ⊥)))
one_of true true e g = (λ x. absurd x, λ x. ⊎_elim (λ y. y.1 (e.0 tt)) (λ y. y.1 (g.0 tt)) x)
one_of true false e g = (λ x. inr (e.0 tt, λ y. g.1 y), λ x. tt)
one_of false true e g = (λ x. inl (g.0 tt, λ y. e.1 y), λ x. tt)
one_of false false e g = (λ x. absurd x, λ x. ⊎_elim (λ y. g.1 y.0) (λ y. e.1 y.0) x)

pub differing-number : (n : ℕ) (R : ℕ → ℕ → Type 0) (l t : List ℕ) → n ≤ 32 → Clean n l → Marks n R t → NumberOfPairs n (OneAlone R l) (differing n l t)
unfolding differing link_differs
differing-number n R l t n32 k a =
    rw (pairs_ext (link_differs l t) (link_differs l t) 32 n n (λ u h. clean-row n l t u n32 k.words a.clean.words))
    (counted_rows (link_differs l t) (OneAlone R l) n n (λ u v hu hv. one_of (link l u v) (link t u v) (λ x. x, λ x. x) (a.marks u v hu hv)))

-- ---- the bits that are counted

pub differing_row : (l t : List ℕ) (u : ℕ) → get_or l u 0 < 2 ^ 32 → get_or t u 0 < 2 ^ 32
    → ones (bit_xor (get_or l u 0) (get_or t u 0)) ≡ how_many (link_differs l t u) 32
unfolding link_differs link
differing_row l t u p q =
    ones_bits 32 (bit_xor (get_or l u 0) (get_or t u 0)) (xor_lt 32 (get_or l u 0) (get_or t u 0) p q)
    ∙ many_ext (bit (bit_xor (get_or l u 0) (get_or t u 0))) (link_differs l t u) 32 (λ v h. bit-xor (get_or l u 0) (get_or t u 0) v)

-- a turn of the loop: the bits of word u that differ are its links
pub differing_turn : (l t : List ℕ) (u k : ℕ) → k ≡ how_many_pairs (link_differs l t) 32 u → Fits w32 (get_or l u 0) → Fits w32 (get_or t u 0)
    → k + ones (bit_xor (get_or l u 0) (get_or t u 0)) ≡ how_many_pairs (link_differs l t) 32 (u + 1)
differing_turn l t u k e a b = row_counted (link_differs l t) 32 u e (differing_row l t u (omega arith) (omega arith))

pub ruleset differs_turns = (pairs_none_yet, pairs_le, differing_turn)
