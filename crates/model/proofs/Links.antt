-- Links of clean picks and tables: they join boards below n, and tables are equal when their links are. Assumes nothing.
use mathlib.Core.Path.{◌≡◌, sym, ap, ◌∙◌}
use Prim.Native.Nat.{ℕ, ◌≤◌, ◌<◌}
use native.Mathlib.Omega.{arith}
use native.Mathlib.Decide.{dec_lt}
use native.Mathlib.Nat.{lt_of_lt_of_le}
use mathlib.Core.List.{List}
use lib.ListN.{length, get_or, get_or-eq_default}
use lib.Seq.{ext_get_or}
use lib.Pow.{pow_pos, pow_mono}
use lib.Dec.{T}
use Rattle.model.specs.Recording.{bit, link, Words}
use Rattle.model.proofs.Logic.{tr}
use Rattle.model.proofs.Bits.{bit_high, bits_ext}

-- a link of n words of n bits joins boards below n
pub link_from : (n : ℕ) (t : List ℕ) → Words n t → (u v : ℕ) → T (link t u v) → u < n
unfolding link
link_from n t w u v h = go (dec_lt u n)
  where
    go : Dec (u < n) → u < n
    go (yes l) = l
    go (no l) =
        let s = w.size in
        let k : length t ≤ u = omega arith in
        absurd (tr (ap (λ (x : ℕ). bit x v) (get_or-eq_default t 0 k) ∙ bit_high 0 v (pow_pos v)) h)

pub link_to : (n : ℕ) (t : List ℕ) → Words n t → (u v : ℕ) → T (link t u v) → v < n
unfolding link
link_to n t w u v h = go (dec_lt v n)
  where
    go : Dec (v < n) → v < n
    go (yes l) = l
    go (no l) = absurd (tr (bit_high (get_or t u 0) v (lt_of_lt_of_le (w.small u) (pow_mono (omega arith)))) h)

-- tables are equal when their links are
pub links_ext : (n : ℕ) (s t : List ℕ) → Words n s → Words n t → ((u v : ℕ) → u < n → v < n → link s u v ≡ link t u v) → s ≡ t
unfolding link
links_ext n s t a b h =
    ext_get_or 0 s t (a.size ∙ sym b.size)
    (λ u l. let z = a.size in bits_ext n (get_or s u 0) (get_or t u 0) (a.small u) (b.small u) (λ v k. h u v (omega arith) k))
