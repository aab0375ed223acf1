-- Ways of links within a pick, on the words as they are found: its own table marks the pairs that at most h links join. Assumes nothing.
use mathlib.Core.Path.{◌≡◌, refl, sym, subst, ◌∙◌}
use mathlib.Core.Logic.{◌≢◌, ◌⊎◌, inl, inr, ⊎_elim, ◌↔◌}
use mathlib.Core.List.{List}
use Prim.Native.Nat.{ℕ, zero, suc, ◌^◌, ◌≤◌, ◌<◌}
use native.Mathlib.Nat.{not-suc-le-zero, le_of_suc-le-suc, lt_of_lt_of_le}
use native.Mathlib.Omega.{arith}
use lib.Dec.{T}
use lib.ListN.{length, get_or}
use Rattle.model.specs.Recording.{link}
use Rattle.model.specs.Journey.{most_links}
use Rattle.model.proofs.Logic.{eq_or}
use Rattle.model.proofs.Hops.{Path, end, next, path_short}
use Rattle.lists.proofs.Tab.{length-tab, get_or-tab, length-zeros}
use Rattle.links.specs.Tables.{compose_row, compose, within}
use Rattle.links.proofs.Bits.{zeros_none, without_32, compose-link}

-- c links of t lead from u to v over boards below b
pub data Way (t : List ℕ) (b : ℕ) : ℕ → ℕ → ℕ → Type 0 where
  one : {u v : ℕ} → T (link t u v) → Way t b 1 u v
  more : {c u w v : ℕ} → T (link t u w) → w < b → Way t b c w v → Way t b (suc c) u v

-- ---- at most h links

module _ {t : List ℕ} {b : ℕ} where
  -- a link more, at the end
  pub snoc : {c u w v : ℕ} → Way t b c u w → w < b → T (link t w v) → Way t b (suc c) u v
  snoc (one l) h m = more l h (one m)
  snoc (more l k s) h m = more l k (snoc s h m)

  -- the last link instead of the first
  unsnoc : {c u w v : ℕ} → T (link t u w) → w < b → Way t b c w v → (x : ℕ) × (x < b) × Way t b c u x × T (link t x v)
  unsnoc {w = w} k h (one l) = (w, h, one k, l)
  unsnoc k h (more l j s) = let r = unsnoc l j s in (r.0, r.1, more k h r.2, r.3)

-- at most h links lead from u to v over boards below n
abbrev pub Short : ℕ → ℕ → List ℕ → ℕ → ℕ → Type 0
Short n h t u v = (c : ℕ) × (c ≤ h) × Way t n c u v

-- a way of at most h + 1 links, as the composition takes it apart
pub last_link : {n h c u v : ℕ} {t : List ℕ} → c ≤ suc h → Way t n c u v
    → T (link t u v) ⊎ ((w : ℕ) × (w < n) × Short n h t u w × T (link t w v))
last_link l (one m) = inl m
last_link l (more {c = c} m k s) = let r = unsnoc m k s in inr (r.0, r.1, (c, le_of_suc-le-suc l, r.2), r.3)

-- THE LAW of a pick's own table, on the words as they are found
pub within_way : (n h : ℕ) (t : List ℕ) → n ≤ 32 → (u v : ℕ) → u < n → v < 32 → T (link (within n h t) u v) ↔ ((u ≢ v) × Short n h t u v)
unfolding within
within_way n zero t n32 u v hu hv = (λ m. absurd (zeros_none n u v m), λ p. absurd (none p.1.2 p.1.1))
  where
    none : {c : ℕ} → Way t n c u v → c ≤ zero → ⊥
    none (one m) l = not-suc-le-zero l
    none (more m k s) l = not-suc-le-zero l
within_way n (suc h) t n32 u v hu hv =
    let e = compose-link n (within n h t) t u v n32 hu hv in
    let ih = within_way n h t n32 u in (
      λ m. (
        (e.0 m).0,
        ⊎_elim (λ (a : T (link (within n h t) u v)). let s = ((ih v hu hv).0 a).1 in let l : s.0 ≤ h = s.1 in (s.0, omega arith, s.2))
            (λ (a : T (link t u v) ⊎ ((w : ℕ) × (w < n) × T (link (within n h t) u w) × T (link t w v))).
            ⊎_elim (λ (b : T (link t u v)). (1, omega arith, one b))
            (λ (b : (w : ℕ) × (w < n) × T (link (within n h t) u w) × T (link t w v)).
            let s = ((ih b.0 hu (lt_of_lt_of_le b.1 n32)).0 b.2).1 in
            let l : s.0 ≤ h = s.1 in
            (suc s.0, omega arith, snoc s.2 b.1 b.3)) a) (e.0 m).1,
      ),
      λ p. e.1 (
        p.0,
        ⊎_elim (λ (a : T (link t u v)). inr (inl a))
            (λ (a : (w : ℕ) × (w < n) × Short n h t u w × T (link t w v)).
            ⊎_elim (λ (q : u ≡ a.0). inr (inl (subst (λ (x : ℕ). T (link t x v)) (sym q) a.3)))
            (λ (q : u ≢ a.0). inr (inr (a.0, a.1, (ih a.0 hu (lt_of_lt_of_le a.1 n32)).1 (q, a.2), a.3))) (eq_or u a.0))
            (last_link p.1.1 p.1.2),
      ),
    )

-- ---- `most_links` are no limit

-- a step from board to board on the way to v
abbrev Step : ℕ → List ℕ → ℕ → ℕ → ℕ → Type 0
Step n t v u w = T (link t u w) × ((w < n) ⊎ (w ≡ v))

way_path : {n : ℕ} {t : List ℕ} {c u v : ℕ} → Way t n c u v → Path (Step n t v) c u v
way_path (one l) = next (l, inr refl) end
way_path (more l h s) = next (l, inl h) (way_path s)

path_way : (n : ℕ) (t : List ℕ) (z : ℕ) {d u v : ℕ} → u ≢ v → v ≡ z → Path (Step n t z) d u v → Short n d t u v
path_way n t z ne to end = absurd (ne refl)
path_way n t z ne to (next {c = c} {u = u} {w = w} {v = v} l s) =
    ⊎_elim (λ (e : w ≡ v). (1, omega arith, one (subst (λ (x : ℕ). T (link t u x)) e l.0)))
    (λ (e : w ≢ v). let q = path_way n t z e to s in let h : q.0 ≤ c = q.1 in (
      suc q.0,
      omega arith,
      more l.0 (⊎_elim (λ (x : w < n). x) (λ (x : w ≡ z). absurd (e (x ∙ sym to))) l.1) q.2,
    ))
    (eq_or w v)

pub way_short : {n c u v : ℕ} {t : List ℕ} → n ≤ 32 → u < n → v < 32 → u ≢ v → Way t n c u v → Short n most_links t u v
way_short {n} {v = v} {t = t} n32 hu hv ne s =
    let q = path_short 32 (λ x w l. ⊎_elim (λ (h : w < n). lt_of_lt_of_le h n32) (λ (e : w ≡ _). subst (λ (y : ℕ). y < 32) (sym e) hv) l.1)
    (lt_of_lt_of_le hu n32) (way_path s) in
    let r = path_way n t v ne refl q.2 in
    let a : q.0 < 32 = q.1 in
    let b : r.0 ≤ q.0 = r.1 in
    (r.0, omega arith, r.2)

-- ---- any number of links

-- links lead from u to v over boards below b
abbrev pub Led : List ℕ → ℕ → ℕ → ℕ → Type 0
Led t b u v = (c : ℕ) × Way t b c u v

module _ {t : List ℕ} {b : ℕ} where
  -- a way to w, and on
  pub onward : {c u w v : ℕ} → Way t b c u w → w < b → Led t b w v → Led t b u v
  onward (one l) h q = (suc q.0, more l h q.1)
  onward (more l k p) h q = let r = onward p h q in (suc r.0, more l k r.1)

-- ---- the table

pub length-within : (n h : ℕ) (t : List ℕ) → length (within n h t) ≡ n
unfolding within compose
length-within n zero t = length-zeros n
length-within n (suc h) t = length-tab (compose_row n (within n h t) t) n

pub within_small : (n h : ℕ) (t : List ℕ) (u : ℕ) → u < n → get_or (within n (suc h) t) u 0 < 2 ^ 32
unfolding within compose compose_row
within_small n h t u l = subst (λ (x : ℕ). x < 2 ^ 32) (sym (get_or-tab (compose_row n (within n h t) t) n u l)) (without_32 _ u)
