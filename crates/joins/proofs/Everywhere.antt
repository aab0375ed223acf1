-- Where links lead from every board to every other, a board gets to all boards that some link leads to, on the words as they are found. Assumes
-- nothing.
use mathlib.Core.Path.{◌≡◌, sym, ◌∙◌, subst}
use mathlib.Core.Logic.{◌≢◌, ⊎_elim}
use mathlib.Core.Bool.{true, ◌||◌, not}
use mathlib.Core.List.{List}
use Prim.Native.Nat.{ℕ, zero, suc, ◌-◌, ◌^◌, ◌≤◌, ◌<◌}
use native.Mathlib.Nat.{not-suc-le-zero, le_of_suc-le-suc, eq-or-lt_of_le, lt_of_lt_of_le, le_refl}
use native.Mathlib.Omega.{arith}
use lib.Dec.{T, eqb}
use lib.ListN.{get_or}
use lib.Pow.{pow_pos}
use lib.Seq.{ext_get_or}
use Rattle.model.specs.Recording.{bit, link}
use Rattle.model.specs.Journey.{most_links}
use Rattle.model.proofs.Logic.{tr, bool_ext, or_l, or_r, or_cases, and_both, and_l, and_r, eqb_ne, ne_eqb, eq_or}
use Rattle.model.proofs.Bits.{bits_ext, bit-or, bit_high}
use Rattle.lists.specs.Tab.{tab, any_of}
use Rattle.lists.proofs.Tab.{length-tab, get_or-tab, every_out}
use Rattle.links.specs.Tables.{without, within, pair_full, row_full, full, connected}
use Rattle.links.proofs.Bits.{link-tab, bit-without, without_32}
use Rattle.links.proofs.Ways.{one, Short, snoc, last_link, within_way, way_short, length-within, within_small}
use Rattle.searches.proofs.Search.{pair_out}
use Rattle.joins.specs.Warshall.{Into}
use Rattle.joins.proofs.Closure.{into_pass}

-- the boards that a link of the first k rows leads to
abbrev pub led_to : List ℕ → ℕ → ℕ
led_to t k = any_of (λ w. get_or t w 0) k

led_step : (t : List ℕ) (k v : ℕ) → bit (led_to t (suc k)) v ≡ bit (led_to t k) v || link t k v
unfolding any_of link
led_step t k v = bit-or (led_to t k) (get_or t k 0) v

led_in : (t : List ℕ) (n w v : ℕ) → w < n → T (link t w v) → T (bit (led_to t n) v)
led_in t zero w v h l = absurd (not-suc-le-zero h)
led_in t (suc n) w v h l =
    tr (sym (led_step t n v))
    (⊎_elim (λ (e : w ≡ n). or_r (bit (led_to t n) v) (link t n v) (subst (λ (x : ℕ). T (link t x v)) e l))
    (λ (q : w < n). or_l (bit (led_to t n) v) (link t n v) (led_in t n w v q l)) (eq-or-lt_of_le (le_of_suc-le-suc h)))

pub led_into : (n : ℕ) (t : List ℕ) {into : ℕ} → into ≡ led_to t n → Into n t into
led_into n t e = record { led = λ u w h l. rw e (led_in t n u w h l) }

led_out : (t : List ℕ) (n v : ℕ) → T (bit (led_to t n) v) → (w : ℕ) × (w < n) × T (link t w v)
unfolding any_of
led_out t zero v m = absurd (tr (bit_high 0 v (pow_pos v)) m)
led_out t (suc n) v m =
    ⊎_elim (λ (a : T (bit (led_to t n) v)). let q = led_out t n v a in let h : q.0 < n = q.1 in (q.0, omega arith, q.2))
    (λ (a : T (link t n v)). (n, le_refl (suc n), a)) (or_cases (bit (led_to t n) v) (link t n v) (tr (led_step t n v) m))

module _ (n : ℕ) (t : List ℕ) (n32 : n ≤ 32) (everywhere : T (connected n t)) where
  -- from u to any other board below n
  way_to : (u w : ℕ) → u < n → w < n → u ≢ w → Short n most_links t u w
  unfolding connected full row_full
  way_to u w hu hw ne =
      ⊎_elim (λ (e : u ≡ w). absurd (ne e)) (λ (s : Short n most_links t u w). s)
      (pair_out n t u w n32 hu hw (every_out (pair_full (within n most_links t) u) n (every_out (row_full n (within n most_links t)) n everywhere u hu) w hw))

  -- and so to each board that some link leads to
  reached : (u v : ℕ) → u < n → v < 32 → u ≢ v → T (bit (led_to t n) v) → Short n most_links t u v
  reached u v hu hv ne m =
      let q = led_out t n v m in
      ⊎_elim (λ (e : u ≡ q.0). (1, omega arith, one (subst (λ (x : ℕ). T (link t x v)) (sym e) q.2)))
      (λ (d : u ≢ q.0). let s = way_to u q.0 hu q.1 d in way_short n32 hu hv ne (snoc s.2 q.1 q.2)) (eq_or u q.0)

  found : (u v : ℕ) → u < n → Short n most_links t u v → T (bit (led_to t n) v)
  found u v hu s =
      ⊎_elim (λ (l : T (link t u v)). led_in t n u v hu l)
      (λ (q : (w : ℕ) × (w < n) × Short n (most_links - 1) t u w × T (link t w v)). led_in t n q.0 v q.1 q.3)
      (last_link {h = most_links - 1} s.1 s.2)

  same_bit : (u v : ℕ) → u < n → v < 32 → link (tab (without (led_to t n)) n) u v ≡ link (within n most_links t) u v
  unfolding link
  same_bit u v hu hv =
      let x = led_to t n in
      let e = link-tab (without x) n u v hu ∙ bit-without x u v (lt_of_lt_of_le hu n32) hv in
      let w = within_way n most_links t n32 u v hu hv in
      bool_ext (link (tab (without x) n) u v) (link (within n most_links t) u v)
      (λ m. let b = tr e m in let d = ne_eqb u v (and_r (bit x v) (not (eqb u v)) b) in w.1 (d, reached u v hu hv d (and_l (bit x v) (not (eqb u v)) b)))
      (λ m. let q = w.0 m in tr (sym e) (and_both (bit x v) (not (eqb u v)) (found u v hu q.1) (eqb_ne u v q.0)))

  -- THEOREM. Then the closure is written down without a pass.
  pub everywhere_within : tab (without (led_to t n)) n ≡ within n most_links t
  unfolding link
  everywhere_within =
      let f = without (led_to t n) in
      let z = length-tab f n in
      ext_get_or 0 (tab f n) (within n most_links t) (z ∙ sym (length-within n most_links t))
      (λ u l. let h : u < n = omega arith in bits_ext 32 (get_or (tab f n) u 0) (get_or (within n most_links t) u 0)
      (subst (λ (x : ℕ). x < 2 ^ 32) (sym (get_or-tab f n u h)) (without_32 (led_to t n) u)) (within_small n (most_links - 1) t u h)
      (λ v hv. same_bit u v h hv))

pub everywhere_closed : (n : ℕ) (t : List ℕ) → n ≤ 32 → connected n t ≡ true → within n most_links t ≡ tab (without (any_of (λ w. get_or t w 0) n)) n
everywhere_closed n t n32 e = sym (everywhere_within n t n32 (tr (sym e) tt))

-- what the passes over all boards stand on
pub ruleset pass_turns = (led_into, into_pass)
