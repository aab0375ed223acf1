-- Two tables lent at the same time, from an area that is cut where a part begins. Assumes nothing.
use mathlib.Core.Path.{◌≡◌, sym, ap, ap₂, ◌∙◌}
use mathlib.Core.List.{List, ◌++◌}
use Prim.Native.Nat.{ℕ, ◌+◌, ◌-◌, ◌*◌, ◌≤◌, ◌<◌}
use native.Mathlib.Omega.{arith}
use lib.ListN.{length, take, drop}
use Rattle.lists.specs.Tab.{splice}
use Rattle.lists.proofs.Splice.{read_front, splice_front}
use Rattle.area.specs.Parts.{stored_size, Has}
use Rattle.area.proofs.Stored.{table_fits}
use Rattle.area.proofs.Laws.{ends_before}

-- a table ends before a later part begins
pub apart : (s : ℕ) {words d r at_d at_r k : ℕ} → Has (stored_size s) words d → d < r
    → at_d ≡ (d - 1) * stored_size s → at_r ≡ (r - 1) * stored_size s → k ≡ s → at_d + k ≤ at_r
apart s {d = d} {r = r} h l p q e = rw (p, q, e) (omega (arith, ends_before (stored_size s) d r h.from l, table_fits s))

-- ---- what becomes of the cut area where k words of a part are written

module _ (k : ℕ) (a F B : List ℕ) (f : a ≡ F ++ B) where
  -- before the cut
  pub front_put : (at : ℕ) (t : List ℕ) → at + k ≤ length F → splice at k t F ++ B ≡ splice at k t a
  front_put at t l = sym (splice_front at k t F B l) ∙ ap (splice at k t) (sym f)

  pub front_read : (at : ℕ) → at + k ≤ length F → take k (drop at F) ≡ take k (drop at a)
  front_read at l = sym (read_front F B at k l) ∙ ap (λ (x : List ℕ). take k (drop at x)) (sym f)

  -- at the cut
  pub back_put : (at : ℕ) (t : List ℕ) → F ≡ take at a → B ≡ drop at a → F ++ (t ++ drop k B) ≡ splice at k t a
  unfolding splice
  back_put at t g h = ap₂ (λ (x y : List ℕ). x ++ (t ++ drop k y)) g h
