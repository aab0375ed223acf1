-- The area as opening leaves it, part by part. Assumes nothing.
use mathlib.Core.Path.{◌≡◌, sym, ◌∙◌}
use mathlib.Core.Logic.{◌≢◌}
use mathlib.Core.List.{List}
use Prim.Native.Nat.{ℕ, ◌+◌, ◌*◌, ◌≤◌}
use native.Mathlib.Omega.{arith}
use lib.Dec.{T, eqb, eqb→eq}
use lib.ListN.{length, drop}
use Rattle.model.proofs.Logic.{eq_refl, cond_ind}
use Rattle.lists.specs.Tab.{zeros}
use Rattle.measures.specs.Kit.{Kit, kit}
use Rattle.measures.proofs.Words.{size_links}
use Rattle.area.specs.Parts.{width_of, part, table_at, put_table, zeroed}
use Rattle.area.proofs.Laws.{table-length, table_same, table_other, table_beyond, zeroed-length, zeroed-part, zeroed_beyond}
use Rattle.verdicts.specs.Verdicts.{needed}
use Rattle.calls.specs.Calls.{opened_area}

module _ (n measure limit : ℕ) (footprint a : List ℕ) (room : needed measure n limit ≤ length a) (list : measure ≡ 2 → n ≡ length footprint) where
  abbrev E : ℕ
  E = width_of measure n

  abbrev K : Kit
  K = kit measure n

  abbrev z : List ℕ
  z = zeroed (needed measure n limit) a

  z_room : (limit + 4) * E ≤ length z
  z_room = let e = zeroed-length (needed measure n limit) a room in omega arith

  fills : T (eqb measure 2) → length footprint ≡ K.size
  fills t = let m : measure ≡ 2 = eqb→eq measure 2 t in sym (size_links measure n (λ x. omega arith) ∙ list m)

  pub opened_length : length (opened_area n measure limit footprint a) ≡ length a
  unfolding opened_area
  opened_length =
      cond_ind (λ (x : List ℕ). length x ≡ length a) (eqb measure 2) (put_table K z (limit + 3) footprint) z
      (λ t. table-length K (limit + 4) z z_room (limit + 3) (omega arith) (omega arith) footprint (fills t) ∙ zeroed-length (needed measure n limit) a room)
      (λ t. zeroed-length (needed measure n limit) a room)

  -- each part but that of the footprint is zero
  pub opened_part : (i : ℕ) → 1 ≤ i → i ≤ limit + 4 → i ≢ limit + 3 → part E (opened_area n measure limit footprint a) i ≡ zeros E
  unfolding opened_area
  opened_part i x y ne =
      cond_ind (λ (q : List ℕ). part E q i ≡ zeros E) (eqb measure 2) (put_table K z (limit + 3) footprint) z
      (λ t. table_other K (limit + 4) z z_room (limit + 3) (omega arith) (omega arith) footprint (fills t) i x ne ∙ zeroed-part E (limit + 4) a i x y)
      (λ t. zeroed-part E (limit + 4) a i x y)

  -- and under measure 2 that of the footprint has it for its table
  pub opened_list : measure ≡ 2 → table_at K (opened_area n measure limit footprint a) (limit + 3) ≡ footprint
  unfolding opened_area
  opened_list m =
      cond_ind (λ (q : List ℕ). table_at K q (limit + 3) ≡ footprint) (eqb measure 2) (put_table K z (limit + 3) footprint) z
      (λ t. table_same K (limit + 4) z z_room (limit + 3) (omega arith) (omega arith) footprint (fills t))
      (λ t. absurd (t (eq_refl m)))

  -- words beyond the needed ones are as they were
  pub opened_beyond : drop (needed measure n limit) (opened_area n measure limit footprint a) ≡ drop (needed measure n limit) a
  unfolding opened_area
  opened_beyond =
      cond_ind (λ (q : List ℕ). drop (needed measure n limit) q ≡ drop (needed measure n limit) a) (eqb measure 2) (put_table K z (limit + 3) footprint) z
      (λ t. table_beyond K (limit + 4) z z_room (limit + 3) (omega arith) (omega arith) footprint (fills t) ∙ zeroed_beyond (needed measure n limit) a room)
      (λ t. zeroed_beyond (needed measure n limit) a room)
