-- A table that begins with the words of another has the same words. Assumes nothing.
use mathlib.Core.Path.{◌≡◌, sym, ap, ◌∙◌}
use mathlib.Core.List.{List}
use Prim.Native.Nat.{ℕ, ◌≤◌}
use lib.Dec.{eqb→eq}
use lib.ListN.{length, get_or, take}
use lib.Seq.{ext_get_or, length-take-le}
use Rattle.std.specs.Prelude.{nat_eq}
use Rattle.std.specs.List.{starts_with}
use Rattle.std.proofs.lemmas.List.{get_or-take}
use Rattle.std.proofs.lemmas.Slice.Eq.{bytes_eq-Decides}
use Rattle.model.proofs.Logic.{tr, T→≡, bool_ext, eq_refl}
use Rattle.lists.proofs.Tab.{every_in, every_out}
use Rattle.links.specs.Tables.{row_same, same}

pub begins_same : (s p : List ℕ) → length p ≤ length s → starts_with nat_eq s p ≡ same (length p) s p
unfolding same row_same
begins_same s p h =
    let d = bytes_eq-Decides p (take (length p) s) in
    bool_ext (starts_with nat_eq s p) (same (length p) s p)
    (λ t. let e = d.0 (T→≡ (starts_with nat_eq s p) t) in
    every_in (row_same s p) (length p) (λ u l. eq_refl (ap (λ (x : List ℕ). get_or x u 0) e ∙ get_or-take (length p) s u 0 l)))
    (λ t. tr (sym (d.1 (ext_get_or 0 p (take (length p) s) (sym (length-take-le (length p) s h))
    (λ u l. eqb→eq (get_or p u 0) (get_or s u 0) (every_out (row_same s p) (length p) t u l) ∙ sym (get_or-take (length p) s u 0 l))))) tt)
