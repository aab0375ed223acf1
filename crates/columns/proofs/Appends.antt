-- Bytes put one behind the other. Assumes nothing.
use mathlib.Core.Path.{◌≡◌, refl, ◌∙◌}
use mathlib.Core.List.{List, [], ◌++◌}
use Prim.Native.Nat.{ℕ, zero-le}
use native.Mathlib.Omega.{arith}
use lib.ListN.{length, length-append, take, drop}
use Rattle.lists.proofs.Splice.{read_inside, splice-after, splice-more, splice_none}
use Rattle.columns.specs.Text.{Put}
use Rattle.columns.specs.declared.Columns.{Columns}
use Rattle.columns.specs.Columns.{Appends}

pub appends_then : {a b c : Columns} {xs ys : List ℕ} → Appends a b xs → Appends b c ys → Appends a c (xs ++ ys)
appends_then {a} {b} {c} {xs} {ys} p q = record {
  there = q.there ∙ p.there;
  long = q.long ∙ p.long;
  put = record {
    behind = rw length-append (omega (arith, p.put.behind, q.put.behind));
    bytes = q.put.bytes ∙ rw (p.put.bytes, length-append) (splice-more a.at (length xs) xs a.buf.now refl a.inside b.at (length ys) ys p.put.behind);
  };
}

pub appends_none : (a : Columns) → Appends a a []
appends_none a = record { there = refl; long = refl; put = record { behind = omega arith; bytes = splice_none a.at a.buf.now } }

-- what is put from the start on is read there, and what stood behind it stays
pub appended_read : {a b : Columns} {xs : List ℕ} → a.at ≡ 0 → Appends a b xs
    → (take b.at b.buf.now ≡ xs) × (drop b.at b.buf.now ≡ drop b.at a.buf.now)
appended_read {a} {b} {xs} h p =
    let z : Put a.buf.now 0 xs b.at b.buf.now = rw h at p.put in
    let k = length xs in
    let e : b.at ≡ k = omega (arith, z.behind) in
    rw (z.bytes, e) (read_inside 0 k xs a.buf.now refl zero-le, splice-after 0 k xs a.buf.now refl zero-le k (omega arith))
