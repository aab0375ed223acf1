-- The size of a file: three bytes for each link that is not as it was, one for each pick, three more. Assumes nothing.
use mathlib.Core.Path.{◌≡◌, refl, sym}
use mathlib.Core.Bool.{Bool, true, false, not, cond}
use mathlib.Core.List.{List, [], ◌∷◌}
use Prim.Native.Nat.{ℕ, zero, suc, ◌+◌, ◌-◌, ◌*◌, ◌≤◌}
use native.Mathlib.Omega.{arith}
use lib.ListN.{length, length-append}
use Rattle.model.specs.Recording.{link, Clean}
use Rattle.model.specs.Journey.{val}
use Rattle.model.proofs.Logic.{F→≡}
use Rattle.model.proofs.Links.{link_to}
use Rattle.lists.specs.Tab.{how_many, how_many_pairs}
use Rattle.lists.proofs.Many.{many_above, pairs_le}
use Rattle.links.specs.Tables.{link_differs, differing}
use Rattle.recording.specs.Grammar.{sets, spell_file}
use Rattle.saving.specs.File.{each, becomes, link_acts, row_acts, table_acts, change_acts, pick_acts, acts_at, file_acts, file}
use Rattle.saving.specs.Puts.{bytes_of}
use Rattle.saving.proofs.Acts.{bytes_length, bytes_all}

-- ---- a row

-- the bytes of the two commands of a link that was so, and is so now
two_ways : (a b : ℕ) (x y : Bool)
    → length (bytes_of (cond (becomes false x y) (sets false a b ∷ []) [])) + length (bytes_of (cond (becomes true x y) (sets true a b ∷ []) []))
    ≡ 3 * val (cond x (not y) y)
unfolding bytes_of
two_ways a b true true = refl
two_ways a b true false = refl
two_ways a b false true = refl
two_ways a b false false = refl

module _ (old new : List ℕ) (a : ℕ) where
  pub link_size : (b : ℕ)
      → length (bytes_of (link_acts false old new a b)) + length (bytes_of (link_acts true old new a b)) ≡ 3 * val (link_differs old new a b)
  unfolding link_acts link_differs
  link_size b = two_ways a b (link old a b) (link new a b)

  row_size : (k : ℕ)
      → length (bytes_of (each (link_acts false old new a) k)) + length (bytes_of (each (link_acts true old new a) k))
      ≡ 3 * how_many (link_differs old new a) k
  unfolding each bytes_of how_many
  row_size zero = refl
  row_size (suc k) = simp bytes_length (omega (arith, row_size k, link_size k))

-- ---- a pick

module _ (n : ℕ) (old new : List ℕ) (high : n ≤ 32) (o : Clean n old) (w : Clean n new) where
  -- no link of board n or above differs
  beyond : (a b : ℕ) → n ≤ b → link_differs old new a b ≡ false
  unfolding link_differs
  beyond a b h =
      let x : link old a b ≡ false = F→≡ (link old a b) (λ t. let l = link_to n old o.words a b t in omega arith) in
      let y : link new a b ≡ false = F→≡ (link new a b) (λ t. let l = link_to n new w.words a b t in omega arith) in
      rw (x, y)

  rows_size : (k : ℕ)
      → length (bytes_of (each (row_acts false old new n) k)) + length (bytes_of (each (row_acts true old new n) k))
      ≡ 3 * how_many_pairs (link_differs old new) 32 k
  unfolding each bytes_of row_acts how_many_pairs
  rows_size zero = refl
  rows_size (suc k) =
      let e : n + (32 - n) ≡ 32 = omega arith in
      let m = rw e at (many_above (link_differs old new k) n (32 - n) (λ b h. beyond k b h)) in
      simp bytes_length (omega (arith, rows_size k, row_size old new k n, m))

  pub pick_size : 3 * differing n old new + 1 ≡ length (bytes_of (pick_acts n old new))
  unfolding pick_acts change_acts table_acts bytes_of differing
  pick_size = rw (bytes_length, bytes_length) (omega (arith, rows_size n))

  -- no row has more than 32
  pub few_links : differing n old new ≤ 1024
  unfolding differing
  few_links = omega (arith, pairs_le (link_differs old new) 32 n)

-- ---- the file

pub file-size : (n : ℕ) (picks : List (List ℕ)) (m : ℕ) → length picks ≡ m → 3 + length (bytes_of (each (acts_at n picks) m)) ≡ length (file n picks)
unfolding file file_acts spell_file
file-size n picks m e = rw (sym e, bytes_all, length-append) (omega arith)
