-- The laws of the reader: of every recording that is read, and of every output word. Assumes nothing.
use mathlib.Core.Path.{◌≡◌, refl, sym, ap, ap₂, ◌∙◌}
use mathlib.Core.List.{List, [], ◌∷◌, ◌++◌, append_assoc}
use Prim.Native.Nat.{ℕ, zero, suc, ◌+◌, ◌-◌, ◌*◌, ◌≤◌, ◌<◌, zero-le}
use native.Mathlib.Nat.{zero-mul, suc-mul, not-suc-le-zero, le_of_suc-le-suc, mul-le-mul_right, le_refl}
use native.Mathlib.Omega.{arith}
use borrow.Author.Tests.{ltb-false}
use lib.Dec.{ltb}
use lib.ListN.{length, get_or, take, drop, length-append}
use lib.Seq.{take_at, drop-append-add, take-suc, take-length}
use Rattle.lists.proofs.Splice.{splice-length, word_after}
use Rattle.lists.specs.Tab.{splice}
use Rattle.model.specs.Recording.{Recording, pick_at}
use Rattle.model.specs.Refusals.{number}
use Rattle.model.specs.declared.Refusal.{Refusal}
use Rattle.model.specs.declared.Refusal.TheVariants as cause
use Rattle.model.proofs.Causes.{none_refused}
use Rattle.model.proofs.Refusals.{number_range}
use Rattle.links.specs.Picks.{lent_pick}
use Rattle.checks.specs.Lent.{lent_picks}
use Rattle.recording.specs.Format.{Content, ended, refused, alone, recording_at, read_file, words, output_after}
use Rattle.recording.specs.Answers.{Read, read, ReadAt, read_at, file_says, part_says, part_of, read_says, read_leaves, read_at_says, read_at_leaves}
use Rattle.recording.specs.Gives.{Gives}
use Rattle.recording.proofs.Sound.{EndedReading, ended_reading}

-- ---- the words of picks over the front of the output

pub length-words : (n : ℕ) (ps : List (List ℕ)) → Recording n ps → length (words ps) ≡ length ps * n
unfolding words
length-words n [] a = sym (zero-mul n)
length-words n (p ∷ ps) a = rw (length-append, length-words n ps a.1, a.0.words.size) (omega (arith, suc-mul (length ps) n))

word_at : (n : ℕ) (ps : List (List ℕ)) (rest : List ℕ) (k : ℕ) → Recording n ps → k < length ps → lent_pick n (words ps ++ rest) k ≡ get_or ps k []
unfolding words lent_pick
word_at n [] rest k a h = absurd (not-suc-le-zero h)
word_at n (q ∷ ps) rest zero a h = rw (append_assoc, zero-mul) (take_at q (words ps ++ rest) n a.0.words.size)
word_at n (q ∷ ps) rest (suc k) a h =
    let e : suc k * n ≡ length q + k * n = omega (arith, suc-mul k n, a.0.words.size) in
    rw (append_assoc, e, drop-append-add q (words ps ++ rest) (k * n)) (word_at n ps rest k a.1 (le_of_suc-le-suc h))

-- the words lent back are the picks
pub lent_back : (n : ℕ) (ps : List (List ℕ)) (rest : List ℕ) → Recording n ps → (k : ℕ) → k ≤ length ps
    → lent_picks n (words ps ++ rest) k ≡ take k ps
unfolding lent_picks
lent_back n ps rest a zero h = refl
lent_back n ps rest a (suc k) h =
    ap₂ (λ (r : List (List ℕ)) (p : List ℕ). r ++ (p ∷ [])) (lent_back n ps rest a k (omega arith)) (word_at n ps rest k a h)
    ∙ sym (take-suc ps k [] h)

-- ---- a recording that is read, wherever it starts

module _ {limit : ℕ} {bytes : List ℕ} {start n : ℕ} {picks : List (List ℕ)} {end : ℕ} (out : List ℕ)
    (f : EndedReading limit (length out) bytes start n picks end) where
  fits : length picks * n ≤ length out
  fits = omega (arith, mul-le-mul_right n f.sound.few, f.head.room_for)

  long : length (splice 0 (length (words picks)) (words picks) out) ≡ length out
  long = splice-length 0 (length (words picks)) (words picks) out refl zero-le (rw (length-words n picks f.sound.clean) (omega (arith, fits)))

  back : lent_picks n (splice 0 (length (words picks)) (words picks) out) (length picks) ≡ picks
  unfolding splice
  back = lent_back n picks (drop (length (words picks)) out) f.sound.clean (length picks) (le_refl (length picks)) ∙ take-length picks

  one : (k : ℕ) → k < length picks → lent_pick n (splice 0 (length (words picks)) (words picks) out) k ≡ get_or picks k []
  unfolding splice
  one k h = word_at n picks (drop (length (words picks)) out) k f.sound.clean h

  gives : Gives limit n (length picks) out (splice 0 (length (words picks)) (words picks) out)
  gives = record {
    low = f.head.low;
    high = f.head.high;
    few = f.sound.few;
    room_for = rw long fits;
    recording = rw back f.sound.clean;
    long = long;
    beyond = λ i h. word_after 0 (length (words picks)) (words picks) out refl zero-le i (rw (length-words n picks f.sound.clean) (omega arith));
  }

-- ---- `read_at`

pub number_positive : (r : Refusal) → number r ≡ 0 → ⊥
number_positive r e = omega (arith, (number_range r).0)

module _ (limit : ℕ) (bytes : List ℕ) (start : ℕ) (out : List ℕ) where
  -- a recording that is read ends behind its start and within the file
  pub read_at_law : (n count end : ℕ) → read_at_says limit bytes start out ≡ read_at 0 n count end
      → Gives limit n count out (read_at_leaves limit bytes start out) × (start < end) × (end ≤ length bytes)
  unfolding read_at_says read_at_leaves
  read_at_law n count end q = by (recording_at limit (length out) bytes start) refl q
    where
      by : (o : Content) → recording_at limit (length out) bytes start ≡ o → part_says (part_of o) ≡ read_at 0 n count end
          → Gives limit n count out (output_after o out) × (start < end) × (end ≤ length bytes)
      by (ended m ps e) i j =
          let f = ended_reading limit (length out) bytes start m ps e i in
          let em : m ≡ n = ap (λ (a : ReadAt). a.boards) j in
          let ec : length ps ≡ count = ap (λ (a : ReadAt). a.picks) j in
          let ee : e ≡ end = ap (λ (a : ReadAt). a.end) j in
          rw (sym em, sym ec, sym ee) (gives out f, f.sound.after, f.sound.inside)
      by (refused r) i j = absurd (number_positive r (ap (λ (a : ReadAt). a.refusal) j))

  -- the words lent back from the output are the picks of the definition
  pub picks_at_law : (n : ℕ) (picks : List (List ℕ)) (end : ℕ) → recording_at limit (length out) bytes start ≡ ended n picks end
      → lent_picks n (read_at_leaves limit bytes start out) (length picks) ≡ picks
  unfolding read_at_leaves
  picks_at_law n picks end q = rw q (back out (ended_reading limit (length out) bytes start n picks end q))

  -- a refused reading changes nothing
  pub refused_at_law : ((read_at_says limit bytes start out).refusal ≡ 0 → ⊥) → read_at_leaves limit bytes start out ≡ out
  unfolding read_at_says read_at_leaves
  refused_at_law h = by (recording_at limit (length out) bytes start) h
    where
      by : (o : Content) → ((part_says (part_of o)).refusal ≡ 0 → ⊥) → output_after o out ≡ out
      by (ended m ps e) g = absurd (g refl)
      by (refused r) g = refl

  -- the output keeps its length, whatever is read
  pub length_at_law : length (read_at_leaves limit bytes start out) ≡ length out
  unfolding read_at_leaves
  length_at_law = by (recording_at limit (length out) bytes start) refl
    where
      by : (o : Content) → recording_at limit (length out) bytes start ≡ o → length (output_after o out) ≡ length out
      by (ended m ps e) i = long out (ended_reading limit (length out) bytes start m ps e i)
      by (refused r) i = refl

-- ---- `read`

pub is_alone : (bytes : List ℕ) (o : Content) (n : ℕ) (ps : List (List ℕ)) (e : ℕ) → alone bytes o ≡ ended n ps e → (o ≡ ended n ps e)
    × (length bytes ≤ e)
is_alone bytes (ended m qs f) n ps e q =
    let (a, i) = none_refused refused (λ (z : Content). z ≡ ended n ps e) (λ r z. cc) ((ltb f (length bytes), cause.Trailing) ∷ []) (ended m qs f) q in
    let k : f ≡ e = cc in
    (i, rw (sym k) (ltb-false f (length bytes) a.0))
is_alone bytes (refused r) n ps e q = absurd (cc)

module _ (limit : ℕ) (bytes out : List ℕ) where
  file_reading : (n : ℕ) (picks : List (List ℕ)) (end : ℕ) → read_file limit (length out) bytes ≡ ended n picks end
      → EndedReading limit (length out) bytes 0 n picks end
  unfolding read_file
  file_reading n picks end q = ended_reading limit (length out) bytes 0 n picks end (is_alone bytes (recording_at limit (length out) bytes 0) n picks end q).0

  -- a file that is read: 2 to 32 boards, at most `limit` picks, and the output words are a recording
  pub read_law : (n count : ℕ) → read_says limit bytes out ≡ read 0 n count → Gives limit n count out (read_leaves limit bytes out)
  unfolding read_says read_leaves
  read_law n count q = by (read_file limit (length out) bytes) refl q
    where
      by : (o : Content) → read_file limit (length out) bytes ≡ o → file_says o ≡ read 0 n count → Gives limit n count out (output_after o out)
      by (ended m ps e) i j =
          let em : m ≡ n = ap (λ (a : Read). a.boards) j in
          let ec : length ps ≡ count = ap (λ (a : Read). a.picks) j in
          rw (sym em, sym ec) (gives out (file_reading m ps e i))
      by (refused r) i j = absurd (number_positive r (ap (λ (a : Read). a.refusal) j))

  module _ (n : ℕ) (picks : List (List ℕ)) (end : ℕ) (q : read_file limit (length out) bytes ≡ ended n picks end) where
    -- the words lent back from the output are the picks of the definition
    pub picks_law : lent_picks n (read_leaves limit bytes out) (length picks) ≡ picks
    unfolding read_leaves
    picks_law = rw q (back out (file_reading n picks end q))

    -- the words of pick p stand from word (p - 1) * n on
    pub pick_law : (p : ℕ) → 1 ≤ p → p ≤ length picks → take n (drop ((p - 1) * n) (read_leaves limit bytes out)) ≡ pick_at picks p
    unfolding read_leaves lent_pick
    pick_law zero a b = absurd (omega arith)
    pick_law (suc p) a b = let e : suc p - 1 ≡ p = omega arith in rw (q, e) (one out (file_reading n picks end q) p b)

    -- nothing stands after the 45
    pub end_law : end ≡ length bytes
    unfolding read_file
    end_law = omega (arith, (is_alone bytes (recording_at limit (length out) bytes 0) n picks end q).1, (file_reading n picks end q).sound.inside)

  -- a refused reading changes nothing
  pub refused_law : ((read_says limit bytes out).refusal ≡ 0 → ⊥) → read_leaves limit bytes out ≡ out
  unfolding read_says read_leaves
  refused_law h = by (read_file limit (length out) bytes) h
    where
      by : (o : Content) → ((file_says o).refusal ≡ 0 → ⊥) → output_after o out ≡ out
      by (ended m ps e) g = absurd (g refl)
      by (refused r) g = refl

  -- the output keeps its length, whatever is read
  pub length_law : length (read_leaves limit bytes out) ≡ length out
  unfolding read_leaves
  length_law = by (read_file limit (length out) bytes) refl
    where
      by : (o : Content) → read_file limit (length out) bytes ≡ o → length (output_after o out) ≡ length out
      by (ended m ps e) i = long out (file_reading m ps e i)
      by (refused r) i = refl
