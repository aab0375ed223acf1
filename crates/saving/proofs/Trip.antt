-- The file of a recording is of the grammar, and says the recording: it reads back. Assumes nothing.
use mathlib.Core.Path.{◌≡◌, refl, sym, ap, ◌∙◌}
use mathlib.Core.Logic.{⊎_elim}
use mathlib.Core.List.{List, [], ◌∷◌, ◌++◌}
use Prim.Native.Nat.{ℕ, zero, suc, ◌*◌, ◌≤◌, ◌<◌}
use native.Mathlib.Nat.{not-suc-le-zero, eq-or-lt_of_le, le_of_suc-le-suc, le_refl}
use native.Mathlib.Numerals.{add-one}
use native.Mathlib.Omega.{arith}
use lib.ListN.{length, get_or, length-append, get_or-append}
use lib.Seq.{ext_get_or, get_or-append_seam}
use Rattle.model.specs.Recording.{link, Recording}
use Rattle.model.proofs.Logic.{F→≡}
use Rattle.model.proofs.Links.{links_ext}
use Rattle.model.proofs.Windows.{pick-at}
use Rattle.lists.specs.Tab.{zeros}
use Rattle.links.proofs.Bits.{zeros_none}
use Rattle.recording.specs.Answers.{file_says, read_says}
use Rattle.recording.specs.Format.{ended, read_file}
use Rattle.recording.specs.Grammar.{Act, pick, is_open, befores, Follow, Reads}
use Rattle.recording.proofs.Grammar.{read_whole}
use Rattle.recording.proofs.Laws.{read_law, picks_law}
use Rattle.saving.specs.File.{each, change_acts, pick_acts, links_at, acts_at, file_acts, file}
use Rattle.saving.specs.Order.{Lasting, InOrder}
use Rattle.saving.proofs.Lends.{before_clean, pick_clean}
use Rattle.saving.proofs.Follows.{after, after-append, follow-append, befores-append}
use Rattle.saving.proofs.Partway.{change}
use Rattle.saving.proofs.Order.{file_ordered, left_pick, change_left}

-- ---- the commands of the picks so far

module _ (n : ℕ) (picks : List (List ℕ)) (r : Recording n picks) where
  abbrev acts : ℕ → List Act
  acts k = each (acts_at n picks) k

  -- they may follow each other, the links of pick k are open then, and before each 50 those of its pick
  record Told (k : ℕ) : Type 0 where
    follow : Follow n [] (acts k)
    now : (u v : ℕ) → is_open (after [] (acts k)) u v ≡ link (links_at n picks k) u v
    many : length (befores [] (acts k)) ≡ k
    each_pick : (j : ℕ) → j < k → (u v : ℕ) → is_open (get_or (befores [] (acts k)) j []) u v ≡ link (get_or picks j []) u v
    -- and each link that was named for it is as it was set
    lasting : (j : ℕ) → j < k → Lasting (get_or (befores [] (acts k)) j []) (get_or (befores [] (acts k)) j [])
    -- none is named for the next
    fresh : (w : List Act) → Lasting w (after [] (acts k))

  told_start : Told 0
  unfolding each Follow is_open befores Lasting
  told_start =
      record {
        follow = tt;
        now = λ u v. sym (F→≡ (link (zeros n) u v) (zeros_none n u v));
        many = refl;
        each_pick = λ j h. absurd (not-suc-le-zero h);
        lasting = λ j h. absurd (not-suc-le-zero h);
        fresh = λ w. tt;
      }

  module _ {k : ℕ} (t : Told k) (h : k < length picks) where
    abbrev sofar : List Act
    sofar = after [] (acts k)

    abbrev made : List Act
    made = change_acts n (links_at n picks k) (links_at n picks (suc k))

    -- what stands before the 50 of this pick
    abbrev whole : List Act
    whole = after sofar made

    told_turn : Told (suc k)
    unfolding each acts_at pick_acts
    told_turn =
        let s = change n (links_at n picks k) (links_at n picks (suc k)) (before_clean n picks r k (omega arith)) (pick_clean n picks r k h) sofar t.now in
        let f : Follow n sofar (made ++ (pick ∷ [])) = follow-append n sofar made (pick ∷ []) s.follow (unfold Follow in tt) in
        let b : befores [] (acts k ++ (made ++ (pick ∷ []))) ≡ befores [] (acts k) ++ (whole ∷ []) =
        befores-append [] (acts k) (made ++ (pick ∷ []))
        ∙ ap (λ (l : List (List Act)). befores [] (acts k) ++ l) (befores-append sofar made (pick ∷ []) ∙ rw s.none (unfold befores in refl)) in
        let q : after [] (acts k ++ (made ++ (pick ∷ []))) ≡ pick ∷ whole =
        after-append [] (acts k) (made ++ (pick ∷ [])) ∙ after-append sofar made (pick ∷ []) in
        record {
          follow = follow-append n [] (acts k) (made ++ (pick ∷ [])) t.follow f;
          now = λ u v. ap (λ (e : List Act). is_open e u v) q ∙ (unfold is_open in s.links u v);
          many = ap length b ∙ length-append (befores [] (acts k)) (whole ∷ []) ∙ rw t.many (add-one k);
          each_pick = λ j i. by b (λ e p. (u v : ℕ) → is_open e u v ≡ link p u v) s.links t.each_pick j i;
          lasting = λ j i. by b (λ e p. Lasting e e) (change_left n (links_at n picks k) (links_at n picks (suc k)) sofar s.links t.fresh) t.lasting j i;
          fresh = λ w. rw q (left_pick w whole);
        }
      where
        -- what holds before the 50 of this pick, and before the others, holds before each
        by : {bs : List (List Act)} → bs ≡ befores [] (acts k) ++ (whole ∷ []) → (P : List Act → List ℕ → Type 0) → P whole (get_or picks k [])
            → ((j : ℕ) → j < k → P (get_or (befores [] (acts k)) j []) (get_or picks j [])) → (j : ℕ) → j < suc k → P (get_or bs j []) (get_or picks j [])
        by e P h g j i =
            rw e (⊎_elim
            (λ (q : j ≡ k).
            let z : get_or (befores [] (acts k) ++ (whole ∷ [])) j [] ≡ whole =
            ap (λ (l : ℕ). get_or (befores [] (acts k) ++ (whole ∷ [])) l []) (q ∙ sym t.many) ∙ get_or-append_seam (befores [] (acts k)) whole [] [] in
            rw (z, q) h)
            (λ (l : j < k). rw (get_or-append (befores [] (acts k)) (whole ∷ []) [] j (rw t.many l)) (g j l))
            (eq-or-lt_of_le (le_of_suc-le-suc i)))

  told : (k : ℕ) → k ≤ length picks → Told k
  told zero h = told_start
  told (suc k) h = told_turn (told k (omega arith)) h

-- ---- the file

-- what is read is a recording
pub read_recording : (limit : ℕ) (bytes out : List ℕ) (n : ℕ) (picks : List (List ℕ)) (end : ℕ) → read_file limit (length out) bytes ≡ ended n picks end
    → (2 ≤ n) × (n ≤ 32) × Recording n picks × (length picks ≤ limit)
read_recording limit bytes out n picks end e =
    let g = read_law limit bytes out n (length picks) (unfold read_says in ap file_says e) in
    (g.low, g.high, rw (picks_law limit bytes out n picks end e) at g.recording, g.few)

module _ (n limit : ℕ) (out : List ℕ) (picks : List (List ℕ)) (low : 2 ≤ n) (high : n ≤ 32) (r : Recording n picks) (few : length picks ≤ limit)
    (some : 1 ≤ limit) (most : limit ≤ 4096) (fits : limit * n ≤ length out) where
  -- it is one that the reader takes
  file_reads : Reads limit (length out) (file n picks)
  unfolding file file_acts
  file_reads =
      let t = told n picks r (length picks) (le_refl _) in
      record {
        limit_low = some;
        limit_high = most;
        n = n;
        acts = file_acts n picks;
        spelled = refl;
        boards_low = low;
        boards_high = high;
        room_for = fits;
        follow = t.follow;
        few = omega (arith, t.many);
      }

  -- THE ROUND TRIP: it reads back, and nothing stands after its 45
  pub trip : read_file limit (length out) (file n picks) ≡ ended n picks (length (file n picks))
  unfolding file_acts file_reads
  trip =
      let t = told n picks r (length picks) (le_refl _) in
      let w = read_whole limit (file n picks) out file_reads in
      let c = (read_recording limit (file n picks) out n w.come (length (file n picks)) w.ends).2 in
      let m : length w.come ≡ length picks = w.as_told.many ∙ t.many in
      let e : w.come ≡ picks =
      ext_get_or [] w.come picks m (λ k h.
      links_ext n (get_or w.come k []) (get_or picks k []) (pick-at n w.come c (suc k) (omega arith) h).words
      (pick-at n picks r (suc k) (omega arith) (omega arith)).words
      (λ u v i j. w.as_told.each k (omega (arith, w.as_told.many)) u v ∙ t.each_pick k (omega arith) u v)) in
      w.ends ∙ ap (λ (l : List (List ℕ)). ended n l (length (file n picks))) e

-- the file is in the order of the request
pub file_in_order : (n : ℕ) (picks : List (List ℕ)) → Recording n picks → InOrder n (file n picks)
unfolding file file_acts
file_in_order n picks r =
    let t = told n picks r (length picks) (le_refl _) in
    let (o, l) = file_ordered n picks (length picks) in
    record { acts = file_acts n picks; spelled = refl; ordered = o; follow = t.follow; lasting = λ k h. t.lasting k (omega (arith, t.many)); last = l }
