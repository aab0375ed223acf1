-- The reader takes exactly the files of the grammar, and reads what they say. Assumes nothing.
use mathlib.Core.Path.{◌≡◌, refl, sym, ap, ◌∙◌}
use mathlib.Core.Logic.{◌↔◌}
use mathlib.Core.List.{List, [], ◌∷◌, ◌++◌, append-nil, append_assoc}
use Prim.Native.Nat.{ℕ, zero, suc, ◌+◌, ◌-◌, ◌≤◌, ◌<◌}
use native.Mathlib.Nat.{not-suc-le-zero, le_of_suc-le-suc, le_refl}
use native.Mathlib.Omega.{arith}
use borrow.Author.Tests.{le-ltb}
use lib.ListN.{length, get_or, drop, length-append, length-drop, drop_of_length-le}
use lib.Seq.{drop_at, drop-drop}
use Rattle.model.specs.Recording.{link}
use Rattle.model.specs.Causes.{first_or}
use Rattle.model.proofs.Logic.{tr}
use Rattle.lists.specs.Tab.{zeros}
use Rattle.links.specs.Picks.{lent_pick}
use Rattle.recording.specs.Format.{Content, ended, refused, commands, recording_at, read_file}
use Rattle.recording.specs.Answers.{read, file_says, read_says}
use Rattle.recording.specs.Grammar.{Act, sets, pick, spell, spell_all, spell_file, is_open, befores, Follow, Reads, AsWritten}
use Rattle.recording.proofs.Sound.{ended_reading}
use Rattle.recording.proofs.Laws.{number_positive, is_alone, pick_law}
use Rattle.recording.proofs.Turn.{More, links_after, picks_after, act_turn, end_turn, head_turn, TurnTold, at_act, at-end, turn_told, head_back}
use Rattle.recording.proofs.State.{Now, now_start, now_on, may_follow, follow_may, as_many}

-- ---- what is read is spelled

-- the acts from a place on, after some picks
record Rest (bytes : List ℕ) (n limit at count : ℕ) (earlier : List Act) : Type 0 where
  acts : List Act
  spelled : drop at bytes ≡ spell_all acts
  follow : Follow n earlier acts
  few : count + length (befores earlier acts) ≤ limit

module _ (bytes : List ℕ) (n limit m : ℕ) (ps : List (List ℕ)) (end : ℕ) (last : length bytes ≤ end) where
  -- where the reading that goes on comes to this end, the bytes are spelled
  abbrev Spelled : More → Type 0
  Spelled more = (at : ℕ) (picks : List (List ℕ)) (links : List ℕ) (earlier : List Act) → Now n limit earlier picks links
      → more at picks links ≡ ended m ps end → Rest bytes n limit at (length picks) earlier

  spell-step : (more : More) → Spelled more → (at : ℕ) (picks : List (List ℕ)) (links : List ℕ) (earlier : List Act)
      → Now n limit earlier picks links → TurnTold bytes n limit at picks links more (ended m ps end) → Rest bytes n limit at (length picks) earlier
  unfolding spell_all
  spell-step more ih at picks links earlier s (at_act x d a q) =
      let r = ih (at + length (spell x)) (picks_after picks links x) (links_after links x) (x ∷ earlier) (now_on s x a) q in
      record {
        acts = x ∷ r.acts;
        spelled = d ∙ ap (λ (l : List ℕ). spell x ++ l) r.spelled;
        follow = may_follow s x r.acts a r.follow;
        few = rw (sym (as_many picks links earlier x r.acts)) r.few;
      }
  spell-step more ih at picks links earlier s (at-end d q) =
      let e : at + 1 ≡ end = cc in
      record {
        acts = [];
        spelled = d ∙ ap (λ (l : List ℕ). 0x45 ∷ l) (drop_of_length-le bytes {i = at + 1} (omega arith));
        follow = unfold Follow in tt;
        few = unfold befores in omega (arith, s.few);
      }

  spelled_from : (turns : ℕ) → Spelled (commands bytes n limit turns)
  unfolding commands
  spelled_from zero at picks links earlier s q = absurd cc
  spelled_from (suc turns) at picks links earlier s q =
      spell-step (commands bytes n limit turns) (spelled_from turns) at picks links earlier s
      (turn_told bytes n limit at picks links (commands bytes n limit turns) m ps end q)

-- ---- what is spelled is read

-- the picks are as what stands before them says
pub record As (befores : List (List Act)) (picks : List (List ℕ)) : Type 0 where
  pub many : length picks ≡ length befores
  pub each : (k : ℕ) → k < length befores → (u v : ℕ) → link (get_or picks k []) u v ≡ is_open (get_or befores k []) u v

as_more : {bs : List (List Act)} {ps : List (List ℕ)} {b : List Act} {p : List ℕ} → ((u v : ℕ) → link p u v ≡ is_open b u v) → As bs ps
    → As (b ∷ bs) (p ∷ ps)
as_more {bs} {ps} {b} {p} h a = record { many = ap suc a.many; each = by }
  where
    by : (k : ℕ) → k < suc (length bs) → (u v : ℕ) → link (get_or (p ∷ ps) k []) u v ≡ is_open (get_or (b ∷ bs) k []) u v
    by zero l = h
    by (suc k) l = a.each k (le_of_suc-le-suc l)

-- the reading, with the picks that are to come
pub record EndsAsTold (bytes : List ℕ) (n : ℕ) (picks : List (List ℕ)) (befores : List (List Act)) (o : Content) : Type 0 where
  pub come : List (List ℕ)
  pub as_told : As befores come
  pub ends : o ≡ ended n (picks ++ come) (length bytes)

module _ (bytes : List ℕ) (n limit : ℕ) where
  abbrev all : List (List ℕ) → Content
  all picks = ended n picks (length bytes)

  picks_told : {earlier : List Act} {picks : List (List ℕ)} {links : List ℕ} {o : Content} → Now n limit earlier picks links → (x : Act) (xs : List Act)
      → EndsAsTold bytes n (picks_after picks links x) (befores (x ∷ earlier) xs) o → EndsAsTold bytes n picks (befores earlier (x ∷ xs)) o
  unfolding befores
  picks_told s (sets x a b) xs r = r
  picks_told {picks = picks} {links = links} s pick xs r =
      record { come = links ∷ r.come; as_told = as_more s.each r.as_told; ends = r.ends ∙ ap all (append_assoc picks (links ∷ []) r.come) }

  -- the bytes behind an act
  behind : (at : ℕ) (x : Act) (rest : List ℕ) → drop at bytes ≡ spell x ++ rest → drop (at + length (spell x)) bytes ≡ rest
  behind at x rest e = sym (drop-drop (length (spell x)) at bytes) ∙ ap (drop (length (spell x))) e ∙ drop_at (spell x) rest (length (spell x)) refl

  -- an act has a byte
  some : (x : Act) → 1 ≤ length (spell x)
  some (sets x a b) = omega arith
  some pick = omega arith

  read_from : (xs earlier : List Act) (turns at : ℕ) (picks : List (List ℕ)) (links : List ℕ) → Now n limit earlier picks links
      → drop at bytes ≡ spell_all xs → Follow n earlier xs → length picks + length (befores earlier xs) ≤ limit → length (spell_all xs) ≤ turns
      → EndsAsTold bytes n picks (befores earlier xs) (commands bytes n limit turns at picks links)
  unfolding spell_all
  read_from [] earlier zero at picks links s e f h t = absurd (not-suc-le-zero t)
  read_from [] earlier (suc turns) at picks links s e f h t =
      let l : length (drop at bytes) ≡ 1 = ap length e in
      let z : at + 1 ≡ length bytes = omega (arith, length-drop at bytes) in
      record {
        come = [];
        as_told = unfold befores in record { many = refl; each = λ k i. absurd (not-suc-le-zero i) };
        ends = end_turn bytes n limit turns at picks links [] e ∙ ap (ended n picks) z ∙ ap all (sym (append-nil picks));
      }
  read_from (x ∷ xs) earlier zero at picks links s e f h t = absurd (omega (arith, some x, simp length-append at t))
  read_from (x ∷ xs) earlier (suc turns) at picks links s e f h t =
      let (m, g) = follow_may s x xs f h in
      let q = rw (sym (as_many picks links earlier x xs)) at h in
      let r = read_from xs (x ∷ earlier) turns (at + length (spell x)) (picks_after picks links x) (links_after links x) (now_on s x m)
      (behind at x (spell_all xs) e) g q (omega (arith, some x, simp length-append at t)) in
      picks_told s x xs (rw (sym (act_turn bytes n limit turns at picks links x (spell_all xs) e m)) at r)

-- ---- the file

module _ (limit : ℕ) (bytes out : List ℕ) where
  spelled : (m : ℕ) (ps : List (List ℕ)) (end : ℕ) → read_file limit (length out) bytes ≡ ended m ps end → Reads limit (length out) bytes
  unfolding read_file spell_file
  spelled m ps end i =
      let (q, last) = is_alone bytes (recording_at limit (length out) bytes 0) m ps end i in
      let f = ended_reading limit (length out) bytes 0 m ps end q in
      let r = spelled_from bytes m limit m ps end last (length bytes) 2 [] (zeros m) [] (now_start m limit) f.whole in
      record {
        limit_low = f.head.some;
        limit_high = f.head.few;
        n = m;
        acts = r.acts;
        spelled = head_back f.head ∙ ap (λ (l : List ℕ). 0x42 ∷ m ∷ l) r.spelled;
        boards_low = f.head.low;
        boards_high = f.head.high;
        room_for = f.head.room_for;
        follow = r.follow;
        few = omega (arith, r.few);
      }

  pub read_whole : (r : Reads limit (length out) bytes) → EndsAsTold bytes r.n [] (befores [] r.acts) (read_file limit (length out) bytes)
  unfolding first_or read_file spell_file
  read_whole r =
      let n = r.n in
      let xs = r.acts in
      let l : length bytes ≡ suc (suc (length (spell_all xs))) = ap length r.spelled in
      let k = head_turn limit (length out) bytes n (spell_all xs) r.spelled r.limit_low r.limit_high r.boards_low r.boards_high r.room_for in
      let e = read_from bytes n limit xs [] (length bytes) 2 [] (zeros n) (now_start n limit) (ap (drop 2) r.spelled) r.follow
      (omega (arith, r.few)) (omega arith) in
      record { come = e.come; as_told = e.as_told; ends = rw (k, e.ends, le-ltb (length bytes) (length bytes) (le_refl _)) }

pub reads_exactly : (limit : ℕ) (bytes out : List ℕ) → ((read_says limit bytes out).refusal ≡ 0) ↔ Reads limit (length out) bytes
unfolding read_says
reads_exactly limit bytes out =
    ((λ q. by (read_file limit (length out) bytes) refl q), λ r. ap (λ (o : Content). (file_says o).refusal) (read_whole limit bytes out r).ends)
  where
    by : (o : Content) → read_file limit (length out) bytes ≡ o → (file_says o).refusal ≡ 0 → Reads limit (length out) bytes
    by (ended m ps end) i j = spelled limit bytes out m ps end i
    by (refused r) i j = absurd (number_positive r j)

pub reads_as_written : (limit : ℕ) (bytes out : List ℕ) (r : Reads limit (length out) bytes) → AsWritten limit bytes out r.n r.acts
unfolding read_says lent_pick
reads_as_written limit bytes out r =
    let e = read_whole limit bytes out r in
    record {
      answer = ap file_says e.ends ∙ ap (read 0 r.n) e.as_told.many;
      links = λ k h u v.
          let m = e.as_told.many in
          let z : suc k - 1 ≡ k = omega arith in
          let w = pick_law limit bytes out r.n e.come (length bytes) e.ends (suc k) (omega arith) (omega arith) in
          let p = ap (λ (t : List ℕ). link t u v) (rw z at w) ∙ e.as_told.each k h u v in
          (tr p, tr (sym p));
    }
