-- The causes of the call: none holds exactly where the clauses do, and what the call then answers and leaves. Assumes nothing.
use mathlib.Core.Path.{◌≡◌, refl, sym, ap, ◌∙◌}
use mathlib.Core.Logic.{◌↔◌, ⊎_elim}
use mathlib.Core.Bool.{Bool, true, false, not}
use mathlib.Core.List.{List, [], ◌∷◌}
use Prim.Native.Nat.{ℕ, ◌*◌, ◌/◌, ◌%◌, ◌≤◌, ◌<◌}
use native.Mathlib.Nat.{div-add-mod', mul-mod_left, le_refl}
use native.Mathlib.Omega.{arith}
use borrow.Author.Tests.{ltb-false, lt-ltb, le-ltb, eqb-true, not-false, ne_eqb}
use lib.Dec.{eqb, ltb}
use lib.ListN.{length}
use Rattle.model.specs.Causes.{between, Causes, first_of}
use Rattle.model.proofs.Causes.{cause_next, none_holds, between_says, holds_by, in-range, not_of_true}
use Rattle.model.proofs.Logic.{tr, eq_or, le_or_lt}
use Rattle.lists.specs.Tab.{splice}
use Rattle.checks.specs.Lent.{clean_picks}
use Rattle.checks.proofs.Lent.{lent-recording, recording_lent}
use Rattle.saving.specs.Answers.{Saved, saved, lent_file, save_causes, save_verdict, save_says, save_leaves}
use Rattle.saving.specs.May.{LentSequence, MaySave}

-- a later number: the test before it failed
cause_past : (x : Bool) (c : ℕ) (cs : Causes) {r : ℕ} → (c ≡ r → ⊥) → first_of ((x, c) ∷ cs) ≡ r → (x ≡ false) × (first_of cs ≡ r)
unfolding first_of
cause_past true c cs f e = absurd (f e)
cause_past false c cs f e = (refl, e)

module _ (n : ℕ) (w out : List ℕ) where
  abbrev bytes : List ℕ
  bytes = lent_file n w

  -- ---- the verdict

  -- where the causes before 18 do not hold
  lent_by : not (between 2 n 32) ≡ false → not (eqb (length w % n) 0) ≡ false → ltb 4096 (length w / n) ≡ false
      → not (clean_picks n w (length w / n)) ≡ false → LentSequence n w
  lent_by b s p c =
      let m = length w / n in
      let z : length w % n ≡ 0 = eqb-true _ _ (not-false _ s) in
      let d = div-add-mod' (length w) n in
      let q : length w ≡ m * n = omega arith in
      record {
        boards = between_says 2 n 32 (holds_by refl b);
        words = q;
        picks = ltb-false 4096 m p;
        recorded = lent-recording n w m (omega arith) (tr (sym (not-false (clean_picks n w m) c)) tt) m (le_refl m);
      }

  may_save : save_verdict n w out ≡ 0 → MaySave n w out
  unfolding save_verdict
  may_save e =
      let s = (none_holds (save_causes n w out) tt).0 e in
      record { lent = lent_by s.0 s.1.0 s.1.1.0 s.1.1.1.0; room = ltb-false (length out) (length bytes) s.1.1.1.1.0 }

  -- of a lent sequence only 18 is asked
  but_room : LentSequence n w → save_verdict n w out ≡ first_of ((ltb (length out) (length bytes), 18) ∷ [])
  unfolding save_verdict
  but_room s =
      let m = length w / n in
      let l : m * n ≤ length w = omega (arith, s.words) in
      let z : length w % n ≡ 0 = ap (λ (k : ℕ). k % n) s.words ∙ mul-mod_left m n in
      sym (cause_next 1 _ (in-range 2 n 32 s.boards.0 s.boards.1) (cause_next 10 _ (rw z) (cause_next 3 _ (le-ltb 4096 m s.picks)
      (cause_next 5 _ (not_of_true (clean_picks n w m) (recording_lent n w m l s.recorded)) refl))))

  clear : MaySave n w out → save_verdict n w out ≡ 0
  unfolding first_of
  clear s = but_room s.lent ∙ rw (le-ltb (length out) (length bytes) s.room)

  short : LentSequence n w → length out < length bytes → save_verdict n w out ≡ 18
  unfolding first_of
  short s h = but_room s ∙ rw (lt-ltb (length out) (length bytes) h)

  -- ---- the answer

  -- where nothing refuses
  saved_so : save_verdict n w out ≡ 0 → (save_says n w out ≡ saved 0 (length bytes)) × (save_leaves n w out ≡ splice 0 (length bytes) bytes out)
  unfolding save_says save_leaves
  saved_so e = (rw e, rw e)

  -- where something does
  refused_so : (save_verdict n w out ≡ 0 → ⊥) → (save_says n w out ≡ saved (save_verdict n w out) 0) × (save_leaves n w out ≡ out)
  unfolding save_says save_leaves
  refused_so f = let e = ne_eqb (save_verdict n w out) 0 f in (rw e, rw e)

  -- the refusal that is answered is the first cause
  pub save-says : (save_says n w out).refusal ≡ save_verdict n w out
  save-says =
      ⊎_elim (λ (e : save_verdict n w out ≡ 0). ap (λ (s : Saved). s.refusal) (saved_so e).0 ∙ sym e)
      (λ f. ap (λ (s : Saved). s.refusal) (refused_so f).0) (eq_or (save_verdict n w out) 0)

  pub save_exactly : ((save_says n w out).refusal ≡ 0) ↔ MaySave n w out
  save_exactly = (λ e. may_save (sym save-says ∙ e), λ s. save-says ∙ clear s)

  -- 18 comes after the others
  pub eighteen_lent : (save_says n w out).refusal ≡ 18 → LentSequence n w
  unfolding save_verdict
  eighteen_lent e =
      let p1 = cause_past _ 1 _ (λ z. omega arith) (sym save-says ∙ e) in
      let p2 = cause_past _ 10 _ (λ z. omega arith) p1.1 in
      let p3 = cause_past _ 3 _ (λ z. omega arith) p2.1 in
      let p4 = cause_past _ 5 _ (λ z. omega arith) p3.1 in
      lent_by p1.0 p2.0 p3.0 p4.0

  pub eighteen_exactly : ((save_says n w out).refusal ≡ 18) ↔ (LentSequence n w × (length out < length bytes))
  eighteen_exactly = (
    λ e. let s = eighteen_lent e in (
      s,
      ⊎_elim (λ (h : length bytes ≤ length out). let z = save_exactly.1 (record { lent = s; room = h }) in absurd (omega arith))
          (λ (h : length out < length bytes). h) (le_or_lt (length bytes) (length out)),
    ),
    λ p. save-says ∙ short p.0 p.1,
  )

  -- of a lent sequence it is refused by 18, or not at all
  pub save_room : LentSequence n w → ((save_says n w out).refusal ≡ 18 → ⊥) → MaySave n w out
  save_room s f =
      record {
        lent = s;
        room = ⊎_elim (λ (h : length bytes ≤ length out). h) (λ (h : length out < length bytes). absurd (f (save-says ∙ short s h)))
            (le_or_lt (length bytes) (length out));
      }

  -- a call that is not refused: how many bytes, and which
  pub save_fits : MaySave n w out → (save_says n w out ≡ saved 0 (length bytes)) × (save_leaves n w out ≡ splice 0 (length bytes) bytes out)
  save_fits s = saved_so (clear s)

  -- a refused one changes nothing and answers the number alone
  pub save_refused : ((save_says n w out).refusal ≡ 0 → ⊥) → (save_says n w out ≡ saved (save_says n w out).refusal 0) × (save_leaves n w out ≡ out)
  save_refused f =
      let r = refused_so (λ e. f (save-says ∙ e)) in
      (r.0 ∙ ap (λ (c : ℕ). saved c 0) (sym save-says), r.1)
