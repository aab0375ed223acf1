-- Verdicts: how code arrives at one, and what one says, read back. Assumes nothing.
use mathlib.Core.Path.{◌≡◌, refl, sym, ap, ◌∙◌, subst}
use mathlib.Core.Bool.{Bool, true, false, ◌&&◌, not}
use Prim.Native.Nat.{ℕ, ◌+◌, ◌*◌, ◌/◌, ◌%◌, ◌≤◌, ◌<◌}
use native.Mathlib.Nat.{mul-le-mul, div-add-mod'}
use native.Mathlib.Omega.{arith}
use mathlib.Core.List.{List}
use lib.Dec.{T, eqb, eqb→eq, leb, leb→le, le→leb, ltb, ltb→lt, lt→ltb}
use lib.ListN.{length}
use Rattle.model.specs.Causes.{NoneHolds}
use Rattle.model.proofs.Causes.{none_holds, holds_by, not_of_true, between_says, in-range}
use Rattle.model.proofs.Logic.{tr, T→≡, F→≡, eq_refl}
use Rattle.checks.specs.Checks.{clean, listed}
use Rattle.checks.specs.Lent.{clean_picks}
use Rattle.measures.specs.Kit.{kit}
use Rattle.area.specs.Parts.{width_of, Has, table_at}
use Rattle.area.proofs.Laws.{has}
use Rattle.place.specs.declared.Place.{Place}
use Rattle.place.proofs.Laws.{sound_says, sound_in}
use Rattle.verdicts.specs.Verdicts.{needed, lent_causes, open_causes, pick_causes, whole_causes, open_verdict, pick_verdict, whole_verdict}
use Rattle.verdicts.specs.Fit.{Clears, Opens, Admitted, Runs}

-- a check passed or failed, as code finds it
pub passed_by : {x y : Bool} → x ≡ y → x ≡ true → not y ≡ false
passed_by e f = ap not (sym e ∙ f)

pub failed_by : {x y : Bool} → x ≡ y → x ≡ false → not y ≡ true
failed_by e f = ap not (sym e ∙ f)

-- the words that an area needs are few enough to be counted
pub needed_most : {limit e : ℕ} → limit ≤ 4096 → e ≤ 2048 → (limit + 4) * e ≤ 8396800
needed_most {limit} a b =
    let x : limit + 4 ≤ 4100 = omega arith in omega (arith, mul-le-mul x b)

-- part limit + 3 lies in the area
pub third_part : (measure n limit words : ℕ) → needed measure n limit ≤ words → Has (width_of measure n) words (limit + 3)
third_part measure n limit words h = has (width_of measure n) (limit + 4) words (limit + 3) h (omega arith) (omega arith)

pub not_short : (x y : ℕ) → ltb x y ≡ false → y ≤ x
not_short x y e = let g : x < y → ⊥ = λ h. tr e (lt→ltb x y h) in omega arith

false_of : {x : Bool} → x ≡ false → T x → ⊥
false_of e t = tr e t

pub true_of : (x : Bool) → not x ≡ false → T x
true_of true e = tt
true_of false e = tr e tt

-- a check that concerns measure 2 alone
two_of : (measure : ℕ) (x : Bool) → eqb measure 2 && not x ≡ false → measure ≡ 2 → T x
two_of measure x e m = true_of x (subst (λ (b : Bool). b && not x ≡ false) (T→≡ (eqb measure 2) (eq_refl m)) e)

-- what an opening relies on
pub open_sound : (n measure limit : ℕ) (footprint a : List ℕ) → open_verdict n measure limit footprint a ≡ 0 → Opens n measure limit footprint a
unfolding open_verdict
open_sound n measure limit footprint a e =
    let s = (none_holds (open_causes n measure limit footprint a) tt).0 e in
    let t = s.1.1.1 in
    let bn = between_says 2 n 32 (holds_by refl s.0) in
    let bm = between_says 1 measure 4 (holds_by refl s.1.0) in
    let bl = between_says 1 limit 4096 (holds_by refl s.1.1.0) in
    record {
      some_boards = bn.0;
      few = bn.1;
      measure_low = bm.0;
      measure_high = bm.1;
      some_picks = bl.0;
      cap = bl.1;
      room = not_short (length a) (needed measure n limit) t.1.1.0;
      list = λ m. sym (eqb→eq (length footprint) n (two_of measure (eqb (length footprint) n) t.0 m));
      clean = two_of measure (clean n footprint) t.1.0;
    }

pub open_clears : {n measure limit : ℕ} {footprint a : List ℕ} → Opens n measure limit footprint a → Clears n measure limit footprint a
open_clears o = record { few = o.few; cap = o.cap; room = o.room; list = o.list }

-- what a pick relies on
pub pick_sound : (p : Place) (a w : List ℕ) → pick_verdict p a w ≡ 0 → Admitted p a w
unfolding pick_verdict
pick_sound p a w e =
    let n = p.settings.boards in
    let s = (none_holds (pick_causes p a w) tt).0 e in
    let t = s.1.1.1 in
    let g : p.settings.limit ≤ p.window.taken.0 → ⊥ = λ h. false_of s.1.0 (le→leb p.settings.limit p.window.taken.0 h) in
    record {
      sound = sound_says p (holds_by refl s.0);
      below = omega arith;
      shape = eqb→eq (length w) n (true_of (eqb (length w) n) s.1.1.0);
      clean = true_of (clean n w) t.0;
      room = not_short (length a) (needed p.settings.measure n p.settings.limit) t.1.0;
      listed = two_of p.settings.measure (listed n (table_at (kit p.settings.measure n) a (p.settings.limit + 3)) w) t.1.1.0;
    }

-- what the first causes of a lent recording leave
pub lent_sound : (n : ℕ) (w : List ℕ) → NoneHolds (lent_causes n w) → (length w ≡ length w / n * n) × (1 ≤ length w / n) × (length w / n ≤ 4096)
lent_sound n w s =
    let z : length w % n ≡ 0 = eqb→eq (length w % n) 0 (true_of (eqb (length w % n) 0) s.0) in
    let nz : length w / n ≡ 0 → ⊥ = λ h. false_of s.1.0 (eq_refl h) in
    let d = div-add-mod' (length w) n in
    (omega arith, omega arith, not_short 4096 (length w / n) s.1.1.0)

-- what a whole run relies on
pub whole_sound : (n measure : ℕ) (w a : List ℕ) → whole_verdict n measure w a ≡ 0 → Runs n measure (length w / n) w a
unfolding whole_verdict
whole_sound n measure w a e =
    let m = length w / n in
    let s = (none_holds (whole_causes n measure w a) tt).0 e in
    let t = s.1.1 in
    let l = lent_sound n w (t.0, (t.1.0, (t.1.1.0, tt))) in
    let bn = between_says 2 n 32 (holds_by refl s.0) in
    let bm = between_says 1 measure 4 (holds_by refl s.1.0) in
    record {
      some_boards = bn.0;
      few = bn.1;
      measure_low = bm.0;
      measure_high = bm.1;
      words = l.0;
      some_picks = l.1;
      cap = l.2;
      room = not_short (length a) (needed measure n m) t.1.1.1.0;
      clean = true_of (clean_picks n w m) t.1.1.1.1.0;
    }

-- ---- the other way: where each clause holds, no cause does

two_passes : (measure : ℕ) (x : Bool) → (measure ≡ 2 → T x) → eqb measure 2 && not x ≡ false
two_passes measure x f = go (eqb measure 2) (λ t. f (eqb→eq measure 2 t))
  where
    go : (b : Bool) → (T b → T x) → b && not x ≡ false
    go true g = not_of_true x (g tt)
    go false g = refl

pub long_enough : (x y : ℕ) → y ≤ x → ltb x y ≡ false
long_enough x y h = F→≡ (ltb x y) (λ t. let z = ltb→lt x y t in omega arith)

pub opens_verdict : {n measure limit : ℕ} {footprint a : List ℕ} → Opens n measure limit footprint a → open_verdict n measure limit footprint a ≡ 0
unfolding open_verdict
opens_verdict {n} {measure} {limit} {footprint} {a} o =
    (none_holds (open_causes n measure limit footprint a) tt).1 (
      in-range 2 n 32 o.some_boards o.few,
      (
        in-range 1 measure 4 o.measure_low o.measure_high,
        (
          in-range 1 limit 4096 o.some_picks o.cap,
          (
            two_passes measure (eqb (length footprint) n) (λ m. eq_refl (sym (o.list m))),
            (
              two_passes measure (clean n footprint) o.clean,
              (long_enough (length a) (needed measure n limit) o.room, tt),
            ),
          ),
        ),
      ),
    )

pub admitted_verdict : {p : Place} {a w : List ℕ} → Admitted p a w → pick_verdict p a w ≡ 0
unfolding pick_verdict
admitted_verdict {p} {a} {w} t =
    let n = p.settings.boards in
    let l = p.settings.limit in
    let m = p.window.taken.0 in
    (none_holds (pick_causes p a w) tt).1 (
      ap not (sound_in p t.sound),
      (
        F→≡ (leb l m) (λ x. let y = leb→le l m x in let z = t.below in omega arith),
        (
          not_of_true (eqb (length w) n) (eq_refl t.shape),
          (
            not_of_true (clean n w) t.clean,
            (
              long_enough (length a) (needed p.settings.measure n l) t.room,
              (two_passes p.settings.measure (listed n (table_at (kit p.settings.measure n) a (l + 3)) w) t.listed, tt),
            ),
          ),
        ),
      ),
    )

-- words for a whole number of picks, one at least
pub whole_picks : (x n : ℕ) → x ≡ x / n * n → not (eqb (x % n) 0) ≡ false
whole_picks x n e = let d = div-add-mod' x n in let z : x % n ≡ 0 = omega arith in not_of_true (eqb (x % n) 0) (eq_refl z)

pub some_picks : (m : ℕ) → 1 ≤ m → eqb m 0 ≡ false
some_picks m h = F→≡ (eqb m 0) (λ t. let z = eqb→eq m 0 t in omega arith)

pub lent_none : (n : ℕ) (w : List ℕ) → length w ≡ length w / n * n → 1 ≤ length w / n → length w / n ≤ 4096 → NoneHolds (lent_causes n w)
lent_none n w e s h = (whole_picks (length w) n e, (some_picks (length w / n) s, (long_enough 4096 (length w / n) h, tt)))

pub runs_verdict : (n measure : ℕ) (w a : List ℕ) → Runs n measure (length w / n) w a → whole_verdict n measure w a ≡ 0
unfolding whole_verdict
runs_verdict n measure w a o =
    let l = lent_none n w o.words o.some_picks o.cap in
    (none_holds (whole_causes n measure w a) tt).1 (
      in-range 2 n 32 o.some_boards o.few,
      (
        in-range 1 measure 4 o.measure_low o.measure_high,
        (
          l.0,
          (
            l.1.0,
            (
              l.1.1.0,
              (
                long_enough (length a) (needed measure n (length w / n)) o.room,
                (not_of_true (clean_picks n w (length w / n)) o.clean, tt),
              ),
            ),
          ),
        ),
      ),
    )
