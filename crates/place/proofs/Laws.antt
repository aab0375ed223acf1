-- Cause 16 read off its test and put back, and the two places that an opening hands back.
-- Assumes nothing.
use Prim.Native.Nat.{ℕ, zero, suc, ◌+◌, ◌*◌, ◌≤◌, ◌<◌}
use mathlib.Core.Bool.{Bool, true, false, ◌&&◌, ◌||◌, not}
use mathlib.Core.Path.{◌≡◌, refl, sym, subst}
use lib.Dec.{T, eqb, leb}
use native.Mathlib.Omega.{arith}
use borrow.Author.Tests.{leb-true, leb-false, le-leb, lt-leb, ne_eqb, not-true}
use Rattle.model.specs.Causes.{between}
use Rattle.place.specs.declared.Place.{Place}
use Rattle.place.specs.Places.{fresh, nowhere, in_range, sound_window, sound_start, sound_marks, sound_counts, sound_place, Sound}

-- ---- tests in a row

pub and_true : {a b : Bool} → a ≡ true → b ≡ true → (a && b) ≡ true
and_true e g = rw (e, g)

pub and_left : (a b : Bool) → (a && b) ≡ true → a ≡ true
and_left true b e = refl
and_left false b e = e

pub and_right : (a b : Bool) → (a && b) ≡ true → b ≡ true
and_right true b e = e
and_right false b e = absurd (subst T (sym e) tt)

-- what holds one way or the other, where the first does not hold
pub or_right : (a b : Bool) → a ≡ false → (a || b) ≡ true → b ≡ true
or_right true b e g = absurd (subst T e tt)
or_right false b e g = g

-- ---- cause 16, read off

between_low : (low x high : ℕ) → between low x high ≡ true → low ≤ x
unfolding between
between_low low x high e = leb-true low x (and_left _ _ e)

between_high : (low x high : ℕ) → between low x high ≡ true → x ≤ high
unfolding between
between_high low x high e = leb-true x high (and_right (leb low x) _ e)

boards_between : (p : Place) → in_range p ≡ true → between 2 p.settings.boards 32 ≡ true
unfolding in_range
boards_between p e = and_left _ _ e

measure_between : (p : Place) → in_range p ≡ true → between 1 p.settings.measure 4 ≡ true
unfolding in_range
measure_between p e = and_left _ _ (and_right (between 2 p.settings.boards 32) _ e)

limit_between : (p : Place) → in_range p ≡ true → between 1 p.settings.limit 4096 ≡ true
unfolding in_range
limit_between p e = and_right (between 1 p.settings.measure 4) _ (and_right (between 2 p.settings.boards 32) _ e)

taken_within : (p : Place) → sound_window p ≡ true → p.window.taken.0 ≤ p.settings.limit
unfolding sound_window
taken_within p e = leb-true _ _ (and_left _ _ e)

boundary_within : (p : Place) → sound_window p ≡ true → p.window.boundary.0 ≤ p.window.taken.0
unfolding sound_window
boundary_within p e = leb-true _ _ (and_left _ _ (and_right (leb p.window.taken.0 p.settings.limit) _ e))

start_between : (p : Place) → sound_window p ≡ true → between 1 p.window.start.0 (p.window.boundary.0 + 1) ≡ true
unfolding sound_window
start_between p e = and_right (leb p.window.boundary.0 p.window.taken.0) _ (and_right (leb p.window.taken.0 p.settings.limit) _ e)

start-within : (p : Place) → sound_start p ≡ true → 1 ≤ p.window.taken.0 → p.window.start.0 ≤ p.window.taken.0
unfolding sound_start
start-within p e h = leb-true _ _ (or_right (eqb p.window.taken.0 0) _ (ne_eqb p.window.taken.0 0 (λ z. omega (arith, h, z))) e)

none_marked : (p : Place) → sound_marks p ≡ true → p.window.taken.0 ≡ 0 → (not p.marks.failed && not p.marks.passed) ≡ true
unfolding sound_marks
none_marked p e z = or_right (leb 1 p.window.taken.0) _ (lt-leb 1 p.window.taken.0 (omega (arith, z))) e

compositions_within : (p : Place) → sound_counts p ≡ true → p.counts.compositions.0 ≤ 4 * p.window.taken.0
unfolding sound_counts
compositions_within p e = leb-true _ _ (and_left _ _ e)

tests_within : (p : Place) → sound_counts p ≡ true → p.counts.tests.0 ≤ 2 * p.window.taken.0
unfolding sound_counts
tests_within p e = leb-true _ _ (and_right (leb p.counts.compositions.0 (4 * p.window.taken.0)) _ e)

-- what `is_sound` needs on its way
pub limit_within : (p : Place) → in_range p ≡ true → p.settings.limit ≤ 4096
limit_within p e = between_high 1 p.settings.limit 4096 (limit_between p e)

pub taken_low : (p : Place) → in_range p ≡ true → sound_window p ≡ true → p.window.taken.0 ≤ 4096
taken_low p e g =
    let a : p.settings.limit ≤ 4096 = limit_within p e
    in let b : p.window.taken.0 ≤ p.settings.limit = taken_within p g
    in omega (arith, a, b)

says : (p : Place) → in_range p ≡ true → sound_window p ≡ true → sound_start p ≡ true → sound_marks p ≡ true → sound_counts p ≡ true → Sound p
says p r w s k c = record {
  boards_low = between_low 2 _ 32 (boards_between p r);
  boards_high = between_high 2 _ 32 (boards_between p r);
  measure_low = between_low 1 _ 4 (measure_between p r);
  measure_high = between_high 1 _ 4 (measure_between p r);
  limit_low = between_low 1 _ 4096 (limit_between p r);
  limit_high = limit_within p r;
  taken_high = taken_within p w;
  boundary_high = boundary_within p w;
  start_low = between_low 1 _ (p.window.boundary.0 + 1) (start_between p w);
  start_high = between_high 1 _ (p.window.boundary.0 + 1) (start_between p w);
  start_taken = start-within p s;
  none_failed = λ z. not-true _ (and_left _ _ (none_marked p k z));
  none_passed = λ z. not-true _ (and_right (not p.marks.failed) _ (none_marked p k z));
  compositions_high = compositions_within p c;
  tests_high = tests_within p c;
}

pub sound_says : (p : Place) → sound_place p ≡ true → Sound p
unfolding sound_place
sound_says p e =
    let e1 : (sound_window p && (sound_start p && (sound_marks p && sound_counts p))) ≡ true = and_right (in_range p) _ e
    in let e2 : (sound_start p && (sound_marks p && sound_counts p)) ≡ true = and_right (sound_window p) _ e1
    in let e3 : (sound_marks p && sound_counts p) ≡ true = and_right (sound_start p) _ e2
    in says p (and_left _ _ e) (and_left _ _ e1) (and_left _ _ e2) (and_left _ _ e3) (and_right (sound_marks p) _ e3)

-- ---- cause 16, put back

between_in : (low x high : ℕ) → low ≤ x → x ≤ high → between low x high ≡ true
unfolding between
between_in low x high h k = and_true (le-leb _ _ h) (le-leb _ _ k)

range_in : (p : Place) → Sound p → in_range p ≡ true
unfolding in_range
range_in p h =
    and_true (between_in _ _ _ h.boards_low h.boards_high)
    (and_true (between_in _ _ _ h.measure_low h.measure_high) (between_in _ _ _ h.limit_low h.limit_high))

window_in : (p : Place) → Sound p → sound_window p ≡ true
unfolding sound_window
window_in p h =
    and_true (le-leb _ _ h.taken_high)
    (and_true (le-leb _ _ h.boundary_high) (between_in _ _ _ h.start_low h.start_high))

-- where the first does not hold the second does
or_else : (a b : Bool) → (a ≡ false → b ≡ true) → (a || b) ≡ true
or_else true b f = refl
or_else false b f = f refl

not_of_false : {x : Bool} → x ≡ false → not x ≡ true
not_of_false e = rw e

some_taken : (m : ℕ) → eqb m 0 ≡ false → 1 ≤ m
some_taken zero f = absurd (subst T f tt)
some_taken (suc m) f = omega arith

none_taken : (m : ℕ) → leb 1 m ≡ false → m ≡ 0
none_taken m f =
    let h : m < 1 = leb-false 1 m f
    in omega (arith, h)

start_in : (p : Place) → Sound p → sound_start p ≡ true
unfolding sound_start
start_in p h = or_else (eqb p.window.taken.0 0) _ (λ f. le-leb _ _ (h.start_taken (some_taken p.window.taken.0 f)))

marks_in : (p : Place) → Sound p → sound_marks p ≡ true
unfolding sound_marks
marks_in p h =
    or_else (leb 1 p.window.taken.0) _
    (λ f. and_true (not_of_false (h.none_failed (none_taken p.window.taken.0 f))) (not_of_false (h.none_passed (none_taken p.window.taken.0 f))))

counts_in : (p : Place) → Sound p → sound_counts p ≡ true
unfolding sound_counts
counts_in p h = and_true (le-leb _ _ h.compositions_high) (le-leb _ _ h.tests_high)

pub sound_in : (p : Place) → Sound p → sound_place p ≡ true
unfolding sound_place
sound_in p h = and_true (range_in p h) (and_true (window_in p h) (and_true (start_in p h) (and_true (marks_in p h) (counts_in p h))))

-- ---- the places that an opening hands back

pub fresh_sound : (measure n limit : ℕ) → 2 ≤ n → n ≤ 32 → 1 ≤ measure → measure ≤ 4 → 1 ≤ limit → limit ≤ 4096
    → Sound (fresh measure n limit)
unfolding fresh
fresh_sound measure n limit nl nh ml mh ll lh = record {
  boards_low = nl;
  boards_high = nh;
  measure_low = ml;
  measure_high = mh;
  limit_low = ll;
  limit_high = lh;
  taken_high = omega arith;
  boundary_high = omega arith;
  start_low = omega arith;
  start_high = omega arith;
  start_taken = λ h. h;
  none_failed = λ z. refl;
  none_passed = λ z. refl;
  compositions_high = omega arith;
  tests_high = omega arith;
}

pub nowhere_unsound : sound_place nowhere ≡ false
unfolding sound_place in_range between nowhere
nowhere_unsound = refl
