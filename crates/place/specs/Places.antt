-- The place: its fresh values, its steps as whole records, and cause 16 of 01, as a test and clause by clause.
use Rattle.std.specs.Prelude.{ℕ, ◌+◌, ◌*◌, ◌≤◌, Bool, false, ◌&&◌, ◌||◌, not, ◌≡◌, eqb, leb}
use Rattle.model.specs.Causes.{between}
use Rattle.place.specs.declared.Settings.{Settings}
use Rattle.place.specs.declared.Window.{Window}
use Rattle.place.specs.declared.TestMarks.{TestMarks}
use Rattle.place.specs.declared.Counts.{Counts}
use Rattle.place.specs.declared.Place.{Place}

-- ---- fresh values

abbrev pub settings_of : ℕ → ℕ → ℕ → Settings
settings_of measure n limit = record { boards = n; measure = measure; limit = limit }

-- the window before pick 1
abbrev pub fresh_window : Window
fresh_window = record { taken = record { 0 = 0 }; start = record { 0 = 1 }; boundary = record { 0 = 0 } }

-- no test made
abbrev pub unmarked : TestMarks
unmarked = record { failed = false; passed = false }

-- nothing charged
abbrev pub uncharged : Counts
uncharged = record { compositions = record { 0 = 0 }; tests = record { 0 = 0 } }

-- the fresh place of a measure, for n boards and a limit
unfoldable pub fresh : ℕ → ℕ → ℕ → Place
fresh measure n limit = record {
  settings = settings_of measure n limit;
  window = fresh_window;
  marks = unmarked;
  counts = uncharged;
}

-- zeros and noes
unfoldable pub nowhere : Place
nowhere = record {
  settings = settings_of 0 0 0;
  window = record { taken = record { 0 = 0 }; start = record { 0 = 0 }; boundary = record { 0 = 0 } };
  marks = unmarked;
  counts = uncharged;
}

-- ---- steps, each of one group but for a test

-- another window, and other counts
abbrev pub window_as : Place → Window → Place
window_as p w = record { settings = p.settings; window = w; marks = p.marks; counts = p.counts }

abbrev pub counts_as : Place → Counts → Place
counts_as p c = record { settings = p.settings; window = p.window; marks = p.marks; counts = c }

-- k picks more
unfoldable pub picks_taken : Place → ℕ → Place
picks_taken p k = window_as p (record { taken = record { 0 = p.window.taken.0 + k }; start = p.window.start; boundary = p.window.boundary })

-- the start moved on by k
unfoldable pub start_moved : Place → ℕ → Place
start_moved p k = window_as p (record { taken = p.window.taken; start = record { 0 = p.window.start.0 + k }; boundary = p.window.boundary })

-- the boundary at the last pick
unfoldable pub boundary_moved : Place → Place
boundary_moved p = window_as p (record { taken = p.window.taken; start = p.window.start; boundary = p.window.taken })

-- k compositions charged
unfoldable pub charged : Place → ℕ → Place
charged p k = counts_as p (record { compositions = record { 0 = p.counts.compositions.0 + k }; tests = p.counts.tests })

-- the marks after a test with the result x
unfoldable pub marked : TestMarks → Bool → TestMarks
marked t x = record { failed = t.failed || not x; passed = x }

-- a test charged, and its result
unfoldable pub tested : Place → Bool → Place
unfolding marked
tested p x = record {
  settings = p.settings;
  window = p.window;
  marks = marked p.marks x;
  counts = record { compositions = p.counts.compositions; tests = record { 0 = p.counts.tests.0 + 1 } };
}

-- ---- what the counts stay below, from any place that cause 16 lets through

-- The named bound: one ladder over at most 4096 picks is built by fewer compositions than this, and rises in one pick are fewer.
abbrev pub per_ladder : ℕ
per_ladder = 4100

-- a pick charges less than this of each: it builds one ladder at most, and tests at every rise
abbrev pub per_pick : ℕ
per_pick = 4 * per_ladder

-- 4096 picks, and the unions before them: far from what a word of 32 bits holds
abbrev pub most_counted : ℕ
most_counted = 4097 * per_pick

-- ---- cause 16: it refuses the places of which `sound_place` is false. Each part denies the words of 01 above it, in 01's order;
-- n is `boards`, m `taken`, s `start` and b `boundary`

-- "n, measure or limit out of range"
unfoldable pub in_range : Place → Bool
in_range p = between 2 p.settings.boards 32 && (between 1 p.settings.measure 4 && between 1 p.settings.limit 4096)

-- "m above limit, b above m, s not 1 to b + 1"
unfoldable pub sound_window : Place → Bool
sound_window p = leb p.window.taken.0 p.settings.limit && (leb p.window.boundary.0 p.window.taken.0 && between 1 p.window.start.0
    (p.window.boundary.0 + 1))

-- "s above m when m is 1 or more"
unfoldable pub sound_start : Place → Bool
sound_start p = eqb p.window.taken.0 0 || leb p.window.start.0 p.window.taken.0

-- "a test marked as failed or as passed when m is 0"
unfoldable pub sound_marks : Place → Bool
sound_marks p = leb 1 p.window.taken.0 || (not p.marks.failed && not p.marks.passed)

-- "compositions above 4 × m or tests above 2 × m"
unfoldable pub sound_counts : Place → Bool
sound_counts p = leb p.counts.compositions.0 (4 * p.window.taken.0) && leb p.counts.tests.0 (2 * p.window.taken.0)

unfoldable pub sound_place : Place → Bool
sound_place p = in_range p && (sound_window p && (sound_start p && (sound_marks p && sound_counts p)))

-- the same, as statements: one for each clause
pub record Sound (p : Place) : Type 0 where
  pub boards_low : 2 ≤ p.settings.boards
  pub boards_high : p.settings.boards ≤ 32
  pub measure_low : 1 ≤ p.settings.measure
  pub measure_high : p.settings.measure ≤ 4
  pub limit_low : 1 ≤ p.settings.limit
  pub limit_high : p.settings.limit ≤ 4096
  pub taken_high : p.window.taken.0 ≤ p.settings.limit
  pub boundary_high : p.window.boundary.0 ≤ p.window.taken.0
  pub start_low : 1 ≤ p.window.start.0
  pub start_high : p.window.start.0 ≤ p.window.boundary.0 + 1
  pub start_taken : 1 ≤ p.window.taken.0 → p.window.start.0 ≤ p.window.taken.0
  pub none_failed : p.window.taken.0 ≡ 0 → p.marks.failed ≡ false
  pub none_passed : p.window.taken.0 ≡ 0 → p.marks.passed ≡ false
  pub compositions_high : p.counts.compositions.0 ≤ 4 * p.window.taken.0
  pub tests_high : p.counts.tests.0 ≤ 2 * p.window.taken.0
