-- How far the counts of a walk can go, so that no sum of them goes out of range. Nothing here says that they are right.
use Rattle.std.specs.Prelude.{ℕ, ◌*◌}

-- The named bound: where s rises, a ladder over at most 4096 picks is built, and the test that follows composes once more.
abbrev pub most_per_rise : ℕ
most_per_rise = 4097

-- a pick comes in at no more than that, and s rises less than 4096 times in it
abbrev pub most_per_pick : ℕ
most_per_pick = 4096 * most_per_rise
