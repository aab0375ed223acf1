-- Within a pick: the window s to m, and counts that leave room for c compositions and t tests, and for a rise with its test from each start below m.
use Rattle.std.specs.Prelude.{ℕ, ◌+◌, ◌-◌, ◌*◌, ◌≤◌}
use Rattle.naive_walk.specs.Bounds.{most_per_rise, most_per_pick}
use Rattle.naive_walk.specs.declared.Numbers.{Numbers}

pub record Room (c t : ℕ) (x : Numbers) : Type 0 where
  pub end : x.s ≤ x.m
  pub compositions : x.compositions + c + most_per_rise * (x.m - x.s) ≤ 4096 + most_per_pick * x.m
  pub tests : x.tests + t + (x.m - x.s) ≤ 4096 * x.m
