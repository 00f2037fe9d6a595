-- The limits of a plan (01, "Bytes of a model"), as facts of a number of clocks and of a ceiling.
use Rattle.std.specs.Prelude.{ℕ, ◌≤◌}
use Rattle.limits.specs.Limits.{max_clocks, max_ceiling}

pub record Clocks (n : ℕ) : Type 0 where
  pub low : 1 ≤ n
  pub high : n ≤ max_clocks

pub record Ceiling (M : ℕ) : Type 0 where
  pub low : 1 ≤ M
  pub high : M ≤ max_ceiling
