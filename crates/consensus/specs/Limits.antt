-- The limits of an instance's size (document 01, 'The ticket': "1 ≤ n ≤ 64, t < n").
use Rattle.std.specs.Prelude.{ℕ, ◌≤◌, ◌<◌}

-- Of n processes at most t crash.
pub record Limits (n t : ℕ) : Type 0 where
  pub some_process : 1 ≤ n
  pub at_most_64 : n ≤ 64
  pub fewer_crashes : t < n
