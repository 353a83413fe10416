-- The crash points at the limits. Assumes nothing.
use mathlib.Core.Path.{◌≡◌, refl}
use Prim.Native.Nat.{ℕ, ◌≤◌, ◌<◌}
use native.Mathlib.Omega.{arith}
use Rattle.coordinator.specs.WellFormed.{PointAllowed}
use Rattle.coordinator.specs.AllowedCases.{AllowedCases}

pub allowed_cases : AllowedCases
unfolding PointAllowed
allowed_cases =
    record {
      silent = tt;
      data_elsewhere = λ h. let e : ◌≡◌ {A = ℕ} 1 2 = h.0 in omega (arith, e);
      commits_elsewhere = λ h. let e : ◌≡◌ {A = ℕ} 1 2 = h.0 in omega (arith, e);
      data_above = (refl, refl, omega arith);
      data_to_itself = λ h. let e : ◌≡◌ {A = ℕ} 2 0 = h.1 in omega (arith, e);
      data_past_the_last = λ h. let e : 16 < 16 = h.2 in omega (arith, e);
      most_commits = (refl, omega arith);
      one_commit_more = λ h. let e : 5 ≤ 4 = h.1 in omega (arith, e);
    }
