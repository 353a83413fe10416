-- What refusals 1 to 8 leave of a coordinator ticket's instance (document 01, 'The ticket').
use Rattle.std.specs.Prelude.{◌≡◌, ℕ, ◌+◌, ◌%◌, ◌^◌, ◌≤◌, ◌<◌}
use Rattle.consensus.specs.Instance.{Instance}
use Rattle.consensus.specs.declared.Fault.{Fault}
use Rattle.consensus.specs.declared.CrashPoint.{CrashPoint}
use Rattle.consensus.specs.declared.CrashPoint.TheVariants.{BeforeSending as before_sending, DuringData as during_data, DuringCommits as during_commits}
use Rattle.consensus.specs.WellFormed.{FaultAllowedBy, WellFormedBy}

-- Process p, of n, may crash in this round at this point: steps 01 and 02 in its own round, data reaching only processes above it, at most n - p commits.
unfoldable pub PointAllowed : (n p round : ℕ) → CrashPoint → Type 0
PointAllowed n p round before_sending = Unit {0}
PointAllowed n p round (during_data reached) = (round ≡ p) × (reached % 2 ^ p ≡ 0) × (reached < 2 ^ n)
PointAllowed n p round (during_commits sent) = (round ≡ p) × (p + sent ≤ n)

-- Process p may have this fault.
abbrev pub FaultAllowed : (n t p : ℕ) → Fault → Type 0
FaultAllowed n t p fault = FaultAllowedBy PointAllowed n t p fault

abbrev pub WellFormed : Instance → Type 0
WellFormed x = WellFormedBy PointAllowed x
