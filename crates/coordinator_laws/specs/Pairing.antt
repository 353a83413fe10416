-- Pairing by instance, of demand 3's second half (document 01, 'A round', last paragraph): `Demand3` of demands/specs is stated in it, and texts
-- that are paired line by line (`PairedTexts`) describe instances that are paired so.
use Rattle.std.specs.Prelude.{◌≡◌, ℕ, ◌≤◌}
use Rattle.consensus.specs.Instance.{Instance, fault_of}
use Rattle.consensus.specs.declared.Fault.{Fault}
use Rattle.consensus.specs.declared.Fault.TheVariants.{Correct as correct, Crashes as crashes}
use Rattle.consensus.specs.declared.CrashPoint.TheVariants.{DuringCommits as during_commits}
use Rattle.consensus.specs.Consensus.{IsProcess}

-- The failure lines of one process in two instances: the same (or none in both), or of the commit step with as many commits or more in the second, or of
-- the commit step and missing there.
pub data LinePaired : Fault → Fault → Type 0 where
  same : {fault : Fault} → LinePaired fault fault
  more_commits : {round sent sent' : ℕ} → sent ≤ sent' → LinePaired (crashes round (during_commits sent)) (crashes round (during_commits sent'))
  missing : {round sent : ℕ} → LinePaired (crashes round (during_commits sent)) correct

-- Two instances that are equal but for that.
pub record Paired (x y : Instance) : Type 0 where
  pub processes : x.processes ≡ y.processes
  pub resilience : x.resilience ≡ y.resilience
  pub proposals : x.proposals ≡ y.proposals
  pub lines : (p : ℕ) → IsProcess x p → LinePaired (fault_of x p) (fault_of y p)
