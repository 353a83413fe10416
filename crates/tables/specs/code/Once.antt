-- For the code alone: that an instance is well formed has one proof at most, as a ghost field asks.
use Rattle.std.specs.Prelude.{ℕ}
use Rattle.std.specs.Coded.{Unit-prop}
use Rattle.std.proofs.Props.{props}
use Rattle.consensus.specs.declared.Fault.{Fault}
use Rattle.consensus.specs.declared.Fault.TheVariants.{Correct as correct, Crashes as crashes}
use Rattle.consensus.specs.declared.CrashPoint.{CrashPoint}
use Rattle.consensus.specs.declared.CrashPoint.TheVariants.{BeforeSending as before_sending, DuringData as during_data, DuringCommits as during_commits}
use Rattle.consensus.specs.WellFormed.{FaultAllowedBy}
use Rattle.coordinator.specs.WellFormed.{PointAllowed}

pub point_once : (n p round : ℕ) (point : CrashPoint) → IsProp (PointAllowed n p round point)
unfolding PointAllowed
point_once n p round before_sending = Unit-prop
point_once n p round (during_data reached) = Prim.hlevel props
point_once n p round (during_commits sent) = Prim.hlevel props

pub fault_once : (n t p : ℕ) (fault : Fault) → IsProp (FaultAllowedBy PointAllowed n t p fault)
unfolding FaultAllowedBy
fault_once n t p correct = Unit-prop
fault_once n t p (crashes round point) = Prim.hlevel (props, point_once)
