-- For the code alone: the messages of a round as sets of processes (document 01, 'A round'; 'The forms we use': sets as masks of a u64).
use Rattle.std.specs.Prelude.{◌≡◌, ℕ, ◌≤◌, Bool, cond, eqb}
use Rattle.general.specs.Bits.{set_of}
use Rattle.coordinator.specs.Message.{gets_data, gets_commit}
use Rattle.consensus.specs.declared.Fault.{Fault}
use Rattle.consensus.specs.declared.Fault.TheVariants.{Crashes as crashes}
use Rattle.consensus.specs.declared.CrashPoint.{CrashPoint}
use Rattle.coordinator.specs.Delivery.{reach}
use Rattle.coordinator.specs.WellFormed.{PointAllowed}
use Rattle.coordinator_sending.specs.declared.Sent.{Sent}

-- A coordinator r with this fault may send to the processes above it, of n: if it crashes in round r, then at a point that is allowed there.
pub record SendingAllowed (n r : ℕ) (fault : Fault) : Type 0 where
  pub first : 1 ≤ r
  pub last : r ≤ n
  pub at_most_64 : n ≤ 64
  pub point_allowed : (point : CrashPoint) → fault ≡ crashes r point → PointAllowed n r r point

-- What coordinator r with this fault sends, if it speaks: itself, those that its data messages reach and those that its commit messages reach.
unfoldable pub sending_by : (n r : ℕ) → Fault → Bool → Sent
sending_by n r fault speaks =
    record {
      coordinator = cond speaks (set_of n (λ p. eqb p r)) 0;
      reached = cond speaks (set_of n (λ p. gets_data (reach n fault r p))) 0;
      committed = cond speaks (set_of n (λ p. gets_commit (reach n fault r p))) 0;
    }
