-- What makes a reason true, and the claim that exactly one is (document 02, Paper 7: "The reason given is the true one, and exactly one applies").
use Rattle.std.specs.Prelude.{◌≡◌, cond, ℕ, ◌≤◌, ◌<◌, eqb}
use Rattle.consensus.specs.Instance.{Instance, fault_of}
use Rattle.consensus.specs.declared.Fault.TheVariants.{Crashes as crashes}
use Rattle.consensus.specs.declared.CrashPoint.{CrashPoint}
use Rattle.consensus.specs.declared.State.{State}
use Rattle.consensus.specs.declared.State.TheVariants.{Undecided as undecided, Decided as decided, Crashed as crashed}
use Rattle.consensus.specs.Consensus.{IsProcess, Decides}
use Rattle.coordinator.specs.Message.{nothing, estimate, estimate_and_commit, gets_data}
use Rattle.coordinator.specs.Delivery.{reach_at}
use Rattle.coordinator.specs.Run.{run_of, end_of}
use Rattle.coordinator.specs.Reason.{state_at_start, state_at_end, heard_in, reason_of}

-- r is a round of the run.
pub record IsRound (x : Instance) (r : ℕ) : Type 0 where
  pub first : 1 ≤ r
  pub last : r ≤ (run_of x).rounds

-- Process p "began the round undecided and stays up in it".
pub record StaysUp (x : Instance) (p r : ℕ) : Type 0 where
  pub held : ℕ
  pub began : state_at_start x r p ≡ undecided held
  pub up : (q : ℕ) → state_at_end x r p ≡ crashed q → ⊥

-- "Dark or decided".
pub data Ended : State → Type 0 where
  has_crashed : {q : ℕ} → Ended (crashed q)
  has_decided : {q v : ℕ} → Ended (decided q v)

-- Reason k is true of process p in round r.
pub data TrueReason (x : Instance) (p r : ℕ) : ℕ → Type 0 where
  -- "1 coordinated and decided"
  coordinated : {v : ℕ} → p ≡ r → state_at_end x r p ≡ decided r v → TrueReason x p r 1
  -- "2 heard value and commit"
  heard_commit : {v : ℕ} → StaysUp x p r → heard_in x r p ≡ estimate_and_commit v → TrueReason x p r 2
  -- "3 heard the value only"
  heard_value : {v : ℕ} → StaysUp x p r → heard_in x r p ≡ estimate v → TrueReason x p r 3
  -- "4 heard nothing, coordinator dark before this round"
  coordinator_crashed_before : {q : ℕ} → StaysUp x p r → heard_in x r p ≡ nothing → state_at_start x r r ≡ crashed q → TrueReason x p r 4
  -- "5 heard nothing, coordinator went dark in this round"
  coordinator_crashed_now : StaysUp x p r → heard_in x r p ≡ nothing → state_at_end x r r ≡ crashed r → TrueReason x p r 5
  -- "6 went dark itself"
  crashed_now : state_at_end x r p ≡ crashed r → TrueReason x p r 6
  -- "7 dark or decided earlier"
  ended_before : Ended (state_at_start x r p) → TrueReason x p r 7

-- The claim, of a well-formed instance.
pub record ReasonsTrue (x : Instance) : Type 0 where
  -- the reason that is given is true
  pub given : (p r : ℕ) → IsProcess x p → IsRound x r → TrueReason x p r (reason_of x p r)
  -- no other is
  pub only : (p r k : ℕ) → IsProcess x p → IsRound x r → TrueReason x p r k → k ≡ reason_of x p r
  -- no coordinator of a round of the run has decided before it, so that nobody hears nothing from such a one: reasons 4 and 5 leave no gap
  pub none_decided_before : (r q v : ℕ) → IsRound x r → state_at_start x r r ≡ decided q v → ⊥

-- The round in which a process ends.
unfoldable pub end_round : State → ℕ
end_round (undecided v) = 0
end_round (decided round v) = round
end_round (crashed round) = round

-- The reasons and the ends, of a well-formed instance: in the rounds before the one in which it ends a process has 3, 4 or 5, in that round 1, 2 or 6, and
-- then 7.
pub record ReasonsByEnds (x : Instance) : Type 0 where
  pub decision : (p r v : ℕ) → Decides x (end_of x) p r v → reason_of x p r ≡ cond (eqb p r) 1 2
  pub crash : (p r : ℕ) → IsProcess x p → end_of x p ≡ crashed r → reason_of x p r ≡ 6
  pub later : (p r : ℕ) → IsProcess x p → IsRound x r → end_round (end_of x p) < r → reason_of x p r ≡ 7
  -- the coordinator had ended before: it had crashed
  pub silent : (p r : ℕ) → IsProcess x p → IsRound x r → r < end_round (end_of x p) → end_round (end_of x r) < r → reason_of x p r ≡ 4
  -- the coordinator crashes in this round, at a point that lets its data message to the process through or not
  pub interrupted : (p r : ℕ) → IsProcess x p → IsRound x r → r < end_round (end_of x p) → r ≤ end_round (end_of x r)
      → (point : CrashPoint) × (fault_of x r ≡ crashes r point) × (reason_of x p r ≡ cond (gets_data (reach_at x.processes point p)) 3 5)
