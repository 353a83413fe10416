-- An instance of the agreement problem: the processes, their proposals and the failure pattern (document 01, 'The ticket': a ticket's contents).
use Rattle.std.specs.Prelude.{List, ℕ, ◌-◌, Bool, cond, ◌&&◌, eqb, ltb, leb, get_or}
-- The code's enums. `CrashPoint`: how far a process gets with sending in the round in which it crashes (document 01: the step of a failure line).
-- `Fault`: what the failure pattern says of one process (document 01: no failure line, or its failure line).
use Rattle.consensus.specs.declared.CrashPoint.{CrashPoint}
use Rattle.consensus.specs.declared.CrashPoint.TheVariants.{BeforeSending as before_sending, DuringData as during_data, DuringCommits as during_commits}
use Rattle.consensus.specs.declared.Fault.{Fault}
use Rattle.consensus.specs.declared.Fault.TheVariants.{Correct as correct}

-- The crash point that a step, a set and a count stand for.
unfoldable pub point_from : (step reached count : ℕ) → CrashPoint
point_from step reached count = cond (eqb step 0) before_sending (cond (eqb step 1) (during_data reached) (during_commits count))

-- 1 ≤ n ≤ 64 and t < n.
unfoldable pub within_limits : (n t : ℕ) → Bool
within_limits n t = leb 1 n && leb n 64 && ltb t n

-- Process p (document 01: station, desk), from 1 to n, stands at place p - 1 of both lists.
pub record Instance : Type 0 where
  -- n
  pub processes : ℕ
  -- t, the most processes that may crash
  pub resilience : ℕ
  -- the value that each process proposes
  pub proposals : List ℕ
  -- the fault of each process
  pub pattern : List Fault

-- The value that process p proposes.
unfoldable pub proposal_of : Instance → ℕ → ℕ
proposal_of x p = get_or x.proposals (p - 1) 0

-- The fault of process p.
unfoldable pub fault_of : Instance → ℕ → Fault
fault_of x p = get_or x.pattern (p - 1) correct
