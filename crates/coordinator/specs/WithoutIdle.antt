-- An instance without its idle failure lines (document 01, 'A round': "A failure line whose station decided in an earlier round is idle: it changes nothing, and its station counts
-- as decided, not dark").
use Rattle.std.specs.Prelude.{cond}
use Rattle.general.specs.Indexed.{map_from}
use Rattle.consensus.specs.Instance.{Instance}
use Rattle.consensus.specs.declared.Fault.{Fault}
use Rattle.consensus.specs.declared.Fault.TheVariants.{Correct as correct, Crashes as crashes}
use Rattle.consensus.specs.declared.State.{State}
use Rattle.consensus.specs.CrashCount.{is_idle}
use Rattle.coordinator.specs.Run.{end_of}

-- What is left of a process's fault without its failure line if that is idle, given the process's end ("A failure line whose station decided in an earlier
-- round is idle").
unfoldable pub fault_left : State → Fault → Fault
fault_left end correct = correct
fault_left end (crashes round point) = cond (is_idle round end) correct (crashes round point)

-- The instance without the failure lines that are idle in its run.
unfoldable pub without_idle : Instance → Instance
without_idle x =
    record {
      processes = x.processes;
      resilience = x.resilience;
      proposals = x.proposals;
      pattern = map_from (λ p fault. fault_left (end_of x p) fault) 1 x.pattern;
    }
