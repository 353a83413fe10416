-- The claim of Paper 14 on one tender (document 02): "every order of desks ends in the same nine bytes for each desk, those that the rounds of the ticket's run
-- give".
use Rattle.std.specs.Prelude.{List, [], ◌++◌, map, ◌≡◌, ℕ, suc, ◌≤◌, true, false, length}
use Rattle.consensus.specs.Instance.{Instance}
use Rattle.consensus.specs.declared.State.{State}
use Rattle.consensus.specs.CrashCount.{crash_count}
use Rattle.consensus.specs.Consensus.{IsProcess, UniformConsensus}
use Rattle.coordinator.specs.Run.{run_of}
use Rattle.part_format.specs.PartState.{ValidBytes}
use Rattle.part_host.specs.Part.{Part, up, crashed_in, part_of, bytes_kept}
use Rattle.part_host.specs.Host.{parts_to}
use Rattle.part_host.specs.PartEnds.{state_by_part}
use Rattle.part_schedules.specs.Steps.{Step, start, unstarted, play}
use Rattle.part_schedules.specs.Schedule.{RoundOrder, Schedule, round_steps, steps_of_rounds, schedule_steps, played, up_and_open, crashes_now, EachOnce, RoundInOrder, InOrder}
use Rattle.part_schedules.specs.Answers.{AllAnswered}
use Rattle.part_schedules.specs.ByRun.{part_by_run}
use Rattle.part_schedules.specs.EndedCalls.{Ended}

-- A schedule in order, at whose end no part is open any more: the host may stop, or go on, in which case it calls decided parts alone.
pub record Whole (x : Instance) (s : Schedule) : Type 0 where
  pub in_order : InOrder x s
  pub none_open : (p : ℕ) → IsProcess x p → up_and_open (part_of (played x s).parts p) ≡ false

-- It has as many rounds as the run, or more.
pub record EnoughRounds (x : Instance) (s : Schedule) : Type 0 where
  pub enough : (run_of x).rounds ≤ length s.rounds

-- Parts on which nobody has been started, with nine bytes each, whatever they are.
pub record NineBytes (x : Instance) (parts : List Part) : Type 0 where
  pub many : length parts ≡ x.processes
  pub each : (p : ℕ) → IsProcess x p → (b : List ℕ) × (part_of parts p ≡ up b) × (length b ≡ 9)

-- How processes end by their parts, and f + 1 by them.
unfoldable pub ends_by : List Part → ℕ → State
ends_by parts p = state_by_part (part_of parts p)

unfoldable pub latest_by : Instance → List Part → ℕ
latest_by x parts = suc (crash_count x.pattern (map state_by_part parts))

pub record AnyOrder (x : Instance) : Type 0 where
  -- after any number of rounds, whatever the order in each, the parts are those of the base's host, which takes all processes at once
  pub after_rounds : (s : Schedule) → InOrder x s → (played x s).parts ≡ parts_to x (length s.rounds)
  -- whatever bytes were lent, starting is answered 0, and once all are started they make no difference
  pub any_bytes : (parts : List Part) → NineBytes x parts → (order : List ℕ) → EachOnce x order
      → (play x (map start order) (record { round = 1; parts = parts; spoken = [] }) ≡ play x (map start order) (unstarted x))
      × AllAnswered x (record { round = 1; parts = parts; spoken = [] }) (map start order)
  -- a process that crashes in the next round keeps the bytes with which that round begins
  pub crash_keeps : (s : Schedule) (order : RoundOrder) → InOrder x s → RoundInOrder x (played x s) order → (p : ℕ) → IsProcess x p
      → crashes_now x (played x s) p ≡ true
      → part_of (play x (round_steps order) (played x s)).parts p ≡ crashed_in (played x s).round (bytes_kept (part_of (played x s).parts p))
  -- no part is open when the rounds of the run are through
  pub through : (s : Schedule) → InOrder x s → EnoughRounds x s → Whole x s
  -- each ends as the run says
  pub by_run : (s : Schedule) → Whole x s → (p : ℕ) → IsProcess x p → part_of (played x s).parts p ≡ part_by_run x p
  -- one that has decided, also in the midst of a round, has the nine bytes already with which it ends, and they are a valid state
  pub decided_early : (s : Schedule) → Whole x s → (before behind : List Step) → steps_of_rounds s.rounds ≡ before ++ behind → (p : ℕ) → IsProcess x p
      → (b : List ℕ) → Ended (play x before (play x (map start s.starting) (unstarted x))) p b → (up b ≡ part_by_run x p) × ValidBytes b
  -- so two schedules, of as many rounds or not, end alike
  pub alike : (s u : Schedule) → Whole x s → Whole x u → (played x s).parts ≡ (played x u).parts
  -- no call of an open process is refused; one of a decided process is, with 11, and changes nothing
  pub answered : (s : Schedule) → InOrder x s → AllAnswered x (unstarted x) (schedule_steps s)
  -- demand 3, first half, of these bytes
  pub consensus : (s : Schedule) → Whole x s → UniformConsensus (latest_by x (played x s).parts) x (ends_by (played x s).parts)
