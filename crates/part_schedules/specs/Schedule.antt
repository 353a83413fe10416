-- Schedules: in which order a host calls the parts of a tender, and which orders Paper 14 allows (document 02, Paper 14: "in each round a desk still up is called
-- once to speak and, unless it goes dark then, once to close .. within each round all speaking comes before any closing"). Its word is order.
use Rattle.std.specs.Prelude.{List, [], ◌∷◌, ◌++◌, map, ◌≡◌, ℕ, suc, ◌≤◌, Bool, true, false, cond, not, ◌&&◌, eqb}
use Rattle.consensus.specs.Instance.{Instance, fault_of}
use Rattle.consensus.specs.declared.Fault.{Fault}
use Rattle.consensus.specs.declared.Fault.TheVariants.{Correct as correct, Crashes as crashes}
use Rattle.consensus.specs.declared.CrashPoint.TheVariants.{BeforeSending as before_sending, DuringData as during_data, DuringCommits as during_commits}
use Rattle.consensus.specs.State.{crashes_in}
use Rattle.consensus.specs.Consensus.{IsProcess}
use Rattle.part_host.specs.Part.{Part, up, crashed_in, part_of, is_open}
use Rattle.part_schedules.specs.Steps.{Hosted, Step, start, speak, close, round_over, unstarted, play}

-- The calls of one round: who speaks, one after the other, and then who closes.
pub record RoundOrder : Type 0 where
  pub speaking : List ℕ
  pub closing : List ℕ

-- A whole schedule: who starts, one after the other, and then the rounds, each in an order of its own.
pub record Schedule : Type 0 where
  pub starting : List ℕ
  pub rounds : List RoundOrder

unfoldable pub round_steps : RoundOrder → List Step
round_steps order = map speak order.speaking ++ (map close order.closing ++ (round_over ∷ []))

unfoldable pub steps_of_rounds : List RoundOrder → List Step
steps_of_rounds [] = []
steps_of_rounds (order ∷ orders) = round_steps order ++ steps_of_rounds orders

unfoldable pub schedule_steps : Schedule → List Step
schedule_steps s = map start s.starting ++ steps_of_rounds s.rounds

-- What the host keeps of a tender when the schedule is through.
unfoldable pub played : Instance → Schedule → Hosted
played x s = play x (schedule_steps s) (unstarted x)

-- How often process p is called.
unfoldable pub times_called : ℕ → List ℕ → ℕ
times_called p [] = 0
times_called p (q ∷ order) = cond (eqb p q) (suc (times_called p order)) (times_called p order)

-- A part that has not crashed (document 02: a desk still up), and one that is open besides.
unfoldable pub is_up : Part → Bool
is_up (up b) = true
is_up (crashed_in round b) = false

unfoldable pub up_and_open : Part → Bool
up_and_open (up b) = is_open b
up_and_open (crashed_in round b) = false

-- Whether process p crashes in the round that is played (document 01: goes dark): it began it open, and its failure line is of this round.
unfoldable pub crashes_now : Instance → Hosted → ℕ → Bool
crashes_now x h p = up_and_open (part_of h.parts p) && crashes_in h.round (fault_of x p)

-- Whether a process with this fault crashes in round r before it sends anything (document 01: step 00). Nothing of what it yields is let through, and a desk that
-- has lost its power cannot be called.
unfoldable pub crashes_unsent : ℕ → Fault → Bool
crashes_unsent r correct = false
crashes_unsent r (crashes round before_sending) = eqb round r
crashes_unsent r (crashes round (during_data reached)) = false
crashes_unsent r (crashes round (during_commits sent)) = false

-- Who must speak in the round that is played: an open process, unless it crashes before it sends. Who may: any that is up, so that one which has decided may be
-- called or left out.
unfoldable pub must_speak : Instance → Hosted → ℕ → Bool
must_speak x h p = up_and_open (part_of h.parts p) && not (crashes_unsent h.round (fault_of x p))

unfoldable pub may_speak : Hosted → ℕ → Bool
may_speak h p = is_up (part_of h.parts p)

-- Who must close it: an open process, unless it crashes in it. Who may: any that is up, with the same exception.
unfoldable pub must_close : Instance → Hosted → ℕ → Bool
must_close x h p = up_and_open (part_of h.parts p) && not (crashes_now x h p)

unfoldable pub may_close : Instance → Hosted → ℕ → Bool
may_close x h p = is_up (part_of h.parts p) && not (crashes_now x h p)

-- Whoever must be called is called once, and whoever is called may be. Those that may and need not be called are, as often as the host likes.
pub record Calls (x : Instance) (must may : ℕ → Bool) (order : List ℕ) : Type 0 where
  pub once : (p : ℕ) → IsProcess x p → must p ≡ true → times_called p order ≡ 1
  pub only : (p : ℕ) → 1 ≤ times_called p order → IsProcess x p × (may p ≡ true)

-- All processes are called, each once.
unfoldable pub EachOnce : Instance → List ℕ → Type 0
EachOnce x order = Calls x (λ p. true) (λ p. true) order

-- The calls of a round, by what the host keeps when it begins.
pub record RoundInOrder (x : Instance) (h : Hosted) (order : RoundOrder) : Type 0 where
  pub speak_calls : Calls x (must_speak x h) (may_speak h) order.speaking
  pub close_calls : Calls x (must_close x h) (may_close x h) order.closing

-- Rounds one after the other.
unfoldable pub RoundsInOrder : Instance → Hosted → List RoundOrder → Type 0
RoundsInOrder x h [] = Unit
RoundsInOrder x h (order ∷ orders) = RoundInOrder x h order × RoundsInOrder x (play x (round_steps order) h) orders

-- A whole schedule.
pub record InOrder (x : Instance) (s : Schedule) : Type 0 where
  pub starts : EachOnce x s.starting
  pub rounds : RoundsInOrder x (play x (map start s.starting) (unstarted x)) s.rounds
