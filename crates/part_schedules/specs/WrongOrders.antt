-- What becomes of desks whose host does not keep to Paper 14's order (document 02): steps that break a condition on schedules, and the parts with which they end or
-- what is answered.
use Rattle.std.specs.Prelude.{List, [], ◌∷◌, ◌++◌, map, ◌≡◌, ℕ}
use Rattle.consensus.specs.Instance.{Instance}
use Rattle.consensus.specs.FourProcesses.{after_one_commit}
use Rattle.part_format.specs.Case.{bytes_in}
use Rattle.part_host.specs.Part.{Part, up, crashed_in}
use Rattle.part_schedules.specs.Steps.{Step, start, speak, close, round_over, unstarted, play}
use Rattle.part_schedules.specs.Answers.{all_answers}
use Rattle.part_schedules.specs.Example.{silent_first}

-- All four are started, then these steps: the parts, and all that is answered.
unfoldable pub parts_after_steps : Instance → List Step → List Part
parts_after_steps x steps = (play x (map start (1 ∷ 2 ∷ 3 ∷ 4 ∷ []) ++ steps) (unstarted x)).parts

unfoldable pub answers_to_steps : Instance → List Step → List ℕ
answers_to_steps x steps = all_answers x (unstarted x) (map start (1 ∷ 2 ∷ 3 ∷ 4 ∷ []) ++ steps)

-- Case 1: process 2 closes round 1 before the coordinator has spoken. It keeps its own 20, coordinates round 2 with it, and two values are decided.
unfoldable pub closed_early : List Step
closed_early =
    speak 2 ∷ close 2 ∷ speak 1 ∷ speak 3 ∷ speak 4 ∷ close 3 ∷ close 4 ∷ round_over
    ∷ speak 2 ∷ speak 3 ∷ close 2 ∷ close 3 ∷ round_over ∷ []

unfoldable pub TwoValues : Type 0
TwoValues =
    parts_after_steps after_one_commit closed_early
    ≡ crashed_in 1 (bytes_in "01 04 02 01 00 0000000A")
    ∷ up (bytes_in "02 04 02 02 01 00000014")
    ∷ up (bytes_in "03 04 02 02 01 00000014")
    ∷ up (bytes_in "04 04 02 01 01 0000000A")
    ∷ []

-- Case 1: process 1, whose failure line is of round 1, closes it. It has decided, and does not go dark.
unfoldable pub crashing_closes : List Step
crashing_closes =
    speak 1 ∷ speak 2 ∷ speak 3 ∷ speak 4 ∷ close 1 ∷ close 2 ∷ close 3 ∷ close 4 ∷ round_over
    ∷ speak 2 ∷ speak 3 ∷ close 2 ∷ close 3 ∷ round_over ∷ []

unfoldable pub CrashedDecides : Type 0
CrashedDecides =
    parts_after_steps after_one_commit crashing_closes
    ≡ up (bytes_in "01 04 02 01 01 0000000A")
    ∷ up (bytes_in "02 04 02 02 01 0000000A")
    ∷ up (bytes_in "03 04 02 02 01 0000000A")
    ∷ up (bytes_in "04 04 02 01 01 0000000A")
    ∷ []

-- Case 1: process 2 does not speak in round 2, which it coordinates, and closes it: it has decided, and process 3 has heard nothing.
unfoldable pub coordinator_silent : List Step
coordinator_silent =
    speak 1 ∷ speak 2 ∷ speak 3 ∷ speak 4 ∷ close 2 ∷ close 3 ∷ close 4 ∷ round_over
    ∷ speak 3 ∷ close 2 ∷ close 3 ∷ round_over ∷ []

unfoldable pub NotHeard : Type 0
NotHeard =
    parts_after_steps after_one_commit coordinator_silent
    ≡ crashed_in 1 (bytes_in "01 04 02 01 00 0000000A")
    ∷ up (bytes_in "02 04 02 02 01 0000000A")
    ∷ up (bytes_in "03 04 02 03 00 0000000A")
    ∷ up (bytes_in "04 04 02 01 01 0000000A")
    ∷ []

-- Case 1 but that process 1 crashes before it sends (`silent_first`): it comes back in round 2 and closes on nothing, in its own round 1. It has decided 10, and the others
-- decide 20.
unfoldable pub crashed_comes_back : List Step
crashed_comes_back =
    speak 1 ∷ speak 2 ∷ speak 3 ∷ speak 4 ∷ close 2 ∷ close 3 ∷ close 4 ∷ round_over
    ∷ speak 2 ∷ speak 3 ∷ speak 4 ∷ close 1 ∷ close 2 ∷ close 3 ∷ close 4 ∷ round_over ∷ []

unfoldable pub CameBack : Type 0
CameBack =
    parts_after_steps silent_first crashed_comes_back
    ≡ crashed_in 1 (bytes_in "01 04 02 01 01 0000000A")
    ∷ up (bytes_in "02 04 02 02 01 00000014")
    ∷ up (bytes_in "03 04 02 02 01 00000014")
    ∷ up (bytes_in "04 04 02 02 01 00000014")
    ∷ []

-- Case 1: process 1, which has crashed in round 1, is called to speak in round 2. Its frames are of round 1, and the others refuse what they hear with 12.
unfoldable pub crashed_speaks : List Step
crashed_speaks =
    speak 1 ∷ speak 2 ∷ speak 3 ∷ speak 4 ∷ close 2 ∷ close 3 ∷ close 4 ∷ round_over
    ∷ speak 1 ∷ speak 2 ∷ speak 3 ∷ close 2 ∷ close 3 ∷ round_over ∷ []

unfoldable pub HeardFromCrashed : Type 0
HeardFromCrashed =
    answers_to_steps after_one_commit crashed_speaks ≡ (0 ∷ 0 ∷ 0 ∷ 0 ∷ []) ++ (8 ∷ 0 ∷ 0 ∷ 0 ∷ []) ++ (0 ∷ 0 ∷ 0 ∷ []) ++ (8 ∷ 8 ∷ 0 ∷ []) ++ (12 ∷ 12 ∷ [])

-- `silent_first`: process 3 closes round 1 twice and is a round ahead, in its own. In round 2 it yields frames beside those of process 2, and neither it nor process 4 takes
-- what it hears: refusal 12.
unfoldable pub closed_twice : List Step
closed_twice =
    speak 1 ∷ speak 2 ∷ speak 3 ∷ speak 4 ∷ close 3 ∷ close 2 ∷ close 3 ∷ close 4 ∷ round_over
    ∷ speak 2 ∷ speak 3 ∷ speak 4 ∷ close 2 ∷ close 3 ∷ close 4 ∷ round_over ∷ []

unfoldable pub RoundAhead : Type 0
RoundAhead =
    (parts_after_steps silent_first closed_twice
    ≡ crashed_in 1 (bytes_in "01 04 02 01 00 0000000A")
    ∷ up (bytes_in "02 04 02 02 01 00000014")
    ∷ up (bytes_in "03 04 02 03 00 0000001E")
    ∷ up (bytes_in "04 04 02 02 00 00000028")
    ∷ [])
    × (answers_to_steps silent_first closed_twice
    ≡ (0 ∷ 0 ∷ 0 ∷ 0 ∷ []) ++ (8 ∷ 0 ∷ 0 ∷ 0 ∷ []) ++ (0 ∷ 0 ∷ 0 ∷ 0 ∷ []) ++ (8 ∷ 8 ∷ 0 ∷ []) ++ (0 ∷ 12 ∷ 12 ∷ []))

-- Case 1: process 3 is left out when round 1 is closed, and in round 2 refuses what it hears with 12.
unfoldable pub left_open : List Step
left_open =
    speak 1 ∷ speak 2 ∷ speak 3 ∷ speak 4 ∷ close 2 ∷ close 4 ∷ round_over
    ∷ speak 2 ∷ speak 3 ∷ close 2 ∷ close 3 ∷ round_over ∷ []

unfoldable pub RoundBehind : Type 0
RoundBehind =
    answers_to_steps after_one_commit left_open ≡ (0 ∷ 0 ∷ 0 ∷ 0 ∷ []) ++ (8 ∷ 0 ∷ 0 ∷ 0 ∷ []) ++ (0 ∷ 0 ∷ []) ++ (8 ∷ 0 ∷ []) ++ (0 ∷ 12 ∷ [])

-- Case 1: process 1 is called to speak twice in round 1, and the others refuse what they hear with 12.
unfoldable pub spoken_twice : List Step
spoken_twice = speak 1 ∷ speak 2 ∷ speak 3 ∷ speak 4 ∷ speak 1 ∷ close 2 ∷ close 3 ∷ close 4 ∷ round_over ∷ []

unfoldable pub HeardTwice : Type 0
HeardTwice =
    answers_to_steps after_one_commit spoken_twice ≡ (0 ∷ 0 ∷ 0 ∷ 0 ∷ []) ++ (8 ∷ 0 ∷ 0 ∷ 0 ∷ 8 ∷ []) ++ (12 ∷ 12 ∷ 12 ∷ [])

-- Case 1: process 4, which has decided in round 1, is started again, and has lost its decision.
unfoldable pub started_again : List Step
started_again = speak 1 ∷ speak 2 ∷ speak 3 ∷ speak 4 ∷ close 2 ∷ close 3 ∷ close 4 ∷ round_over ∷ start 4 ∷ []

unfoldable pub DecisionLost : Type 0
DecisionLost =
    parts_after_steps after_one_commit started_again
    ≡ crashed_in 1 (bytes_in "01 04 02 01 00 0000000A")
    ∷ up (bytes_in "02 04 02 02 00 0000000A")
    ∷ up (bytes_in "03 04 02 02 00 0000000A")
    ∷ up (bytes_in "04 04 02 01 00 00000028")
    ∷ []

-- Process 3 is not started: its calls are refused with 10. So is the start of process 5, of four.
unfoldable pub NotStarted : Type 0
NotStarted =
    all_answers after_one_commit (unstarted after_one_commit) (start 1 ∷ start 2 ∷ start 4 ∷ start 5 ∷ speak 1 ∷ speak 3 ∷ close 3 ∷ [])
    ≡ 0 ∷ 0 ∷ 0 ∷ 10 ∷ 8 ∷ 10 ∷ 10 ∷ []

pub record WrongOrders : Type 0 where
  pub closed_before_all_spoke : TwoValues
  pub closed_though_crashing : CrashedDecides
  pub closed_unspoken : NotHeard
  pub closed_though_crashed : CameBack
  pub spoke_though_crashed : HeardFromCrashed
  pub closed_again : RoundAhead
  pub not_closed : RoundBehind
  pub spoke_again : HeardTwice
  pub started_twice : DecisionLost
  pub not_started : NotStarted
