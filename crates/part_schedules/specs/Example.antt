-- Case 1 of document 01 ('Worked runs') in two orders, others in one of them, and case 1 beside case 5 with the calls of both mixed; by them the premises of the
-- claims on schedules can be met (document 02, Paper 14).
use Rattle.std.specs.Prelude.{List, [], ◌∷◌, ◌++◌, map, ◌≡◌, ℕ, true, false, cond, eqb, take, drop, replicate}
use Rattle.consensus.specs.Instance.{Instance}
use Rattle.consensus.specs.declared.Fault.TheVariants.{Correct as correct, Crashes as crashes}
use Rattle.consensus.specs.declared.CrashPoint.TheVariants.{BeforeSending as before_sending, DuringData as during_data, DuringCommits as during_commits}
use Rattle.consensus.specs.FourProcesses.{four, first_crashes, after_one_commit, data_to_the_last, idle_besides}
use Rattle.part_format.specs.PartState.{ValidBytes}
use Rattle.part_format.specs.Case.{bytes_in}
use Rattle.part_host.specs.Part.{Part, up, crashed_in}
use Rattle.part_schedules.specs.Steps.{Step, speak, unstarted, play}
use Rattle.part_schedules.specs.Schedule.{RoundOrder, Schedule, round_steps, steps_of_rounds, schedule_steps, played, crashes_now, RoundInOrder, InOrder}
use Rattle.part_schedules.specs.Answers.{due, all_answers}
use Rattle.part_schedules.specs.ByRun.{part_by_run}
use Rattle.part_schedules.specs.AnyOrder.{Whole, EnoughRounds, NineBytes}
use Rattle.part_schedules.specs.EndedCalls.{Ended, starts}
use Rattle.part_schedules.specs.Permutations.{passing_schedule, Permuted}
use Rattle.part_schedules.specs.Tenders.{TenderStep, play_mixed, of_tender, all_of}

abbrev pub in_round : (speaking closing : List ℕ) → RoundOrder
in_round speaking closing = record { speaking = speaking; closing = closing }

-- Processes 1 to 4 in order; process 1 crashes in round 1, and process 4, which decides in it, is then left out.
unfoldable pub ascending : Schedule
ascending =
    record {
      starting = 1 ∷ 2 ∷ 3 ∷ 4 ∷ [];
      rounds = in_round (1 ∷ 2 ∷ 3 ∷ 4 ∷ []) (2 ∷ 3 ∷ 4 ∷ []) ∷ in_round (2 ∷ 3 ∷ []) (2 ∷ 3 ∷ []) ∷ [];
    }

-- All processes, in each round in another order; and a third round, when all have decided or crashed.
unfoldable pub permuted : Schedule
permuted =
    record {
      starting = 3 ∷ 1 ∷ 4 ∷ 2 ∷ [];
      rounds = in_round (2 ∷ 4 ∷ 3 ∷ 1 ∷ []) (4 ∷ 3 ∷ 1 ∷ 2 ∷ []) ∷ in_round (3 ∷ 1 ∷ 2 ∷ 4 ∷ []) (4 ∷ 1 ∷ 3 ∷ 2 ∷ [])
          ∷ in_round (4 ∷ 3 ∷ 2 ∷ 1 ∷ []) (1 ∷ 4 ∷ 2 ∷ 3 ∷ []) ∷ [];
    }

-- Processes that have decided are called as often as the host likes: process 4 twice to speak in round 2 and not to close, and twice to close in round 3; process 3 in a
-- round behind t + 1.
unfoldable pub often : Schedule
often =
    record {
      starting = 1 ∷ 2 ∷ 3 ∷ 4 ∷ [];
      rounds = in_round (1 ∷ 2 ∷ 3 ∷ 4 ∷ []) (4 ∷ 2 ∷ 3 ∷ []) ∷ in_round (4 ∷ 3 ∷ 4 ∷ 2 ∷ []) (2 ∷ 3 ∷ []) ∷ in_round [] (4 ∷ 2 ∷ 4 ∷ []) ∷ in_round (3 ∷ []) [] ∷ [];
    }

-- With these parts case 1 ends: process 1 crashed in round 1, the others have decided 10.
unfoldable pub case1_left : List Part
case1_left =
    crashed_in 1 (bytes_in "01 04 02 01 00 0000000A")
    ∷ up (bytes_in "02 04 02 02 01 0000000A")
    ∷ up (bytes_in "03 04 02 02 01 0000000A")
    ∷ up (bytes_in "04 04 02 01 01 0000000A")
    ∷ []

-- Case 3, which is paired with case 1: process 1 crashes after all three commits. With these parts it ends.
unfoldable pub after_all_commits : Instance
after_all_commits = first_crashes (during_commits 3)

unfoldable pub case3_left : List Part
case3_left =
    crashed_in 1 (bytes_in "01 04 02 01 00 0000000A")
    ∷ up (bytes_in "02 04 02 01 01 0000000A")
    ∷ up (bytes_in "03 04 02 01 01 0000000A")
    ∷ up (bytes_in "04 04 02 01 01 0000000A")
    ∷ []

-- With these parts case 5 ends.
unfoldable pub case5_left : List Part
case5_left =
    crashed_in 1 (bytes_in "01 04 02 01 00 0000000A")
    ∷ up (bytes_in "02 04 02 02 01 00000014")
    ∷ up (bytes_in "03 04 02 02 01 00000014")
    ∷ up (bytes_in "04 04 02 02 01 00000014")
    ∷ []

-- Process 2 hears process 1's value in round 1 and crashes in round 2, before it sends: it keeps that value, and processes 3 and 4 decide 30 in round 3.
unfoldable pub adopted_then_crashed : Instance
adopted_then_crashed = four (crashes 1 (during_data 2) ∷ crashes 2 before_sending ∷ correct ∷ correct ∷ [])

unfoldable pub adopted_left : List Part
adopted_left =
    crashed_in 1 (bytes_in "01 04 02 01 00 0000000A")
    ∷ crashed_in 2 (bytes_in "02 04 02 02 00 0000000A")
    ∷ up (bytes_in "03 04 02 03 01 0000001E")
    ∷ up (bytes_in "04 04 02 03 01 0000001E")
    ∷ []

-- The parts with which all processes in these orders leave an instance, and those that its run gives.
unfoldable pub left_permuted : Instance → List Part
left_permuted x = (played x (passing_schedule x permuted)).parts

unfoldable pub given_by_run : Instance → List Part
given_by_run x = map (part_by_run x) (1 ∷ 2 ∷ 3 ∷ 4 ∷ [])

pub record EndsAlike : Type 0 where
  pub case1_ascending : (played after_one_commit ascending).parts ≡ case1_left
  pub case1_permuted : left_permuted after_one_commit ≡ case1_left
  pub case1_run : given_by_run after_one_commit ≡ case1_left
  pub case3_permuted : left_permuted after_all_commits ≡ case3_left
  pub case5_permuted : left_permuted data_to_the_last ≡ case5_left
  -- case 7: process 4 decides in round 1, and its failure line, of round 2, is idle
  pub case7_permuted : left_permuted idle_besides ≡ case1_left
  pub adopted_permuted : left_permuted adopted_then_crashed ≡ adopted_left
  pub adopted_run : given_by_run adopted_then_crashed ≡ adopted_left

-- What the calls in these orders are answered: four starts; then speaking and closing of each round. In case 1 process 1 closes none and is passed over from round 2
-- on, process 4 has decided in round 1, and processes 2 and 3 in round 2. In case 7 it is the same: process 4 is called in round 2 as well.
unfoldable pub answers_permuted : Instance → List ℕ
answers_permuted x = all_answers x (unstarted x) (schedule_steps (passing_schedule x permuted))

unfoldable pub case1_answers : List ℕ
case1_answers =
    (0 ∷ 0 ∷ 0 ∷ 0 ∷ [])
    ++ (0 ∷ 0 ∷ 0 ∷ 8 ∷ []) ++ (0 ∷ 0 ∷ 0 ∷ [])
    ++ (0 ∷ 8 ∷ 11 ∷ []) ++ (11 ∷ 0 ∷ 0 ∷ [])
    ++ (11 ∷ 11 ∷ 11 ∷ []) ++ (11 ∷ 11 ∷ 11 ∷ [])

-- Process 2 of the last instance crashes in round 2 before it sends: it is called to speak, and yields; it is not called to close, and from round 3 on passed over.
unfoldable pub adopted_answers : List ℕ
adopted_answers =
    (0 ∷ 0 ∷ 0 ∷ 0 ∷ [])
    ++ (0 ∷ 0 ∷ 0 ∷ 8 ∷ []) ++ (0 ∷ 0 ∷ 0 ∷ [])
    ++ (0 ∷ 8 ∷ 0 ∷ []) ++ (0 ∷ 0 ∷ [])
    ++ (0 ∷ 8 ∷ []) ++ (0 ∷ 0 ∷ [])

pub record CallsAnswered : Type 0 where
  pub of_case1 : answers_permuted after_one_commit ≡ case1_answers
  pub of_case7 : answers_permuted idle_besides ≡ case1_answers
  pub of_adopted : answers_permuted adopted_then_crashed ≡ adopted_answers

-- Case 1 is tender 1, and any other number case 5.
unfoldable pub tenders : ℕ → Instance
tenders i = cond (eqb i 1) after_one_commit data_to_the_last

-- Their steps in turn, one of tender 1 and one of tender 2, as long as both have any.
unfoldable pub in_turn_lem : List Step → List Step → List TenderStep
in_turn_lem [] second = all_of 2 second
in_turn_lem (s ∷ first) [] = all_of 1 (s ∷ first)
in_turn_lem (s ∷ first) (u ∷ second) = record { tender = 1; own = s } ∷ record { tender = 2; own = u } ∷ in_turn_lem first second

unfoldable pub mixed : List TenderStep
mixed = in_turn_lem (schedule_steps ascending) (schedule_steps (passing_schedule data_to_the_last permuted))

-- Case 1 when all are started, and its first round in ascending order.
unfoldable pub beginning : Schedule
beginning = record { starting = ascending.starting; rounds = [] }

abbrev pub first_round : RoundOrder
first_round = in_round (1 ∷ 2 ∷ 3 ∷ 4 ∷ []) (2 ∷ 3 ∷ 4 ∷ [])

-- The nine bytes of process 4 of case 1 when it has decided, and parts that are lent with them.
unfoldable pub ended_bytes : List ℕ
ended_bytes = bytes_in "04 04 02 01 01 0000000A"

unfoldable pub used_parts : List Part
used_parts = replicate 4 (up ended_bytes)

-- Case 1 but that process 1 crashes before it sends; and orders in which it is not called to speak.
unfoldable pub silent_first : Instance
silent_first = first_crashes before_sending

unfoldable pub without_first : Schedule
without_first =
    record { starting = 1 ∷ 2 ∷ 3 ∷ 4 ∷ []; rounds = in_round (4 ∷ 3 ∷ 2 ∷ []) (2 ∷ 3 ∷ 4 ∷ []) ∷ in_round (4 ∷ 3 ∷ 2 ∷ []) (2 ∷ 3 ∷ 4 ∷ []) ∷ [] }

-- Each premise of the claims on schedules, on processes that have ended, and on tenders.
pub record PremisesMet : Type 0 where
  -- schedules in order, at whose end no part is open; the first has just the rounds of the run
  pub whole : Whole after_one_commit ascending
  pub enough : EnoughRounds after_one_commit ascending
  pub whole_often : Whole after_one_commit often
  pub whole_without_first : Whole silent_first without_first
  -- orders of all processes
  pub all_permuted : Permuted after_one_commit permuted
  -- bytes that a part has been started on before
  pub lent_again : NineBytes after_one_commit used_parts
  -- process 1 crashes in round 1, which is in order
  pub begun : InOrder after_one_commit beginning
  pub first : RoundInOrder after_one_commit (played after_one_commit beginning) first_round
  pub crashing : crashes_now after_one_commit (played after_one_commit beginning) 1 ≡ true
  -- process 4 has decided, and is not started again by the steps of a round
  pub ended : Ended (played after_one_commit ascending) 4 ended_bytes
  pub valid : ValidBytes ended_bytes
  pub not_started : starts 4 (round_steps first_round) ≡ false
  -- a call of it is refused
  pub refused : due (played after_one_commit ascending) (speak 4) ≡ 11 ∷ []
  -- it has decided when it has closed round 1, before the round is over: seven steps behind the starts
  pub early : Ended (play after_one_commit (take 7 (steps_of_rounds ascending.rounds)) (played after_one_commit beginning)) 4 ended_bytes
  pub split : steps_of_rounds ascending.rounds ≡ take 7 (steps_of_rounds ascending.rounds) ++ drop 7 (steps_of_rounds ascending.rounds)
  -- two tenders with their steps in turn, each with its own schedule
  pub first_tender : of_tender 1 mixed ≡ schedule_steps ascending
  pub second_tender : of_tender 2 mixed ≡ schedule_steps (passing_schedule data_to_the_last permuted)
  pub first_left : (play_mixed tenders mixed (λ i. unstarted (tenders i)) 1).parts ≡ case1_left
  pub second_left : (play_mixed tenders mixed (λ i. unstarted (tenders i)) 2).parts ≡ case5_left
  -- two mixtures in which each tender has its own steps in the same order
  pub alike_mixed : (k : ℕ) → of_tender k (all_of 1 (round_steps first_round) ++ all_of 2 (schedule_steps ascending))
      ≡ of_tender k (all_of 2 (schedule_steps ascending) ++ all_of 1 (round_steps first_round))
