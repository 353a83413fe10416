-- Marked cases of document 01 in other orders, and case 1 beside case 5 with the calls of both mixed: the definitions compute (`ends_alike`, `calls_answered`), and the premises
-- of the claims on schedules are met (`premises_met`). Assumes nothing.
use mathlib.Core.List.{List, [], ◌∷◌, ◌++◌}
use mathlib.Core.Path.{◌≡◌, refl, sym, subst}
use mathlib.Core.Bool.{Bool, true, false, not, ◌&&◌, ◌||◌}
use Prim.Native.Nat.{ℕ, ◌-◌, ◌≤◌}
use native.Mathlib.Omega.{arith}
use lib.Dec.{eqb, leb}
use lib.ListN.{take, drop, get_or-replicate}
use borrow.Author.Tests.{eqb-true, leb-true, not-true}
use Rattle.general.specs.Bits.{member}
use Rattle.general.specs.BigEndian.{number, number_from, bytes_of}
use Rattle.general.specs.Indexed.{map_from}
use Rattle.general.proofs.Bytes.{bytes_each}
use Rattle.general.proofs.Tests.{by_equal, both}
use Rattle.consensus.specs.Instance.{Instance, within_limits, proposal_of, fault_of}
use Rattle.consensus.specs.State.{crashes_in, state_of}
use Rattle.consensus.specs.Consensus.{IsProcess}
use Rattle.consensus.specs.FourProcesses.{four, first_crashes, after_one_commit, data_to_the_last, idle_besides}
use Rattle.coordinator.specs.Message.{arriving, gets_data, gets_commit}
use Rattle.coordinator.specs.Transition.{sends, receives}
use Rattle.coordinator.specs.Delivery.{among_first, reach_at, reach_in, reach}
use Rattle.coordinator.specs.Round.{sent_by, received, after_outcome, after, states_after}
use Rattle.coordinator.specs.Undecided.{is_undecided, any_undecided}
use Rattle.coordinator.specs.Count.{speaks, carries, carried_in, data_in, commits_in}
use Rattle.coordinator.specs.Run.{initial, with_round, run_to, run_of, end_of}
use Rattle.part_format.specs.Case.{digits_in, paired, bytes_in}
use Rattle.part_format.specs.PartState.{ValidBytes, state_bytes, state_from, identity_valid, round_valid, fields_valid, state_valid, state_refusal, is_own_round}
use Rattle.part_format.specs.Frame.{data_frame, commit_frame, frames_of, is_data_frame, is_commit_frame, messages_from, heard_by}
use Rattle.part_format.specs.Start.{start_refusal, start_state, start_bytes}
use Rattle.part_format.specs.Speak.{spoken_by, speak_refusal, speak_yields, speak_answer}
use Rattle.part_format.specs.Close.{state_after, closed_on, heard_refusal, close_refusal, close_on_heard, close_state}
use Rattle.part_host.specs.Part.{up, part_of, bytes_kept, is_open, output_room}
use Rattle.part_host.specs.Hearing.{bytes_reaching, reach_from, let_through}
use Rattle.part_host.specs.Host.{blank}
use Rattle.part_host.specs.DecideAlike.{part_state}
use Rattle.part_schedules.specs.ByRun.{value_held, estimate_in, part_by_end, part_by_run}
use Rattle.part_schedules.specs.Steps.{Hosted, speak, unstarted, heard_of, with_bytes, started_with, frames_yielded, closed_with, left_after, changed_at, step, play}
use Rattle.part_schedules.specs.Schedule.{RoundOrder, Schedule, round_steps, steps_of_rounds, schedule_steps, played, times_called, is_up, up_and_open, crashes_now, crashes_unsent, must_speak, may_speak, must_close, may_close, Calls, EachOnce, RoundInOrder, RoundsInOrder, InOrder}
use Rattle.part_schedules.proofs.Turns.{times_other}
use Rattle.part_schedules.specs.Answers.{answers, due, all_answers}
use Rattle.part_schedules.specs.AnyOrder.{Whole, EnoughRounds, NineBytes}
use Rattle.part_schedules.specs.EndedCalls.{Ended, starts}
use Rattle.part_schedules.proofs.Tenders.{either_order_lem}
use Rattle.part_schedules.specs.Permutations.{among, passing_over, passing_rounds, passing_schedule, AllPermuted, Permuted}
use Rattle.part_schedules.specs.Tenders.{step_one, play_mixed, of_tender, all_of}
use Rattle.part_schedules.specs.Example.{ascending, permuted, often, case1_left, after_all_commits, case3_left, adopted_then_crashed, adopted_left, left_permuted, given_by_run, EndsAlike, answers_permuted, case1_answers, adopted_answers, CallsAnswered, tenders, in_turn_lem, mixed, case5_left, beginning, first_round, ended_bytes, used_parts, silent_first, without_first, PremisesMet}

pub ends_alike : EndsAlike
unfolding ascending permuted case1_left after_all_commits case3_left data_to_the_last case5_left idle_besides adopted_then_crashed adopted_left left_permuted given_by_run digits_in paired bytes_in member four first_crashes after_one_commit number number_from bytes_of map_from within_limits proposal_of fault_of sends receives among_first reach_at reach_in crashes_in state_bytes state_from identity_valid round_valid fields_valid state_valid state_refusal is_own_round data_frame commit_frame frames_of is_data_frame is_commit_frame messages_from start_refusal start_state start_bytes spoken_by speak_refusal speak_yields heard_by state_after closed_on close_on_heard close_state part_of is_open output_room bytes_kept bytes_reaching reach_from let_through blank unstarted heard_of with_bytes started_with frames_yielded closed_with left_after changed_at step play round_steps steps_of_rounds schedule_steps played is_up up_and_open crashes_now crashes_unsent may_speak may_close among passing_over passing_rounds passing_schedule arriving gets_data gets_commit reach state_of sent_by received after_outcome after states_after is_undecided any_undecided speaks carries carried_in data_in commits_in initial with_round run_to run_of end_of value_held estimate_in part_by_end part_by_run part_state
ends_alike =
    record {
      case1_ascending = refl;
      case1_permuted = refl;
      case1_run = refl;
      case3_permuted = refl;
      case5_permuted = refl;
      case7_permuted = refl;
      adopted_permuted = refl;
      adopted_run = refl;
    }

pub calls_answered : CallsAnswered
unfolding permuted idle_besides adopted_then_crashed answers_permuted case1_answers adopted_answers speak_answer heard_refusal close_refusal answers all_answers member four first_crashes after_one_commit number number_from bytes_of map_from within_limits proposal_of fault_of sends receives among_first reach_at reach_in crashes_in state_bytes state_from identity_valid round_valid fields_valid state_valid state_refusal is_own_round data_frame commit_frame frames_of is_data_frame is_commit_frame messages_from start_refusal start_state start_bytes spoken_by speak_refusal speak_yields heard_by state_after closed_on close_on_heard close_state part_of is_open output_room bytes_kept bytes_reaching reach_from let_through blank unstarted heard_of with_bytes started_with frames_yielded closed_with left_after changed_at step play round_steps steps_of_rounds schedule_steps played is_up up_and_open crashes_now crashes_unsent may_speak may_close among passing_over passing_rounds passing_schedule
calls_answered = record { of_case1 = refl; of_case7 = refl; of_adopted = refl }

-- ---- four processes, by tests that compute

-- Whether a test holds of each of a list.
unfoldable every_one : (ℕ → Bool) → List ℕ → Bool
every_one test [] = true
every_one test (p ∷ order) = test p && every_one test order

holds_of : (test : ℕ → Bool) (order : List ℕ) → every_one test order ≡ true → (p : ℕ) → 1 ≤ times_called p order → test p ≡ true
unfolding every_one times_called
holds_of test [] each p called = absurd (let z : ⊥ = omega arith in z)
holds_of test (q ∷ order) each p called =
    let (own, rest) = both (test q) (every_one test order) each in
    by_equal p q (λ e. subst (λ (k : ℕ). test k ≡ true) (sym e) own)
    (λ other. holds_of test order rest p (subst (λ (k : ℕ). 1 ≤ k) (times_other p q order other) called))

four_processes_lem : List ℕ
four_processes_lem = 1 ∷ 2 ∷ 3 ∷ 4 ∷ []

named_once : (p : ℕ) → 1 ≤ p → p ≤ 4 → 1 ≤ times_called p four_processes_lem
unfolding four_processes_lem times_called
named_once p first last =
    by_equal p 1 (λ e. rw e (omega arith))
    (λ not1. by_equal p 2 (λ e. rw e (omega arith))
    (λ not2. by_equal p 3 (λ e. rw e (omega arith))
    (λ not3. let e : p ≡ 4 = omega arith in rw e (omega arith))))

-- Whether an order calls those of four processes that must be called, and only those that may be.
unfoldable calls : (must may : ℕ → Bool) → List ℕ → Bool
calls must may order =
    every_one (λ p. not (must p) || eqb (times_called p order) 1) four_processes_lem && every_one (λ p. leb 1 p && leb p 4 && may p) order

module _ (x : Instance) (are-four : x.processes ≡ 4) (must may : ℕ → Bool) (order : List ℕ) (each : calls must may order ≡ true) where
  once_called : (p : ℕ) → IsProcess x p → must p ≡ true → times_called p order ≡ 1
  unfolding calls
  once_called p is must-be =
      let all = (both (every_one (λ q. not (must q) || eqb (times_called q order) 1) four_processes_lem) _ each).0 in
      eqb-true (times_called p order) 1
      (rw must-be at (holds_of (λ q. not (must q) || eqb (times_called q order) 1) four_processes_lem all p (named_once p is.first (omega arith))))

  only_called : (p : ℕ) → 1 ≤ times_called p order → IsProcess x p × (may p ≡ true)
  unfolding calls
  only_called p called =
      let all = (both (every_one (λ q. not (must q) || eqb (times_called q order) 1) four_processes_lem) _ each).1 in
      let (bounds, may-be) = both (leb 1 p && leb p 4) (may p) (holds_of (λ q. leb 1 q && leb q 4 && may q) order all p called) in
      let (first, last) = both (leb 1 p) (leb p 4) bounds in
      (record { first = leb-true 1 p first; last = rw are-four (leb-true p 4 last) }, may-be)

  four_called : Calls x must may order
  four_called = record { once = once_called; only = only_called }

-- ---- the premises

each_once : (x : Instance) → x.processes ≡ 4 → (order : List ℕ) → calls (λ p. true) (λ p. true) order ≡ true → EachOnce x order
unfolding EachOnce
each_once x are-four order each = four_called x are-four (λ p. true) (λ p. true) order each

-- A round is in order, by two tests.
round_by_test : (x : Instance) → x.processes ≡ 4 → (h : Hosted) (order : RoundOrder) → calls (must_speak x h) (may_speak h) order.speaking ≡ true
    → calls (must_close x h) (may_close x h) order.closing ≡ true → RoundInOrder x h order
round_by_test x are-four h order speak-calls close-calls =
    record { speak_calls = four_called x are-four _ _ order.speaking speak-calls; close_calls = four_called x are-four _ _ order.closing close-calls }

-- No part is open, by a test.
none_open_lem : (x : Instance) → x.processes ≡ 4 → (s : Schedule) → every_one (λ q. not (up_and_open (part_of (played x s).parts q))) four_processes_lem ≡ true
    → (p : ℕ) → IsProcess x p → up_and_open (part_of (played x s).parts p) ≡ false
none_open_lem x are-four s each p is =
    not-true _ (holds_of (λ q. not (up_and_open (part_of (played x s).parts q))) four_processes_lem each p (named_once p is.first (omega arith)))

whole_ascending : Whole after_one_commit ascending
unfolding RoundsInOrder ascending calls every_one four_processes_lem times_called four first_crashes after_one_commit number number_from bytes_of map_from within_limits proposal_of fault_of sends receives among_first reach_at reach_in crashes_in state_bytes state_from identity_valid round_valid fields_valid state_valid state_refusal is_own_round data_frame commit_frame frames_of is_data_frame is_commit_frame messages_from start_refusal start_state start_bytes spoken_by speak_refusal speak_yields heard_by state_after closed_on close_on_heard close_state part_of is_open output_room bytes_kept bytes_reaching reach_from let_through blank unstarted heard_of with_bytes started_with frames_yielded closed_with left_after changed_at step play round_steps steps_of_rounds schedule_steps played is_up up_and_open crashes_now crashes_unsent must_speak may_speak must_close may_close
whole_ascending =
    record {
      in_order = record {
        starts = each_once after_one_commit refl _ refl;
        rounds = (round_by_test after_one_commit refl _ _ refl refl, (round_by_test after_one_commit refl _ _ refl refl, tt));
      };
      none_open = none_open_lem after_one_commit refl ascending refl;
    }

whole_often_lem : Whole after_one_commit often
unfolding RoundsInOrder often calls every_one four_processes_lem times_called four first_crashes after_one_commit number number_from bytes_of map_from within_limits proposal_of fault_of sends receives among_first reach_at reach_in crashes_in state_bytes state_from identity_valid round_valid fields_valid state_valid state_refusal is_own_round data_frame commit_frame frames_of is_data_frame is_commit_frame messages_from start_refusal start_state start_bytes spoken_by speak_refusal speak_yields heard_by state_after closed_on close_on_heard close_state part_of is_open output_room bytes_kept bytes_reaching reach_from let_through blank unstarted heard_of with_bytes started_with frames_yielded closed_with left_after changed_at step play round_steps steps_of_rounds schedule_steps played is_up up_and_open crashes_now crashes_unsent must_speak may_speak must_close may_close
whole_often_lem =
    record {
      in_order = record {
        starts = each_once after_one_commit refl _ refl;
        rounds = (round_by_test after_one_commit refl _ _ refl refl, (round_by_test after_one_commit refl _ _ refl refl, (round_by_test after_one_commit refl _ _ refl refl, (round_by_test after_one_commit refl _ _ refl refl, tt))));
      };
      none_open = none_open_lem after_one_commit refl often refl;
    }

whole_without_first_lem : Whole silent_first without_first
unfolding RoundsInOrder silent_first without_first calls every_one four_processes_lem times_called four first_crashes after_one_commit number number_from bytes_of map_from within_limits proposal_of fault_of sends receives among_first reach_at reach_in crashes_in state_bytes state_from identity_valid round_valid fields_valid state_valid state_refusal is_own_round data_frame commit_frame frames_of is_data_frame is_commit_frame messages_from start_refusal start_state start_bytes spoken_by speak_refusal speak_yields heard_by state_after closed_on close_on_heard close_state part_of is_open output_room bytes_kept bytes_reaching reach_from let_through blank unstarted heard_of with_bytes started_with frames_yielded closed_with left_after changed_at step play round_steps steps_of_rounds schedule_steps played is_up up_and_open crashes_now crashes_unsent must_speak may_speak must_close may_close
whole_without_first_lem =
    record {
      in_order = record {
        starts = each_once silent_first refl _ refl;
        rounds = (round_by_test silent_first refl _ _ refl refl, (round_by_test silent_first refl _ _ refl refl, tt));
      };
      none_open = none_open_lem silent_first refl without_first refl;
    }

-- The first round alone.
begins : InOrder after_one_commit beginning × RoundInOrder after_one_commit (played after_one_commit beginning) first_round
    × (crashes_now after_one_commit (played after_one_commit beginning) 1 ≡ true)
unfolding RoundsInOrder ascending beginning calls every_one four_processes_lem times_called four first_crashes after_one_commit number number_from bytes_of map_from within_limits proposal_of fault_of sends receives among_first reach_at reach_in crashes_in state_bytes state_from identity_valid round_valid fields_valid state_valid state_refusal is_own_round data_frame commit_frame frames_of is_data_frame is_commit_frame messages_from start_refusal start_state start_bytes spoken_by speak_refusal speak_yields heard_by state_after closed_on close_on_heard close_state part_of is_open output_room bytes_kept bytes_reaching reach_from let_through blank unstarted heard_of with_bytes started_with frames_yielded closed_with left_after changed_at step play round_steps steps_of_rounds schedule_steps played is_up up_and_open crashes_now crashes_unsent must_speak may_speak must_close may_close
begins = (
  record { starts = each_once after_one_commit refl _ refl; rounds = tt },
  round_by_test after_one_commit refl _ _ refl refl,
  refl,
)

-- Process 4, when it has decided.
ended_fourth : Ended (played after_one_commit ascending) 4 ended_bytes
unfolding ascending ended_bytes digits_in paired bytes_in four first_crashes after_one_commit number number_from bytes_of map_from within_limits proposal_of fault_of sends receives among_first reach_at reach_in crashes_in state_bytes state_from identity_valid round_valid fields_valid state_valid state_refusal is_own_round data_frame commit_frame frames_of is_data_frame is_commit_frame messages_from start_refusal start_state start_bytes spoken_by speak_refusal speak_yields heard_by state_after closed_on close_on_heard close_state part_of is_open output_room bytes_kept bytes_reaching reach_from let_through blank unstarted heard_of with_bytes started_with frames_yielded closed_with left_after changed_at step play round_steps steps_of_rounds schedule_steps played is_up up_and_open crashes_now crashes_unsent must_speak may_speak must_close may_close
ended_fourth = record { first = omega arith; last = omega arith; kept = refl; not_open = refl }

early_fourth : Ended (play after_one_commit (take 7 (steps_of_rounds ascending.rounds)) (played after_one_commit beginning)) 4 ended_bytes
    × (steps_of_rounds ascending.rounds ≡ take 7 (steps_of_rounds ascending.rounds) ++ drop 7 (steps_of_rounds ascending.rounds))
    × (due (played after_one_commit ascending) (speak 4) ≡ 11 ∷ [])
unfolding beginning due ascending ended_bytes digits_in paired bytes_in four first_crashes after_one_commit number number_from bytes_of map_from within_limits proposal_of fault_of sends receives among_first reach_at reach_in crashes_in state_bytes state_from identity_valid round_valid fields_valid state_valid state_refusal is_own_round data_frame commit_frame frames_of is_data_frame is_commit_frame messages_from start_refusal start_state start_bytes spoken_by speak_refusal speak_yields heard_by state_after closed_on close_on_heard close_state part_of is_open output_room bytes_kept bytes_reaching reach_from let_through blank unstarted heard_of with_bytes started_with frames_yielded closed_with left_after changed_at step play round_steps steps_of_rounds schedule_steps played is_up up_and_open crashes_now crashes_unsent must_speak may_speak must_close may_close
early_fourth = (record { first = omega arith; last = omega arith; kept = refl; not_open = refl }, refl, refl)

valid_fourth : ValidBytes ended_bytes
unfolding ended_bytes digits_in paired bytes_in within_limits state_from identity_valid round_valid fields_valid state_valid number number_from
valid_fourth =
    record {
      nine = refl;
      bytes = bytes_each (4 ∷ 4 ∷ 2 ∷ 1 ∷ 1 ∷ 0 ∷ 0 ∷ 0 ∷ 10 ∷ []) (omega arith, (omega arith, (omega arith, (omega arith, (omega arith, (omega arith, (omega arith, (omega arith, (omega arith, tt)))))))));
      valid = refl;
    }

used_nine : NineBytes after_one_commit used_parts
unfolding used_parts ended_bytes digits_in paired bytes_in part_of four first_crashes after_one_commit
used_nine = record { many = refl; each = λ p is. (ended_bytes, get_or-replicate 4 (p - 1) (up ended_bytes) _ (omega arith), refl) }

-- The orders that name all processes are such of any four.
pub four_permuted : (x : Instance) → x.processes ≡ 4 → Permuted x permuted
unfolding permuted AllPermuted calls every_one four_processes_lem times_called
four_permuted x are-four =
    record { starts = once _ refl; rounds = (once _ refl, once _ refl, (once _ refl, once _ refl, (once _ refl, once _ refl, tt))) }
  where
    once : (order : List ℕ) → calls (λ p. true) (λ p. true) order ≡ true → EachOnce x order
    once order each = each_once x are-four order each

enough_rounds : EnoughRounds after_one_commit ascending
unfolding ascending four first_crashes after_one_commit map_from fault_of arriving gets_data gets_commit sends receives among_first reach_at reach_in reach crashes_in state_of sent_by received after_outcome after states_after is_undecided any_undecided speaks carries carried_in data_in commits_in initial with_round run_to run_of
enough_rounds = record { enough = omega arith }

mixed_ends : (of_tender 1 mixed ≡ schedule_steps ascending)
    × (of_tender 2 mixed ≡ schedule_steps (passing_schedule data_to_the_last permuted))
    × ((play_mixed tenders mixed (λ i. unstarted (tenders i)) 1).parts ≡ case1_left)
    × ((play_mixed tenders mixed (λ i. unstarted (tenders i)) 2).parts ≡ case5_left)
unfolding member ascending permuted mixed in_turn_lem tenders case1_left case5_left digits_in paired bytes_in of_tender all_of play_mixed step_one may_speak may_close among passing_over passing_rounds passing_schedule four first_crashes after_one_commit data_to_the_last number number_from bytes_of map_from within_limits proposal_of fault_of sends receives among_first reach_at reach_in crashes_in state_bytes state_from identity_valid round_valid fields_valid state_valid state_refusal is_own_round data_frame commit_frame frames_of is_data_frame is_commit_frame messages_from start_refusal start_state start_bytes spoken_by speak_refusal speak_yields heard_by state_after closed_on close_on_heard close_state part_of is_open output_room bytes_kept bytes_reaching reach_from let_through blank unstarted heard_of with_bytes started_with frames_yielded closed_with left_after changed_at step play round_steps steps_of_rounds schedule_steps played is_up up_and_open crashes_now crashes_unsent
mixed_ends = (refl, refl, refl, refl)

pub premises_met : PremisesMet
unfolding four first_crashes after_one_commit round_steps starts
premises_met =
    record {
      whole = whole_ascending;
      enough = enough_rounds;
      whole_often = whole_often_lem;
      whole_without_first = whole_without_first_lem;
      all_permuted = four_permuted after_one_commit refl;
      lent_again = used_nine;
      begun = begins.0;
      first = begins.1;
      crashing = begins.2;
      ended = ended_fourth;
      valid = valid_fourth;
      not_started = refl;
      refused = early_fourth.2;
      early = early_fourth.0;
      split = early_fourth.1;
      first_tender = mixed_ends.0;
      second_tender = mixed_ends.1;
      first_left = mixed_ends.2;
      second_left = mixed_ends.3;
      alike_mixed = λ k. either_order_lem k 1 2 (λ e. omega arith) _ _;
    }
