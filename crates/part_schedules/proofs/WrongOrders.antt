-- What becomes of orders that Paper 14 does not allow (`wrong_orders`), by computing. Assumes nothing.
use mathlib.Core.Path.{refl}
use Rattle.general.specs.BigEndian.{number, number_from, bytes_of}
use Rattle.general.specs.Indexed.{map_from}
use Rattle.consensus.specs.State.{crashes_in}
use Rattle.consensus.specs.FourProcesses.{four, first_crashes, after_one_commit}
use Rattle.coordinator.specs.Transition.{sends, receives}
use Rattle.coordinator.specs.Delivery.{among_first, reach_at, reach_in}
use Rattle.part_format.specs.Case.{digits_in, paired, bytes_in}
use Rattle.part_format.specs.PartState.{state_bytes, state_from, identity_valid, round_valid, fields_valid, state_valid, state_refusal, is_own_round}
use Rattle.part_format.specs.Frame.{data_frame, commit_frame, frames_of, is_data_frame, is_commit_frame, messages_from, heard_by}
use Rattle.part_format.specs.Start.{start_refusal, start_state, start_bytes}
use Rattle.part_format.specs.Speak.{spoken_by, speak_refusal, speak_yields, speak_answer}
use Rattle.part_format.specs.Close.{state_after, closed_on, heard_refusal, close_refusal, close_on_heard, close_state}
use Rattle.part_host.specs.Part.{part_of, bytes_kept, is_open, output_room}
use Rattle.part_host.specs.Hearing.{bytes_reaching, reach_from, let_through}
use Rattle.part_host.specs.Host.{blank}
use Rattle.part_schedules.specs.Steps.{unstarted, heard_of, with_bytes, started_with, frames_yielded, closed_with, left_after, changed_at, step, play}
use Rattle.part_schedules.specs.Answers.{answers, all_answers}
use Rattle.consensus.specs.Instance.{within_limits, proposal_of, fault_of}
use Rattle.part_schedules.specs.WrongOrders.{parts_after_steps, answers_to_steps, closed_early, TwoValues, crashing_closes, CrashedDecides, coordinator_silent, NotHeard, crashed_comes_back, CameBack, crashed_speaks, HeardFromCrashed, closed_twice, RoundAhead, left_open, RoundBehind, spoken_twice, HeardTwice, started_again, DecisionLost, NotStarted, WrongOrders}
use Rattle.part_schedules.specs.Example.{silent_first}

pub wrong_orders : WrongOrders
unfolding parts_after_steps closed_early TwoValues crashing_closes CrashedDecides coordinator_silent NotHeard silent_first crashed_comes_back CameBack crashed_speaks HeardFromCrashed closed_twice RoundAhead left_open RoundBehind spoken_twice HeardTwice started_again DecisionLost NotStarted answers_to_steps digits_in paired bytes_in speak_answer heard_refusal close_refusal answers all_answers four first_crashes after_one_commit number number_from bytes_of map_from within_limits proposal_of fault_of sends receives among_first reach_at reach_in crashes_in state_bytes state_from identity_valid round_valid fields_valid state_valid state_refusal is_own_round data_frame commit_frame frames_of is_data_frame is_commit_frame messages_from start_refusal start_state start_bytes spoken_by speak_refusal speak_yields heard_by state_after closed_on close_on_heard close_state part_of is_open output_room bytes_kept bytes_reaching reach_from let_through blank unstarted heard_of with_bytes started_with frames_yielded closed_with left_after changed_at step play
wrong_orders =
    record {
      closed_before_all_spoke = refl;
      closed_though_crashing = refl;
      closed_unspoken = refl;
      closed_though_crashed = refl;
      spoke_though_crashed = refl;
      closed_again = (refl, refl);
      not_closed = refl;
      spoke_again = refl;
      started_twice = refl;
      not_started = refl;
    }
