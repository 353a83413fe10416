-- Case 1 of document 01 by separate parts: the host's definitions compute (`case1_parts`), and the premises of the claims on parts are met (`premises_met`).
-- Assumes nothing.
use mathlib.Core.List.{[]}
use mathlib.Core.Path.{◌≡◌, refl}
use Prim.Native.Nat.{◌≤◌}
use lib.ListN.{length, take}
use native.Mathlib.Omega.{arith}
use Rattle.general.specs.BigEndian.{number, number_from, bytes_of}
use Rattle.general.specs.Indexed.{map_from}
use Rattle.consensus.specs.Instance.{within_limits, fault_of}
use Rattle.coordinator.specs.Message.{arriving, gets_data, gets_commit}
use Rattle.coordinator.specs.Transition.{sends, receives}
use Rattle.coordinator.specs.Delivery.{among_first, reach_at, reach_in, reach}
use Rattle.consensus.specs.State.{crashes_in, state_of}
use Rattle.consensus.specs.declared.State.TheVariants.{Decided as decided, Crashed as crashed}
use Rattle.coordinator.specs.Round.{sent_by, received, after_outcome, after, states_after}
use Rattle.coordinator.specs.Undecided.{is_undecided, any_undecided}
use Rattle.coordinator.specs.Count.{speaks, carries, carried_in, data_in, commits_in}
use Rattle.coordinator.specs.Run.{initial, with_round, run_to, run_of, end_of}
use Rattle.consensus.specs.FourProcesses.{four, first_crashes, after_one_commit}
use Rattle.part_format.specs.PartState.{state_bytes, state_from, identity_valid, round_valid, fields_valid, state_valid, state_refusal, is_own_round}
use Rattle.part_format.specs.Frame.{data_frame, commit_frame, frames_of, is_data_frame, is_commit_frame, messages_from, heard_by}
use Rattle.part_format.specs.Start.{start_refusal, start_state, start_bytes}
use Rattle.part_format.specs.Speak.{spoken_by, speak_refusal, speak_yields, speak_answer, speak_output}
use Rattle.part_format.specs.Close.{state_after, closed_on, close_on_heard, close_state}
use Rattle.part_host.specs.Part.{up, part_of, is_open, output_room, yielded}
use Rattle.part_host.specs.Output.{FindsYielded, OutputYielded}
use Rattle.part_host.specs.Hearing.{bytes_reaching, reach_from, let_through, heard_from, heard}
use Rattle.part_host.specs.Host.{blank, started_parts, part_after, parts_after, parts_to, parts_of}
use Rattle.part_host.specs.DecideAlike.{EndsAs, OpenAfter}
use Rattle.part_host.proofs.Calls.{output_yielded_lem}
use Rattle.part_host.specs.Example.{Case1Parts, second, ended, buffer, PremisesMet}

pub case1_parts : Case1Parts
unfolding Case1Parts four first_crashes after_one_commit number number_from bytes_of map_from within_limits fault_of sends receives among_first reach_at reach_in crashes_in state_bytes state_from identity_valid round_valid fields_valid state_valid state_refusal is_own_round data_frame commit_frame frames_of is_data_frame is_commit_frame messages_from start_refusal start_state start_bytes spoken_by speak_refusal speak_yields heard_by state_after closed_on close_on_heard close_state is_open output_room yielded bytes_reaching reach_from let_through heard_from heard blank started_parts part_after parts_after parts_to parts_of
case1_parts = refl

-- ---- how processes end

ends : EndsAs after_one_commit 4 (decided 1 10) × EndsAs after_one_commit 1 (crashed 1)
unfolding four first_crashes after_one_commit map_from fault_of arriving gets_data gets_commit sends receives among_first reach_at reach_in reach crashes_in state_of sent_by received after_outcome after states_after is_undecided any_undecided speaks carries carried_in data_in commits_in initial with_round run_to run_of end_of
ends = (record { is_process = omega arith; state = refl }, record { is_process = omega arith; state = refl })

-- ---- which part is open

opens_second : OpenAfter after_one_commit 1 2 second
unfolding second four first_crashes after_one_commit number number_from bytes_of map_from within_limits fault_of sends receives among_first reach_at reach_in crashes_in state_bytes state_from identity_valid round_valid fields_valid state_valid state_refusal is_own_round data_frame commit_frame frames_of is_data_frame is_commit_frame messages_from start_refusal start_state start_bytes spoken_by speak_refusal speak_yields heard_by state_after closed_on close_on_heard close_state is_open output_room yielded bytes_reaching reach_from let_through heard_from heard blank started_parts part_after parts_after parts_to part_of
opens_second = record { process = omega arith; within = omega arith; kept = refl; marked = refl }

-- ---- what is answered

answer_low : speak_answer second (length buffer) ≡ 8
unfolding second buffer number number_from bytes_of within_limits sends state_from identity_valid round_valid fields_valid state_valid state_refusal is_own_round data_frame commit_frame frames_of spoken_by speak_refusal speak_yields speak_answer
answer_low = refl

answer_high : speak_answer ended (length buffer) ≡ 11
unfolding ended buffer number number_from bytes_of within_limits sends state_from identity_valid round_valid fields_valid state_valid state_refusal is_own_round data_frame commit_frame frames_of spoken_by speak_refusal speak_yields speak_answer
answer_high = refl

room : 8 ≤ length buffer
unfolding buffer
room = omega arith

found : FindsYielded second buffer
unfolding OutputYielded
found = output_yielded_lem second buffer room

found_front : take 8 (speak_output second buffer) ≡ yielded (up second)
found_front = rw answer_low at (found.front (omega (arith, answer_low)))

found_refused : yielded (up ended) ≡ []
unfolding OutputYielded
found_refused = ((output_yielded_lem ended buffer room).refused (omega (arith, answer_high))).1

pub premises_met : PremisesMet
unfolding four first_crashes after_one_commit
premises_met =
    record {
      decides = ends.0;
      crashes = ends.1;
      started = omega arith;
      opens = opens_second;
      low = found;
      front = found_front;
      high = found_refused;
    }
