-- The worked calls of the process part are what the definitions give.
-- Both sides are computed, so the line below names every definition on the way. Assumes nothing.
use mathlib.Core.Path.{refl}
use Rattle.general.specs.BigEndian.{number, number_from, bytes_of}
use Rattle.consensus.specs.Instance.{within_limits}
use Rattle.coordinator.specs.Transition.{sends, receives}
use Rattle.part_format.specs.PartState.{state_bytes, state_from, identity_valid, round_valid, fields_valid, state_valid, state_refusal, is_own_round}
use Rattle.part_format.specs.Frame.{data_frame, commit_frame, frames_of, is_data_frame, is_commit_frame, messages_from, heard_by}
use Rattle.part_format.specs.Start.{start_refusal, start_state, start_bytes}
use Rattle.part_format.specs.Speak.{spoken_by, speak_refusal, speak_yields, speak_answer, speak_output}
use Rattle.part_format.specs.Close.{state_after, closed_on, heard_refusal, close_refusal, close_on_heard, close_state}
use Rattle.part_format.specs.Case.{digits_in, paired, bytes_in, spoken, closed, roomy, formless, gives, expected}
use Rattle.part_format.specs.PartCases.{start_cases, speak_cases, refused_cases, close_cases, heard_cases, part_cases, PartCases}

pub part_cases_lem : PartCases
unfolding number number_from bytes_of within_limits sends receives state_bytes state_from identity_valid round_valid fields_valid state_valid state_refusal is_own_round data_frame commit_frame frames_of is_data_frame is_commit_frame messages_from heard_by start_refusal start_state start_bytes spoken_by speak_refusal speak_yields speak_answer speak_output state_after closed_on heard_refusal close_refusal close_on_heard close_state digits_in paired bytes_in spoken closed roomy formless gives expected start_cases speak_cases refused_cases close_cases heard_cases part_cases
part_cases_lem = record { given = refl; counted = refl }
