-- The premises of the claims on refused and on accepted calls are met by one state (`premises_met`): computed. Assumes nothing.
use native.Mathlib.Omega.{arith}
use Rattle.general.specs.BigEndian.{number, number_from, bytes_of}
use Rattle.consensus.specs.Instance.{within_limits}
use Rattle.coordinator.specs.Transition.{sends}
use Rattle.part_format.specs.PartState.{state_from, identity_valid, round_valid, fields_valid, state_valid, state_refusal, is_own_round}
use Rattle.part_format.specs.Frame.{data_frame, commit_frame, frames_of, messages_from, heard_by}
use Rattle.part_format.specs.Start.{start_refusal}
use Rattle.part_format.specs.Speak.{spoken_by, speak_refusal}
use Rattle.part_format.specs.Close.{heard_refusal, close_refusal}
use Rattle.part_format.specs.Case.{digits_in, paired, bytes_in}
use Rattle.part_format.specs.Example.{own, seven, PremisesMet}

pub premises_met : PremisesMet
unfolding own seven digits_in paired bytes_in number number_from bytes_of within_limits state_from identity_valid round_valid fields_valid state_valid state_refusal is_own_round sends data_frame commit_frame frames_of messages_from heard_by start_refusal spoken_by speak_refusal heard_refusal close_refusal
premises_met =
    record {
      start_refused = omega arith;
      speak_refused = omega arith;
      close_refused = omega arith;
      start_accepted = omega arith;
      close_accepted = omega arith;
    }
