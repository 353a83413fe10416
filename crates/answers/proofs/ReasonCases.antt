-- For which processes and rounds a reason is given, and what is told of it, is what the table says, computed. Assumes nothing.
use mathlib.Core.Path.{refl}
use Rattle.general.specs.Bits.{member}
use Rattle.general.specs.BigEndian.{number, number_from}
use Rattle.general.specs.Indexed.{map_from, count_from}
use Rattle.general.specs.Table.{tabulate}
use Rattle.general.specs.Text.{ascii}
use Rattle.consensus.specs.Instance.{point_from, fault_of, within_limits}
use Rattle.coordinator.specs.Message.{arriving, gets_data, gets_commit}
use Rattle.coordinator.specs.Transition.{sends, receives}
use Rattle.coordinator.specs.Delivery.{among_first, reach_at, reach_in, reach}
use Rattle.consensus.specs.State.{state_of, crashes_in}
use Rattle.coordinator.specs.Round.{sent_by, received, after_outcome, after, states_after}
use Rattle.coordinator.specs.Undecided.{is_undecided, any_undecided}
use Rattle.coordinator.specs.Count.{speaks, carries, carried_in, data_in, commits_in}
use Rattle.coordinator.specs.Run.{initial, with_round, run_to, run_of}
use Rattle.coordinator.specs.Reason.{state_at_start, heard_in, reason_hearing, reason_from, reason_of, reasons_in, reasons_to, reasons_of}
use Rattle.text.specs.Digit.{digit_value, is_digit}
use Rattle.text.specs.Line.{scan, closed, unclosed, lines_from, lines_of}
use Rattle.ticket_format.specs.Reading.{proceed, read_from}
use Rattle.ticket_format.specs.FailureLine.{places_crash, all_between, suits_step}
use Rattle.ticket_format.specs.Says.{is_kind, header_says, after_proposal, proposal_says, failure_line, crash_says, failure_says, line_says}
use Rattle.ticket_format.specs.Accept.{unproposed, with_proposal, with_crash, begin, store, accept}
use Rattle.ticket_format.specs.Ticket.{at_end, read_ticket}
use Rattle.answers.specs.Reason.{within_run, reason_in, reason, reasons_size, reasons_within, reasons}
use Rattle.answers.specs.Code.{code_of}
use Rattle.text.specs.TextOf.{text_of}
use Rattle.ticket_format.specs.Openings.{opening, opening64}
use Rattle.ticket_format.specs.Openings.{after_opening}
use Rattle.answers.specs.AnswerCases.{refusal_rows}
use Rattle.answers.specs.ReasonCases.{asked_of_case1, answers_on, answers_in, ReasonCases}

pub reason_cases : ReasonCases
unfolding member number number_from map_from count_from tabulate ascii point_from fault_of within_limits arriving gets_data gets_commit sends receives among_first reach_at reach_in reach state_of crashes_in sent_by received after_outcome after states_after is_undecided any_undecided speaks carries carried_in data_in commits_in initial with_round run_to run_of state_at_start heard_in reason_hearing reason_from reason_of reasons_in reasons_to reasons_of digit_value is_digit scan closed unclosed lines_from lines_of proceed read_from places_crash all_between suits_step is_kind header_says after_proposal proposal_says failure_line crash_says failure_says line_says unproposed with_proposal with_crash begin store accept at_end read_ticket within_run reason_in reason reasons_size reasons_within reasons code_of text_of opening opening64 after_opening refusal_rows asked_of_case1 answers_on answers_in
reason_cases = record { questions = refl; of_case1 = refl; of_case3 = refl; before13 = refl; before9 = refl; room = refl; codes = refl }
