-- Cases 1 to 12 of document 01 are what the definitions give: reading, rounds, counts and layout, from the ticket's text to the text written.
-- Both sides are computed, so the line below names every definition on the way. Assumes nothing.
use mathlib.Core.Path.{refl}
use Rattle.general.specs.Bits.{member}
use Rattle.general.specs.BigEndian.{number, number_from, bytes_of}
use Rattle.general.specs.Indexed.{map_from, count_from}
use Rattle.general.specs.Counts.{count_of, add_at}
use Rattle.general.specs.Search.{lowest_from}
use Rattle.general.specs.Table.{tabulate}
use Rattle.general.specs.Text.{ascii}
use Rattle.consensus.specs.Instance.{point_from, fault_of, within_limits}
use Rattle.coordinator.specs.Message.{arriving, gets_data, gets_commit}
use Rattle.coordinator.specs.Transition.{sends, receives}
use Rattle.coordinator.specs.Delivery.{among_first, reach_at, reach_in, reach}
use Rattle.consensus.specs.State.{state_of, crashes_in}
use Rattle.coordinator.specs.Round.{sent_by, received, after_outcome, after, states_after}
use Rattle.coordinator.specs.Undecided.{is_undecided, any_undecided}
use Rattle.coordinator.specs.Count.{speaks, carries, carried_in, data_in, commits_in}
use Rattle.consensus.specs.CrashCount.{is_idle, counts_as_crash, crash_count}
use Rattle.coordinator.specs.Run.{initial, with_round, run_to, run_of, crashes_of}
use Rattle.coordinator.specs.Settling.{values_held, all_are, one_value, qualifies, first_settling}
use Rattle.coordinator.specs.Reason.{state_at_start, heard_in, reason_hearing, reason_from, reason_of, reasons_in, reasons_to, reasons_of}
use Rattle.coordinator.specs.SentBy.{sent_after, data_by, commits_by}
use Rattle.text.specs.Digit.{digit_value, is_digit}
use Rattle.text.specs.Line.{scan, closed, unclosed, lines_from, lines_of}
use Rattle.ticket_format.specs.Reading.{proceed, read_from}
use Rattle.ticket_format.specs.FailureLine.{places_crash, all_between, suits_step}
use Rattle.ticket_format.specs.Says.{is_kind, header_says, after_proposal, proposal_says, failure_line, crash_says, failure_says, line_says}
use Rattle.ticket_format.specs.Accept.{unproposed, with_proposal, with_crash, begin, store, accept}
use Rattle.ticket_format.specs.Ticket.{at_end, read_ticket}
use Rattle.text.specs.HexText.{digit_of, hex_digits, hex_line}
use Rattle.answers.specs.ResultLine.{end_bytes, process_line, last_line, joined, line_by, process_lines, result_lines, result_text, result_size, refusal_line}
use Rattle.answers.specs.Running.{result_in, running, written, program_writes}
use Rattle.answers.specs.Settle.{settling}
use Rattle.answers.specs.Reason.{reasons_size, reasons_within, reasons}
use Rattle.answers.specs.Code.{code_of}
use Rattle.answers.specs.AnswerCases.{CodeCases}
use Rattle.answers.specs.Marked.{writes, expected, settles, reasoned, digits_of, as_settled, expected_reasons, MarkedCases}
use Rattle.text.specs.TextOf.{text_of}
use Rattle.ticket_format.specs.Openings.{opening, opening64}
use Rattle.answers.specs.Table.{cases}
use Rattle.answers.specs.FurtherRuns.{further_runs}
use Rattle.answers.specs.LetterRuns.{letter_runs}

-- For each case the program writes what the case says, and settling answers what the table says.
pub marked_cases : MarkedCases
unfolding reasoned digits_of as_settled expected_reasons reasons reasons_within reasons_size tabulate state_at_start heard_in reason_hearing reason_from reason_of reasons_in reasons_to reasons_of writes expected settles settling lowest_from values_held all_are one_value qualifies first_settling cases further_runs letter_runs opening opening64 text_of ascii member number number_from bytes_of map_from count_from count_of add_at point_from fault_of within_limits arriving gets_data gets_commit sends receives among_first reach_at reach_in reach state_of crashes_in sent_by received after_outcome after states_after is_undecided any_undecided speaks carries carried_in data_in commits_in is_idle counts_as_crash crash_count initial with_round run_to run_of sent_after data_by commits_by crashes_of digit_value is_digit scan closed unclosed lines_from lines_of proceed read_from is_kind header_says after_proposal proposal_says failure_line places_crash all_between suits_step crash_says failure_says line_says unproposed with_proposal with_crash begin store accept at_end read_ticket digit_of hex_digits hex_line end_bytes process_line last_line joined line_by process_lines result_lines result_text result_size refusal_line result_in running written program_writes
marked_cases = record { numbers = refl; written = refl; settled = refl; explained = refl }

-- A C caller is answered as the specs say.
pub code_cases : CodeCases
unfolding CodeCases settling lowest_from values_held all_are one_value qualifies first_settling code_of opening text_of ascii member number number_from bytes_of map_from count_from count_of add_at point_from fault_of within_limits arriving gets_data gets_commit sends receives among_first reach_at reach_in reach state_of crashes_in sent_by received after_outcome after states_after is_undecided any_undecided speaks carries carried_in data_in commits_in is_idle counts_as_crash crash_count initial with_round run_to run_of sent_after data_by commits_by crashes_of digit_value is_digit scan closed unclosed lines_from lines_of proceed read_from is_kind header_says after_proposal proposal_says failure_line places_crash all_between suits_step crash_says failure_says line_says unproposed with_proposal with_crash begin store accept at_end read_ticket digit_of hex_digits hex_line end_bytes process_line last_line joined line_by process_lines result_lines result_text result_size result_in running
code_cases = refl
