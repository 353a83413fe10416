-- What is told of refused texts is what the table says, computed. Assumes nothing.
use mathlib.Core.Path.{refl}
use Rattle.general.specs.BigEndian.{number, number_from, bytes_of}
use Rattle.general.specs.Text.{ascii}
use Rattle.consensus.specs.Instance.{point_from, within_limits}
use Rattle.text.specs.Digit.{digit_value, is_digit}
use Rattle.text.specs.Line.{scan, closed, unclosed, lines_from, lines_of}
use Rattle.ticket_format.specs.FailureLine.{places_crash, all_between, suits_step}
use Rattle.ticket_format.specs.Says.{is_kind, header_says, after_proposal, proposal_says, failure_line, crash_says, failure_says, line_says}
use Rattle.ticket_format.specs.Accept.{unproposed, with_proposal, with_crash, begin, store, accept}
use Rattle.ticket_format.specs.Reading.{proceed, read_from}
use Rattle.ticket_format.specs.Ticket.{at_end, read_ticket}
use Rattle.text.specs.HexText.{digit_of, hex_digits, hex_line}
use Rattle.answers.specs.ResultLine.{result_size, refusal_line}
use Rattle.answers.specs.Running.{result_in, running, written, program_writes}
use Rattle.answers.specs.Settle.{settling}
use Rattle.text.specs.TextOf.{text_of}
use Rattle.ticket_format.specs.Openings.{opening, opening64, after_opening}
use Rattle.ticket_format.specs.ReadingCases.{verdict_of}
use Rattle.answers.specs.AnswerCases.{refusal_rows, RefusalCases, ResultSizes, room_rows, RoomCases}

pub refusal_cases : RefusalCases
unfolding settling refusal_rows after_opening opening opening64 text_of ascii program_writes written refusal_line bytes_of digit_of hex_digits hex_line result_size result_in running number number_from point_from within_limits digit_value is_digit scan closed unclosed lines_from lines_of proceed read_from is_kind header_says after_proposal proposal_says failure_line places_crash all_between suits_step crash_says failure_says line_says unproposed with_proposal with_crash begin store accept at_end read_ticket
refusal_cases = record { rows = refl; written = refl; settled = refl }

pub result_sizes : ResultSizes
unfolding result_size
result_sizes = record { needed = λ n. refl; most = refl }

pub room_cases : RoomCases
unfolding room_rows verdict_of opening after_opening text_of ascii result_size result_in running number number_from point_from within_limits digit_value is_digit scan closed unclosed lines_from lines_of proceed read_from is_kind header_says after_proposal proposal_says failure_line places_crash all_between suits_step crash_says failure_says line_says unproposed with_proposal with_crash begin store accept at_end read_ticket
room_cases = record { rows = refl; answered = refl }
