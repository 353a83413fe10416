-- Reading answers on each text at the limits as the table says, and behind a header on each byte.
-- Both sides are computed, so each `unfolding` line names every definition on the way. Assumes nothing.
use mathlib.Core.Path.{refl}
use Rattle.general.specs.BigEndian.{number, number_from}
use Rattle.general.specs.Indexed.{map_from}
use Rattle.general.specs.Table.{tabulate}
use Rattle.general.specs.Text.{ascii}
use Rattle.consensus.specs.Instance.{point_from, within_limits}
use Rattle.text.specs.Digit.{digit_value, is_digit}
use Rattle.text.specs.Line.{scan, closed, unclosed, lines_from, lines_of}
use Rattle.ticket_format.specs.FailureLine.{places_crash, all_between, suits_step}
use Rattle.ticket_format.specs.Says.{is_kind, header_says, after_proposal, proposal_says, failure_line, crash_says, failure_says, line_says}
use Rattle.ticket_format.specs.Accept.{unproposed, with_proposal, with_crash, begin, store, accept}
use Rattle.ticket_format.specs.Reading.{proceed, read_from}
use Rattle.ticket_format.specs.Ticket.{at_end, read_ticket}
use Rattle.text.specs.HexText.{digit_of, hex_digits, hex_line, hex_lines}
use Rattle.text.specs.TextOf.{text_of}
use Rattle.ticket_format.specs.Openings.{opening, after_opening, opening64}
use Rattle.ticket_format.specs.ReadingCases.{verdict_of, too_long, not_lines, small_letters, wrong_kinds, limits, stations, too_many}
use Rattle.ticket_format.specs.ReadingCases.{places, steps, first_rules, reading_rows, fullest, limits_of, ReadingCases}

pub reading_cases : ReadingCases
unfolding limits_of digit_of hex_digits hex_line hex_lines opening64 fullest tabulate map_from reading_rows too_long not_lines small_letters wrong_kinds limits stations too_many places steps first_rules verdict_of opening after_opening text_of ascii number number_from point_from within_limits digit_value is_digit scan closed unclosed lines_from lines_of proceed read_from is_kind header_says after_proposal proposal_says failure_line places_crash all_between suits_step crash_says failure_says line_says unproposed with_proposal with_crash begin store accept at_end read_ticket
reading_cases = record { rows = refl; answered = refl; closing = refl; kinds = refl; fullest_passes = refl; fullest_length = refl }
