-- The two tickets describe what the specs say, computed. Assumes nothing.
use mathlib.Core.Path.{refl}
use Rattle.general.specs.Bits.{member, members_to}
use Rattle.general.specs.BigEndian.{number, number_from}
use Rattle.general.specs.Text.{ascii}
use Rattle.consensus.specs.Instance.{point_from, fault_of, within_limits}
use Rattle.text.specs.Digit.{digit_value, is_digit}
use Rattle.text.specs.Line.{scan, closed, unclosed, lines_from, lines_of}
use Rattle.ticket_format.specs.FailureLine.{places_crash, all_between, suits_step}
use Rattle.ticket_format.specs.Says.{is_kind, header_says, after_proposal, proposal_says, failure_line, crash_says, failure_says, line_says}
use Rattle.ticket_format.specs.Accept.{unproposed, with_proposal, with_crash, begin, store, accept}
use Rattle.ticket_format.specs.Reading.{proceed, read_from}
use Rattle.ticket_format.specs.Ticket.{at_end, read_ticket}
use Rattle.text.specs.TextOf.{text_of}
use Rattle.ticket_format.specs.Openings.{opening64}
use Rattle.ticket_format.specs.Described.{describing_ticket, described_faults, described, TicketDescribes, large_set, large_set_ticket, first_fault, LargeSet}

pub ticket_describes : TicketDescribes
unfolding TicketDescribes describing_ticket described_faults described text_of ascii number number_from point_from within_limits digit_value is_digit scan closed unclosed lines_from lines_of proceed read_from is_kind header_says after_proposal proposal_says failure_line places_crash all_between suits_step crash_says failure_says line_says unproposed with_proposal with_crash begin store accept at_end read_ticket
ticket_describes = refl

pub large_set_lem : LargeSet
unfolding large_set large_set_ticket first_fault fault_of member members_to opening64 text_of ascii number number_from point_from within_limits digit_value is_digit scan closed unclosed lines_from lines_of proceed read_from is_kind header_says after_proposal proposal_says failure_line places_crash all_between suits_step crash_says failure_says line_says unproposed with_proposal with_crash begin store accept at_end read_ticket
large_set_lem = record { fault = refl; members = refl }
