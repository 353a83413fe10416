-- What is quoted for tickets is what the table says, computed. Assumes nothing.
use mathlib.Core.Path.{refl}
use Rattle.general.specs.Bits.{member}
use Rattle.general.specs.BigEndian.{number, number_from}
use Rattle.general.specs.Indexed.{map_from}
use Rattle.general.specs.Text.{ascii}
use Rattle.consensus.specs.Instance.{point_from, fault_of, within_limits}
use Rattle.coordinator.specs.Message.{arriving, gets_data, gets_commit}
use Rattle.coordinator.specs.Transition.{sends, receives}
use Rattle.coordinator.specs.Delivery.{among_first, reach_at, reach_in, reach}
use Rattle.consensus.specs.State.{state_of, crashes_in}
use Rattle.coordinator.specs.Round.{sent_by, received, after_outcome, after, states_after}
use Rattle.coordinator.specs.Undecided.{is_undecided, any_undecided}
use Rattle.coordinator.specs.Run.{initial, with_round, run_to, run_of, end_of}
use Rattle.text.specs.Digit.{digit_value, is_digit}
use Rattle.text.specs.Line.{scan, closed, unclosed, lines_from, lines_of}
use Rattle.ticket_format.specs.Reading.{proceed, read_from}
use Rattle.ticket_format.specs.FailureLine.{places_crash, all_between, suits_step}
use Rattle.ticket_format.specs.Says.{is_kind, header_says, after_proposal, proposal_says, failure_line, crash_says, failure_says, line_says}
use Rattle.ticket_format.specs.Accept.{unproposed, with_proposal, with_crash, begin, store, accept}
use Rattle.ticket_format.specs.Ticket.{at_end, read_ticket}
use Rattle.answers.specs.Code.{code_of}
use Rattle.text.specs.TextOf.{text_of}
use Rattle.ticket_format.specs.Openings.{opening, opening64}
use Rattle.ticket_format.specs.Openings.{after_opening}
use Rattle.answers.specs.AnswerCases.{refusal_rows}
use Rattle.pricing.specs.Price.{overhead_of, markup_of, nearest, with_rate, line_price, price_of}
use Rattle.pricing.specs.Quote.{any_above, lines_refusal, quote_by}
use Rattle.pricing_format.specs.Quoting.{quoted_or16, of_lines, quote_in, quoting}
use Rattle.pricing_format.specs.QuoteCall.{place_after, refusal_number}
use Rattle.pricing_format.specs.QuoteCases.{proposing, answers_on, answers_in, asked_of_ten_and_five, asked_of_case1, QuoteCases}

pub quote_cases : QuoteCases
unfolding member number number_from map_from ascii point_from fault_of within_limits arriving gets_data gets_commit sends receives among_first reach_at reach_in reach state_of crashes_in sent_by received after_outcome after states_after is_undecided any_undecided initial with_round run_to run_of end_of digit_value is_digit scan closed unclosed lines_from lines_of proceed read_from places_crash all_between suits_step is_kind header_says after_proposal proposal_says failure_line crash_says failure_says line_says unproposed with_proposal with_crash begin store accept at_end read_ticket code_of text_of opening opening64 after_opening refusal_rows overhead_of markup_of nearest with_rate line_price price_of any_above lines_refusal quote_by quoted_or16 of_lines quote_in quoting place_after refusal_number proposing answers_on answers_in asked_of_ten_and_five asked_of_case1
quote_cases =
    record {
      figures = refl;
      questions = refl;
      of_case1 = refl;
      other_runs = refl;
      all_quote = refl;
      largest = refl;
      before14 = refl;
      before15 = refl;
      codes = refl;
      numbers = refl;
      place = refl;
    }
