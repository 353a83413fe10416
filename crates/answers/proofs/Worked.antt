-- The rounds that qualify in the worked cases, and what case 9 says of the bound on commits (specs/Worked), computed from the tickets. Assumes nothing.
use mathlib.Core.Path.{refl}
use Rattle.general.specs.Bits.{member}
use Rattle.general.specs.BigEndian.{number, number_from}
use Rattle.general.specs.Indexed.{map_from, count_from}
use Rattle.general.specs.Text.{ascii}
use Rattle.consensus.specs.Instance.{point_from, fault_of, within_limits}
use Rattle.coordinator.specs.Message.{arriving, gets_data, gets_commit}
use Rattle.coordinator.specs.Transition.{sends, receives}
use Rattle.coordinator.specs.Delivery.{among_first, reach_at, reach_in, reach}
use Rattle.consensus.specs.State.{state_of, crashes_in}
use Rattle.coordinator.specs.Round.{sent_by, received, after_outcome, after, states_after}
use Rattle.coordinator.specs.Undecided.{is_undecided, any_undecided}
use Rattle.coordinator.specs.Count.{speaks, carries, carried_in, data_in, commits_in}
use Rattle.consensus.specs.CrashCount.{is_idle, counts_as_crash, crash_count}
use Rattle.coordinator.specs.Run.{initial, with_round, run_to, run_of, crashes_of}
use Rattle.coordinator.specs.Settling.{values_held, all_are, one_value, qualifies}
use Rattle.coordinator.specs.WorkedRuns.{qualifying_to, qualifying_rounds}
use Rattle.text.specs.Digit.{digit_value, is_digit}
use Rattle.text.specs.Line.{scan, closed, unclosed, lines_from, lines_of}
use Rattle.ticket_format.specs.Reading.{proceed, read_from}
use Rattle.ticket_format.specs.FailureLine.{places_crash, all_between, suits_step}
use Rattle.ticket_format.specs.Says.{is_kind, header_says, after_proposal, proposal_says, failure_line, crash_says, failure_says, line_says}
use Rattle.ticket_format.specs.Accept.{unproposed, with_proposal, with_crash, begin, store, accept}
use Rattle.ticket_format.specs.Ticket.{at_end, read_ticket}
use Rattle.text.specs.TextOf.{text_of}
use Rattle.ticket_format.specs.Openings.{opening}
use Rattle.answers.specs.FurtherRuns.{further_runs}
use Rattle.answers.specs.LetterRuns.{letter_runs}
use Rattle.answers.specs.Worked.{qualifying_in, RoundsThatQualify, commit_bound_of, Case9MeetsCommitBound}

pub rounds_that_qualify : RoundsThatQualify
unfolding RoundsThatQualify qualifying_to qualifying_rounds qualifying_in text_of ascii opening further_runs letter_runs member number number_from map_from count_from point_from fault_of within_limits arriving gets_data gets_commit sends receives among_first reach_at reach_in reach state_of crashes_in sent_by received after_outcome after states_after is_undecided any_undecided speaks carries carried_in data_in commits_in is_idle counts_as_crash crash_count initial with_round run_to run_of crashes_of values_held all_are one_value qualifies digit_value is_digit scan closed unclosed lines_from lines_of proceed read_from is_kind header_says after_proposal proposal_says failure_line places_crash all_between suits_step crash_says failure_says line_says unproposed with_proposal with_crash begin store accept at_end read_ticket
rounds_that_qualify = refl

pub case_9_meets_commit_bound : Case9MeetsCommitBound
unfolding Case9MeetsCommitBound commit_bound_of text_of ascii member number number_from map_from count_from point_from fault_of within_limits arriving gets_data gets_commit sends receives among_first reach_at reach_in reach state_of crashes_in sent_by received after_outcome after states_after is_undecided any_undecided speaks carries carried_in data_in commits_in is_idle counts_as_crash crash_count initial with_round run_to run_of crashes_of digit_value is_digit scan closed unclosed lines_from lines_of proceed read_from is_kind header_says after_proposal proposal_says failure_line places_crash all_between suits_step crash_says failure_says line_says unproposed with_proposal with_crash begin store accept at_end read_ticket
case_9_meets_commit_bound = refl
