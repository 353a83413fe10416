-- The premises of the claims are met by case 1: computed from its text and those that it is paired with. Assumes nothing.
use mathlib.Core.List.{List, [], ◌∷◌, map}
use mathlib.Core.Option.{none}
use mathlib.Core.Path.{◌≡◌, refl, sym, ap, ◌∙◌}
use mathlib.Core.Bool.{true}
use Prim.Native.Nat.{ℕ, zero, suc, ◌-◌, ◌≤◌, ◌<◌}
use native.Mathlib.Omega.{arith}
use lib.ListN.{replicate, get_or}
use Rattle.general.specs.Bits.{member}
use Rattle.general.specs.BigEndian.{number, number_from, bytes_of}
use Rattle.general.specs.Indexed.{map_from, count_from}
use Rattle.general.specs.Counts.{count_of, add_at}
use Rattle.general.specs.Search.{lowest_from}
use Rattle.general.specs.Table.{tabulate}
use Rattle.general.specs.Text.{ascii}
use Rattle.consensus.specs.Instance.{Instance, point_from, fault_of, within_limits}
use Rattle.consensus.specs.declared.Fault.{Fault}
use Rattle.consensus.specs.declared.Fault.TheVariants.{Correct as correct, Crashes as crashes}
use Rattle.consensus.specs.declared.CrashPoint.TheVariants.{BeforeSending as before_sending, DuringCommits as during_commits}
use Rattle.consensus.specs.Consensus.{IsProcess, Decides}
use Rattle.consensus.specs.FourProcesses.{four, first_crashes, after_one_commit, data_to_the_last}
use Rattle.coordinator_laws.specs.Pairing.{LinePaired, same, more_commits, missing, Paired}
use Rattle.coordinator.specs.Message.{arriving, gets_data, gets_commit}
use Rattle.coordinator.specs.Transition.{sends, receives}
use Rattle.coordinator.specs.Delivery.{among_first, reach_at, reach_in, reach}
use Rattle.consensus.specs.State.{state_of, crashes_in}
use Rattle.coordinator.specs.Round.{sent_by, received, after_outcome, after, states_after}
use Rattle.coordinator.specs.Undecided.{is_undecided, any_undecided}
use Rattle.coordinator.specs.Count.{speaks, carries, carried_in, data_in, commits_in}
use Rattle.consensus.specs.CrashCount.{is_idle, counts_as_crash, crash_count}
use Rattle.coordinator.specs.Run.{initial, with_round, run_to, run_of, crashes_of, end_of}
use Rattle.coordinator.specs.Settling.{values_held, all_are, one_value, qualifies, first_settling}
use Rattle.coordinator.specs.Reason.{state_at_start, state_at_end, heard_in, reason_hearing, reason_from, reason_of, reasons_in, reasons_to, reasons_of}
use Rattle.coordinator_laws.specs.TrueReasons.{IsRound, StaysUp, end_round}
use Rattle.coordinator_laws.proofs.History.{undecided_crashed}
use Rattle.coordinator.specs.SentBy.{sent_after, data_by, commits_by}
use Rattle.text.specs.Digit.{digit_value, is_digit}
use Rattle.text.specs.Line.{scan, closed, unclosed, lines_from, lines_of}
use Rattle.ticket_format.specs.FailureLine.{places_crash, all_between, suits_step}
use Rattle.ticket_format.specs.Says.{is_kind, header_says, after_proposal, proposal_says, failure_line, crash_says, failure_says, line_says}
use Rattle.ticket_format.specs.Accept.{unproposed, with_proposal, with_crash, begin, store, accept}
use Rattle.general.specs.Answer.{Answer, accepted, refused, and_then}
use Rattle.ticket_format.specs.Reading.{proceed, read_from}
use Rattle.ticket_format.specs.Ticket.{at_end, read_ticket}
use Rattle.text.specs.HexText.{digit_of, hex_digits, hex_line}
use Rattle.answers.specs.ResultLine.{end_bytes, process_line, last_line, joined, line_by, process_lines, result_lines, result_text, result_size}
use Rattle.answers.specs.Running.{result_in, running, buffer_after}
use Rattle.answers.specs.Settle.{settling}
use Rattle.answers.specs.Reason.{within_run, reason_in, reason, reasons_size, reasons_within, reasons}
use Rattle.answers.specs.Code.{code_of, refusal_code, RunCall}
use Rattle.text.specs.TextOf.{text_of}
use Rattle.ticket_format.specs.Openings.{opening}
use Rattle.answers.specs.Table.{case1}
use Rattle.answers.proofs.LetteringCases.{lettering_cases}
use Rattle.answers.specs.Reply.{answer_by}
use Rattle.demands.specs.OutputSays.{is_process_line, sent_in, sent_from, line_at, sent_said, counts_of}
use Rattle.demands.specs.Written.{Wrote}
use Rattle.ticket_laws.specs.FirstWrong.{kind_in, station_in, step_in, count_in}
use Rattle.demands.specs.PairedTexts.{PairedTexts, no_lines, same_line, count_no_lower, missing_line}
use Rattle.general.proofs.Bytes.{Bytes, bytes_each}
use Rattle.part_format.specs.PartState.{state_bytes, state_from, identity_valid, round_valid, fields_valid, state_valid, state_refusal, is_own_round}
use Rattle.part_format.specs.Frame.{data_frame, commit_frame, frames_of, is_data_frame, is_commit_frame, messages_from, heard_by}
use Rattle.part_format.specs.Start.{start_refusal, start_state, start_bytes}
use Rattle.part_format.specs.Speak.{spoken_by, speak_refusal, speak_yields}
use Rattle.part_format.specs.Close.{state_after, closed_on, close_on_heard, close_state}
use Rattle.part_host.specs.Part.{Part, part_of, bytes_kept, is_open, output_room, yielded}
use Rattle.part_host.specs.PartEnds.{state_by_part}
use Rattle.part_host.specs.Hearing.{bytes_reaching, reach_from, let_through, heard_from, heard}
use Rattle.part_host.specs.Host.{blank, started_parts, part_after, parts_after, parts_to}
use Rattle.part_schedules.specs.Schedule.{played}
use Rattle.part_schedules.specs.Permutations.{passing_rounds, passing_schedule}
use Rattle.part_schedules.specs.Example.{ascending, permuted, case1_left, after_all_commits, case3_left, case5_left, left_permuted}
use Rattle.part_schedules.proofs.Example.{ends_alike, four_permuted, premises_met}
use Rattle.pricing_format.specs.OwnQuote.{own_quote}
use Rattle.pricing.specs.Price.{overhead_of, markup_of, nearest, with_rate, line_price, price_of}
use Rattle.pricing.specs.Quote.{any_above, lines_refusal, quote_by}
use Rattle.pricing_format.specs.Quoting.{quoted_or16, of_lines, quote_in, quoting}
use Rattle.pricing_format.specs.QuoteCall.{place_after, refusal_number, QuoteCall}
use Rattle.demands.proofs.QuoteClaim.{quote_claim}
use Rattle.demands.proofs.SchedulesClaim.{schedules_claim}
use Rattle.demands.specs.Witnesses.{crash_text, mixed_text, more_commits_text, no_crash_text, later_text, silent_text, reached_text, PairMet, RunMet, SentMet, SettledMet, ReasonMet, CrashMet, ReasonsMet, QuoteMet, PricedMeanwhile, PlayedMet, sent_as, Witnesses}
use Rattle.demands.proofs.Demand2.{demand_2}
use Rattle.demands.proofs.LettersClaim.{run_met_alike, letters_claim}

-- Case 1's instance, but for process 1's fault.
abbrev instance_with : Fault → Instance
instance_with fault = four (fault ∷ correct ∷ correct ∷ correct ∷ [])

-- Two such instances are paired if the two faults are.
paired_with : (fault fault' : Fault) → LinePaired fault fault' → Paired (instance_with fault) (instance_with fault')
unfolding four fault_of
paired_with fault fault' line = record { processes = refl; resilience = refl; proposals = refl; lines = λ p process. at_place (p - 1) }
  where
    at_place : (i : ℕ) → LinePaired (get_or (fault ∷ correct ∷ correct ∷ correct ∷ []) i correct) (get_or (fault' ∷ correct ∷ correct ∷ correct ∷ []) i correct)
    at_place zero = line
    at_place (suc i) = same

-- The bytes of its failure line, with this count.
abbrev commit_line : ℕ → List ℕ
commit_line count = 3 ∷ 1 ∷ 1 ∷ 2 ∷ 0 ∷ 0 ∷ 0 ∷ 0 ∷ 0 ∷ 0 ∷ 0 ∷ 0 ∷ count ∷ []

paired_commits : PairedTexts crash_text more_commits_text
unfolding kind_in station_in step_in count_in PairedTexts crash_text more_commits_text no_crash_text opening text_of ascii digit_value is_digit scan closed unclosed lines_from lines_of
paired_commits =
    same_line (same_line (same_line (same_line (same_line (count_no_lower {b = commit_line 1} {c = commit_line 3} refl refl refl refl refl (omega arith) (same_line no_lines))))))

paired_missing : PairedTexts crash_text no_crash_text
unfolding kind_in step_in PairedTexts crash_text more_commits_text no_crash_text opening text_of ascii digit_value is_digit scan closed unclosed lines_from lines_of
paired_missing = same_line (same_line (same_line (same_line (same_line (missing_line {b = commit_line 1} refl refl (same_line no_lines))))))

-- Case 1, case 3 and case 1 without its failure line.
abbrev crash : Instance
crash = instance_with (crashes 1 (during_commits 1))

abbrev all_commits : Instance
all_commits = instance_with (crashes 1 (during_commits 3))

abbrev no_crash : Instance
no_crash = instance_with correct

-- The three texts describe them.
texts_read : (read_ticket crash_text ≡ accepted crash) × (read_ticket more_commits_text ≡ accepted all_commits) × (read_ticket no_crash_text ≡ accepted no_crash)
unfolding four crash_text more_commits_text no_crash_text opening text_of ascii number number_from point_from within_limits digit_value is_digit scan closed unclosed lines_from lines_of proceed read_from is_kind header_says after_proposal proposal_says failure_line places_crash all_between suits_step crash_says failure_says line_says unproposed with_proposal with_crash begin store accept at_end read_ticket
texts_read = (refl, refl, refl)

-- In each of them process 2 decides 10, in the first a round later than in the others.
second_decides : Decides crash (end_of crash) 2 2 10 × Decides all_commits (end_of all_commits) 2 1 10 × Decides no_crash (end_of no_crash) 2 1 10
unfolding four end_of member map_from fault_of arriving gets_data gets_commit sends receives among_first reach_at reach_in reach state_of crashes_in sent_by received after_outcome after states_after is_undecided any_undecided speaks carries carried_in data_in commits_in initial with_round run_to run_of
second_decides =
    (record { process = omega arith; state = refl }, record { process = omega arith; state = refl }, record { process = omega arith; state = refl })

more_commits_lem : PairMet crash_text more_commits_text 2 1
more_commits_lem =
    record {
      first = crash;
      second = all_commits;
      lines = paired_commits;
      read_first = texts_read.0;
      read_second = texts_read.1;
      paired = paired_with _ _ (more_commits (omega arith));
      decides = second_decides.0;
      decides_second = second_decides.1;
    }

line_missing_lem : PairMet crash_text no_crash_text 2 1
line_missing_lem =
    record {
      first = crash;
      second = no_crash;
      lines = paired_missing;
      read_first = texts_read.0;
      read_second = texts_read.2;
      paired = paired_with _ _ missing;
      decides = second_decides.0;
      decides_second = second_decides.2;
    }

-- The buffer of 120 bytes holds the result and, behind it, what stood there.
written : RunMet crash_text 101
unfolding answer_by code_of running result_in buffer_after result_text result_lines joined line_by process_lines last_line process_line end_bytes result_size hex_line hex_digits digit_of crash_text more_commits_text no_crash_text opening text_of ascii member number number_from bytes_of map_from count_from count_of add_at point_from fault_of within_limits arriving gets_data gets_commit sends receives among_first reach_at reach_in reach state_of crashes_in sent_by received after_outcome after states_after is_undecided any_undecided speaks carries carried_in data_in commits_in is_idle counts_as_crash crash_count initial with_round run_to run_of sent_after data_by commits_by crashes_of digit_value is_digit scan closed unclosed lines_from lines_of proceed read_from is_kind header_says after_proposal proposal_says failure_line places_crash all_between suits_step crash_says failure_says line_says unproposed with_proposal with_crash begin store accept at_end read_ticket
written =
    record {
      before = replicate 120 165;
      after = buffer_after (running crash_text 120) (replicate 120 165);
      ran = record { answered = refl; buffer = refl };
      called = record { answered = refl; buffer = refl };
      small = omega arith;
    }

-- So does running its text in mixed letters.
written_mixed_lem : RunMet mixed_text 101
unfolding crash_text mixed_text
written_mixed_lem = run_met_alike crash_text mixed_text lettering_cases.accepted_texts.same 101 written

-- Its lines are those of case 1.
crash_wrote : Wrote crash_text crash (text_of case1.output)
unfolding answer_by code_of running result_in buffer_after result_text result_lines joined line_by process_lines last_line process_line end_bytes result_size hex_line hex_digits digit_of crash_text more_commits_text no_crash_text opening text_of ascii member number number_from bytes_of map_from count_from count_of add_at point_from fault_of within_limits arriving gets_data gets_commit sends receives among_first reach_at reach_in reach state_of crashes_in sent_by received after_outcome after states_after is_undecided any_undecided speaks carries carried_in data_in commits_in is_idle counts_as_crash crash_count initial with_round run_to run_of sent_after data_by commits_by crashes_of digit_value is_digit scan closed unclosed lines_from lines_of proceed read_from is_kind header_says after_proposal proposal_says failure_line places_crash all_between suits_step crash_says failure_says line_says unproposed with_proposal with_crash begin store accept at_end read_ticket four
crash_wrote = record { read = texts_read.0; behind = []; front = refl }

-- What its lines say of processes 1 to 5.
sent_rows : map (sent_said (text_of case1.output)) (1 ∷ 2 ∷ 3 ∷ 4 ∷ 5 ∷ []) ≡ sent_as 3 1 ∷ sent_as 1 1 ∷ sent_as 0 0 ∷ sent_as 0 0 ∷ none ∷ []
unfolding answer_by code_of running result_in buffer_after result_text result_lines joined line_by process_lines last_line process_line end_bytes result_size hex_line hex_digits digit_of crash_text more_commits_text no_crash_text opening text_of ascii member number number_from bytes_of map_from count_from count_of add_at point_from fault_of within_limits arriving gets_data gets_commit sends receives among_first reach_at reach_in reach state_of crashes_in sent_by received after_outcome after states_after is_undecided any_undecided speaks carries carried_in data_in commits_in is_idle counts_as_crash crash_count initial with_round run_to run_of sent_after data_by commits_by crashes_of digit_value is_digit scan closed unclosed lines_from lines_of proceed read_from is_kind header_says after_proposal proposal_says failure_line places_crash all_between suits_step crash_says failure_says line_says unproposed with_proposal with_crash begin store accept at_end read_ticket four line_at is_process_line sent_in sent_from sent_said
sent_rows = refl

sent : SentMet crash_text (text_of case1.output) (sent_as 3 1 ∷ sent_as 1 1 ∷ sent_as 0 0 ∷ sent_as 0 0 ∷ none ∷ [])
    (record { rounds = 2; crashes = 1; speakers = 2; data_sent = 4; commits_sent = 2 })
unfolding answer_by code_of running result_in buffer_after result_text result_lines joined line_by process_lines last_line process_line end_bytes result_size hex_line hex_digits digit_of crash_text more_commits_text no_crash_text opening text_of ascii member number number_from bytes_of map_from count_from count_of add_at point_from fault_of within_limits arriving gets_data gets_commit sends receives among_first reach_at reach_in reach state_of crashes_in sent_by received after_outcome after states_after is_undecided any_undecided speaks carries carried_in data_in commits_in is_idle counts_as_crash crash_count initial with_round run_to run_of sent_after data_by commits_by crashes_of digit_value is_digit scan closed unclosed lines_from lines_of proceed read_from is_kind header_says after_proposal proposal_says failure_line places_crash all_between suits_step crash_says failure_says line_says unproposed with_proposal with_crash begin store accept at_end read_ticket four line_at is_process_line sent_in sent_from sent_said counts_of
sent =
    record {
      instance = crash;
      wrote = crash_wrote;
      said = record { each = demand_2.sent crash_text crash _ crash_wrote; all = (demand_2.result crash_text crash _ crash_wrote).last };
      each = sent_rows;
    }

-- It is settled in round 1 and has two rounds.
crash_settles : (first_settling crash ≡ 1) × ((run_of crash).rounds ≡ 2)
unfolding lowest_from values_held all_are one_value qualifies first_settling four end_of member map_from fault_of arriving gets_data gets_commit sends receives among_first reach_at reach_in reach state_of crashes_in sent_by received after_outcome after states_after is_undecided any_undecided speaks carries carried_in data_in commits_in initial with_round run_to run_of
crash_settles = (refl, refl)

-- What is settled is so by both contracts.
met : (text : List ℕ) (x : Instance) (code rounds p v : ℕ) → read_ticket text ≡ accepted x → first_settling x ≡ code → (run_of x).rounds ≡ rounds
    → Decides x (end_of x) p rounds v → SettledMet text code rounds p v
unfolding settling answer_by code_of
met text x code rounds p v read settles last decides =
    record { instance = x; read = read; answered = rw (read, settles) refl; called = rw (read, settles) refl; last = last; decides = decides }

settled : SettledMet crash_text 1 2 2 10
settled = met crash_text crash 1 2 2 10 texts_read.0 crash_settles.0 crash_settles.1 second_decides.0

-- The run `crashes_later`: settled in round 2, before process 3 decides in round 3.
abbrev later : Instance
later = record { processes = 3; resilience = 2; proposals = 10 ∷ 20 ∷ 30 ∷ []; pattern = crashes 1 before_sending ∷ crashes 2 before_sending ∷ correct ∷ [] }

later_read : read_ticket later_text ≡ accepted later
unfolding four later_text opening text_of ascii number number_from point_from within_limits digit_value is_digit scan closed unclosed lines_from lines_of proceed read_from is_kind header_says after_proposal proposal_says failure_line places_crash all_between suits_step crash_says failure_says line_says unproposed with_proposal with_crash begin store accept at_end read_ticket
later_read = refl

later_settles : (first_settling later ≡ 2) × ((run_of later).rounds ≡ 3) × Decides later (end_of later) 3 3 30
unfolding lowest_from values_held all_are one_value qualifies first_settling end_of member map_from fault_of arriving gets_data gets_commit sends receives among_first reach_at reach_in reach state_of crashes_in sent_by received after_outcome after states_after is_undecided any_undecided speaks carries carried_in data_in commits_in initial with_round run_to run_of
later_settles = (refl, refl, record { process = omega arith; state = refl })

settled_later_lem : SettledMet later_text 2 3 3 30
settled_later_lem = met later_text later 2 3 3 30 later_read later_settles.0 later_settles.1 later_settles.2

-- Case 6: processes 1 and 2 crash in round 1.
abbrev silent : Instance
silent = four (crashes 1 before_sending ∷ crashes 1 before_sending ∷ correct ∷ correct ∷ [])

silent_read : read_ticket silent_text ≡ accepted silent
unfolding four silent_text opening text_of ascii number number_from point_from within_limits digit_value is_digit scan closed unclosed lines_from lines_of proceed read_from is_kind header_says after_proposal proposal_says failure_line places_crash all_between suits_step crash_says failure_says line_says unproposed with_proposal with_crash begin store accept at_end read_ticket
silent_read = refl

-- A reason that is given is so by both contracts.
reason_met : (text : List ℕ) (x : Instance) (p r k ended : ℕ) → read_ticket text ≡ accepted x → IsProcess x p → IsRound x r → StaysUp x p r
    → within_run x p r ≡ true → reason_of x p r ≡ k → r < end_round (end_of x p) → end_round (end_of x r) ≡ ended → ReasonMet text p r k ended
unfolding reason reason_in answer_by code_of
reason_met text x p r k ended read process round stays within known later coordinator =
    record {
      instance = x;
      read = read;
      process = process;
      round = round;
      stays = stays;
      answered = rw (read, within, known) refl;
      called = rw (read, within, known) refl;
      later = later;
      coordinator = coordinator;
    }

explained : ReasonMet crash_text 3 1 3 1
unfolding state_at_start state_at_end heard_in reason_hearing reason_from reason_of end_round within_run four end_of member map_from fault_of arriving gets_data gets_commit sends receives among_first reach_at reach_in reach state_of crashes_in sent_by received after_outcome after states_after is_undecided any_undecided speaks carries carried_in data_in commits_in initial with_round run_to run_of
explained =
    reason_met crash_text crash 3 1 3 1 texts_read.0 (omega arith) (omega arith)
    (record { held = 30; began = refl; up = λ q e. undecided_crashed _ 10 q refl e }) refl refl (omega arith) refl

explained_silent_lem : ReasonMet silent_text 3 2 4 1
unfolding state_at_start state_at_end heard_in reason_hearing reason_from reason_of end_round within_run four end_of member map_from fault_of arriving gets_data gets_commit sends receives among_first reach_at reach_in reach state_of crashes_in sent_by received after_outcome after states_after is_undecided any_undecided speaks carries carried_in data_in commits_in initial with_round run_to run_of
explained_silent_lem =
    reason_met silent_text silent 3 2 4 1 silent_read (omega arith) (omega arith)
    (record { held = 30; began = refl; up = λ q e. undecided_crashed _ 30 q refl e }) refl refl (omega arith) refl

crash_met : CrashMet crash_text 1 1 2
unfolding end_round four end_of member map_from fault_of arriving gets_data gets_commit sends receives among_first reach_at reach_in reach state_of crashes_in sent_by received after_outcome after states_after is_undecided any_undecided speaks carries carried_in data_in commits_in initial with_round run_to run_of
crash_met =
    record { instance = crash; read = texts_read.0; process = omega arith; ended = refl; round = omega arith; later = omega arith }

-- The reasons of case 1.
crash_reasons : reasons crash_text 9 ≡ accepted (6 ∷ 3 ∷ 3 ∷ 2 ∷ 7 ∷ 1 ∷ 2 ∷ 7 ∷ [])
unfolding reasons reasons_within reasons_size tabulate state_at_start heard_in reason_hearing reason_from reason_of reasons_in reasons_to reasons_of four end_of member map_from fault_of arriving gets_data gets_commit sends receives among_first reach_at reach_in reach state_of crashes_in sent_by received after_outcome after states_after is_undecided any_undecided speaks carries carried_in data_in commits_in initial with_round run_to run_of
crash_reasons = rw texts_read.0 refl

all_explained_lem : ReasonsMet crash_text (replicate 9 165) (6 ∷ 3 ∷ 3 ∷ 2 ∷ 7 ∷ 1 ∷ 2 ∷ 7 ∷ 165 ∷ []) 8
unfolding answer_by code_of buffer_after
all_explained_lem =
    record {
      answered = record { answered = rw crash_reasons refl; buffer = rw crash_reasons refl };
      called = record { answered = rw crash_reasons refl; buffer = rw crash_reasons refl };
      small = omega arith;
    }

-- What processes of case 1 quote.
abbrev one_line : List ℕ
one_line = 100000 ∷ []

crash_quotes : (quoting crash_text one_line 2 ≡ accepted 100100) × (quoting crash_text one_line 4 ≡ accepted 100100) × (quoting crash_text one_line 1 ≡ refused 16 0)
unfolding quoting quote_in of_lines quoted_or16 lines_refusal any_above quote_by overhead_of markup_of nearest with_rate line_price price_of four end_of member map_from fault_of arriving gets_data gets_commit sends receives among_first reach_at reach_in reach state_of crashes_in sent_by received after_outcome after states_after is_undecided any_undecided speaks carries carried_in data_in commits_in initial with_round run_to run_of
crash_quotes = (rw texts_read.0 refl, rw texts_read.0 refl, rw texts_read.0 refl)

quote_met : (p : ℕ) → IsProcess crash p → quoting crash_text one_line p ≡ accepted 100100 → QuoteMet crash_text one_line p 100100
unfolding answer_by code_of place_after refusal_number
quote_met p process quoted =
    let own = quote_claim.own crash_text crash one_line p texts_read.0 process ∙ quoted in
    record {
      instance = crash;
      read = texts_read.0;
      process = process;
      answered = sym quoted;
      called = record { answered = rw quoted refl; place = rw quoted refl };
      own = record { answered = rw own refl; place = rw own refl };
    }

second : IsProcess crash 2
unfolding four
second = record { first = omega arith; last = omega arith }

fourth : IsProcess crash 4
unfolding four
fourth = record { first = omega arith; last = omega arith }

quoted_mixed_lem : QuoteCall mixed_text one_line 2 7 100100 0
unfolding code_of place_after quoting crash_text mixed_text
quoted_mixed_lem =
    let alike = letters_claim.read crash_text mixed_text lettering_cases.accepted_texts.same in
    let same : quoting mixed_text one_line 2 ≡ accepted 100100 = ap (λ (a : Answer Instance). and_then a (quote_in one_line 2)) (sym alike) ∙ crash_quotes.0 in
    record { answered = rw same refl; place = rw same refl }

-- The nine bytes of processes 4 and 2 after round 1.
abbrev decided_state : List ℕ
decided_state = 4 ∷ 4 ∷ 2 ∷ 1 ∷ 1 ∷ 0 ∷ 0 ∷ 0 ∷ 10 ∷ []

abbrev open_state : List ℕ
open_state = 2 ∷ 4 ∷ 2 ∷ 2 ∷ 0 ∷ 0 ∷ 0 ∷ 0 ∷ 10 ∷ []

decided_bytes : bytes_kept (part_of (parts_to crash 1) 4) ≡ decided_state
unfolding four number number_from bytes_of map_from within_limits fault_of sends receives among_first reach_at reach_in crashes_in state_bytes state_from identity_valid round_valid fields_valid state_valid state_refusal is_own_round data_frame commit_frame frames_of is_data_frame is_commit_frame messages_from start_refusal start_state start_bytes spoken_by speak_refusal speak_yields heard_by state_after closed_on close_on_heard close_state is_open output_room yielded bytes_reaching reach_from let_through heard_from heard blank started_parts part_after parts_after parts_to part_of bytes_kept
decided_bytes = refl

open_bytes : bytes_kept (part_of (parts_to crash 1) 2) ≡ open_state
unfolding four number number_from bytes_of map_from within_limits fault_of sends receives among_first reach_at reach_in crashes_in state_bytes state_from identity_valid round_valid fields_valid state_valid state_refusal is_own_round data_frame commit_frame frames_of is_data_frame is_commit_frame messages_from start_refusal start_state start_bytes spoken_by speak_refusal speak_yields heard_by state_after closed_on close_on_heard close_state is_open output_room yielded bytes_reaching reach_from let_through heard_from heard blank started_parts part_after parts_after parts_to part_of bytes_kept
open_bytes = refl

own_quotes : (own_quote decided_state one_line ≡ accepted 100100) × (own_quote open_state one_line ≡ refused 16 0)
unfolding number number_from within_limits state_from identity_valid round_valid fields_valid state_valid state_refusal state_by_part own_quote of_lines quoted_or16 lines_refusal any_above quote_by overhead_of markup_of nearest with_rate line_price price_of
own_quotes = (refl, refl)

quoted_meanwhile_lem : PricedMeanwhile crash_text one_line 1 4 2 100100
unfolding place_after refusal_number four within_limits state_from identity_valid round_valid fields_valid state_valid member map_from fault_of arriving gets_data gets_commit sends receives among_first reach_at reach_in reach state_of crashes_in sent_by received after_outcome after states_after is_undecided any_undecided speaks carries carried_in data_in commits_in initial with_round run_to run_of
quoted_meanwhile_lem =
    let quote = ap (λ (b : List ℕ). own_quote b one_line) decided_bytes ∙ own_quotes.0 in
    let refusal = ap (λ (b : List ℕ). own_quote b one_line) open_bytes ∙ own_quotes.1 in
    let bytes : Bytes decided_state = bytes_each decided_state (omega arith, (omega arith, (omega arith, (omega arith, (omega arith, (omega arith, (omega arith, (omega arith, (omega arith, tt))))))))) in
    record {
      instance = crash;
      read = texts_read.0;
      process = fourth;
      before = omega arith;
      priced = record { answered = rw quote refl; place = rw quote refl };
      waits = record { answered = rw refusal refl; place = rw refusal refl };
      valid = rw decided_bytes (record { nine = refl; bytes = bytes; valid = refl });
    }

not_quoted_lem : QuoteCall crash_text one_line 1 7 7 (refusal_code 16 0)
unfolding code_of place_after
not_quoted_lem = record { answered = rw crash_quotes.2 refl; place = rw crash_quotes.2 refl }

-- Cases 1 and 3 as instances of four processes.
crash_is : crash ≡ after_one_commit
unfolding four first_crashes after_one_commit
crash_is = refl

all_commits_are : all_commits ≡ after_all_commits
unfolding four first_crashes after_all_commits
all_commits_are = refl

played_ascending : PlayedMet crash_text ascending case1_left
played_ascending =
    record { instance = after_one_commit; read = rw (← crash_is) texts_read.0; whole = premises_met.whole; left = ends_alike.case1_ascending }

-- Orders that name all processes are played for a round each of t + 1, which are enough.
played_named : (text : List ℕ) (x : Instance) (ends : List Part) → read_ticket text ≡ accepted x → x.processes ≡ 4 → (run_of x).rounds ≤ 3
    → (played x (passing_schedule x permuted)).parts ≡ ends → PlayedMet text (passing_schedule x permuted) ends
unfolding permuted passing_schedule passing_rounds
played_named text x ends read are-four rounds left =
    let ordered = (schedules_claim.permutations text x read).in_order permuted (four_permuted x are-four) in
    record { instance = x; read = read; whole = (schedules_claim.any_order text x read).through (passing_schedule x permuted) ordered (record { enough = omega arith }); left = left }

few_rounds_lem : ((run_of after_one_commit).rounds ≤ 3) × ((run_of after_all_commits).rounds ≤ 3) × ((run_of data_to_the_last).rounds ≤ 3)
unfolding after_all_commits data_to_the_last first_crashes after_one_commit four member map_from fault_of arriving gets_data gets_commit sends receives among_first reach_at reach_in reach state_of crashes_in sent_by received after_outcome after states_after is_undecided any_undecided speaks carries carried_in data_in commits_in initial with_round run_to run_of
few_rounds_lem = (omega arith, omega arith, omega arith)

played_otherwise_lem : PlayedMet crash_text (passing_schedule after_one_commit permuted) case1_left
unfolding four first_crashes after_one_commit left_permuted
played_otherwise_lem =
    played_named crash_text after_one_commit case1_left (rw (← crash_is) texts_read.0) refl few_rounds_lem.0 ends_alike.case1_permuted

played_paired_lem : PlayedMet more_commits_text (passing_schedule after_all_commits permuted) case3_left
unfolding four first_crashes after_all_commits left_permuted
played_paired_lem =
    played_named more_commits_text after_all_commits case3_left (rw (← all_commits_are) texts_read.1) refl few_rounds_lem.1 ends_alike.case3_permuted

reached_read : read_ticket reached_text ≡ accepted data_to_the_last
unfolding four first_crashes data_to_the_last reached_text opening text_of ascii number number_from point_from within_limits digit_value is_digit scan closed unclosed lines_from lines_of proceed read_from is_kind header_says after_proposal proposal_says failure_line places_crash all_between suits_step crash_says failure_says line_says unproposed with_proposal with_crash begin store accept at_end read_ticket
reached_read = refl

played_beside_lem : PlayedMet reached_text (passing_schedule data_to_the_last permuted) case5_left
unfolding four first_crashes data_to_the_last left_permuted
played_beside_lem = played_named reached_text data_to_the_last case5_left reached_read refl few_rounds_lem.2 ends_alike.case5_permuted

-- 100 bytes are one too few, and 101 just enough.
short : RunCall crash_text (replicate 100 165) (replicate 100 165) (refusal_code 9 0)
unfolding answer_by code_of running result_in buffer_after result_text result_lines joined line_by process_lines last_line process_line end_bytes result_size hex_line hex_digits digit_of crash_text more_commits_text no_crash_text opening text_of ascii member number number_from bytes_of map_from count_from count_of add_at point_from fault_of within_limits arriving gets_data gets_commit sends receives among_first reach_at reach_in reach state_of crashes_in sent_by received after_outcome after states_after is_undecided any_undecided speaks carries carried_in data_in commits_in is_idle counts_as_crash crash_count initial with_round run_to run_of sent_after data_by commits_by crashes_of digit_value is_digit scan closed unclosed lines_from lines_of proceed read_from is_kind header_says after_proposal proposal_says failure_line places_crash all_between suits_step crash_says failure_says line_says unproposed with_proposal with_crash begin store accept at_end read_ticket
short = record { answered = refl; buffer = refl }

fits : RunCall crash_text (replicate 101 165) (text_of case1.output) 101
unfolding answer_by code_of running result_in buffer_after result_text result_lines joined line_by process_lines last_line process_line end_bytes result_size hex_line hex_digits digit_of crash_text more_commits_text no_crash_text opening text_of ascii member number number_from bytes_of map_from count_from count_of add_at point_from fault_of within_limits arriving gets_data gets_commit sends receives among_first reach_at reach_in reach state_of crashes_in sent_by received after_outcome after states_after is_undecided any_undecided speaks carries carried_in data_in commits_in is_idle counts_as_crash crash_count initial with_round run_to run_of sent_after data_by commits_by crashes_of digit_value is_digit scan closed unclosed lines_from lines_of proceed read_from is_kind header_says after_proposal proposal_says failure_line places_crash all_between suits_step crash_says failure_says line_says unproposed with_proposal with_crash begin store accept at_end read_ticket
fits = record { answered = refl; buffer = refl }

pub witnesses : Witnesses
unfolding four settled met
witnesses =
    record {
      more_commits = more_commits_lem;
      line_missing = line_missing_lem;
      written = written;
      written_mixed = written_mixed_lem;
      sent = sent;
      settled = settled;
      four_processes = refl;
      settled_later = settled_later_lem;
      explained = explained;
      explained_silent = explained_silent_lem;
      crashes = crash_met;
      all_explained = all_explained_lem;
      quoted = quote_met 2 second crash_quotes.0;
      quoted_earlier = quote_met 4 fourth crash_quotes.1;
      quoted_mixed = quoted_mixed_lem;
      not_quoted = not_quoted_lem;
      quoted_meanwhile = quoted_meanwhile_lem;
      played = played_ascending;
      played_otherwise = played_otherwise_lem;
      played_paired = played_paired_lem;
      played_beside = played_beside_lem;
      short = short;
      fits = fits;
    }
