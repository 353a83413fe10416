-- What is answered on texts in two letterings, computed. Assumes nothing.
use mathlib.Core.List.{List, [], ◌∷◌}
use mathlib.Core.Path.{◌≡◌, refl, ap}
use Prim.Native.Nat.{ℕ}
use native.Mathlib.Omega.{arith}
use lib.ListN.{replicate, get_or}
use Rattle.general.specs.Bits.{member}
use Rattle.general.specs.BigEndian.{number, number_from, bytes_of}
use Rattle.general.specs.Indexed.{map_from, count_from}
use Rattle.general.specs.Counts.{count_of, add_at}
use Rattle.general.specs.Search.{lowest_from}
use Rattle.general.specs.Text.{ascii}
use Rattle.consensus.specs.Instance.{point_from, fault_of, within_limits}
use Rattle.coordinator.specs.Message.{arriving, gets_data, gets_commit}
use Rattle.coordinator.specs.Transition.{sends, receives}
use Rattle.coordinator.specs.Delivery.{among_first, reach_at, reach_in, reach}
use Rattle.consensus.specs.State.{state_of, crashes_in}
use Rattle.coordinator.specs.Round.{sent_by, received, after_outcome, after, states_after}
use Rattle.coordinator.specs.Undecided.{is_undecided, any_undecided}
use Rattle.coordinator.specs.Run.{initial, with_round, run_to, run_of, crashes_of}
use Rattle.coordinator.specs.SentBy.{sent_after, data_by, commits_by}
use Rattle.text.specs.Digit.{digit_value, is_digit}
use Rattle.text.specs.Line.{scan, closed, unclosed, lines_from, lines_of}
use Rattle.ticket_format.specs.FailureLine.{places_crash, all_between, suits_step}
use Rattle.ticket_format.specs.Says.{is_kind, header_says, after_proposal, proposal_says, failure_line, crash_says, failure_says, line_says}
use Rattle.ticket_format.specs.Accept.{unproposed, with_proposal, with_crash, begin, store, accept}
use Rattle.text.specs.HexText.{digit_of, hex_digits, hex_line}
use Rattle.coordinator.specs.Settling.{values_held, all_are, one_value, qualifies, first_settling}
use Rattle.coordinator.specs.Count.{speaks, carries, carried_in, data_in, commits_in}
use Rattle.consensus.specs.CrashCount.{is_idle, counts_as_crash, crash_count}
use Rattle.ticket_format.specs.Reading.{proceed, read_from}
use Rattle.ticket_format.specs.Ticket.{at_end, read_ticket}
use Rattle.answers.specs.ResultLine.{end_bytes, process_line, last_line, joined, line_by, process_lines, result_lines, result_text, result_size}
use Rattle.answers.specs.Running.{result_in, running, buffer_after}
use Rattle.answers.specs.Settle.{settling}
use Rattle.general.specs.Table.{tabulate}
use Rattle.coordinator.specs.Reason.{state_at_start, heard_in, reason_hearing, reason_from, reason_of, reasons_in, reasons_to, reasons_of}
use Rattle.answers.specs.Reason.{within_run, reason_in, reason, reasons_size, reasons_within, reasons}
use Rattle.answers.specs.Code.{code_of, refusal_code}
use Rattle.text.specs.Capitals.{capital, EqualUpToCase, InCapitals}
use Rattle.answers.specs.LetteringCases.{TwoLetterings, LetteringCases}
use Rattle.answers.specs.LetterRuns.{case1_mixed}
use Rattle.text.specs.TextOf.{text_of}
use Rattle.answers.specs.Table.{case1}

-- Of case 1 in mixed letters byte 18, counted from 0, is a.
small_letter_lem : InCapitals (text_of case1_mixed.ticket) → ⊥
unfolding InCapitals capital text_of ascii
small_letter_lem e =
    let same : ◌≡◌ {A = ℕ} 65 97 = ap (λ (l : List ℕ). get_or l 18 0) e in
    omega arith

-- Two texts that differ at byte i.
different : (a b : List ℕ) (i : ℕ) → (get_or a i 0 ≡ get_or b i 0 → ⊥) → a ≡ b → ⊥
different a b i other e = other (ap (λ (l : List ℕ). get_or l i 0) e)

-- A buffer of 120 bytes.
abbrev buffer : List ℕ
buffer = replicate 120 165

accepted_texts_lem : TwoLetterings (text_of case1.ticket) (text_of case1_mixed.ticket) 101 1 2 8
unfolding within_run reason_in reason reasons_size reasons_within reasons tabulate state_at_start heard_in reason_hearing reason_from reason_of reasons_in reasons_to reasons_of EqualUpToCase capital settling lowest_from first_settling code_of buffer_after values_held all_are one_value qualifies text_of ascii member number number_from bytes_of map_from count_from count_of add_at point_from fault_of within_limits arriving gets_data gets_commit sends receives among_first reach_at reach_in reach state_of crashes_in sent_by received after_outcome after states_after is_undecided any_undecided speaks carries carried_in data_in commits_in is_idle counts_as_crash crash_count initial with_round run_to run_of sent_after data_by commits_by crashes_of digit_value is_digit scan closed unclosed lines_from lines_of proceed read_from is_kind header_says after_proposal proposal_says failure_line places_crash all_between suits_step crash_says failure_says line_says unproposed with_proposal with_crash begin store accept at_end read_ticket digit_of hex_digits hex_line end_bytes process_line last_line joined line_by process_lines result_lines result_text result_size result_in running
accepted_texts_lem =
    record {
      differ = different (text_of case1.ticket) (text_of case1_mixed.ticket) 18 (λ e. omega arith);
      same = refl;
      before = buffer;
      after = buffer_after (running (text_of case1.ticket) 120) buffer;
      first = record { answered = refl; buffer = refl };
      second = record { answered = refl; buffer = refl };
      first_settles = refl;
      second_settles = refl;
      first_reason = refl;
      second_reason = refl;
      explained = buffer_after (reasons (text_of case1.ticket) 120) buffer;
      first_explains = record { answered = refl; buffer = refl };
      second_explains = record { answered = refl; buffer = refl };
    }

refused_texts_lem : TwoLetterings (text_of ("01040G" ∷ [])) (text_of ("01040g" ∷ [])) (refusal_code 2 1) (refusal_code 2 1) (refusal_code 2 1) (refusal_code 2 1)
unfolding reason_in reason reasons_within reasons EqualUpToCase capital settling code_of buffer_after running result_in text_of ascii digit_value is_digit scan closed unclosed lines_from lines_of read_from read_ticket
refused_texts_lem =
    record {
      differ = different (text_of ("01040G" ∷ [])) (text_of ("01040g" ∷ [])) 5 (λ e. omega arith);
      same = refl;
      before = buffer;
      after = buffer;
      first = record { answered = refl; buffer = refl };
      second = record { answered = refl; buffer = refl };
      first_settles = refl;
      second_settles = refl;
      first_reason = refl;
      second_reason = refl;
      explained = buffer;
      first_explains = record { answered = refl; buffer = refl };
      second_explains = record { answered = refl; buffer = refl };
    }

pub lettering_cases : LetteringCases
lettering_cases = record { accepted_texts = accepted_texts_lem; refused_texts = refused_texts_lem; not_in_capitals = small_letter_lem }
