-- The claims, used on the largest ticket and on the witnesses. Assumes nothing.
use mathlib.Core.List.{List, [], ◌∷◌}
use mathlib.Core.Path.{◌≡◌, refl, ap}
use Prim.Native.Nat.{ℕ, ◌≤◌, ◌<◌}
use native.Mathlib.Omega.{arith}
use lib.ListN.{get_or, replicate}
use Rattle.consensus.specs.Instance.{Instance}
use Rattle.answers.proofs.LetteringCases.{lettering_cases}
use Rattle.demands.specs.Witnesses.{crash_text, mixed_text, later_text}
use Rattle.general.proofs.Bytes.{bytes_each}
use Rattle.ticket_laws.specs.AcceptedTexts.{TicketOf}
use Rattle.ticket_laws.specs.TicketText.{ticket_text}
use Rattle.ticket_laws.proofs.WellFormed.{accepted_well_formed}
use Rattle.ticket_laws.proofs.AcceptedTexts.{ticket_in_capitals}
use Rattle.demands.specs.Used.{FullestMet, last_state, data_of_round1, UsedOnFullest, ClaimsUsed}
use Rattle.consensus.specs.Consensus.{IsProcess}
use Rattle.coordinator.specs.Run.{end_of}
use Rattle.text.specs.Line.{Line, lines_of}
use Rattle.general.specs.Answer.{Answer, accepted, refused}
use Rattle.ticket_format.specs.Ticket.{read_ticket}
use Rattle.ticket_format.specs.ReadingCases.{fullest, limits_of}
use Rattle.ticket_format.proofs.ReadingCases.{reading_cases}
use Rattle.answers.specs.Running.{program_writes}
use Rattle.demands.specs.OutputSays.{OutputSays, counts_of}
use Rattle.demands.specs.Written.{Wrote}
use Rattle.demands.specs.PairedTexts.{PairedLines, no_lines, same_line, PairedTexts}
use Rattle.demands.proofs.BoundClaim.{bound_claim}
use Rattle.demands.proofs.Demand1.{demand_1}
use Rattle.demands.proofs.Demand2.{demand_2}
use Rattle.demands.proofs.Demand3.{demand_3}
use Rattle.demands.proofs.PartsClaim.{parts_claim}
use Rattle.demands.proofs.SchedulesClaim.{schedules_claim}
use Rattle.demands.proofs.RoomClaim.{room_claim}
use Rattle.demands.proofs.IdleClaim.{idle_claim}
use Rattle.demands.proofs.LettersClaim.{letters_claim}
use Rattle.demands.proofs.SettlingClaim.{settling_claim}
use Rattle.demands.proofs.ReasonClaim.{reason_claim}
use Rattle.demands.proofs.QuoteClaim.{quote_claim}
use Rattle.demands.proofs.Witnesses.{witnesses}

-- The largest ticket is accepted.
no_limits : ◌≡◌ {A = List ℕ} [] (64 ∷ 63 ∷ []) → ⊥
no_limits e = let z : ◌≡◌ {A = ℕ} 0 64 = ap (λ (l : List ℕ). get_or l 0 0) e in omega (arith, z)

met_as : (reading : Answer Instance) → read_ticket fullest ≡ reading → limits_of reading ≡ 64 ∷ 63 ∷ [] → FullestMet
unfolding limits_of
met_as (accepted x) e limits =
    record {
      instance = x;
      read = e;
      processes = ap (λ (l : List ℕ). get_or l 0 0) limits;
      resilience = ap (λ (l : List ℕ). get_or l 1 0) limits;
    }
met_as (refused refusal line) e limits = absurd (no_limits limits)

pub fullest_met : FullestMet
fullest_met = met_as (read_ticket fullest) refl reading_cases.fullest_passes

-- A text is paired with itself.
paired_self : (lines : List Line) → PairedLines lines lines
paired_self [] = no_lines
paired_self (line ∷ lines) = same_line (paired_self lines)

data_bytes_lem : (i : ℕ) → get_or data_of_round1 i 0 < 256
unfolding data_of_round1
data_bytes_lem = bytes_each (0x21 ∷ 1 ∷ 0 ∷ 0 ∷ 0 ∷ 7 ∷ []) (omega arith, (omega arith, (omega arith, (omega arith, (omega arith, (omega arith, tt))))))

module _ (f : FullestMet) where
  fullest_wrote : Wrote fullest f.instance (program_writes fullest)
  fullest_wrote = demand_2.written.by_program fullest f.instance f.read

  fullest_says : OutputSays f.instance (program_writes fullest) (end_of f.instance) (counts_of f.instance)
  fullest_says = demand_2.result fullest f.instance (program_writes fullest) fullest_wrote

  fullest_paired : PairedTexts fullest fullest
  unfolding PairedTexts
  fullest_paired = paired_self (lines_of fullest)

  -- Its ticket in capitals.
  own_ticket : TicketOf f.instance (ticket_text f.instance)
  own_ticket =
      let formed = accepted_well_formed fullest f.instance f.read in
      record { well_formed = formed; written = ticket_in_capitals f.instance formed }

  process : (p : ℕ) → 1 ≤ p → p ≤ 64 → IsProcess f.instance p
  process p first last = record { first = first; last = omega (arith, last, f.processes) }

  pub used_on_fullest : UsedOnFullest f
  used_on_fullest =
      record {
        judged = demand_1.texts.each fullest;
        ticket_read = demand_1.accepts.complete (ticket_text f.instance) f.instance own_ticket;
        cut = demand_1.lines.only fullest;
        started = demand_1.calls.starting 64 64 63 4294967295 (replicate 9 0);
        spoken = demand_1.calls.speaking last_state (replicate 64 0);
        spoken_only = λ answer after h. (demand_1.calls.speaking_only answer last_state (replicate 64 0) after h).0;
        closed = demand_1.calls.closing last_state [] (λ i. omega arith);
        closed_on_data = demand_1.calls.closing last_state data_of_round1 data_bytes_lem;
        closed_only = λ answer after h. (demand_1.calls.closing_only answer last_state data_of_round1 after data_bytes_lem h).1;
        consensus = demand_3.rounds.consensus fullest f.instance f.read;
        counted = demand_3.rounds.crashes fullest f.instance f.read;
        said_no_later =
            demand_3.outputs.no_later fullest fullest f.instance f.instance (program_writes fullest) (program_writes fullest) _ _ _ _ fullest_wrote
            fullest_wrote fullest_says fullest_says (demand_3.texts fullest fullest f.instance f.instance f.read f.read fullest_paired);
        bounded = bound_claim.said fullest f.instance (program_writes fullest) _ fullest_wrote fullest_says.last;
        reason = λ r round. reason_claim.called fullest f.instance 64 r _ f.read (process 64 (omega arith) (omega arith)) round refl;
        quotes = λ a b.
            quote_claim.own_called fullest f.instance _ 1 2 1 64 7 7 a b f.read (process 1 (omega arith) (omega arith))
            (process 64 (omega arith) (omega arith)) (omega (arith, f.resilience)) (omega (arith, f.resilience));
      }

pub claims_used : ClaimsUsed witnesses
unfolding crash_text mixed_text
claims_used =
    let pair = witnesses.more_commits in
    let read = witnesses.settled.read in
    let later = witnesses.settled_later in
    let told = witnesses.explained in
    let every = witnesses.all_explained in
    let four_processes_lem = witnesses.four_processes in
    record {
      ticket = demand_1.accepts.exact crash_text _ read;
      not_wrong = λ refusal line. demand_1.texts.not_both crash_text _ refusal line (demand_1.accepts.exact crash_text _ read);
      result = demand_2.written.by_call crash_text _ _ 101 witnesses.written.called witnesses.written.small;
      no_later = demand_3.rounds.no_later _ _ _ _ pair.read_first pair.read_second pair.paired;
      parts_no_later = parts_claim.no_later _ _ _ _ pair.read_first pair.read_second (demand_3.texts _ _ _ _ pair.read_first pair.read_second pair.lines);
      orders_no_later =
          schedules_claim.no_later _ _ _ _ witnesses.played_otherwise.read witnesses.played_paired.read (demand_3.texts _ _ _ _ witnesses.played_otherwise.read witnesses.played_paired.read pair.lines) _ _
          witnesses.played_otherwise.whole witnesses.played_paired.whole;
      rounds_crashed = demand_3.rounds.crashed crash_text _ witnesses.sent.wrote.read;
      crashed = demand_3.outputs.crashed crash_text _ _ _ _ witnesses.sent.wrote (demand_2.result crash_text _ _ witnesses.sent.wrote);
      short = λ after code call. room_claim.short_called crash_text _ after code _ read call (omega (arith, four_processes_lem));
      fits = λ after code call. omega (arith, four_processes_lem, (room_claim.enough_called crash_text _ after code _ read call (omega (arith, four_processes_lem))).0);
      idle = idle_claim.run crash_text _ read;
      letters = letters_claim.run crash_text mixed_text lettering_cases.accepted_texts.same;
      settles = settling_claim.called later_text _ 2 later.read later.called;
      reason = reason_claim.called crash_text _ 3 1 3 told.read told.process told.round told.called;
      reasons = let all = reason_claim.all_called crash_text _ _ 8 every.called every.small in (all.0, all.2);
      quotes = λ a b. quote_claim.called crash_text _ 2 4 7 7 a b;
    }
