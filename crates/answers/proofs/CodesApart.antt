-- A C caller can tell answers apart by their numbers (`codes_apart`). Assumes nothing.
use mathlib.Core.List.{List}
use mathlib.Core.Logic.{inl, inr}
use mathlib.Core.Path.{◌≡◌, refl}
use mathlib.Core.Bool.{Bool, true, false, cond}
use Prim.Native.Nat.{ℕ, ◌≤◌, ◌<◌}
use native.Mathlib.Omega.{arith}
use lib.Dec.{ltb}
use lib.ListN.{length}
use Rattle.general.specs.Answer.{Answer, accepted, refused, and_then}
use Rattle.general.proofs.Answer.{and_then_cases}
use Rattle.consensus.specs.Instance.{Instance}
use Rattle.coordinator.specs.Reason.{reason_of, reasons_of}
use Rattle.coordinator.specs.Settling.{first_settling}
use Rattle.coordinator_laws.proofs.Counts.{counts_fit}
use Rattle.coordinator_laws.proofs.FirstSettling.{first_settling_lem}
use Rattle.coordinator_laws.proofs.TrueReasons.{reason_within}
use Rattle.ticket_format.specs.Ticket.{read_ticket}
use Rattle.ticket_laws.proofs.WellFormed.{accepted_well_formed}
use Rattle.ticket_format.proofs.RefusalRange.{RefusedBy, last_refused, ticket_refused}
use Rattle.answers.specs.ResultLine.{result_text, result_size}
use Rattle.answers.proofs.ResultLength.{length-text}
use Rattle.answers.proofs.ReasonsLength.{length-reasons, reasons_fit}
use Rattle.answers.specs.Running.{result_in, running}
use Rattle.answers.specs.Settle.{settling}
use Rattle.answers.specs.Reason.{within_run, reason_in, reason, reasons_size, reasons_within, reasons}
use Rattle.answers.specs.Code.{refusals_from, placed_code, code_of}
use Rattle.answers.specs.CodesApart.{TellsRefusal, Within, ReadOff, of_ticket, of_writing, of_reason, CodesApart}

-- Of every call: refusals have numbers below 65536, and so have lines.
refusal_told : (place number line : ℕ) → 1 ≤ number → number < refusals_from → line < refusals_from
    → TellsRefusal place number line (placed_code place number line)
refusal_told place number line some few short = record { is_refusal = omega arith; reads_place = omega arith; reads_number = omega arith; reads_line = omega arith }

-- An answer is read off its code, whatever the call: where it accepts, and where it refuses.
module _ {A : Type 0} (value : A → ℕ) (least most : ℕ) (numbers : ℕ → Type 0) where
  pub accepted_read : most < refusals_from → (a : A) → Within least most (value a) → ReadOff value least most numbers (accepted a)
  unfolding code_of
  accepted_read small a h = record { is_accepted = λ _. (a, refl, refl, h); is_refused = λ large. absurd (omega (arith, h.1)) }

  pub refused_read : (number line : ℕ) → 1 ≤ number → number < refusals_from → line < refusals_from → numbers number
      → ReadOff value least most numbers (refused number line)
  unfolding code_of
  refused_read number line some few short h =
      let told = refusal_told 0 number line some few short in
      record {
        is_accepted = λ low. absurd (omega (arith, told.is_refusal));
        is_refused = λ _. (number, line, refl, h, told);
      }

module _ (text : List ℕ) (x : Instance) (read : read_ticket text ≡ accepted x) where
  result_read : (short : Bool) → ReadOff length (result_size 1) (result_size 64) of_writing (cond short (refused 9 0) (accepted (result_text x)))
  unfolding result_size
  result_read true = refused_read _ _ _ _ 9 0 (omega arith) (omega arith) (omega arith) (omega arith, omega arith)
  result_read false =
      let formed = accepted_well_formed text x read in
      let size = length-text x formed in
      accepted_read _ _ _ _ (omega arith) (result_text x) (omega (arith, size, formed.some_process), omega (arith, size, formed.at_most_64))

  reasons_read : (short : Bool) → ReadOff length 1 4096 of_writing (cond short (refused 9 0) (accepted (reasons_of x)))
  reasons_read true = refused_read _ _ _ _ 9 0 (omega arith) (omega arith) (omega arith) (omega arith, omega arith)
  reasons_read false =
      let (some, few) = reasons_fit x (accepted_well_formed text x read) in
      let size = length-reasons x in
      accepted_read _ _ _ _ (omega arith) (reasons_of x) (omega arith, omega arith)

  reason_read : (p r : ℕ) (known : Bool) → ReadOff (λ k. k) 1 7 of_reason (cond known (accepted (reason_of x p r)) (refused 13 0))
  reason_read p r true = accepted_read _ _ _ _ (omega arith) (reason_of x p r) (reason_within x p r)
  reason_read p r false = refused_read _ _ _ _ 13 0 (omega arith) (omega arith) (omega arith) (inr refl)

-- A refused ticket is refused with its number and its line, whatever the call.
pub of_ticket_lem : {A : Type 0} (value : A → ℕ) (least most : ℕ) (numbers : ℕ → Type 0) (text : List ℕ) (next : Instance → Answer A)
    → ((number : ℕ) → of_ticket number → numbers number) → ((x : Instance) → read_ticket text ≡ accepted x → ReadOff value least most numbers (next x))
    → ReadOff value least most numbers (and_then (read_ticket text) next)
unfolding RefusedBy
of_ticket_lem value least most numbers text next allowed given =
    and_then_cases (ReadOff value least most numbers) (read_ticket text) next given
    (λ number line e.
    let range : RefusedBy last_refused (read_ticket text) = ticket_refused text in
    let (some, few, short) = rw e at range in
    refused_read value least most numbers number line some (omega arith) (omega arith) (allowed number (some, few)))

-- A settling round is one of the run's, of which there are at most 64.
settling_read : (text : List ℕ) (x : Instance) → read_ticket text ≡ accepted x → ReadOff (λ r. r) 1 64 of_ticket (accepted (first_settling x))
settling_read text x e =
    let formed = accepted_well_formed text x e in
    let (some, within) = (first_settling_lem x formed).within in
    accepted_read _ _ _ _ (omega arith) _ (some, omega (arith, (counts_fit x formed).rounds))

pub codes_apart : CodesApart
unfolding running result_in settling reason reason_in reasons reasons_within
codes_apart =
    record {
      placed = refusal_told;
      run = λ text room. of_ticket_lem _ _ _ _ text _ (λ _ h. (h.0, omega (arith, h.1))) (λ x e. result_read text x e (ltb room (result_size x.processes)));
      settled = λ text. of_ticket_lem _ _ _ _ text _ (λ _ h. h) (settling_read text);
      reason_given = λ text p r. of_ticket_lem _ _ _ _ text _ (λ _ h. inl h) (λ x e. reason_read text x e p r (within_run x p r));
      reasons_written = λ text room. of_ticket_lem _ _ _ _ text _ (λ _ h. (h.0, omega (arith, h.1))) (λ x e. reasons_read text x e (ltb room (reasons_size x)));
    }
