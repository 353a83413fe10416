-- What the calls answer that are asked for reasons, by cases, and that it is the only true reason. Assumes nothing.
use mathlib.Core.List.{List, ◌++◌}
use mathlib.Core.Path.{◌≡◌, refl, sym, ap, ◌∙◌}
use mathlib.Core.Bool.{Bool, true, false, ◌&&◌, true≢false}
use Prim.Native.Nat.{ℕ, ◌≤◌, ◌<◌}
use native.Mathlib.Omega.{arith}
use borrow.Author.Tests.{ltb-true, ltb-false, leb-true, le-leb}
use lib.Dec.{ltb, leb}
use lib.ListN.{length, drop, get_or, get_or-append}
use Rattle.general.proofs.Tests.{both}
use Rattle.consensus.specs.Instance.{Instance}
use Rattle.consensus.specs.Consensus.{IsProcess}
use Rattle.coordinator.specs.Run.{run_of}
use Rattle.coordinator.specs.Reason.{reason_of, reasons_of}
use Rattle.coordinator_laws.specs.TrueReasons.{IsRound}
use Rattle.coordinator_laws.proofs.TrueReasons.{reason_within, reasons_true}
use Rattle.coordinator_laws.proofs.ReasonsByEnds.{reasons_by_ends}
use Rattle.general.specs.Answer.{Answer, accepted, refused, and_then}
use Rattle.ticket_format.specs.Ticket.{read_ticket}
use Rattle.answers.specs.Running.{buffer_after}
use Rattle.answers.specs.Reason.{within_run, reason_in, reason, reasons_size, reasons_within, reasons}
use Rattle.answers.specs.Code.{code_of, refusals_from, size_code, number_code, ReasonsCall}
use Rattle.ticket_laws.proofs.WellFormed.{accepted_well_formed}
use Rattle.answers.proofs.ReasonsLength.{length-reasons, reasons_fit, reason_at_lem, reason_inside}
use Rattle.answers.specs.Reply.{answer_by, size_of, Explained}
use Rattle.answers.specs.Reply.{Reply}
use Rattle.answers.specs.Reply.{Given}
use Rattle.ticket_laws.proofs.RefusedTexts.{refused_wrong}
use Rattle.demands.specs.ReasonClaim.{OnlyReason, ReasonAnswered, known, outside, ReasonsAnswered, place_of, AllReasons, ReasonClaim}
use Rattle.demands.proofs.Answered.{unread_numbered}
use Rattle.answers.proofs.Replies.{same_reply}

-- The test of the definition and the two premises of the claims.
module _ (x : Instance) (p r : ℕ) where
  within_so : within_run x p r ≡ true → IsProcess x p × IsRound x r
  unfolding within_run
  within_so e =
      let (front, last) = both (leb 1 p && leb p x.processes && leb 1 r) (leb r (run_of x).rounds) e in
      let (process, first) = both (leb 1 p && leb p x.processes) (leb 1 r) front in
      let (one, most) = both (leb 1 p) (leb p x.processes) process in
      (record { first = leb-true 1 p one; last = leb-true p _ most }, record { first = leb-true 1 r first; last = leb-true r _ last })

  so_within : IsProcess x p → IsRound x r → within_run x p r ≡ true
  unfolding within_run
  so_within process round =
      rw (le-leb 1 p process.first, le-leb p _ process.last, le-leb 1 r round.first, le-leb r _ round.last)

-- The three answers for one process in one round, and those for all.
data ReasonCase (text : List ℕ) (p r : ℕ) : Answer ℕ → Type 0 where
  inside : (x : Instance) → read_ticket text ≡ accepted x → IsProcess x p → IsRound x r → ReasonCase text p r (accepted (reason_of x p r))
  beyond : (x : Instance) → read_ticket text ≡ accepted x → (IsProcess x p → IsRound x r → ⊥) → ReasonCase text p r (refused 13 0)
  unread : (number line : ℕ) → read_ticket text ≡ refused number line → ReasonCase text p r (refused number line)

data ReasonsCase (text : List ℕ) (room : ℕ) : Answer (List ℕ) → Type 0 where
  fits : (x : Instance) → read_ticket text ≡ accepted x → reasons_size x ≤ room → ReasonsCase text room (accepted (reasons_of x))
  short : (x : Instance) → read_ticket text ≡ accepted x → room < reasons_size x → ReasonsCase text room (refused 9 0)
  unread : (number line : ℕ) → read_ticket text ≡ refused number line → ReasonsCase text room (refused number line)

module _ (text : List ℕ) where
  reason_case : (p r : ℕ) → ReasonCase text p r (reason text p r)
  unfolding reason reason_in
  reason_case p r = by_reading (read_ticket text) refl
    where
      by_test : (x : Instance) → read_ticket text ≡ accepted x → (b : Bool) → within_run x p r ≡ b → ReasonCase text p r (reason_in p r x)
      by_test x e true h = let (process, round) = within_so x p r h in rw h (inside x e process round)
      by_test x e false h = rw h (beyond x e (λ process round. true≢false (sym (so_within x p r process round) ∙ h)))

      by_reading : (reading : Answer Instance) → read_ticket text ≡ reading → ReasonCase text p r (and_then reading (reason_in p r))
      by_reading (accepted x) e = by_test x e (within_run x p r) refl
      by_reading (refused number line) e = ReasonCase.unread number line e

  reasons_case : (room : ℕ) → ReasonsCase text room (reasons text room)
  unfolding reasons reasons_within
  reasons_case room = by_reading (read_ticket text) refl
    where
      by_room : (x : Instance) → read_ticket text ≡ accepted x → (b : Bool) → ltb room (reasons_size x) ≡ b
          → ReasonsCase text room (reasons_within room x)
      by_room x e true h = rw h (short x e (ltb-true _ _ h))
      by_room x e false h = rw h (fits x e (ltb-false _ _ h))

      by_reading : (reading : Answer Instance) → read_ticket text ≡ reading → ReasonsCase text room (and_then reading (reasons_within room))
      by_reading (accepted x) e = by_room x e (ltb room (reasons_size x)) refl
      by_reading (refused number line) e = ReasonsCase.unread number line e

  -- What the C calls answer, for one process in one round and for all.
  reason_answered : (p r code : ℕ) → code ≡ number_code (reason text p r) → ReasonAnswered text p r code
  unfolding code_of
  reason_answered p r code coded = by_case (reason text p r) (reason_case p r) coded
    where
      by_case : (a : Answer ℕ) → ReasonCase text p r a → code ≡ number_code a → ReasonAnswered text p r code
      by_case _ (inside x read process round) e = known x read process round e (omega (arith, e, (reason_within x p r).1))
      by_case _ (beyond x read none) e = outside x read none e
      by_case _ (unread number line read) e =
          ReasonAnswered.refusal number line (refused_wrong text number line read) e (omega (arith, e, unread_numbered text number line read))

  reasons_answered : (before after : List ℕ) (code : ℕ) → ReasonsCall text before after code → ReasonsAnswered text before after code
  unfolding code_of buffer_after
  reasons_answered before after code call = by_case (reasons text (length before)) (reasons_case (length before)) call.answered call.buffer
    where
      by_case : (a : Answer (List ℕ)) → ReasonsCase text (length before) a → code ≡ size_code a → after ≡ buffer_after a before
          → ReasonsAnswered text before after code
      by_case _ (fits x read room) e b =
          let size = length-reasons x in
          let few = (reasons_fit x (accepted_well_formed text x read)).1 in
          ReasonsAnswered.written x read room (e ∙ size) (omega (arith, e, size, few)) (b ∙ ap (λ (k : ℕ). reasons_of x ++ drop k before) size)
      by_case _ (short x read room) e b = ReasonsAnswered.too_short x read room e b
      by_case _ (unread number line read) e b =
          ReasonsAnswered.refusal number line (refused_wrong text number line read) e (omega (arith, e, unread_numbered text number line read)) b

-- What is given is the only true reason.
module _ (text : List ℕ) (x : Instance) (read : read_ticket text ≡ accepted x) where
  only_reason : (p r : ℕ) → IsProcess x p → IsRound x r → OnlyReason x p r (reason_of x p r)
  only_reason p r process round =
      let claim = reasons_true x (accepted_well_formed text x read) in
      record { holds = claim.given p r process round; only = λ j h. claim.only p r j process round h }

  reason_accepted : (p r : ℕ) → IsProcess x p → IsRound x r → reason text p r ≡ accepted (reason_of x p r)
  unfolding reason reason_in
  reason_accepted p r process round = rw (read, so_within x p r process round) refl

  reason_given_lem : (p r : ℕ) (answer : Reply) → IsProcess x p → IsRound x r → answer_by answer ≡ reason text p r
      → (k : ℕ) × (answer ≡ Given k) × OnlyReason x p r k
  unfolding answer_by
  reason_given_lem p r answer process round e =
      let k = reason_of x p r in
      (k, same_reply answer (Given k) (e ∙ reason_accepted p r process round), only_reason p r process round)

  reason_called : (p r code : ℕ) → IsProcess x p → IsRound x r → code ≡ number_code (reason text p r) → OnlyReason x p r code
  unfolding code_of
  reason_called p r code process round e = rw (e ∙ ap number_code (reason_accepted p r process round)) (only_reason p r process round)

  -- Where the reasons stand at the front of a buffer, so is every byte of them.
  all_only : (out behind : List ℕ) → out ≡ reasons_of x ++ behind → AllReasons x out
  unfolding AllReasons
  all_only out behind front p r process round =
      let inside = reason_inside x p r process.first process.last round.first round.last in
      let at = reason_at_lem x p r process.first process.last round.first round.last in
      rw (ap (λ (l : List ℕ). get_or l (place_of x.processes p r) 0) front ∙ get_or-append (reasons_of x) behind 0 _ inside ∙ at)
      (only_reason p r process round)

-- A text is accepted with one instance.
same_instance : (x y : Instance) → ◌≡◌ {A = Answer Instance} (accepted x) (accepted y) → x ≡ y
same_instance x y e = cc

-- A call that answers how many bytes it has written has written all reasons.
module _ (text before after : List ℕ) where
  all_by_code : (code : ℕ) → ReasonsCall text before after code → code < refusals_from → (x : Instance) × (read_ticket text ≡ accepted x) × AllReasons x after
  all_by_code code call small = by_answer (reasons_answered text before after code call)
    where
      by_answer : ReasonsAnswered text before after code → (x : Instance) × (read_ticket text ≡ accepted x) × AllReasons x after
      by_answer (ReasonsAnswered.written x read room size low front) = (x, read, all_only text x read after _ front)
      by_answer (ReasonsAnswered.too_short x read room coded stays) = absurd (omega (arith, coded))
      by_answer (ReasonsAnswered.refusal number line wrong coded large stays) = absurd (omega (arith, large))

  all_by_answer : (size : ℕ) → Explained text before after (Given size) → (x : Instance) × (read_ticket text ≡ accepted x) × AllReasons x after
  unfolding answer_by buffer_after
  all_by_answer size call = by_case (reasons text (length before)) (reasons_case text (length before)) call.answered call.buffer
    where
      by_case : (a : Answer (List ℕ)) → ReasonsCase text (length before) a → accepted size ≡ size_of a → after ≡ buffer_after a before
          → (x : Instance) × (read_ticket text ≡ accepted x) × AllReasons x after
      by_case _ (fits x read room) e b = (x, read, all_only text x read after _ b)
      by_case _ (short x read room) e b = absurd (let z : ◌≡◌ {A = ℕ} 0 1 = cc in let w : ⊥ = omega arith in w)
      by_case _ (unread number line read) e b = absurd (let z : ◌≡◌ {A = ℕ} 0 1 = cc in let w : ⊥ = omega arith in w)

-- The byte of a process and a round is the only true reason, as what the other call answers is.
calls_alike : (text before after : List ℕ) (x : Instance) (p r code single : ℕ) → read_ticket text ≡ accepted x → IsProcess x p → IsRound x r
    → ReasonsCall text before after code → code < refusals_from → single ≡ number_code (reason text p r) → get_or after (place_of x.processes p r) 0 ≡ single
unfolding AllReasons
calls_alike text before after x p r code single read process round call small e =
    let (y, read', all) = all_by_code text before after code call small in
    let same : x ≡ y = same_instance x y (sym read ∙ read') in
    let mine = rw (← same) at all in
    (reason_called text x read p r single process round e).only _ (mine p r process round).holds

pub reason_claim : ReasonClaim
reason_claim =
    record {
      answered = reason_answered;
      all_answered = reasons_answered;
      given = λ text x p r answer read process round e. reason_given_lem text x read p r answer process round e;
      called = λ text x p r code read process round e. reason_called text x read p r code process round e;
      all_given = all_by_answer;
      all_called = all_by_code;
      alike = calls_alike;
      rounds = λ text x read. let formed = accepted_well_formed text x read in (reasons_true x formed, reasons_by_ends x formed);
    }
