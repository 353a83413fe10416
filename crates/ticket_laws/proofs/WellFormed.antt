-- An accepted ticket is well-formed: each line keeps what is known of the stage, so the stage after the last line has all that `WellFormed` asks.
-- Assumes nothing.
use mathlib.Core.List.{List, [], ◌∷◌, ◌++◌}
use mathlib.Core.Path.{◌≡◌, refl, subst, ◌∙◌}
use mathlib.Core.Bool.{Bool, true, false, cond}
use Prim.Native.Nat.{ℕ, suc, ◌-◌, ◌^◌, ◌≤◌, ◌<◌}
use native.Mathlib.Omega.{arith}
use lib.Dec.{eqb, ltb}
use lib.ListN.{length, get_or, drop, replicate, length-append, length-set, length-replicate, length-drop, get_or-replicate}
use borrow.Author.Tests.{eqb-true, eqb-false}
use Rattle.general.specs.BigEndian.{number}
use Rattle.general.proofs.Tests.{both}
use Rattle.general.proofs.Bytes.{AllBelow, Bytes, below_snoc, drop-bytes}
use Rattle.general.proofs.BigEndian.{number_below}
use Rattle.consensus.specs.Instance.{Instance, fault_of, within_limits}
use Rattle.consensus.specs.declared.Fault.TheVariants.{Correct as correct}
use Rattle.coordinator.specs.WellFormed.{FaultAllowed, WellFormed}
use Rattle.consensus.specs.WellFormed.{FaultAllowedBy, fault_count}
use Rattle.text.specs.Line.{lines_of}
use Rattle.general.specs.Answer.{accepted, refused}
use Rattle.ticket_format.specs.Reading.{read_from}
use Rattle.ticket_format.specs.declared.FailureLine.{FailureLine}
use Rattle.ticket_format.specs.FailureLine.{fault_by}
use Rattle.ticket_format.specs.Says.{is_kind, header_says, after_proposal, failure_line}
use Rattle.ticket_format.specs.Accept.{Stage, header, body, unproposed, with_proposal, with_crash, begin, store, accept}
use Rattle.ticket_format.specs.declared.Place.{Place}
use Rattle.ticket_format.specs.declared.Place.TheVariants.{Proposals, Failures, Ended}
use Rattle.ticket_format.specs.LineAnswer.{HeaderAnswer}
use Rattle.ticket_format.specs.LineAnswer.{LineAnswer}
use Rattle.ticket_format.specs.Ticket.{ticket_limit, at_end, read_ticket}
use Rattle.text.proofs.LineBytes.{lines_bytes}
use Rattle.ticket_format.proofs.LineCases.{HeaderCase, limits_said, header_refused, header_case, CrashPasses, LineCase}
use Rattle.ticket_format.proofs.LineCases.{proposal_said, crash_said, end_said, line_refused, line_case}
use Rattle.ticket_format.proofs.Keeping.{Keeps, Gives, reading_gives}
use Rattle.ticket_format.proofs.CrashPlaced.{crash_placed}
use Rattle.ticket_laws.proofs.CrashAllowed.{crash_allowed}
use Rattle.consensus.specs.Limits.{Limits}
use Rattle.consensus.proofs.Limits.{limits_hold}
use Rattle.consensus.proofs.FaultsStated.{count_set, faults_none, allowed_set}

-- All values fit four bytes.
abbrev ValuesFit : List ℕ → Type 0
ValuesFit values = AllBelow (2 ^ 32) values

-- What is known after so many proposals: some are missing, and no process has a fault yet.
pub record ProposalsAllowed (x : Instance) (count : ℕ) : Type 0 where
  pub limits : Limits x.processes x.resilience
  pub values_fit : ValuesFit x.proposals
  pub counted : length x.proposals ≡ count
  pub some_missing : count < x.processes
  pub none_crashes : x.pattern ≡ replicate x.processes correct

-- What is known after so many failure lines.
pub record FailuresAllowed (x : Instance) (lines : ℕ) : Type 0 where
  pub well_formed_lem : WellFormed x
  pub counted : fault_count x.pattern ≤ lines

-- What is known at each stage of a ticket.
unfoldable pub StageAllowed : Stage → Type 0
StageAllowed header = Unit {0}
StageAllowed (body (Proposals count) x) = ProposalsAllowed x count
StageAllowed (body (Failures lines last) x) = FailuresAllowed x lines
StageAllowed (body Ended x) = WellFormed x

-- Before the first proposal.
first_allowed : (n t : ℕ) → within_limits n t ≡ true → ProposalsAllowed (unproposed n t) 0
unfolding unproposed
first_allowed n t e =
    let within = limits_hold n t e in
    record { limits = within; values_fit = λ p. omega arith; counted = refl; some_missing = omega arith; none_crashes = refl }

header_keeps : (b : List ℕ) → Keeps StageAllowed (begin (header_says b))
unfolding begin Keeps StageAllowed
header_keeps b = by_case (header_case b)
  where
    by_case : {a : HeaderAnswer} → HeaderCase b a → Keeps StageAllowed (begin a)
    by_case (limits_said kind limits) = first_allowed _ _ limits
    by_case (header_refused refusal wrong) = tt

-- The instance after the last proposal, without any crash.
without_crash : (x : Instance) → Limits x.processes x.resilience → ValuesFit x.proposals → length x.proposals ≡ x.processes
    → x.pattern ≡ replicate x.processes correct → WellFormed x
unfolding FaultAllowedBy fault_of
without_crash x limits fit all none =
    record {
      some_process = limits.some_process;
      at_most_64 = limits.at_most_64;
      fewer_crashes = limits.fewer_crashes;
      all_propose = all;
      all_have_fault = rw none (length-replicate x.processes correct);
      values_fit = fit;
      faults_allowed = λ p h g. rw (none, get_or-replicate x.processes (p - 1) correct correct (omega arith)) tt;
      few_faults = rw (none, faults_none) (omega arith);
    }

-- The value of a proposal line fits four bytes.
value_fits : (b : List ℕ) → Bytes b → is_kind 2 6 b ≡ true → number (drop 2 b) < 2 ^ 32
unfolding is_kind
value_fits b h e =
    let six : length b ≡ 6 = eqb-true _ _ (both (eqb (get_or b 0 0) 2) _ e).1 in
    let four : length (drop 2 b) ≡ 4 = rw (length-drop, six) in
    rw four at (number_below (drop 2 b) (drop-bytes 2 b h))

-- One proposal more.
module _ (x : Instance) (count v : ℕ) (known : ProposalsAllowed x count) (fits : v < 2 ^ 32) where
  one_more_lem : length (x.proposals ++ (v ∷ [])) ≡ suc count
  one_more_lem = length-append x.proposals (v ∷ []) ∙ omega (arith, known.counted)

  proposal_next_lem : (whole : Bool) → eqb (suc count) x.processes ≡ whole
      → StageAllowed (body (cond whole (Failures 0 0) (Proposals (suc count))) (with_proposal x v))
  unfolding StageAllowed with_proposal
  proposal_next_lem true e =
      let fit = below_snoc (2 ^ 32) x.proposals v known.values_fit fits in
      let formed = without_crash (with_proposal x v) known.limits fit (one_more_lem ∙ eqb-true _ _ e) known.none_crashes in
      record { well_formed_lem = formed; counted = rw (known.none_crashes, faults_none) (omega arith) }
  proposal_next_lem false e =
      let missing : suc count ≡ x.processes → ⊥ = eqb-false _ _ e in
      record {
        limits = known.limits;
        values_fit = below_snoc (2 ^ 32) x.proposals v known.values_fit fits;
        counted = one_more_lem;
        some_missing = omega (arith, missing, known.some_missing);
        none_crashes = known.none_crashes;
      }

-- The instance with a failure line that refusals 6 to 8 let pass.
with_crash_lem : (x : Instance) (lines last : ℕ) (b : List ℕ) → FailuresAllowed x lines → CrashPasses x.processes x.resilience lines last b
    → FailuresAllowed (with_crash x (failure_line b)) (suc lines)
unfolding with_crash fault_of
with_crash_lem x lines last b known passes =
    let l : FailureLine = failure_line b in
    let w = known.well_formed_lem in
    let more = count_set x.pattern (l.process - 1) (fault_by l) in
    let here = crash_placed x.processes x.resilience last l passes.placed in
    let allowed = crash_allowed x.processes x.resilience last l passes.placed passes.suits in
    record {
      well_formed_lem = record {
        some_process = w.some_process;
        at_most_64 = w.at_most_64;
        fewer_crashes = w.fewer_crashes;
        all_propose = w.all_propose;
        all_have_fault = rw length-set w.all_have_fault;
        values_fit = w.values_fit;
        faults_allowed = λ p h g. allowed_set (FaultAllowed x.processes x.resilience) x.pattern l.process (fault_by l) p
            here.process_from_1 h (rw w.all_have_fault g) allowed (w.faults_allowed p h g);
        few_faults = omega (arith, more, known.counted, passes.few);
      };
      counted = omega (arith, more, known.counted);
    }

-- A line of bytes keeps what is known.
stage_keeps : (s : Stage) (b : List ℕ) → Bytes b → StageAllowed s → Keeps StageAllowed (accept s b)
unfolding accept store Keeps StageAllowed after_proposal
stage_keeps header b h g = header_keeps b
stage_keeps (body place x) b h g = by_case (line_case x.processes x.resilience b place) g
  where
    by_case : {place : Place} {a : LineAnswer} → LineCase x.processes x.resilience b place a → StageAllowed (body place x)
        → Keeps StageAllowed (store x a)
    by_case (proposal_said {count} kind station) known =
        proposal_next_lem x count (number (drop 2 b)) known (value_fits b h kind) (eqb (suc count) x.processes) refl
    by_case (crash_said {lines} {last} passes) known = with_crash_lem x lines last b known passes
    by_case (end_said kind) known = known.well_formed_lem
    by_case (line_refused refusal wrong) known = tt

end_gives : (s : Stage) (k : ℕ) → StageAllowed s → Gives WellFormed (at_end s k)
unfolding at_end Gives StageAllowed
end_gives header k g = tt
end_gives (body (Proposals count) x) k g = tt
end_gives (body (Failures lines last) x) k g = tt
end_gives (body Ended x) k g = g

ticket_gives : (text : List ℕ) (long : Bool) → Gives WellFormed (cond long (refused 1 0) (read_from accept at_end header 1 (lines_of text)))
unfolding Gives StageAllowed
ticket_gives text true = tt
ticket_gives text false = reading_gives accept at_end StageAllowed WellFormed stage_keeps end_gives (lines_of text) header 1 (lines_bytes text) tt

pub accepted_well_formed : (text : List ℕ) (x : Instance) → read_ticket text ≡ accepted x → WellFormed x
unfolding read_ticket Gives
accepted_well_formed text x e = subst (Gives WellFormed) e (ticket_gives text (ltb ticket_limit (length text)))
