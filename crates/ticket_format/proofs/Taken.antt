-- What an accepted line does, where it stands: the stage behind it. Assumes nothing.
use mathlib.Core.List.{List}
use mathlib.Core.Path.{◌≡◌, subst}
use mathlib.Core.Bool.{true}
use Prim.Native.Nat.{ℕ, suc}
use lib.ListN.{get_or, drop}
use Rattle.general.specs.BigEndian.{number}
use Rattle.consensus.specs.Instance.{Instance, within_limits}
use Rattle.ticket_format.specs.LineVerdict.{next}
use Rattle.ticket_format.specs.Says.{is_kind, header_says, after_proposal, failure_line, line_says}
use Rattle.ticket_format.specs.Accept.{Stage, body, unproposed, with_proposal, with_crash, begin, store}
use Rattle.ticket_format.specs.declared.Place.{Place}
use Rattle.ticket_format.specs.declared.Place.TheVariants.{Proposals, Failures, Ended}
use Rattle.ticket_format.specs.LineAnswer.{HeaderAnswer}
use Rattle.ticket_format.specs.LineAnswer.{LineAnswer}
use Rattle.ticket_format.proofs.Passing.{refuse_next}
use Rattle.ticket_format.proofs.LineCases.{HeaderCase, limits_said, header_refused, header_case, CrashPasses, LineCase}
use Rattle.ticket_format.proofs.LineCases.{proposal_said, crash_said, end_said, line_refused, line_case}

pub data HeaderTaken (b : List ℕ) : Stage → Type 0 where
  taken_header : is_kind 1 3 b ≡ true → within_limits (get_or b 1 0) (get_or b 2 0) ≡ true → HeaderTaken b (body (Proposals 0) (unproposed (get_or b 1 0) (get_or b 2 0)))

pub data Taken (x : Instance) (b : List ℕ) : Place → Stage → Type 0 where
  taken_proposal : {count : ℕ} → is_kind 2 6 b ≡ true
      → Taken x b (Proposals count) (body (after_proposal x.processes count) (with_proposal x (number (drop 2 b))))
  taken_crash : {lines last : ℕ} → CrashPasses x.processes x.resilience lines last b
      → Taken x b (Failures lines last) (body (Failures (suc lines) (failure_line b).process) (with_crash x (failure_line b)))
  taken_end : {lines last : ℕ} → is_kind 4 1 b ≡ true → Taken x b (Failures lines last) (body Ended x)

pub header_taken : (b : List ℕ) (u : Stage) → begin (header_says b) ≡ next u → HeaderTaken b u
unfolding begin
header_taken b u e = by_case (header_case b) e
  where
    by_case : {a : HeaderAnswer} → HeaderCase b a → begin a ≡ next u → HeaderTaken b u
    by_case (limits_said kind limits) h =
        let at : body (Proposals 0) (unproposed (get_or b 1 0) (get_or b 2 0)) ≡ u = cc in
        subst (HeaderTaken b) at (taken_header kind limits)
    by_case (header_refused refusal wrong) h = absurd (refuse_next refusal u h)

pub taken : (x : Instance) (place : Place) (b : List ℕ) (u : Stage) → store x (line_says x.processes x.resilience place b) ≡ next u → Taken x b place u
unfolding store
taken x place b u e = by_case (line_case x.processes x.resilience b place) e
  where
    by_case : {at : Place} {a : LineAnswer} → LineCase x.processes x.resilience b at a → store x a ≡ next u → Taken x b at u
    by_case (proposal_said {count} kind station) h =
        let to : body (after_proposal x.processes count) (with_proposal x (number (drop 2 b))) ≡ u = cc in
        subst (Taken x b (Proposals count)) to (taken_proposal kind)
    by_case (crash_said {lines} {last} passes) h =
        let to : body (Failures (suc lines) (failure_line b).process) (with_crash x (failure_line b)) ≡ u = cc in
        subst (Taken x b (Failures lines last)) to (taken_crash passes)
    by_case (end_said {lines} {last} kind) h =
        let to : body Ended x ≡ u = cc in
        subst (Taken x b (Failures lines last)) to (taken_end kind)
    by_case (line_refused refusal wrong) h = absurd (refuse_next refusal u h)
