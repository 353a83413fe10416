-- Each line of an instance's ticket is accepted where it stands. Assumes nothing.
use mathlib.Core.List.{List, [], ◌∷◌, ◌++◌}
use mathlib.Core.Path.{◌≡◌, refl, ap}
use mathlib.Core.Bool.{true}
use Prim.Native.Nat.{ℕ, suc, ◌-◌, ◌%◌, ◌^◌, ◌≤◌, ◌<◌}
use native.Mathlib.Nat.{lt_of_lt_of_le}
use native.Mathlib.Omega.{arith}
use borrow.Author.Tests.{eq-eqb, le-leb, lt-leb, lt-ltb}
use lib.Pow.{pow_mono}
use lib.ListN.{length, set}
use Rattle.general.specs.BigEndian.{number, bytes_of}
use Rattle.general.proofs.BigEndian.{number_bytes, bytes_four}
use Rattle.consensus.specs.Instance.{Instance, point_from}
use Rattle.consensus.specs.declared.Fault.{Fault}
use Rattle.consensus.specs.declared.Fault.TheVariants.{Crashes as crashes}
use Rattle.consensus.specs.declared.CrashPoint.{CrashPoint}
use Rattle.consensus.specs.declared.CrashPoint.TheVariants.{BeforeSending as before_sending, DuringData as during_data, DuringCommits as during_commits}
use Rattle.consensus.specs.Limits.{Limits}
use Rattle.consensus.specs.WellFormed.{FaultAllowedBy}
use Rattle.consensus.proofs.Limits.{limits_pass}
use Rattle.coordinator.specs.WellFormed.{PointAllowed, FaultAllowed}
use Rattle.ticket_format.specs.LineVerdict.{next}
use Rattle.ticket_format.specs.FailureLine.{places_crash, all_between, suits_step}
use Rattle.ticket_format.specs.Says.{is_kind, header_says, after_proposal, proposal_says, failure_line, crash_says, failure_says, line_says}
use Rattle.ticket_format.specs.Accept.{header, body, unproposed, with_proposal, with_crash, begin, store, accept}
use Rattle.ticket_format.specs.declared.FailureLine.{FailureLine}
use Rattle.ticket_format.specs.declared.Place.TheVariants.{Proposals, Failures, Ended}
use Rattle.ticket_laws.specs.TicketText.{header_line, proposal_line, point_bytes, crash_line, end_line}

pub header_accepted : (n t : ℕ) → Limits n t → accept header (header_line n t) ≡ next (body (Proposals 0) (unproposed n t))
unfolding accept begin header_says is_kind header_line
header_accepted n t limits = rw (limits_pass n t limits)

pub proposal_accepted : (x : Instance) (count v : ℕ) → v < 2 ^ 32
    → accept (body (Proposals count) x) (proposal_line (suc count) v) ≡ next (body (after_proposal x.processes count) (with_proposal x v))
unfolding accept store line_says proposal_says is_kind proposal_line
proposal_accepted x count v fits =
    let back : number (bytes_of 4 v) ≡ v = number_bytes 4 v fits in
    let four : length (bytes_of 4 v) ≡ 4 = ap (λ (l : List ℕ). length l) (bytes_four v) in
    rw (four, eq-eqb (suc count) (suc count) refl, back)

pub end_accepted : (x : Instance) (lines last : ℕ) → accept (body (Failures lines last) x) end_line ≡ next (body Ended x)
unfolding accept store line_says failure_says is_kind end_line
end_accepted x lines last = refl

-- The instance with a fault for process p.
unfoldable pub with_fault : Instance → (p : ℕ) → Fault → Instance
with_fault x p fault =
    record {
      processes = x.processes;
      resilience = x.resilience;
      proposals = x.proposals;
      pattern = set x.pattern (p - 1) fault;
    }

-- The bytes behind the round of a failure line: step, set and count.
unfoldable pub step_bytes : (step reached count : ℕ) → List ℕ
step_bytes step reached count = step ∷ bytes_of 8 reached ++ (count ∷ [])

said : (p round step reached count : ℕ) → FailureLine
said p round step reached count = record { process = p; round = round; step = step; reached = reached; count = count }

line_said : (p round step reached count : ℕ) → reached < 2 ^ 64
    → failure_line (3 ∷ p ∷ round ∷ step_bytes step reached count) ≡ said p round step reached count
unfolding failure_line step_bytes said bytes_of
line_said p round step reached count small =
    let fits : reached < 256 ^ 8 = small in
    let back : number (bytes_of 8 reached) ≡ reached = number_bytes 8 reached fits in
    ap (λ (r : ℕ). said p round step r count) back

-- What is asked of where and when it stands.
pub record Due (x : Instance) (lines last p : ℕ) : Type 0 where
  pub few : lines < x.resilience
  pub from_1 : 1 ≤ p
  pub to_n : p ≤ x.processes
  pub rises : last < p
  pub small : x.processes ≤ 64

module _ (x : Instance) (lines last p round step reached count : ℕ) (due : Due x lines last p) (first : 1 ≤ round) (most : round ≤ suc x.resilience) where
  placed : step ≤ 2 → places_crash x.processes x.resilience last (said p round step reached count) ≡ true
  unfolding places_crash said
  placed h =
      rw (
        le-leb 1 p due.from_1,
        le-leb p x.processes due.to_n,
        lt-ltb last p due.rises,
        le-leb 1 round first,
        le-leb round (suc x.resilience) most,
        le-leb step 2 h,
      )

  line_accepted : step ≤ 2 → reached < 2 ^ 64 → suits_step x.processes (said p round step reached count) ≡ true
      → accept (body (Failures lines last) x) (3 ∷ p ∷ round ∷ step_bytes step reached count)
      ≡ next (body (Failures (suc lines) p) (with_fault x p (crashes round (point_from step reached count))))
  unfolding accept store line_says failure_says is_kind crash_says with_crash with_fault step_bytes bytes_of said
  line_accepted h small suits =
      let as_said : failure_line (3 ∷ p ∷ round ∷ step_bytes step reached count) ≡ said p round step reached count = line_said p round step reached count small in
      rw (as_said, lt-leb x.resilience lines due.few, placed h, suits)

pub crash_accepted : (x : Instance) (lines last p round : ℕ) (point : CrashPoint) → Due x lines last p
    → FaultAllowed x.processes x.resilience p (crashes round point)
    → accept (body (Failures lines last) x) (crash_line p round point) ≡ next (body (Failures (suc lines) p) (with_fault x p (crashes round point)))
unfolding FaultAllowedBy PointAllowed crash_line point_bytes step_bytes point_from suits_step all_between said
crash_accepted x lines last p round before_sending due h =
    line_accepted x lines last p round 0 0 0 due h.0 h.1 (omega arith) (omega arith) refl
crash_accepted x lines last p round (during_data reached) due h =
    let own = h.2 in
    line_accepted x lines last p round 1 reached 0 due h.0 h.1 (omega arith) (lt_of_lt_of_le own.2 (pow_mono due.small))
    (rw (eq-eqb round p own.0, eq-eqb (reached % 2 ^ p) 0 own.1, lt-ltb reached (2 ^ x.processes) own.2))
crash_accepted x lines last p round (during_commits sent) due h =
    let own = h.2 in
    let few : sent ≤ x.processes - p = omega (arith, own.1) in
    line_accepted x lines last p round 2 0 sent due h.0 h.1 (omega arith) (omega arith)
    (rw (eq-eqb round p own.0, le-leb sent (x.processes - p) few))
