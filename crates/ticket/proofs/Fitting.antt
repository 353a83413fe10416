-- What a line says suits the place where it stands: a proposal the next of them, a failure line a process and a round. Assumes nothing.
use mathlib.Core.List.{List}
use mathlib.Core.Path.{◌≡◌, refl}
use Prim.Native.Nat.{ℕ, suc, ◌≤◌, ◌<◌}
use Rattle.ticket_format.specs.Says.{after_proposal, line_says}
use Rattle.ticket_format.specs.declared.FailureLine.{FailureLine}
use Rattle.ticket_format.specs.declared.Place.{Place}
use Rattle.ticket_format.specs.declared.Place.TheVariants.{Proposals, Failures}
use Rattle.ticket_format.specs.LineAnswer.{LineAnswer}
use Rattle.ticket_format.specs.LineAnswer.LineAnswer.{Proposal, Crash, End, Refused}
use Rattle.ticket_format.proofs.CrashPlaced.{crash_placed}
use Rattle.ticket_format.proofs.LineCases.{LineCase, proposal_said, crash_said, end_said, line_refused, line_case}

-- What is said of n processes at this place.
pub record CrashFits (place : Place) (n lines : ℕ) (l : FailureLine) : Type 0 where
  pub first : 1 ≤ l.process
  pub last : l.process ≤ n
  pub round : 1 ≤ l.round
  pub before : ℕ
  pub station : ℕ
  pub at : place ≡ Failures before station
  pub counted : lines ≡ suc before
  pub rising : station < l.process

unfoldable pub Fits : Place → ℕ → LineAnswer → Type 0
Fits place n (Proposal count v to) = (place ≡ Proposals count) × (to ≡ after_proposal n count)
Fits place n (Crash lines l) = CrashFits place n lines l
Fits place n End = (lines : ℕ) × (last : ℕ) × (place ≡ Failures lines last)
Fits place n (Refused refusal) = Unit {0}

pub line_fits : (n t : ℕ) (place : Place) (b : List ℕ) → Fits place n (line_says n t place b)
unfolding Fits
line_fits n t place b = by_case (line_case n t b place)
  where
    by_case : {at : Place} {a : LineAnswer} → LineCase n t b at a → Fits at n a
    by_case (proposal_said kind station) = (refl, refl)
    by_case (crash_said {lines} {last} passes) =
        let placed = crash_placed n t last _ passes.placed in
        record {
          first = placed.process_from_1;
          last = placed.process_to_n;
          round = placed.round_from_1;
          before = lines;
          station = last;
          at = refl;
          counted = refl;
          rising = placed.process_rises;
        }
    by_case (end_said {lines} {last} kind) = (lines, last, refl)
    by_case (line_refused refusal wrong) = tt
