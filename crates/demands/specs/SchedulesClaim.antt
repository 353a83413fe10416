-- Paper 14 (document 02), closed over texts: "If within each round all speaking comes before any closing, every order of desks ends in the same nine bytes for each
-- desk, those that the rounds of the ticket's run give .. Rounds of two different tenders may fall in either order as well."
use Rattle.std.specs.Prelude.{List, ◌≡◌, ℕ}
use Rattle.consensus.specs.Instance.{Instance}
use Rattle.consensus.specs.Consensus.{IsProcess, NoLater}
use Rattle.coordinator_laws.specs.Pairing.{Paired}
use Rattle.general.specs.Answer.{accepted}
use Rattle.ticket_format.specs.Ticket.{read_ticket}
use Rattle.part_host.specs.Part.{part_of}
use Rattle.part_schedules.specs.Steps.{unstarted}
use Rattle.part_schedules.specs.Schedule.{Schedule, schedule_steps, played, InOrder}
use Rattle.part_schedules.specs.Answers.{all_due}
use Rattle.part_schedules.specs.EndedCalls.{EndedCalls}
use Rattle.part_schedules.specs.ByRun.{part_by_run}
use Rattle.part_schedules.specs.AnyOrder.{Whole, ends_by, AnyOrder}
use Rattle.part_schedules.specs.Permutations.{Permutations}
use Rattle.part_schedules.specs.Tenders.{TenderStep, play_mixed, of_tender, answers_to, TendersApart}
use Rattle.demands.specs.OfAccepted.{OfAccepted}

-- Of the parts of every accepted text, in every order.
pub record SchedulesClaim : Type 0 where
  -- a schedule in order leaves the parts that the run gives, no call of an open process is refused, and demand 3's first half holds of the bytes
  pub any_order : OfAccepted AnyOrder
  -- all processes in whichever order, another one in each round, are a schedule in order once those are passed over that have crashed or, in closing, crash
  pub permutations : OfAccepted Permutations
  -- a process that has decided may be called or left out wherever one likes, and keeps its bytes from then on
  pub ended_calls : EndedCalls
  -- demand 3's second half, of two texts that describe paired instances
  pub no_later : (a b : List ℕ) (x y : Instance) → read_ticket a ≡ accepted x → read_ticket b ≡ accepted y → Paired x y
      → (s u : Schedule) → Whole x s → Whole y u → NoLater x (ends_by (played x s).parts) y (ends_by (played y u).parts)
  -- tenders that are played side by side: tender i ends as its own run says, and its calls are answered what is due, whatever is done with the others
  pub mixed : (text : List ℕ) (xs : ℕ → Instance) (steps : List TenderStep) (i : ℕ) (s : Schedule) → read_ticket text ≡ accepted (xs i)
      → Whole (xs i) s → of_tender i steps ≡ schedule_steps s → (p : ℕ) → IsProcess (xs i) p
      → part_of (play_mixed xs steps (λ j. unstarted (xs j)) i).parts p ≡ part_by_run (xs i) p
  pub mixed_answers : (text : List ℕ) (xs : ℕ → Instance) (steps : List TenderStep) (i : ℕ) (s : Schedule) → read_ticket text ≡ accepted (xs i)
      → InOrder (xs i) s → of_tender i steps ≡ schedule_steps s
      → answers_to i xs steps (λ j. unstarted (xs j)) ≡ all_due (xs i) (unstarted (xs i)) (schedule_steps s)
  -- their steps, single calls or whole rounds, may fall in either order
  pub apart : TendersApart
