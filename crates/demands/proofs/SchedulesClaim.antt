-- Paper 14, closed over texts: an accepted text gives a well-formed instance, of which the claims on schedules hold. Assumes nothing.
use mathlib.Core.List.{List}
use mathlib.Core.Path.{◌≡◌, ap, ◌∙◌}
use Prim.Native.Nat.{ℕ}
use Rattle.consensus.specs.Instance.{Instance}
use Rattle.consensus.specs.Consensus.{IsProcess}
use Rattle.general.specs.Answer.{accepted}
use Rattle.ticket_format.specs.Ticket.{read_ticket}
use Rattle.ticket_laws.proofs.WellFormed.{accepted_well_formed}
use Rattle.part_host.specs.Part.{part_of}
use Rattle.part_schedules.specs.Steps.{Hosted, Step, unstarted, play}
use Rattle.part_schedules.specs.Schedule.{Schedule, schedule_steps, played}
use Rattle.part_schedules.specs.Answers.{all_answers}
use Rattle.part_schedules.specs.ByRun.{part_by_run}
use Rattle.part_schedules.specs.AnyOrder.{Whole}
use Rattle.part_schedules.specs.Tenders.{TenderStep, play_mixed, of_tender}
use Rattle.part_schedules.proofs.StartsAnswered.{answers_due}
use Rattle.part_schedules.proofs.EndedCalls.{ended_calls_lem}
use Rattle.part_schedules.proofs.AnyOrder.{any_order_lem, orders_no_later_lem}
use Rattle.part_schedules.proofs.Permutations.{permutations}
use Rattle.part_schedules.proofs.Tenders.{tenders_apart}
use Rattle.demands.specs.SchedulesClaim.{SchedulesClaim}

mixed_by_run : (text : List ℕ) (xs : ℕ → Instance) (steps : List TenderStep) (i : ℕ) (s : Schedule) → read_ticket text ≡ accepted (xs i)
    → Whole (xs i) s → of_tender i steps ≡ schedule_steps s → (p : ℕ) → IsProcess (xs i) p
    → part_of (play_mixed xs steps (λ j. unstarted (xs j)) i).parts p ≡ part_by_run (xs i) p
unfolding played
mixed_by_run text xs steps i s read whole own p process =
    ap (λ (h : Hosted). part_of h.parts p)
    (tenders_apart.left_as_alone xs steps (λ j. unstarted (xs j)) i ∙ ap (λ (l : List Step). play (xs i) l (unstarted (xs i))) own)
    ∙ (any_order_lem (xs i) (accepted_well_formed text (xs i) read)).by_run s whole p process

pub schedules_claim : SchedulesClaim
schedules_claim =
    record {
      any_order = λ text x read. any_order_lem x (accepted_well_formed text x read);
      permutations = λ text x read. permutations x (accepted_well_formed text x read);
      ended_calls = ended_calls_lem;
      no_later = λ a b x y read read' paired.
          orders_no_later_lem x y (accepted_well_formed a x read) (accepted_well_formed b y read') paired;
      mixed = mixed_by_run;
      mixed_answers = λ text xs steps i s read ordered own.
          tenders_apart.answered_as_alone xs steps (λ j. unstarted (xs j)) i ∙ ap (all_answers (xs i) (unstarted (xs i))) own
          ∙ answers_due (xs i) (schedule_steps s) (unstarted (xs i)) ((any_order_lem (xs i) (accepted_well_formed text (xs i) read)).answered s ordered);
      apart = tenders_apart;
    }
