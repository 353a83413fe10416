-- The value that a process decides in a ticket's run (document 01, 'The result': its end 01 and its value).
use Rattle.std.specs.Prelude.{List, ℕ, Option, Some, None, cond, ◌&&◌, leb}
use Rattle.general.specs.Answer.{Answer, accepted, and_then}
use Rattle.consensus.specs.Instance.{Instance}
use Rattle.consensus.specs.declared.State.{State}
use Rattle.consensus.specs.declared.State.TheVariants.{Undecided as undecided, Decided as decided, Crashed as crashed}
use Rattle.coordinator.specs.Run.{end_of}
use Rattle.ticket_format.specs.Ticket.{read_ticket}

-- What a process that ends so has decided.
unfoldable pub value_decided : State → Option ℕ
value_decided (undecided v) = None
value_decided (decided round v) = Some v
value_decided (crashed round) = None

-- What process p decides; none where the instance has no such process.
unfoldable pub decided_in : (p : ℕ) → Instance → Option ℕ
decided_in p x = cond (leb 1 p && leb p x.processes) (value_decided (end_of x p)) None

-- What is answered on a text: what process p decides, or a refusal, 1 to 8, with its line.
unfoldable pub deciding : (text : List ℕ) → (p : ℕ) → Answer (Option ℕ)
deciding text p = and_then (read_ticket text) (λ x. accepted (decided_in p x))
