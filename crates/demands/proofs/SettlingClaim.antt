-- What the calls of settling name is the first settling round of the text. Assumes nothing.
use mathlib.Core.List.{List}
use mathlib.Core.Path.{◌≡◌, refl, sym, ap, ◌∙◌}
use mathlib.Core.Bool.{true≢false}
use Prim.Native.Nat.{ℕ, ◌<◌}
use native.Mathlib.Omega.{arith}
use Rattle.general.proofs.Tests.{by_order}
use Rattle.consensus.specs.Instance.{Instance}
use Rattle.coordinator.specs.Settling.{first_settling}
use Rattle.coordinator_laws.specs.FirstSettling.{FirstSettles, SettledSince}
use Rattle.coordinator_laws.proofs.FirstSettling.{first_settling_lem, settled_since}
use Rattle.general.specs.Answer.{accepted}
use Rattle.ticket_format.specs.Ticket.{read_ticket}
use Rattle.answers.specs.Settle.{settling}
use Rattle.answers.specs.Code.{code_of, number_code}
use Rattle.answers.specs.Reply.{answer_by}
use Rattle.answers.specs.Reply.{Reply}
use Rattle.answers.specs.Reply.{Given}
use Rattle.ticket_laws.proofs.WellFormed.{accepted_well_formed}
use Rattle.demands.specs.SettlingClaim.{SettlingClaim}
use Rattle.answers.proofs.Replies.{same_reply}

module _ (text : List ℕ) (x : Instance) (read : read_ticket text ≡ accepted x) where
  first : FirstSettles x (first_settling x) × SettledSince x (first_settling x)
  first = let formed = accepted_well_formed text x read in (first_settling_lem x formed, settled_since x formed)

  settling_accepted : settling text ≡ accepted (first_settling x)
  unfolding settling
  settling_accepted = rw read refl

  named : (answer : Reply) → answer_by answer ≡ settling text → (r : ℕ) × (answer ≡ Given r) × FirstSettles x r × SettledSince x r
  unfolding answer_by
  named answer e = (first_settling x, same_reply answer (Given (first_settling x)) (e ∙ settling_accepted), first.0, first.1)

  called : (code : ℕ) → code ≡ number_code (settling text) → FirstSettles x code × SettledSince x code
  unfolding code_of
  called code e = rw (e ∙ ap number_code settling_accepted) first

-- Of two of them neither is below the other.
not_below : (x : Instance) (r s : ℕ) → FirstSettles x r → FirstSettles x s → r < s → ⊥
not_below x r s one other h = true≢false (sym one.qualified ∙ other.lowest r h)

pub settling_claim : SettlingClaim
settling_claim =
    record {
      named = λ text x answer read e. named text x read answer e;
      called = λ text x code read e. called text x read code e;
      only = λ x r s one other.
          by_order r s (λ low. by_order s r (λ high. omega arith) (λ below. absurd (not_below x r s one other below)))
          (λ below. absurd (not_below x s r other one below));
    }
