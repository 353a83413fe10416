-- Idle failure lines of every accepted text change nothing. Assumes nothing.
use mathlib.Core.List.{List}
use mathlib.Core.Path.{◌≡◌, refl}
use Prim.Native.Nat.{ℕ}
use Rattle.consensus.specs.Instance.{Instance}
use Rattle.coordinator.specs.WithoutIdle.{without_idle}
use Rattle.coordinator_laws.proofs.IdleLines.{idle_lines_change_nothing}
use Rattle.coordinator_laws.specs.IdleLines.{IdleLinesChangeNothing}
use Rattle.general.specs.Answer.{accepted}
use Rattle.ticket_format.specs.Ticket.{read_ticket}
use Rattle.ticket_laws.specs.TicketText.{ticket_text}
use Rattle.ticket_laws.proofs.WellFormed.{accepted_well_formed}
use Rattle.ticket_laws.proofs.AcceptedTexts.{ticket_accepted}
use Rattle.answers.specs.ResultLine.{result_text}
use Rattle.answers.specs.Running.{result_in, running}
use Rattle.answers.specs.Settle.{settling}
use Rattle.demands.specs.LettersClaim.{RunAlike, SettledAlike}
use Rattle.demands.specs.IdleClaim.{IdleClaim}
use Rattle.demands.proofs.LettersClaim.{ran_alike, settle_alike}

module _ (text : List ℕ) (x : Instance) (read : read_ticket text ≡ accepted x) where
  changes_nothing : IdleLinesChangeNothing x
  changes_nothing = idle_lines_change_nothing x (accepted_well_formed text x read)

  left_out_lem : read_ticket (ticket_text (without_idle x)) ≡ accepted (without_idle x)
  left_out_lem = ticket_accepted (without_idle x) changes_nothing.formed

  same_result : result_text x ≡ result_text (without_idle x)
  unfolding result_text
  same_result = rw (changes_nothing.run, changes_nothing.data_sent, changes_nothing.commits_sent, changes_nothing.crashes) refl

  same_running : (room : ℕ) → running text room ≡ running (ticket_text (without_idle x)) room
  unfolding running result_in without_idle
  same_running room = rw (read, left_out_lem, same_result) refl

  same_settling : settling text ≡ settling (ticket_text (without_idle x))
  unfolding settling
  same_settling = rw (read, left_out_lem, changes_nothing.settling) refl

  run_alike : RunAlike text (ticket_text (without_idle x))
  run_alike = ran_alike text (ticket_text (without_idle x)) same_running

  settled_alike : SettledAlike text (ticket_text (without_idle x))
  settled_alike = settle_alike text (ticket_text (without_idle x)) same_settling

pub idle_claim : IdleClaim
idle_claim = record { rounds = changes_nothing; left_out = left_out_lem; run = run_alike; settle = settled_alike }
