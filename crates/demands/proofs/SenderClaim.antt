-- The messages by sender: of the rounds of every accepted text, and of the bytes of every result. Assumes nothing.
use mathlib.Core.List.{List}
use mathlib.Core.Path.{◌≡◌, ap, ap₂, ◌∙◌}
use Prim.Native.Nat.{ℕ}
use Rattle.general.specs.Counts.{sum_to}
use Rattle.general.proofs.Counts.{sum_same}
use Rattle.consensus.specs.Instance.{Instance}
use Rattle.consensus.specs.Consensus.{IsProcess}
use Rattle.coordinator_laws.specs.MessagesBySender.{MessagesBySender}
use Rattle.coordinator_laws.proofs.MessagesBySender.{messages_by_sender}
use Rattle.ticket_laws.proofs.WellFormed.{accepted_well_formed}
use Rattle.demands.specs.OutputSays.{Sent, Counts, counts_of, sent_of}
use Rattle.demands.specs.Written.{Wrote}
use Rattle.demands.specs.SenderClaim.{MessagesSaid, AddsUp, sent_in_round, SenderClaim}
use Rattle.demands.proofs.Demand2.{demand_2}

module _ (text : List ℕ) (x : Instance) (out : List ℕ) (wrote : Wrote text x out) where
  by_sender : MessagesBySender x
  by_sender = messages_by_sender x (accepted_well_formed text x wrote.read)

  module _ (sent : ℕ → Sent) (counts : Counts) (said : MessagesSaid x out sent counts) where
    -- A line says one thing: what the rounds give.
    sent_said_lem : (p : ℕ) → IsProcess x p → sent p ≡ sent_of x p
    sent_said_lem p process =
        let own = said.each p process in
        let run = demand_2.sent text x out wrote p process in
        cc

    of_round_lem : (p : ℕ) → IsProcess x p → sent p ≡ sent_in_round x p
    unfolding sent_of sent_in_round
    of_round_lem p process =
        sent_said_lem p process
        ∙ ap₂ (λ (a b : ℕ). record { data_sent = a; commits_sent = b }) (by_sender.of_data.of_round p process) (by_sender.of_commits.of_round p process)

    -- A sum over what the lines say is one over what the rounds give.
    sum_said : (kind : Sent → ℕ) → sum_to (λ p. kind (sent p)) x.processes ≡ sum_to (λ p. kind (sent_of x p)) x.processes
    sum_said kind = sum_same _ _ x.processes (λ p h g. ap kind (sent_said_lem p (record { first = h; last = g })))

    adds_up : AddsUp x.processes sent counts
    unfolding counts_of sent_of
    adds_up =
        let own = said.all in
        let run = (demand_2.result text x out wrote).last in
        let same : counts ≡ counts_of x = cc in
        rw same
        (record {
          data_sent = sum_said (λ s. s.data_sent) ∙ by_sender.of_data.add_up;
          commits_sent = sum_said (λ s. s.commits_sent) ∙ by_sender.of_commits.add_up;
        })

pub sender_claim : SenderClaim
sender_claim =
    record {
      rounds = λ text x read. messages_by_sender x (accepted_well_formed text x read);
      add_up = λ text x out sent counts wrote said. adds_up text x out wrote sent counts said;
      of_round = λ text x out sent counts wrote said. of_round_lem text x out wrote sent counts said;
    }
