-- Demand 3: of the rounds of every accepted text, and of the bytes of every result that running writes. Assumes nothing.
use mathlib.Core.List.{List}
use mathlib.Core.Path.{◌≡◌, refl, sym, ap, ◌∙◌}
use Prim.Native.Nat.{ℕ, suc}
use Rattle.consensus.specs.Instance.{Instance}
use Rattle.consensus.specs.declared.State.{State}
use Rattle.coordinator.specs.Run.{crashes_of, end_of, latest_of}
use Rattle.consensus.specs.Consensus.{UniformConsensus, CountsCrashes, ends_of}
use Rattle.consensus.specs.CrashCount.{crash_count, crashed_count}
use Rattle.coordinator_laws.proofs.CrashCount.{crashes_are_crashed}
use Rattle.coordinator_laws.proofs.Consensus.{uniform_consensus}
use Rattle.coordinator_laws.proofs.Pair.{no_later_lem}
use Rattle.consensus.proofs.SameEnds.{SameEnds, consensus_same, no_later_same}
use Rattle.coordinator_laws.proofs.Ends.{ends_in_order}
use Rattle.ticket_laws.proofs.WellFormed.{accepted_well_formed}
use Rattle.demands.specs.OutputSays.{Counts, OutputSays, counts_of}
use Rattle.demands.specs.Written.{Wrote}
use Rattle.demands.specs.Demand3.{RoundsClaim, TextsPaired, TicketsPaired, OutputClaim, Demand3}
use Rattle.demands.proofs.PairedTexts.{texts_paired}
use Rattle.demands.proofs.PairedTickets.{tickets_paired}
use Rattle.demands.proofs.Demand2.{demand_2}

rounds_claim : RoundsClaim
unfolding CountsCrashes crashes_of SameEnds
rounds_claim =
    record {
      consensus = λ text x read. uniform_consensus x (accepted_well_formed text x read);
      crashes = λ text x read. ap (crash_count x.pattern) (sym (ends_in_order x (accepted_well_formed text x read) (end_of x) (λ p process. refl)));
      crashed = λ text x read.
          let formed = accepted_well_formed text x read in
          crashes_are_crashed x formed ∙ ap crashed_count (sym (ends_in_order x formed (end_of x) (λ p process. refl)));
      no_later = λ a b x y read read' paired.
          no_later_lem x y (accepted_well_formed a x read) (accepted_well_formed b y read') paired;
    }

-- The bytes of a result say one thing: what the rounds give.
module _ (text : List ℕ) (x : Instance) (out : List ℕ) (ends : ℕ → State) (counts : Counts)
    (wrote : Wrote text x out) (says : OutputSays x out ends counts) where
  pub ends_said : SameEnds x (end_of x) ends
  unfolding SameEnds
  ends_said p process =
      let run = (demand_2.result text x out wrote).states p process in
      let own = says.states p process in
      cc

  f_said : counts.crashes ≡ crashes_of x
  unfolding counts_of
  f_said =
      let run = (demand_2.result text x out wrote).last in
      let own = says.last in
      let same : counts ≡ counts_of x = cc in
      ap (λ (c : Counts). c.crashes) same

  consensus_said : UniformConsensus (suc counts.crashes) x ends
  unfolding latest_of
  consensus_said = rw f_said (consensus_same x (end_of x) ends ends_said (latest_of x) (rounds_claim.consensus text x wrote.read))

  crashes_said : CountsCrashes counts.crashes x ends
  unfolding CountsCrashes crashes_of
  crashes_said = f_said ∙ ap (crash_count x.pattern) (sym (ends_in_order x (accepted_well_formed text x wrote.read) ends ends_said))

  crashed_said : counts.crashes ≡ crashed_count (ends_of x ends)
  crashed_said =
      let formed = accepted_well_formed text x wrote.read in
      f_said ∙ crashes_are_crashed x formed ∙ ap crashed_count (sym (ends_in_order x formed ends ends_said))

output_claim : OutputClaim
output_claim =
    record {
      consensus = consensus_said;
      crashes = crashes_said;
      crashed = crashed_said;
      no_later = λ a b x y out out' ends ends' counts counts' wrote wrote' says says' paired.
          no_later_same x y (end_of x) ends (end_of y) ends' (ends_said a x out ends counts wrote says) (ends_said b y out' ends' counts' wrote' says')
          (rounds_claim.no_later a b x y wrote.read wrote'.read paired);
    }

paired_texts : TextsPaired
paired_texts = texts_paired

paired_tickets : TicketsPaired
unfolding TicketsPaired
paired_tickets = tickets_paired

pub demand_3 : Demand3
demand_3 = record { rounds = rounds_claim; texts = paired_texts; tickets = paired_tickets; outputs = output_claim }
