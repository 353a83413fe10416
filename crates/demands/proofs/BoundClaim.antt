-- The bound by speakers and that on commits, of every accepted text and of the last line of every result. Assumes nothing.
use mathlib.Core.List.{List}
use mathlib.Core.Option.{some}
use mathlib.Core.Path.{◌≡◌}
use Prim.Native.Nat.{ℕ}
use Rattle.consensus.specs.Instance.{Instance}
use Rattle.coordinator_laws.proofs.Bound.{speaker_bound}
use Rattle.coordinator_laws.proofs.CountsBySets.{counts_by_sets}
use Rattle.ticket_laws.proofs.WellFormed.{accepted_well_formed}
use Rattle.demands.specs.OutputSays.{Counts, counts_said, counts_of}
use Rattle.demands.specs.Written.{Wrote}
use Rattle.demands.specs.BoundClaim.{CountsBounded, BoundClaim}
use Rattle.demands.proofs.Demand2.{demand_2}

counts_bounded : (text : List ℕ) (x : Instance) (out : List ℕ) (counts : Counts) → Wrote text x out → counts_said out x.processes ≡ some counts
    → CountsBounded x.processes counts
unfolding counts_of
counts_bounded text x out counts wrote said =
    let bound = speaker_bound x (accepted_well_formed text x wrote.read) in
    let run = (demand_2.result text x out wrote).last in
    let same : counts ≡ counts_of x = cc in
    rw same (record { speakers = bound.speakers; speakers_fit = bound.speakers_fit; messages = bound.messages; commits = bound.commits })

pub bound_claim : BoundClaim
bound_claim =
    record {
      rounds = λ text x read. speaker_bound x (accepted_well_formed text x read);
      by_sets = λ text x read. counts_by_sets x (accepted_well_formed text x read);
      said = counts_bounded;
    }
