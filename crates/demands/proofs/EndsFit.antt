-- The ends and the counts of a run fit the bytes that a result has for them, so the result says what they are. For well-formed instances. Assumes nothing else.
use mathlib.Core.List.{List, ◌++◌}
use mathlib.Core.Option.{some}
use mathlib.Core.Path.{◌≡◌, refl}
use Prim.Native.Nat.{ℕ, suc, ◌-◌, ◌^◌, ◌≤◌, ◌<◌}
use native.Mathlib.Omega.{arith}
use Rattle.general.specs.Counts.{count_of}
use Rattle.consensus.specs.Instance.{Instance, proposal_of}
use Rattle.consensus.specs.declared.Fault.TheVariants.{Crashes as crashes}
use Rattle.consensus.specs.State.{state_of}
use Rattle.consensus.specs.declared.State.{State}
use Rattle.consensus.specs.declared.State.TheVariants.{Undecided as undecided, Decided as decided, Crashed as crashed}
use Rattle.consensus.specs.WellFormed.{FaultAllowedBy}
use Rattle.coordinator.specs.WellFormed.{WellFormed, FaultAllowed}
use Rattle.coordinator.specs.Run.{run_of, crashes_of, end_of, latest_of}
use Rattle.consensus.specs.Consensus.{IsProcess, Decides, Validity, DecidesBy, CrashesNoOther, UniformConsensus}
use Rattle.coordinator.specs.Count.{data_in, commits_in}
use Rattle.coordinator.specs.SentBy.{data_by, commits_by}
use Rattle.coordinator_laws.specs.MessagesBySender.{BySender}
use Rattle.coordinator_laws.proofs.MessagesBySender.{messages_by_sender}
use Rattle.coordinator_laws.proofs.CrashCount.{crashes_le}
use Rattle.coordinator_laws.proofs.Counts.{counts_fit}
use Rattle.coordinator_laws.proofs.Ends.{states_at_end}
use Rattle.coordinator_laws.proofs.Consensus.{uniform_consensus}
use Rattle.coordinator_laws.proofs.Settled.{none_ends_undecided}
use Rattle.answers.specs.ResultLine.{result_text}
use Rattle.demands.specs.OutputSays.{OutputSays, counts_of, sent_said, sent_of}
use Rattle.demands.proofs.ResultReadBack.{Fits, RunFits, end_said_lem, sent_said_lem, counts_said_lem}

module _ (x : Instance) (formed : WellFormed x) where
  consensus : UniformConsensus (latest_of x) x (end_of x)
  consensus = uniform_consensus x formed

  -- A decision is made by round f + 1, on a proposed value.
  decided_fits : (p r v : ℕ) → Decides x (end_of x) p r v → (r < 256) × (v < 2 ^ 32)
  unfolding Validity DecidesBy latest_of proposal_of
  decided_fits p r v d =
      let early : r ≤ suc (crashes_of x) = consensus.early_decision p r v d in
      let (q, process, proposed) = consensus.validity p r v d in
      (omega (arith, crashes_le x formed), rw proposed at (formed.values_fit (q - 1)))

  -- A crash happens in the round of its failure line.
  crashed_fits : (p r : ℕ) → IsProcess x p → end_of x p ≡ crashed r → r < 256
  unfolding CrashesNoOther FaultAllowedBy
  crashed_fits p r process e =
      let crash = consensus.crashes_no_other p r process e in
      let allowed : FaultAllowed x.processes x.resilience p (crashes r crash.point) =
      rw crash.line at (formed.faults_allowed p process.first process.last)
      in
      omega (arith, allowed.1)

  end_fits : (p : ℕ) → IsProcess x p → Fits (end_of x p)
  unfolding Fits
  end_fits p process = by_state (end_of x p) refl
    where
      by_state : (s : State) → end_of x p ≡ s → Fits s
      by_state (undecided v) e = absurd (none_ends_undecided x formed p v process e)
      by_state (decided r v) e = decided_fits p r v (record { process = process; state = e })
      by_state (crashed r) e = crashed_fits p r process e

  -- A process sends no more messages of a kind than there are processes above it.
  sent_fits : (counted : Instance → ℕ → List State → ℕ) (sent : List ℕ) (total : ℕ) → BySender counted sent total x
      → (p : ℕ) → 1 ≤ p → p ≤ x.processes → count_of sent p < 256
  sent_fits counted sent total by p h g = omega (arith, by.to_those_above p (record { first = h; last = g }), formed.at_most_64)

  pub run_fits : RunFits (run_of x) (data_by x) (commits_by x) (crashes_of x) x.processes
  unfolding end_of state_of
  run_fits =
      let fit = counts_fit x formed in
      record {
        all_end = states_at_end x formed;
        few = omega arith;
        states = λ k h. let same : suc k - 1 ≡ k = omega arith in rw same at (end_fits (suc k) (record { first = omega arith; last = omega arith }));
        rounds = omega arith;
        crashes = omega arith;
        speakers = omega arith;
        data_sent = fit.data_sent;
        commits_sent = fit.commits_sent;
        data_by = λ p h g. sent_fits data_in _ _ (messages_by_sender x formed).of_data p h (omega arith);
        commits_by = λ p h g. sent_fits commits_in _ _ (messages_by_sender x formed).of_commits p h (omega arith);
      }

  -- So an output that begins with the result says how every process ended and what it sent, and what was counted.
  pub result_says : (rest : List ℕ) → OutputSays x (result_text x ++ rest) (end_of x) (counts_of x)
  unfolding end_of result_text counts_of
  result_says rest =
      record {
        states = λ p process. end_said_lem (run_of x) (data_by x) (commits_by x) (crashes_of x) x.processes run_fits rest p process.first process.last;
        last = counts_said_lem (run_of x) (data_by x) (commits_by x) (crashes_of x) x.processes run_fits rest;
      }

  pub result_sent : (rest : List ℕ) (p : ℕ) → IsProcess x p → sent_said (result_text x ++ rest) p ≡ some (sent_of x p)
  unfolding result_text sent_of
  result_sent rest p process = sent_said_lem (run_of x) (data_by x) (commits_by x) (crashes_of x) x.processes run_fits rest p process.first process.last
