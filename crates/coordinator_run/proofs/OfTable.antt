-- What the code takes from the table of a well-formed instance: its limits, the run before round 1, and for each round the coordinator's fault and the set of
-- those that crash in it. Assumes nothing.
use mathlib.Core.List.{List}
use mathlib.Core.Path.{◌≡◌, refl, sym, ap, ◌∙◌}
use Prim.Native.Nat.{ℕ, ◌+◌, ◌-◌, ◌^◌, ◌≤◌, ◌<◌}
use native.Mathlib.Omega.{arith}
use lib.ListN.{length, get_or, take, replicate, length-map, length-replicate, get_or-replicate}
use Rattle.general.proofs.Lists.{take-replicate}
use Rattle.general.proofs.Sets.{first_set, set_same}
use Rattle.consensus.specs.Instance.{Instance, proposal_of}
use Rattle.consensus.specs.State.{state_of, crashes_in}
use Rattle.consensus.specs.declared.Fault.TheVariants.{Correct as correct}
use Rattle.consensus.specs.declared.State.{State}
use Rattle.consensus.specs.declared.State.TheVariants.{Undecided as undecided}
use Rattle.coordinator.specs.Undecided.{is_undecided}
use Rattle.coordinator.specs.Count.{data_in, commits_in}
use Rattle.coordinator.specs.Run.{initial, run_to, last_round}
use Rattle.coordinator.specs.SentBy.{sent_after}
use Rattle.coordinator.specs.WellFormed.{WellFormed}
use Rattle.coordinator_laws.proofs.Pointwise.{states_ext, initial_state}
use Rattle.tables.specs.declared.instance.InstanceTable.{InstanceTable}
use Rattle.tables.specs.declared.run.RunTable.{RunTable}
use Rattle.tables.specs.declared.sent.SentCounts.{SentCounts}
use Rattle.tables.specs.code.InitialTable.{initial_table}
use Rattle.tables.specs.code.InstanceOfTable.{instance_of}
use Rattle.tables.specs.code.NoneSent.{NoneSent}
use Rattle.tables.specs.code.RunOfTable.{state_by_end, states_in, run_over}
use Rattle.tables.proofs.Places.{processes_of, resilience_of, fault_at, proposal_at, state_at_place, length_states_over}
use Rattle.coordinator_crashes.specs.code.CrashSets.{CrashSets}
use Rattle.coordinator_round.specs.code.Round.{undecided_set, RoundOf}
use Rattle.coordinator_run.specs.code.Running.{RunTo}

module _ (x : InstanceTable) (formed : WellFormed (instance_of x)) where
  pub limits : (1 ≤ x.n) × (x.n ≤ 64) × (x.t < x.n)
  unfolding instance_of
  limits = (formed.some_process, formed.at_most_64, formed.fewer_crashes)

  -- Before round 1 all are up and undecided with their proposals.
  abbrev start : RunTable
  start = initial_table x.n x.proposals

  fits : x.n ≤ length start.ends
  fits = omega (arith, limits, length-replicate {A = ℕ} 64 0)

  proposals_length : length (instance_of x).proposals ≡ x.n
  proposals_length = formed.all_propose ∙ processes_of x

  start_state : (p : ℕ) → 1 ≤ p → p ≤ x.n → state_of (states_in start) p ≡ undecided (proposal_of (instance_of x) p)
  unfolding state_by_end
  start_state p h g =
      state_at_place x.n _ _ _ fits p h g
      ∙ rw (get_or-replicate {A = ℕ} 64 (p - 1) 0 0 (omega (arith, limits)), proposal_at x p h g)

  start_states : states_in start ≡ (initial (instance_of x)).states
  unfolding initial
  start_states =
      states_ext x.n (states_in start) (initial (instance_of x)).states (length_states_over x.n _ _ _ fits)
      (length-map (instance_of x).proposals undecided ∙ proposals_length)
      λ p h g. start_state p h g ∙ sym (initial_state (instance_of x) p h (omega (arith, proposals_length)))

  all_undecided : 2 ^ x.n - 1 ≡ undecided_set start
  unfolding is_undecided
  all_undecided = first_set x.n ∙ set_same x.n _ _ (λ p h g. sym (ap is_undecided (start_state p h g)))

  none_sent : (counted : Instance → ℕ → List State → ℕ) (counts : List ℕ) → counts ≡ replicate 64 0 → take x.n counts ≡ sent_after counted (instance_of x) 0
  unfolding sent_after
  none_sent counted counts none = rw (none, processes_of x) (take-replicate {A = ℕ} x.n 64 0 limits.1)

  pub before_rounds : (run : RunTable) (sent : SentCounts) → run ≡ start → NoneSent sent → RunTo (instance_of x) 0 run sent
  unfolding run_over run_to initial
  before_rounds run sent begun none =
      rw begun
      (record {
        processes = sym (processes_of x);
        run = rw start_states;
        kept = all_undecided;
        data_sent = none_sent data_in sent.data_by none.0;
        commits_sent = none_sent commits_in sent.commits_by none.1;
      })

  pub round_of : (faulty : List ℕ) → CrashSets x.n x.pattern faulty → (n : ℕ) → n ≡ (instance_of x).processes → (r : ℕ) → 1 ≤ r → r ≤ x.t + 1
      → RoundOf (instance_of x) n r (get_or x.pattern (r - 1) correct) (get_or faulty (r - 1) 0)
  unfolding instance_of
  round_of faulty crashing n same r first last =
      rw same
      (record {
        well_formed = formed;
        processes = refl;
        coordinator = fault_at x r first (omega (arith, limits));
        crashing = crashing r first (omega (arith, limits)) ∙ set_same x.n _ _ (λ p h g. ap (crashes_in r) (sym (fault_at x p h g)));
      })

-- Round t + 1 is the last.
pub not_beyond : (x : InstanceTable) (r : ℕ) → r ≤ x.t + 1 → r ≤ last_round (instance_of x)
not_beyond x r h = rw resilience_of (omega arith)
