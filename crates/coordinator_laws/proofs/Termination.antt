-- Termination and early decision (document 001, section 3.3, Lemma 3). While a process waits, every coordinator so far has crashed: so none waits for more
-- than f + 1 rounds. For well-formed instances. Assumes nothing else.
use mathlib.Core.Path.{◌≡◌, refl, ◌∙◌}
use Prim.Native.Nat.{ℕ, ◌≤◌, ◌<◌}
use native.Mathlib.Omega.{arith}
use Rattle.consensus.specs.Instance.{Instance}
use Rattle.consensus.specs.declared.State.{State}
use Rattle.consensus.specs.declared.State.TheVariants.{Undecided as undecided, Decided as decided, Crashed as crashed}
use Rattle.coordinator.specs.Run.{crashes_of, last_round, end_of, latest_of}
use Rattle.consensus.specs.CrashCount.{has_crashed}
use Rattle.coordinator.specs.WellFormed.{WellFormed}
use Rattle.consensus.specs.Consensus.{IsProcess, Decides, Termination, DecidesBy, CrashesNoOther}
use Rattle.coordinator_laws.proofs.Pointwise.{state_at}
use Rattle.coordinator_laws.proofs.History.{undecided_earlier, crashed_later}
use Rattle.coordinator_laws.proofs.Coordinator.{waits_below, coordinator_crashed, decided_since}
use Rattle.coordinator_laws.proofs.CrashCount.{crashes_le, crashes_no_other_lem, crashes_at_least}
use Rattle.consensus.proofs.CrashCount.{crashed_is_one}
use Rattle.coordinator_laws.proofs.Ends.{end_at, decided_at}

module _ (x : Instance) (formed : WellFormed x) where
  -- If a process waits after m rounds, at least m processes crash: the coordinators so far.
  pub waits_for_crashes : (m p v : ℕ) → m ≤ last_round x → IsProcess x p → state_at x m p ≡ undecided v → m ≤ crashes_of x
  waits_for_crashes m p v h process e = crashes_at_least x formed m (omega arith) ended
    where
      ended : (k : ℕ) → 1 ≤ k → k ≤ m → has_crashed (end_of x k) ≡ 1
      ended k first within =
          let above : m < p = waits_below x m p v process.first e in
          let (w, d) = undecided_earlier x k m p v within e in
          let (j, c) = coordinator_crashed x k p w first (omega arith) d in
          let coordinator : IsProcess x k = record { first = first; last = omega arith } in
          crashed_is_one _ j (end_at x formed k coordinator ∙ crashed_later x k _ k j (omega arith) c)

  pub terminates : Termination x (end_of x)
  unfolding Termination CrashesNoOther
  terminates p process up = by_state (state_at x (last_round x) p) refl
    where
      at_end_lem : end_of x p ≡ state_at x (last_round x) p
      at_end_lem = end_at x formed p process

      by_state : (s : State) → state_at x (last_round x) p ≡ s → (r : ℕ) × (v : ℕ) × Decides x (end_of x) p r v
      by_state (undecided v) e = absurd (let z : ⊥ = omega (arith, waits_for_crashes _ p v (omega arith) process e, crashes_le x formed) in z)
      by_state (decided r v) e = (r, v, record { process = process; state = at_end_lem ∙ e })
      by_state (crashed j) e = absurd (up j (crashes_no_other_lem x formed p j process (at_end_lem ∙ e)))

  pub decides_early : DecidesBy (latest_of x) x (end_of x)
  unfolding DecidesBy latest_of
  decides_early p r v d =
      let (q, u, same, within, waiting, since) = decided_since x _ p r v (decided_at x formed d) in
      omega (arith, waits_for_crashes q p u (omega arith) d.process waiting)
