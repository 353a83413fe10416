-- Demand 3, second half (`no_later_lem`): with more commits sent, every process decides no later and on the same value (document 01, 'A round', last paragraph).
-- Both runs are taken side by side, round by round: the states of each process stay related (PairRelation, PairRound). Assumes nothing.
use mathlib.Core.Path.{◌≡◌, refl, ◌∙◌}
use Prim.Native.Nat.{ℕ, zero, suc, ◌≤◌}
use native.Mathlib.Omega.{arith}
use Rattle.consensus.specs.Instance.{Instance, proposal_of}
use Rattle.consensus.specs.declared.State.{State}
use Rattle.consensus.specs.declared.State.TheVariants.{Decided as decided}
use Rattle.coordinator.specs.Run.{last_round, end_of}
use Rattle.coordinator.specs.WellFormed.{WellFormed}
use Rattle.consensus.specs.Consensus.{IsProcess, NoLater}
use Rattle.coordinator_laws.specs.Pairing.{Paired}
use Rattle.coordinator_laws.proofs.Pointwise.{state_at}
use Rattle.coordinator_laws.proofs.History.{undecided_decided, decided_crashed}
use Rattle.coordinator_laws.proofs.Coordinator.{decided_above}
use Rattle.coordinator_laws.proofs.Locking.{holds_decision}
use Rattle.coordinator_laws.proofs.Ends.{end_at, decided_at}
use Rattle.coordinator_laws.proofs.PairRelation.{Related, both_undecided, decided_in_second, both_decided, both_crashed, crashed_in_first}
use Rattle.coordinator_laws.proofs.PairRound.{round_related}

-- Of related states: one decided in the first is decided in the second, on the same value and no later.
decided_no_later : {r i v : ℕ} {s s' : State} → Related r s s' → s ≡ decided i v → (j : ℕ) × (j ≤ i) × (s' ≡ decided j v)
decided_no_later {i = i} {v = v} both_undecided e = absurd (undecided_decided _ _ i v refl e)
decided_no_later {i = i} {v = v} (decided_in_second _) e = absurd (undecided_decided _ _ i v refl e)
decided_no_later {i = i} (both_decided {i = k} {j = j} h) e = let same : k ≡ i = cc in (j, omega arith, cc)
decided_no_later {i = i} {v = v} both_crashed e = absurd (decided_crashed _ i v _ e refl)
decided_no_later {i = i} {v = v} crashed_in_first e = absurd (decided_crashed _ i v _ e refl)

module _ (x y : Instance) (formed : WellFormed x) (paired : Paired x y) where
  -- After each round the states of each process are related.
  related : (r p : ℕ) → r ≤ last_round x → IsProcess x p → Related r (state_at x r p) (state_at y r p)
  unfolding state_at proposal_of
  related zero p within process = rw paired.proposals both_undecided
  related (suc r) p within process =
      let coordinator : IsProcess x (suc r) = omega arith in
      round_related x.processes y.processes x.resilience r p paired.processes
      (formed.faults_allowed p process.first process.last) (paired.lines p process) (paired.lines (suc r) coordinator)
      (related r (suc r) (omega arith) coordinator) (related r p (omega arith) process)
      (λ i v w e d above. decided_above y r (suc r) p i v w above d e)
      (λ i v. holds_decision y r p (suc r) i v process.first coordinator.first)

-- Every process that decides in the first decides in the second, on the same value and no later.
pub no_later_lem : (x y : Instance) → WellFormed x → WellFormed y → Paired x y → NoLater x (end_of x) y (end_of y)
unfolding NoLater
no_later_lem x y formed formed' paired p r v decision =
    let process : IsProcess y p = omega arith in
    let states = related x y formed paired (last_round x) p (omega arith) decision.process in
    let sooner = decided_no_later states (decided_at x formed decision) in
    let ended : end_of y p ≡ decided sooner.0 v = end_at y formed' p process ∙ cc (sooner.2, paired.resilience) in
    (sooner.0, sooner.1, record { process = process; state = ended })
