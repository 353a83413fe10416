-- A process and its fault: who crashes has a fault of that round, and who is still undecided, or decides, is so before the round of its fault. Assumes nothing.
use mathlib.Core.Path.{◌≡◌, refl}
use mathlib.Core.Bool.{true, false}
use Prim.Native.Nat.{ℕ, zero, suc, ◌≤◌, ◌<◌}
use native.Mathlib.Omega.{arith}
use native.Mathlib.Nat.{lt_of_not-le}
use borrow.Author.Tests.{eq-eqb, eqb-true}
use Rattle.coordinator.specs.Message.{Messages}
use Rattle.coordinator.specs.Transition.{Outcome, continues, decides, receives}
use Rattle.consensus.specs.Instance.{Instance, fault_of}
use Rattle.consensus.specs.declared.Fault.{Fault}
use Rattle.consensus.specs.declared.Fault.TheVariants.{Correct as correct, Crashes as crashes}
use Rattle.consensus.specs.declared.CrashPoint.{CrashPoint}
use Rattle.consensus.specs.State.{crashes_in}
use Rattle.consensus.specs.declared.State.{State}
use Rattle.consensus.specs.declared.State.TheVariants.{Undecided as undecided, Decided as decided, Crashed as crashed}
use Rattle.coordinator.specs.Round.{after_outcome}
use Rattle.coordinator_laws.proofs.Pointwise.{state_at}
use Rattle.coordinator_laws.proofs.Rounds.{Becomes, stays_decided, stays_crashed, crashing, coordinates, listens, after_crashing}
use Rattle.coordinator_laws.proofs.History.{becomes_at, undecided_crashed, decided_crashed, crashed_later, undecided_earlier}
use Rattle.coordinator_laws.proofs.Coordinator.{decided_since}

-- A fault that strikes in round r is a crash in round r.
pub struck_in : (r : ℕ) (fault : Fault) → crashes_in r fault ≡ true → (point : CrashPoint) × (fault ≡ crashes r point)
unfolding crashes_in
struck_in r correct h = absurd (let z : ◌≡◌ {A = ℕ} 0 1 = cc in let w : ⊥ = omega arith in w)
struck_in r (crashes round point) h = (point, let same : round ≡ r = eqb-true round r h in rw same)

-- No outcome is a crash.
pub outcome_up : (r j : ℕ) (o : Outcome) → after_outcome r o ≡ crashed j → ⊥
unfolding after_outcome
outcome_up r j (continues v) e = undecided_crashed _ v j refl e
outcome_up r j (decides v) e = decided_crashed _ r v j refl e

-- A process that has crashed in round j has crashed before, or has a fault of that round.
crashed_case : (r p : ℕ) (own : Fault) (j : ℕ) (m : Messages) (s s' : State) → Becomes r p own m s s' → (s ≡ crashed j → crashes_in j own ≡ true)
    → s' ≡ crashed j
    → crashes_in j own ≡ true
crashed_case r p own j m s s' stays_decided before e = absurd (decided_crashed _ _ _ j refl e)
crashed_case r p own j m s s' stays_crashed before e = before e
crashed_case r p own j m s s' (crashing f) before e = let round : r ≡ j = cc in rw (← round) f
crashed_case r p own j m s s' (coordinates {v = v} _ _) before e = absurd (outcome_up r j (receives true v m) e)
crashed_case r p own j m s s' (listens {v = v} _ _) before e = absurd (outcome_up r j (receives false v m) e)

module _ (x : Instance) where
  -- Who has crashed has a fault of that round.
  pub crashed_by_fault : (r p j : ℕ) → state_at x r p ≡ crashed j → crashes_in j (fault_of x p) ≡ true
  unfolding state_at
  crashed_by_fault zero p j e = absurd (undecided_crashed _ _ j refl e)
  crashed_by_fault (suc r) p j e = crashed_case (suc r) p _ j _ _ _ (becomes_at x r p) (crashed_by_fault r p j) e

  -- A process that is up and undecided as the round of its fault begins crashes in it.
  fault_strikes : (r p v : ℕ) (point : CrashPoint) → fault_of x p ≡ crashes (suc r) point → state_at x r p ≡ undecided v → state_at x (suc r) p ≡ crashed (suc r)
  unfolding state_at crashes_in
  fault_strikes r p v point f e = rw (f, e, after_crashing (suc r) p (crashes (suc r) point) _ v (eq-eqb (suc r) (suc r) refl))

  -- Who is undecided after round r has its fault later.
  pub undecided_before_fault : (r p v round : ℕ) (point : CrashPoint) → fault_of x p ≡ crashes round point → 1 ≤ round → state_at x r p ≡ undecided v → r < round
  undecided_before_fault r p v zero point f one e = absurd (let z : ⊥ = omega arith in z)
  undecided_before_fault r p v (suc k) point f one e =
      lt_of_not-le (λ (over : suc k ≤ r).
      let (w, began) = undecided_earlier x k r p v (omega arith) e in
      undecided_crashed _ v (suc k) e (crashed_later x (suc k) r p (suc k) over (fault_strikes k p w point f began)))

  -- Who decides does so before the round of its fault.
  pub decided_before_fault : (r p i v round : ℕ) (point : CrashPoint) → fault_of x p ≡ crashes round point → 1 ≤ round → state_at x r p ≡ decided i v → i < round
  decided_before_fault r p i v round point f one e =
      let (q, u, same, within, began, since) = decided_since x r p i v e in
      let ahead : q < round = undecided_before_fault q p u round point f one began in
      lt_of_not-le (λ (over : round ≤ i).
      let now : round ≡ suc q = omega arith in
      decided_crashed _ i v (suc q) e (crashed_later x (suc q) r p (suc q) within (fault_strikes q p u point (rw now at f) began)))
