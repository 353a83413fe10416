-- The faults that a failure pattern states: none where every process is correct, and at most one more where one process's fault is set, which leaves the
-- others'. Assumes nothing.
use mathlib.Core.List.{List, [], ◌∷◌}
use mathlib.Core.Path.{◌≡◌, refl}
use Prim.Native.Nat.{ℕ, zero, suc, ◌-◌, ◌≤◌}
use native.Mathlib.Omega.{arith}
use lib.ListN.{length, get_or, set, replicate}
use lib.Seq.{get_or-set_same, get_or-set_other}
use Rattle.general.proofs.Tests.{by_equal}
use Rattle.consensus.specs.declared.Fault.{Fault}
use Rattle.consensus.specs.declared.Fault.TheVariants.{Correct as correct, Crashes as crashes}
use Rattle.consensus.specs.WellFormed.{fault_count}

-- A fault that is stated where there was another adds at most one.
pub count_set : (faults : List Fault) (i : ℕ) (fault : Fault) → fault_count (set faults i fault) ≤ suc (fault_count faults)
unfolding fault_count
count_set [] i fault = omega arith
count_set (correct ∷ faults) zero correct = omega arith
count_set (correct ∷ faults) zero (crashes round point) = omega arith
count_set (crashes r q ∷ faults) zero correct = omega arith
count_set (crashes r q ∷ faults) zero (crashes round point) = omega arith
count_set (correct ∷ faults) (suc i) fault = count_set faults i fault
count_set (crashes r q ∷ faults) (suc i) fault = let less = count_set faults i fault in omega arith

-- No fault is stated where every process is correct.
pub faults_none : (n : ℕ) → fault_count (replicate n correct) ≡ 0
unfolding fault_count
faults_none zero = refl
faults_none (suc n) = faults_none n

-- What holds of each process's fault, and of a new one, holds with the new one in its place.
pub allowed_set : (P : ℕ → Fault → Type 0) (faults : List Fault) (q : ℕ) (fault : Fault) (p : ℕ) → 1 ≤ q → 1 ≤ p → p ≤ length faults
    → P q fault → P p (get_or faults (p - 1) correct) → P p (get_or (set faults (q - 1) fault) (p - 1) correct)
allowed_set P faults q fault p h g k new old =
    by_equal p q
    (λ (at : p ≡ q). rw (at, get_or-set_same faults (q - 1) fault correct (omega arith)) new)
    (λ other.
    let apart : p - 1 ≡ q - 1 → ⊥ = λ z. other (omega arith) in
    rw (get_or-set_other faults (q - 1) (p - 1) fault correct apart) old)
