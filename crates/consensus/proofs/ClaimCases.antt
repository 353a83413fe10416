-- The claims of demand 3 refuse and let pass the ends of specs/ClaimCases. Assumes nothing.
use mathlib.Core.List.{[], ◌∷◌}
use mathlib.Core.Path.{◌≡◌, refl}
use Prim.Native.Nat.{ℕ, zero, suc, ◌-◌, ◌≤◌}
use native.Mathlib.Omega.{arith}
use lib.ListN.{get_or}
use Rattle.general.specs.Indexed.{map_from}
use Rattle.consensus.specs.Instance.{point_from, Instance, fault_of, proposal_of}
use Rattle.consensus.specs.declared.Fault.TheVariants.{Correct as correct, Crashes as crashes}
use Rattle.consensus.specs.declared.CrashPoint.{CrashPoint}
use Rattle.consensus.specs.declared.CrashPoint.TheVariants.{DuringData as during_data}
use Rattle.consensus.specs.State.{state_of}
use Rattle.consensus.specs.declared.State.{State}
use Rattle.consensus.specs.declared.State.TheVariants.{Undecided as undecided, Decided as decided, Crashed as crashed}
use Rattle.consensus.specs.CrashCount.{is_idle, counts_as_crash, crash_count}
use Rattle.consensus.specs.FourProcesses.{four, first_crashes, after_one_commit, data_to_the_last, idle_besides, idle_alone}
use Rattle.consensus.specs.ClaimCases.{case1_ends, case8_ends, Impostors, Passed, CrashPoints, ClaimCases}
use Rattle.consensus.specs.Consensus.{Decides, Agreement, Validity, Termination, DecidesBy, CrashesAsSaid, CrashesNoOther, CountsCrashes, NoLater, ends_of}

-- None of case 1's proposals is 50.
not_proposed : (k : ℕ) → ◌≡◌ {A = ℕ} (get_or (10 ∷ 20 ∷ 30 ∷ 40 ∷ []) k 0) 50 → ⊥
not_proposed zero e = omega arith
not_proposed (suc zero) e = omega arith
not_proposed (suc (suc zero)) e = omega arith
not_proposed (suc (suc (suc zero))) e = omega arith
not_proposed (suc (suc (suc (suc k)))) e = omega arith

correct_no_line : (r : ℕ) (point : CrashPoint) → correct ≡ crashes r point → ⊥
correct_no_line r point e = let z : ◌≡◌ {A = ℕ} 0 1 = cc in omega arith

waiting_undecided : (v r w : ℕ) → undecided v ≡ decided r w → ⊥
waiting_undecided v r w e = let z : ◌≡◌ {A = ℕ} 0 1 = cc in omega arith

decided_up : (r v j : ℕ) → decided r v ≡ crashed j → ⊥
decided_up r v j e = let z : ◌≡◌ {A = ℕ} 0 1 = cc in omega arith

crashed_once : (r j : ℕ) → crashed r ≡ crashed j → r ≡ j
crashed_once r j e = cc

-- What `NoLater` asks of the end of process 4, which decides 10 in case 1.
decides_ten : (x : Instance) (ends : ℕ → State) (s : ℕ) → Decides x ends 4 s 10 → ends 4 ≡ decided s 10
decides_ten x ends s d = d.state

same_decision : (r v s w : ℕ) → decided r v ≡ decided s w → (r ≡ s) × (v ≡ w)
same_decision r v s w e = (cc, cc)

impostors : Impostors
unfolding Agreement Validity Termination DecidesBy CrashesAsSaid CrashesNoOther CountsCrashes NoLater ends_of is_idle counts_as_crash crash_count map_from fault_of proposal_of state_of four first_crashes after_one_commit data_to_the_last idle_besides idle_alone case1_ends case8_ends
impostors =
    record {
      two_values = λ h.
          let same : ◌≡◌ {A = ℕ} 20 10 = h 2 4 2 1 20 10 (record { process = omega arith; state = refl }) (record { process = omega arith; state = refl }) in
          omega arith;
      two_values_of_all = λ h.
          let same : ◌≡◌ {A = ℕ} 20 10 = h 2 4 2 1 20 10 (record { process = omega arith; state = refl }) (record { process = omega arith; state = refl }) in
          omega arith;
      fixed_value = λ h. let (q, process, e) = h 2 2 50 (record { process = omega arith; state = refl }) in not_proposed (q - 1) e;
      waits_on = λ h. let (r, v, d) = h 2 (omega arith) (λ r c. correct_no_line r c.point c.line) in waiting_undecided 20 r v d.state;
      decides_late = λ h. let early : 3 ≤ 2 = h 4 3 20 (record { process = omega arith; state = refl }) in omega arith;
      decides_crashing = λ h. decided_up 1 10 1 (h 1 1 (record { process = omega arith; point = during_data 8; line = refl; not_idle = refl }));
      crashes_later = λ h.
          let same : ◌≡◌ {A = ℕ} 2 1 = crashed_once 2 1 (h 1 1 (record { process = omega arith; point = during_data 8; line = refl; not_idle = refl })) in
          omega arith;
      crashes_unsaid = λ h. let c = h 2 2 (omega arith) refl in correct_no_line 2 c.point c.line;
      counts_idle = λ h. let same : ◌≡◌ {A = ℕ} 1 0 = h in omega arith;
      decides_other = λ h.
          let (s, sooner, d) = h 4 1 10 (record { process = omega arith; state = refl }) in
          let same = same_decision 1 20 s 10 (decides_ten _ _ s d) in
          omega (arith, same.1);
      decides_in_one = λ h.
          let (s, sooner, d) = h 4 1 10 (record { process = omega arith; state = refl }) in
          waiting_undecided 10 s 10 (decides_ten _ _ s d);
      decides_later = λ h.
          let (s, sooner, d) = h 4 1 10 (record { process = omega arith; state = refl }) in
          let same = same_decision 2 10 s 10 (decides_ten _ _ s d) in
          omega (arith, sooner, same.0);
    }

passed : Passed
unfolding CountsCrashes NoLater ends_of is_idle counts_as_crash crash_count map_from state_of four first_crashes after_one_commit idle_besides idle_alone case1_ends case8_ends
passed =
    record { one_crash = refl; one_of_two_lines = refl; no_crash = refl; same_round = refl; itself = λ p r v d. (r, omega arith, d) }

points : CrashPoints
unfolding point_from
points = record { step00 = refl; step01 = refl; step02 = refl }

pub claim_cases : ClaimCases
claim_cases = record { refused = impostors; passed = passed; points = points }
