-- Ends that the claims of demand 3 refuse, one for each claim, so that none of them is empty, and ends that they let pass (document 01, 'Questions a
-- reviewer puts to each contract': 'Which impostors must it catch?').
use Rattle.std.specs.Prelude.{List, [], ◌∷◌, ◌≡◌}
use Rattle.consensus.specs.Instance.{point_from}
use Rattle.consensus.specs.declared.CrashPoint.TheVariants.{BeforeSending as before_sending, DuringData as during_data, DuringCommits as during_commits}
use Rattle.consensus.specs.State.{state_of}
use Rattle.consensus.specs.declared.State.{State}
use Rattle.consensus.specs.declared.State.TheVariants.{Undecided as undecided, Decided as decided, Crashed as crashed}
use Rattle.consensus.specs.Consensus.{Agreement, Validity, Termination, DecidesBy, CrashesAsSaid, CrashesNoOther, CountsCrashes, NoLater}
use Rattle.consensus.specs.FourProcesses.{after_one_commit, data_to_the_last, idle_besides, idle_alone}

-- The ends of case 1, and of case 7, whose second line is idle; and those of case 8.
unfoldable pub case1_ends : List State
case1_ends = crashed 1 ∷ decided 2 10 ∷ decided 2 10 ∷ decided 1 10 ∷ []

unfoldable pub case8_ends : List State
case8_ends = decided 1 10 ∷ decided 1 10 ∷ decided 1 10 ∷ decided 1 10 ∷ []

-- Of case 5, where process 1 crashes in round 1, f is 1 and the others decide 20 in round 2; of case 7, where the line of process 4 is idle; of case 8,
-- where the one line is idle; and of case 1 against itself.
pub record Impostors : Type 0 where
  -- process 4 decides on the value alone: 10, and the others 20
  pub two_values : Agreement data_to_the_last (state_of (crashed 1 ∷ decided 2 20 ∷ decided 2 20 ∷ decided 1 10 ∷ [])) → ⊥
  -- the same of case 7: agreement is uniform, and holds of a process with a failure line too
  pub two_values_of_all : Agreement idle_besides (state_of (crashed 1 ∷ decided 2 20 ∷ decided 2 20 ∷ decided 1 10 ∷ [])) → ⊥
  -- one value for all tickets
  pub fixed_value : Validity data_to_the_last (state_of (crashed 1 ∷ decided 2 50 ∷ decided 2 50 ∷ decided 2 50 ∷ [])) → ⊥
  -- process 2 waits on
  pub waits_on : Termination data_to_the_last (state_of (crashed 1 ∷ undecided 20 ∷ decided 2 20 ∷ decided 2 20 ∷ [])) → ⊥
  -- process 4 decides after round f + 1
  pub decides_late : DecidesBy 2 data_to_the_last (state_of (crashed 1 ∷ decided 2 20 ∷ decided 2 20 ∷ decided 3 20 ∷ [])) → ⊥
  -- process 1 decides in the round of its crash
  pub decides_crashing : CrashesAsSaid data_to_the_last (state_of (decided 1 10 ∷ decided 2 10 ∷ decided 2 10 ∷ decided 2 10 ∷ [])) → ⊥
  -- process 1 crashes in round 2, and its line is of round 1
  pub crashes_later : CrashesAsSaid data_to_the_last (state_of (crashed 2 ∷ decided 2 20 ∷ decided 2 20 ∷ decided 2 20 ∷ [])) → ⊥
  -- process 2 crashes without a line
  pub crashes_unsaid : CrashesNoOther data_to_the_last (state_of (crashed 1 ∷ crashed 2 ∷ decided 3 30 ∷ decided 3 30 ∷ [])) → ⊥
  -- the idle line is counted
  pub counts_idle : CountsCrashes 1 idle_alone (state_of case8_ends) → ⊥
  -- process 4 decides another value in the second run
  pub decides_other :
      NoLater after_one_commit (state_of case1_ends) after_one_commit (state_of (crashed 1 ∷ decided 2 10 ∷ decided 2 10 ∷ decided 1 20 ∷ [])) → ⊥
  -- process 4 decides in the first alone
  pub decides_in_one :
      NoLater after_one_commit (state_of case1_ends) after_one_commit (state_of (crashed 1 ∷ decided 2 10 ∷ decided 2 10 ∷ undecided 10 ∷ [])) → ⊥
  -- process 4 decides a round later in the second run
  pub decides_later :
      NoLater after_one_commit (state_of case1_ends) after_one_commit (state_of (crashed 1 ∷ decided 2 10 ∷ decided 2 10 ∷ decided 2 10 ∷ [])) → ⊥

-- What f is of some ends, and that a run is no later than itself.
pub record Passed : Type 0 where
  -- cases 1 and 7: one process crashes, and an idle line besides is not counted
  pub one_crash : CountsCrashes 1 after_one_commit (state_of case1_ends)
  pub one_of_two_lines : CountsCrashes 1 idle_besides (state_of case1_ends)
  -- case 8: no process crashes
  pub no_crash : CountsCrashes 0 idle_alone (state_of case8_ends)
  -- a line is idle if its process decided in an earlier round, and not in the same one
  pub same_round : CountsCrashes 1 idle_alone (state_of (decided 1 10 ∷ decided 1 10 ∷ decided 2 10 ∷ decided 1 10 ∷ []))
  pub itself : NoLater after_one_commit (state_of case1_ends) after_one_commit (state_of case1_ends)

-- The crash point of each step, with the set of case 5 and the count of case 1 (document 01, 'The ticket': step 00 looks at neither, step 01 at the set,
-- step 02 at the count).
pub record CrashPoints : Type 0 where
  pub step00 : point_from 0 8 1 ≡ before_sending
  pub step01 : point_from 1 8 1 ≡ during_data 8
  pub step02 : point_from 2 8 1 ≡ during_commits 1

-- The claim.
pub record ClaimCases : Type 0 where
  pub refused : Impostors
  pub passed : Passed
  pub points : CrashPoints
