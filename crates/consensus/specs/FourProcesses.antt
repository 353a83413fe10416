-- Instances of four processes (document 01, 'Worked runs': "Cases 2 to 8 and 12 use case 1's n, t and proposals unless said").
use Rattle.std.specs.Prelude.{List, [], ◌∷◌}
use Rattle.consensus.specs.Instance.{Instance}
use Rattle.consensus.specs.declared.Fault.{Fault}
use Rattle.consensus.specs.declared.Fault.TheVariants.{Correct as correct, Crashes as crashes}
use Rattle.consensus.specs.declared.CrashPoint.{CrashPoint}
use Rattle.consensus.specs.declared.CrashPoint.TheVariants.{BeforeSending as before_sending, DuringData as during_data, DuringCommits as during_commits}

-- Case 1's n, t and proposals.
unfoldable pub four : List Fault → Instance
four faults = record { processes = 4; resilience = 2; proposals = 10 ∷ 20 ∷ 30 ∷ 40 ∷ []; pattern = faults }

-- Process 1 alone crashes, in its round, at this point.
unfoldable pub first_crashes : CrashPoint → Instance
first_crashes point = four (crashes 1 point ∷ correct ∷ correct ∷ correct ∷ [])

-- Case 1: process 1 crashes after one commit. Case 5: it crashes while sending data, which reaches process 4 alone.
unfoldable pub after_one_commit : Instance
after_one_commit = first_crashes (during_commits 1)

unfoldable pub data_to_the_last : Instance
data_to_the_last = first_crashes (during_data 8)

-- Case 7: case 1 with a failure line of process 4, of round 2. Case 8: such a line of process 3 alone.
unfoldable pub idle_besides : Instance
idle_besides = four (crashes 1 (during_commits 1) ∷ correct ∷ correct ∷ crashes 2 before_sending ∷ [])

unfoldable pub idle_alone : Instance
idle_alone = four (correct ∷ correct ∷ crashes 2 before_sending ∷ correct ∷ [])
