-- Runs worked out by hand (document 01, 'Worked runs', cases 1 to 9; 'The result', last paragraph, for the rounds that qualify for settling; document 02,
-- Papers 2 and 4, for what counts of what each process sent, Paper 6, for the settling round, and Paper 7, for the reasons).
-- Cases 1 to 12 as texts, with their results and refusals, are in crate answers.
use Rattle.std.specs.Prelude.{List, [], ◌∷◌, ◌++◌, ℕ}
use Rattle.consensus.specs.Instance.{Instance}
use Rattle.consensus.specs.declared.Fault.TheVariants.{Correct as correct, Crashes as crashes}
use Rattle.consensus.specs.declared.CrashPoint.TheVariants.{BeforeSending as before_sending, DuringData as during_data, DuringCommits as during_commits}
use Rattle.consensus.specs.declared.State.{State}
use Rattle.consensus.specs.declared.State.TheVariants.{Decided as decided, Crashed as crashed}
use Rattle.consensus.specs.FourProcesses.{four, first_crashes, after_one_commit, data_to_the_last, idle_besides, idle_alone}
use Rattle.consensus.specs.ClaimCases.{case1_ends, case8_ends}

-- An instance and what is looked at of its run.
pub record WorkedRun : Type 0 where
  pub run : Instance
  -- how every process ends
  pub ends : List State
  -- the last line of the result: the rounds, f, the speakers, the data and the commit messages
  pub counts : List ℕ
  -- the data messages that each process sent and that count, and the commit messages
  pub data_by : List ℕ
  pub commits_by : List ℕ
  -- the last round in which one may decide, f + 1, the most messages that may count with so many speakers, and the most commits
  pub limits : List ℕ
  -- the rounds that qualify for settling, and the settling round
  pub qualifying : List ℕ
  pub settling : ℕ
  -- the reasons of all processes, round by round
  pub reasons : List ℕ

-- Case 1: process 1 crashes after one commit.
abbrev pub case1 : WorkedRun
case1 =
    record {
      run = after_one_commit;
      ends = case1_ends;
      counts = 2 ∷ 1 ∷ 2 ∷ 4 ∷ 2 ∷ [];
      data_by = 3 ∷ 1 ∷ 0 ∷ 0 ∷ [];
      commits_by = 1 ∷ 1 ∷ 0 ∷ 0 ∷ [];
      limits = 2 ∷ 9 ∷ 2 ∷ [];
      qualifying = 1 ∷ 2 ∷ [];
      settling = 1;
      reasons = (6 ∷ 3 ∷ 3 ∷ 2 ∷ []) ++ (7 ∷ 1 ∷ 2 ∷ 7 ∷ []);
    }

-- Case 2: one process.
abbrev pub case2 : WorkedRun
case2 =
    record {
      run = record { processes = 1; resilience = 0; proposals = 10 ∷ []; pattern = correct ∷ [] };
      ends = decided 1 10 ∷ [];
      counts = 1 ∷ 0 ∷ 1 ∷ 0 ∷ 0 ∷ [];
      data_by = 0 ∷ [];
      commits_by = 0 ∷ [];
      limits = 1 ∷ 0 ∷ 0 ∷ [];
      qualifying = 1 ∷ [];
      settling = 1;
      reasons = 1 ∷ [];
    }

-- Case 3: process 1 crashes after all its commits, and does not decide.
abbrev pub case3 : WorkedRun
case3 =
    record {
      run = first_crashes (during_commits 3);
      ends = crashed 1 ∷ decided 1 10 ∷ decided 1 10 ∷ decided 1 10 ∷ [];
      counts = 1 ∷ 1 ∷ 1 ∷ 3 ∷ 3 ∷ [];
      data_by = 3 ∷ 0 ∷ 0 ∷ 0 ∷ [];
      commits_by = 3 ∷ 0 ∷ 0 ∷ 0 ∷ [];
      limits = 2 ∷ 6 ∷ 3 ∷ [];
      qualifying = 1 ∷ [];
      settling = 1;
      reasons = 6 ∷ 2 ∷ 2 ∷ 2 ∷ [];
    }

-- Case 4: process 1 crashes while sending data, which reaches process 2 alone.
abbrev pub case4 : WorkedRun
case4 =
    record {
      run = first_crashes (during_data 2);
      ends = crashed 1 ∷ decided 2 10 ∷ decided 2 10 ∷ decided 2 10 ∷ [];
      counts = 2 ∷ 1 ∷ 2 ∷ 3 ∷ 2 ∷ [];
      data_by = 1 ∷ 2 ∷ 0 ∷ 0 ∷ [];
      commits_by = 0 ∷ 2 ∷ 0 ∷ 0 ∷ [];
      limits = 2 ∷ 9 ∷ 2 ∷ [];
      qualifying = 2 ∷ [];
      settling = 2;
      reasons = (6 ∷ 3 ∷ 5 ∷ 5 ∷ []) ++ (7 ∷ 1 ∷ 2 ∷ 2 ∷ []);
    }

-- Case 5: the same, and it reaches process 4 alone.
abbrev pub case5 : WorkedRun
case5 =
    record {
      run = data_to_the_last;
      ends = crashed 1 ∷ decided 2 20 ∷ decided 2 20 ∷ decided 2 20 ∷ [];
      counts = 2 ∷ 1 ∷ 2 ∷ 3 ∷ 2 ∷ [];
      data_by = 1 ∷ 2 ∷ 0 ∷ 0 ∷ [];
      commits_by = 0 ∷ 2 ∷ 0 ∷ 0 ∷ [];
      limits = 2 ∷ 9 ∷ 2 ∷ [];
      qualifying = 2 ∷ [];
      settling = 2;
      reasons = (6 ∷ 5 ∷ 5 ∷ 3 ∷ []) ++ (7 ∷ 1 ∷ 2 ∷ 2 ∷ []);
    }

-- Case 6: processes 1 and 2 crash before sending in round 1.
abbrev pub case6 : WorkedRun
case6 =
    record {
      run = four (crashes 1 before_sending ∷ crashes 1 before_sending ∷ correct ∷ correct ∷ []);
      ends = crashed 1 ∷ crashed 1 ∷ decided 3 30 ∷ decided 3 30 ∷ [];
      counts = 3 ∷ 2 ∷ 2 ∷ 1 ∷ 1 ∷ [];
      data_by = 0 ∷ 0 ∷ 1 ∷ 0 ∷ [];
      commits_by = 0 ∷ 0 ∷ 1 ∷ 0 ∷ [];
      limits = 3 ∷ 9 ∷ 2 ∷ [];
      qualifying = 3 ∷ [];
      settling = 3;
      reasons = (6 ∷ 6 ∷ 5 ∷ 5 ∷ []) ++ (7 ∷ 7 ∷ 4 ∷ 4 ∷ []) ++ (7 ∷ 7 ∷ 1 ∷ 2 ∷ []);
    }

-- Case 7: case 1 with a line of process 4, which is idle.
abbrev pub case7 : WorkedRun
case7 =
    record {
      run = idle_besides;
      ends = case1_ends;
      counts = 2 ∷ 1 ∷ 2 ∷ 4 ∷ 2 ∷ [];
      data_by = 3 ∷ 1 ∷ 0 ∷ 0 ∷ [];
      commits_by = 1 ∷ 1 ∷ 0 ∷ 0 ∷ [];
      limits = 2 ∷ 9 ∷ 2 ∷ [];
      qualifying = 1 ∷ 2 ∷ [];
      settling = 1;
      reasons = (6 ∷ 3 ∷ 3 ∷ 2 ∷ []) ++ (7 ∷ 1 ∷ 2 ∷ 7 ∷ []);
    }

-- Case 8: only a line of process 3, which is idle.
abbrev pub case8 : WorkedRun
case8 =
    record {
      run = idle_alone;
      ends = case8_ends;
      counts = 1 ∷ 0 ∷ 1 ∷ 3 ∷ 3 ∷ [];
      data_by = 3 ∷ 0 ∷ 0 ∷ 0 ∷ [];
      commits_by = 3 ∷ 0 ∷ 0 ∷ 0 ∷ [];
      limits = 1 ∷ 6 ∷ 3 ∷ [];
      qualifying = 1 ∷ [];
      settling = 1;
      reasons = 1 ∷ 2 ∷ 2 ∷ 2 ∷ [];
    }

-- Only a line of process 1, of a round after its own: it sends all its messages, and the line is idle.
abbrev pub idle_coordinator : WorkedRun
idle_coordinator =
    record {
      run = four (crashes 2 before_sending ∷ correct ∷ correct ∷ correct ∷ []);
      ends = case8_ends;
      counts = 1 ∷ 0 ∷ 1 ∷ 3 ∷ 3 ∷ [];
      data_by = 3 ∷ 0 ∷ 0 ∷ 0 ∷ [];
      commits_by = 3 ∷ 0 ∷ 0 ∷ 0 ∷ [];
      limits = 1 ∷ 6 ∷ 3 ∷ [];
      qualifying = 1 ∷ [];
      settling = 1;
      reasons = 1 ∷ 2 ∷ 2 ∷ 2 ∷ [];
    }

-- The instance of case 9, and how its processes end.
abbrev pub ten_processes : Instance
ten_processes =
    record {
      processes = 10;
      resilience = 9;
      proposals = 10 ∷ 20 ∷ 30 ∷ 40 ∷ 50 ∷ 60 ∷ 70 ∷ 80 ∷ 90 ∷ 100 ∷ [];
      pattern =
          crashes 1 (during_commits 3) ∷ crashes 2 (during_commits 3) ∷ crashes 3 (during_commits 3) ∷ crashes 4 (during_commits 3)
          ∷ crashes 5 (during_commits 3) ∷ crashes 6 (during_commits 3) ∷ crashes 7 (during_commits 3)
          ∷ crashes 1 before_sending ∷ crashes 1 before_sending ∷ correct ∷ [];
    }

abbrev pub nine_crashed : List State
nine_crashed = crashed 1 ∷ crashed 2 ∷ crashed 3 ∷ crashed 4 ∷ crashed 5 ∷ crashed 6 ∷ crashed 7 ∷ crashed 1 ∷ crashed 1 ∷ decided 1 10 ∷ []

-- Case 9: processes 8 and 9 get no commit, for they crash in round 1, and none gets it in their place; the commits to them count in round 1 alone. The
-- bound on commits is met.
abbrev pub case9 : WorkedRun
case9 =
    record {
      run = ten_processes;
      ends = nine_crashed;
      counts = 7 ∷ 9 ∷ 7 ∷ 24 ∷ 3 ∷ [];
      data_by = 9 ∷ 5 ∷ 4 ∷ 3 ∷ 2 ∷ 1 ∷ 0 ∷ 0 ∷ 0 ∷ 0 ∷ [];
      commits_by = 3 ∷ 0 ∷ 0 ∷ 0 ∷ 0 ∷ 0 ∷ 0 ∷ 0 ∷ 0 ∷ 0 ∷ [];
      limits = 10 ∷ 63 ∷ 3 ∷ [];
      qualifying = 1 ∷ 2 ∷ 3 ∷ 4 ∷ 5 ∷ 6 ∷ 7 ∷ [];
      settling = 1;
      reasons = (6 ∷ 3 ∷ 3 ∷ 3 ∷ 3 ∷ 3 ∷ 3 ∷ 6 ∷ 6 ∷ 2 ∷ []) ++ (7 ∷ 6 ∷ 3 ∷ 3 ∷ 3 ∷ 3 ∷ 3 ∷ 7 ∷ 7 ∷ 7 ∷ []) ++ (7 ∷ 7 ∷ 6 ∷ 3 ∷ 3 ∷ 3 ∷ 3 ∷ 7 ∷ 7 ∷ 7 ∷ []) ++ (7 ∷ 7 ∷ 7 ∷ 6 ∷ 3 ∷ 3 ∷ 3 ∷ 7 ∷ 7 ∷ 7 ∷ []) ++ (7 ∷ 7 ∷ 7 ∷ 7 ∷ 6 ∷ 3 ∷ 3 ∷ 7 ∷ 7 ∷ 7 ∷ []) ++ (7 ∷ 7 ∷ 7 ∷ 7 ∷ 7 ∷ 6 ∷ 3 ∷ 7 ∷ 7 ∷ 7 ∷ []) ++ (7 ∷ 7 ∷ 7 ∷ 7 ∷ 7 ∷ 7 ∷ 6 ∷ 7 ∷ 7 ∷ 7 ∷ []);
    }

-- Process 2 is up in round 1 and crashed in round 2: so round 2 qualifies, and round 1 does not.
abbrev pub crashes_later : WorkedRun
crashes_later =
    record {
      run = record { processes = 3; resilience = 2; proposals = 10 ∷ 20 ∷ 30 ∷ []; pattern = crashes 1 before_sending ∷ crashes 2 before_sending ∷ correct ∷ [] };
      ends = crashed 1 ∷ crashed 2 ∷ decided 3 30 ∷ [];
      counts = 3 ∷ 2 ∷ 3 ∷ 0 ∷ 0 ∷ [];
      data_by = 0 ∷ 0 ∷ 0 ∷ [];
      commits_by = 0 ∷ 0 ∷ 0 ∷ [];
      limits = 3 ∷ 3 ∷ 0 ∷ [];
      qualifying = 2 ∷ 3 ∷ [];
      settling = 2;
      reasons = (6 ∷ 5 ∷ 5 ∷ []) ++ (7 ∷ 6 ∷ 5 ∷ []) ++ (7 ∷ 7 ∷ 1 ∷ []);
    }

-- The last round is silent: its coordinator crashed in round 1, and the one process that waits crashes in it.
abbrev pub silent_at_last : WorkedRun
silent_at_last =
    record {
      run = record { processes = 4; resilience = 3; proposals = 10 ∷ 20 ∷ 30 ∷ 40 ∷ []; pattern = crashes 1 (during_commits 1) ∷ crashes 1 before_sending ∷ crashes 2 before_sending ∷ correct ∷ [] };
      ends = crashed 1 ∷ crashed 1 ∷ crashed 2 ∷ decided 1 10 ∷ [];
      counts = 2 ∷ 3 ∷ 1 ∷ 3 ∷ 1 ∷ [];
      data_by = 3 ∷ 0 ∷ 0 ∷ 0 ∷ [];
      commits_by = 1 ∷ 0 ∷ 0 ∷ 0 ∷ [];
      limits = 4 ∷ 6 ∷ 3 ∷ [];
      qualifying = 1 ∷ 2 ∷ [];
      settling = 1;
      reasons = (6 ∷ 6 ∷ 3 ∷ 2 ∷ []) ++ (7 ∷ 7 ∷ 6 ∷ 7 ∷ []);
    }

-- All data leave, and no commit does.
abbrev pub no_commit : WorkedRun
no_commit =
    record {
      run = first_crashes (during_commits 0);
      ends = crashed 1 ∷ decided 2 10 ∷ decided 2 10 ∷ decided 2 10 ∷ [];
      counts = 2 ∷ 1 ∷ 2 ∷ 5 ∷ 2 ∷ [];
      data_by = 3 ∷ 2 ∷ 0 ∷ 0 ∷ [];
      commits_by = 0 ∷ 2 ∷ 0 ∷ 0 ∷ [];
      limits = 2 ∷ 9 ∷ 2 ∷ [];
      qualifying = 1 ∷ 2 ∷ [];
      settling = 1;
      reasons = (6 ∷ 3 ∷ 3 ∷ 3 ∷ []) ++ (7 ∷ 1 ∷ 2 ∷ 2 ∷ []);
    }

-- The data reach processes 2 and 3, so that process 4 alone holds another value.
abbrev pub two_reached : WorkedRun
two_reached =
    record {
      run = first_crashes (during_data 6);
      ends = crashed 1 ∷ decided 2 10 ∷ decided 2 10 ∷ decided 2 10 ∷ [];
      counts = 2 ∷ 1 ∷ 2 ∷ 4 ∷ 2 ∷ [];
      data_by = 2 ∷ 2 ∷ 0 ∷ 0 ∷ [];
      commits_by = 0 ∷ 2 ∷ 0 ∷ 0 ∷ [];
      limits = 2 ∷ 9 ∷ 2 ∷ [];
      qualifying = 2 ∷ [];
      settling = 2;
      reasons = (6 ∷ 3 ∷ 3 ∷ 5 ∷ []) ++ (7 ∷ 1 ∷ 2 ∷ 2 ∷ []);
    }

-- In round 2 data are sent to the set of processes 3 to 6, and those to processes 3 and 4 count: process 4 crashes in this very round, process 5 crashed in
-- round 1, and process 6 has decided. In round 3 process 3 sends to processes that have all ended, and nothing counts.
abbrev pub set_partly_counted : WorkedRun
set_partly_counted =
    record {
      run = record { processes = 6; resilience = 4; proposals = 10 ∷ 20 ∷ 30 ∷ 40 ∷ 50 ∷ 60 ∷ []; pattern = crashes 1 (during_commits 1) ∷ crashes 2 (during_data 60) ∷ correct ∷ crashes 2 before_sending ∷ crashes 1 before_sending ∷ correct ∷ [] };
      ends = crashed 1 ∷ crashed 2 ∷ decided 3 10 ∷ crashed 2 ∷ crashed 1 ∷ decided 1 10 ∷ [];
      counts = 3 ∷ 4 ∷ 3 ∷ 7 ∷ 1 ∷ [];
      data_by = 5 ∷ 2 ∷ 0 ∷ 0 ∷ 0 ∷ 0 ∷ [];
      commits_by = 1 ∷ 0 ∷ 0 ∷ 0 ∷ 0 ∷ 0 ∷ [];
      limits = 5 ∷ 21 ∷ 3 ∷ [];
      qualifying = 1 ∷ 2 ∷ 3 ∷ [];
      settling = 1;
      reasons = (6 ∷ 3 ∷ 3 ∷ 3 ∷ 6 ∷ 2 ∷ []) ++ (7 ∷ 6 ∷ 3 ∷ 6 ∷ 7 ∷ 7 ∷ []) ++ (7 ∷ 7 ∷ 1 ∷ 7 ∷ 7 ∷ 7 ∷ []);
    }

-- In round 2 commits are sent to processes 6 and 5, and that to process 5 counts: process 6 has decided. In round 3 what process 3, which does not crash, sends
-- to process 4 counts, although process 4 crashes in that round; processes 5 and 6 have decided. The bound on commits is met.
abbrev pub commits_partly_counted : WorkedRun
commits_partly_counted =
    record {
      run = record { processes = 6; resilience = 3; proposals = 10 ∷ 20 ∷ 30 ∷ 40 ∷ 50 ∷ 60 ∷ []; pattern = crashes 1 (during_commits 1) ∷ crashes 2 (during_commits 2) ∷ correct ∷ crashes 3 before_sending ∷ correct ∷ correct ∷ [] };
      ends = crashed 1 ∷ crashed 2 ∷ decided 3 10 ∷ crashed 3 ∷ decided 2 10 ∷ decided 1 10 ∷ [];
      counts = 3 ∷ 3 ∷ 3 ∷ 9 ∷ 3 ∷ [];
      data_by = 5 ∷ 3 ∷ 1 ∷ 0 ∷ 0 ∷ 0 ∷ [];
      commits_by = 1 ∷ 1 ∷ 1 ∷ 0 ∷ 0 ∷ 0 ∷ [];
      limits = 4 ∷ 21 ∷ 3 ∷ [];
      qualifying = 1 ∷ 2 ∷ 3 ∷ [];
      settling = 1;
      reasons = (6 ∷ 3 ∷ 3 ∷ 3 ∷ 3 ∷ 2 ∷ []) ++ (7 ∷ 6 ∷ 3 ∷ 3 ∷ 2 ∷ 7 ∷ []) ++ (7 ∷ 7 ∷ 1 ∷ 6 ∷ 7 ∷ 7 ∷ []);
    }

-- Process 1 crashes before sending, and all propose one value: round 1 qualifies, although nothing was sent in it.
abbrev pub equal_proposals : WorkedRun
equal_proposals =
    record {
      run = record { processes = 3; resilience = 1; proposals = 7 ∷ 7 ∷ 7 ∷ []; pattern = crashes 1 before_sending ∷ correct ∷ correct ∷ [] };
      ends = crashed 1 ∷ decided 2 7 ∷ decided 2 7 ∷ [];
      counts = 2 ∷ 1 ∷ 2 ∷ 1 ∷ 1 ∷ [];
      data_by = 0 ∷ 1 ∷ 0 ∷ [];
      commits_by = 0 ∷ 1 ∷ 0 ∷ [];
      limits = 2 ∷ 5 ∷ 1 ∷ [];
      qualifying = 1 ∷ 2 ∷ [];
      settling = 1;
      reasons = (6 ∷ 5 ∷ 5 ∷ []) ++ (7 ∷ 1 ∷ 2 ∷ []);
    }

-- The same with other proposals, of which one is 0: round 1 does not qualify.
abbrev pub value_zero : WorkedRun
value_zero =
    record {
      run = record { processes = 3; resilience = 1; proposals = 10 ∷ 0 ∷ 20 ∷ []; pattern = crashes 1 before_sending ∷ correct ∷ correct ∷ [] };
      ends = crashed 1 ∷ decided 2 0 ∷ decided 2 0 ∷ [];
      counts = 2 ∷ 1 ∷ 2 ∷ 1 ∷ 1 ∷ [];
      data_by = 0 ∷ 1 ∷ 0 ∷ [];
      commits_by = 0 ∷ 1 ∷ 0 ∷ [];
      limits = 2 ∷ 5 ∷ 1 ∷ [];
      qualifying = 2 ∷ [];
      settling = 2;
      reasons = (6 ∷ 5 ∷ 5 ∷ []) ++ (7 ∷ 1 ∷ 2 ∷ []);
    }

-- All of them.
unfoldable pub worked_runs : List WorkedRun
worked_runs =
    case1 ∷ case2 ∷ case3 ∷ case4 ∷ case5 ∷ case6 ∷ case7 ∷ case8 ∷ case9 ∷ crashes_later ∷ silent_at_last ∷ no_commit ∷ two_reached
    ∷ set_partly_counted ∷ commits_partly_counted ∷ equal_proposals ∷ value_zero ∷ idle_coordinator ∷ []
