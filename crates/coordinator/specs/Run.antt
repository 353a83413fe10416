-- A whole run: rounds 1 to t + 1, one after the other (document 01, 'A round'; document 001, Figure 1, line 2).
-- All t + 1 rounds are run. One that begins with no process up and undecided changes nothing and counts nothing, so the run has ended before it.
use Rattle.std.specs.Prelude.{List, map, ℕ, zero, suc, ◌+◌, cond}
use Rattle.consensus.specs.Instance.{Instance}
use Rattle.consensus.specs.State.{state_of}
use Rattle.consensus.specs.declared.State.{State}
use Rattle.consensus.specs.declared.State.TheVariants.{Undecided as undecided}
use Rattle.coordinator.specs.Round.{states_after}
use Rattle.coordinator.specs.Undecided.{any_undecided}
use Rattle.coordinator.specs.Count.{speaks, data_in, commits_in}
use Rattle.consensus.specs.CrashCount.{crash_count}

-- What a run has come to after some rounds.
pub record Run : Type 0 where
  -- the state of each process
  pub states : List State
  -- the last round that began with a process up and undecided
  pub rounds : ℕ
  -- the coordinators that began their own round up and undecided
  pub speakers : ℕ
  -- the data and the commit messages sent that count (document 02, Paper 4: those that were carried)
  pub data_sent : ℕ
  pub commits_sent : ℕ

-- Before round 1 every process holds its proposal.
unfoldable pub initial : Instance → Run
initial x = record { states = map undecided x.proposals; rounds = 0; speakers = 0; data_sent = 0; commits_sent = 0 }

-- One round more: round r.
unfoldable pub with_round : Instance → ℕ → Run → Run
with_round x r run =
    record {
      states = states_after x r run.states;
      rounds = cond (any_undecided run.states) r run.rounds;
      speakers = run.speakers + cond (speaks r run.states) 1 0;
      data_sent = run.data_sent + data_in x r run.states;
      commits_sent = run.commits_sent + commits_in x r run.states;
    }

-- The run after rounds 1 to r, which is also the run as round r + 1 begins.
unfoldable pub run_to : Instance → ℕ → Run
run_to x zero = initial x
run_to x (suc r) = with_round x (suc r) (run_to x r)

-- The last round that a run may have: t + 1.
abbrev pub last_round : Instance → ℕ
last_round x = suc x.resilience

-- The whole run.
unfoldable pub run_of : Instance → Run
run_of x = run_to x (last_round x)

-- f of a whole run: the failure lines that are not idle in it.
unfoldable pub crashes_of : Instance → ℕ
crashes_of x = crash_count x.pattern (run_of x).states

-- The end of a process in the coordinator's run, and the last round in which one may decide there: f + 1.
unfoldable pub end_of : Instance → ℕ → State
end_of x p = state_of (run_of x).states p

unfoldable pub latest_of : Instance → ℕ
latest_of x = suc (crashes_of x)
