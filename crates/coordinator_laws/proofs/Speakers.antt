-- Speakers, the coordinators that begin their own round up and undecided (document 01, 'A round'): what a round adds to the counts, and that the commits
-- and the speakers of some rounds, with the processes still undecided after them, are at most as many as there are processes. Assumes nothing.
use mathlib.Core.Path.{◌≡◌, refl}
use mathlib.Core.Bool.{true, false}
use Prim.Native.Nat.{ℕ, zero, suc, ◌+◌, ◌≤◌, ◌<◌}
use native.Mathlib.Omega.{arith}
use lib.ListN.{length}
use Rattle.general.proofs.Indexed.{count_le}
use Rattle.consensus.specs.Instance.{Instance}
use Rattle.coordinator.specs.Undecided.{is_undecided}
use Rattle.coordinator.specs.Count.{speaks, carried_in, data_in, commits_in}
use Rattle.coordinator.specs.Run.{Run, initial, with_round, run_to}
use Rattle.coordinator_laws.proofs.Pointwise.{state_at, state_at_lem, length-states}
use Rattle.coordinator_laws.proofs.Carried.{undecided_count, fewer_undecided}

-- What one run has counted beyond another.
pub record Adds (run run' : Run) (spoken estimates commits : ℕ) : Type 0 where
  pub speakers : run'.speakers ≡ run.speakers + spoken
  pub data_sent : run'.data_sent ≡ run.data_sent + estimates
  pub commits_sent : run'.commits_sent ≡ run.commits_sent + commits

module _ (x : Instance) (r : ℕ) (run : Run) where
  -- A round whose coordinator is no speaker adds nothing.
  pub silent_adds : speaks r run.states ≡ false → Adds run (with_round x r run) 0 0 0
  unfolding with_round data_in commits_in carried_in
  silent_adds e = record { speakers = rw e; data_sent = rw e; commits_sent = rw e }

  -- A round whose coordinator is one adds it and its messages.
  pub speaker_adds : speaks r run.states ≡ true → Adds run (with_round x r run) 1 (data_in x r run.states) (commits_in x r run.states)
  unfolding with_round
  speaker_adds e = record { speakers = rw e; data_sent = refl; commits_sent = refl }

module _ (x : Instance) where
  -- Whether the coordinator of round r + 1 is a speaker, in the function form of the run.
  pub speaks_at : (r : ℕ) → r < length x.proposals → speaks (suc r) (run_to x r).states ≡ is_undecided (state_at x r (suc r))
  unfolding speaks
  speaks_at r h = rw (state_at_lem x r (suc r) (omega arith) (omega arith) h)

  -- Every process is at most once a speaker, or gets a commit that counts, or is still undecided: the three together never rise, and begin with all.
  pub speakers_with_commits : (r : ℕ) → r ≤ length x.proposals
      → (run_to x r).commits_sent + (run_to x r).speakers + undecided_count (run_to x r).states ≤ length x.proposals
  unfolding run_to initial with_round undecided_count
  speakers_with_commits zero h = omega (arith, count_le (λ p s. is_undecided s) 1 (run_to x 0).states, length-states x 0)
  speakers_with_commits (suc r) h =
      omega (arith, speakers_with_commits r (omega arith), fewer_undecided x (suc r) (run_to x r).states (omega arith) (rw length-states h))
