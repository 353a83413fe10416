-- The bound by speakers (specs/SpeakerBound): the data by an induction on the rounds, the commits by `speakers_with_commits`. For well-formed instances.
-- Assumes nothing else.
use mathlib.Core.Path.{◌≡◌, refl, subst, ◌∙◌}
use mathlib.Core.Bool.{Bool, true, false}
use Prim.Native.Nat.{ℕ, zero, suc, ◌+◌, ◌-◌, ◌*◌, ◌≤◌, ◌<◌}
use native.Mathlib.Omega.{arith}
use Rattle.consensus.specs.Instance.{Instance}
use Rattle.coordinator.specs.Undecided.{is_undecided}
use Rattle.coordinator.specs.Run.{Run, initial, run_to, run_of, crashes_of, last_round}
use Rattle.coordinator.specs.WellFormed.{WellFormed}
use Rattle.coordinator.specs.SpeakerLimits.{bound_by_speakers}
use Rattle.coordinator_laws.specs.SpeakerBound.{SpeakerBound}
use Rattle.coordinator_laws.proofs.Pointwise.{state_at, length-states}
use Rattle.coordinator_laws.proofs.Undecided.{value_of_undecided}
use Rattle.coordinator_laws.proofs.Carried.{data_in_le}
use Rattle.coordinator_laws.proofs.Counts.{speakers_le}
use Rattle.coordinator_laws.proofs.Termination.{waits_for_crashes}
use Rattle.coordinator_laws.proofs.Speakers.{Adds, silent_adds, speaker_adds, speaks_at, speakers_with_commits}

-- What some rounds, with f crashes in the run, have come to: speaker number j speaks in round j or later, and sends data to those above it; without a
-- speaker there is no commit.
record Bounded (n f : ℕ) (run : Run) : Type 0 where
  speakers : run.speakers ≤ suc f
  estimates : 2 * run.data_sent + run.speakers * suc run.speakers ≤ 2 * (run.speakers * n)
  no_commits : run.speakers ≡ 0 → run.commits_sent ≡ 0

-- A silent round changes nothing.
silent_bounded : {n f : ℕ} {run run' : Run} → Adds run run' 0 0 0 → Bounded n f run → Bounded n f run'
silent_bounded {run = run} {run'} adds before =
    let same : run'.speakers ≡ run.speakers = omega arith in
    record { speakers = omega arith; estimates = rw same (omega arith); no_commits = λ none. omega (arith, before.no_commits (omega arith)) }

-- A speaker of round r + 1, after at most r others.
data_grow : (estimates d k r n : ℕ) → 2 * estimates + k * suc k ≤ 2 * (k * n) → k ≤ r → suc r ≤ n → d ≤ n - suc r
    → 2 * (estimates + d) + suc k * suc (suc k) ≤ 2 * (suc k * n)
data_grow estimates d k r n h g i e = omega arith

speaker_bounded : {n r f e a : ℕ} {run run' : Run} → run.speakers ≤ r → suc r ≤ n → r ≤ f → Adds run run' 1 e a → e ≤ n - suc r
    → Bounded n f run → Bounded n f run'
speaker_bounded {n} {r} {e = e} {run = run} {run'} h g few adds he before =
    let next : run'.speakers ≡ suc run.speakers = omega arith in
    record {
      speakers = omega arith;
      estimates = rw (next, adds.data_sent) (data_grow _ e _ r n before.estimates h g he);
      no_commits = λ none. absurd (let z : ⊥ = omega arith in z);
    }

-- Both together, of j + 1 speakers among d + j + 1 processes.
total_at : (estimates commits j d : ℕ) → 2 * estimates + suc j * suc (suc j) ≤ 2 * (suc j * (d + suc j)) → commits ≤ d
    → 2 * (estimates + commits) + suc j * j ≤ 2 * (suc j * (2 * d + j))
total_at estimates commits j d h g = omega arith

-- Of k speakers among n: the bound doubled, with what it subtracts on the other side.
total : (estimates commits k n : ℕ) → k ≤ n → 2 * estimates + k * suc k ≤ 2 * (k * n) → (k ≡ 0 → commits ≡ 0) → commits ≤ n - k
    → 2 * (estimates + commits) + k * (k - 1) ≤ 2 * (k * (2 * n - k - 1))
total estimates commits zero n h e z c = omega (arith, z refl)
total estimates commits (suc j) n h e z c =
    let split : n ≡ n - suc j + suc j = omega arith in
    let before : suc j - 1 ≡ j = omega arith in
    let others : 2 * n - suc j - 1 ≡ 2 * (n - suc j) + j = omega arith in
    rw (before, others) (total_at estimates commits j (n - suc j) (subst (λ (m : ℕ). 2 * estimates + suc j * suc (suc j) ≤ 2 * (suc j * m)) split e) c)

-- The bound itself.
halved : (n k messages : ℕ) → 2 * messages + k * (k - 1) ≤ 2 * (k * (2 * n - k - 1)) → messages ≤ bound_by_speakers n k
halved n k messages h = omega arith

module _ (x : Instance) (formed : WellFormed x) where
  -- The speaker of a round has waited for all rounds before.
  bounded_step : (m : ℕ) → m < last_round x → Bounded x.processes (crashes_of x) (run_to x m) → Bounded x.processes (crashes_of x) (run_to x (suc m))
  unfolding run_to
  bounded_step m h before = by_test (is_undecided (state_at x m (suc m))) refl
    where
      by_test : (b : Bool) → is_undecided (state_at x m (suc m)) ≡ b → Bounded x.processes (crashes_of x) (run_to x (suc m))
      by_test false silent = silent_bounded (silent_adds x (suc m) (run_to x m) (speaks_at x m (omega arith) ∙ silent)) before
      by_test true spoke =
          let adds = speaker_adds x (suc m) (run_to x m) (speaks_at x m (omega arith) ∙ spoke) in
          let (u, own) = value_of_undecided _ spoke in
          let few = waits_for_crashes x formed m (suc m) u (omega arith) (omega arith) own in
          let estimates-le = data_in_le x (suc m) (run_to x m).states in
          speaker_bounded (speakers_le x m) (omega arith) few adds (omega (arith, estimates-le, length-states x m)) before

  bounded : (m : ℕ) → m ≤ last_round x → Bounded x.processes (crashes_of x) (run_to x m)
  unfolding run_to initial
  bounded zero h = record { speakers = omega arith; estimates = omega arith; no_commits = λ _. refl }
  bounded (suc m) h = bounded_step m h (bounded m (omega arith))

-- With k speakers, k ≤ f + 1, data and commits together are at most k(2n − k − 1) − k(k − 1)/2, and commits at most n - k.
pub speaker_bound : (x : Instance) → WellFormed x → SpeakerBound x
unfolding run_of
speaker_bound x formed =
    let last : ℕ = last_round x in
    let end = bounded x formed last (omega arith) in
    let fit : (run_to x last).speakers ≤ x.processes = omega (arith, speakers_le x last) in
    let few : (run_to x last).commits_sent ≤ x.processes - (run_to x last).speakers = omega (arith, speakers_with_commits x last (omega arith)) in
    record { speakers = end.speakers; speakers_fit = fit; messages = halved _ _ _ (total _ _ _ _ fit end.estimates end.no_commits few); commits = omega (arith, few) }
