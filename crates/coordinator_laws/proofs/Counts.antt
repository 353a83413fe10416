-- Bounds of what a run counts, so that it fits the numbers and the bytes that hold it: the rounds and the speakers of r rounds are at most r, the messages
-- of each kind at most 64 for each round; and all counts of a run, f too (CrashCount), fit a result's last line. For well-formed instances where it says
-- so. Assumes nothing else.
use mathlib.Core.List.{List, [], ◌∷◌, map}
use mathlib.Core.Logic.{◌⊎◌, inl, inr}
use mathlib.Core.Path.{◌≡◌, refl, ap}
use mathlib.Core.Bool.{Bool, true, false}
use Prim.Native.Nat.{ℕ, zero, suc, ◌*◌, ◌≤◌, ◌<◌}
use native.Mathlib.Omega.{arith}
use native.Mathlib.Nat.{le_refl, le_trans}
use native.Mathlib.Decide.{le_ind}
use lib.ListN.{length}
use Rattle.general.proofs.Tests.{cond_le}
use Rattle.consensus.specs.Instance.{Instance}
use Rattle.consensus.specs.declared.State.TheVariants.{Undecided as undecided}
use Rattle.coordinator.specs.Undecided.{is_undecided, any_undecided}
use Rattle.coordinator.specs.Count.{speaks}
use Rattle.coordinator.specs.Run.{Run, initial, with_round, run_to, run_of, crashes_of, last_round}
use Rattle.coordinator.specs.WellFormed.{WellFormed}
use Rattle.coordinator_laws.proofs.Pointwise.{length-states}
use Rattle.coordinator_laws.proofs.CrashCount.{crashes_le}
use Rattle.coordinator_laws.proofs.Ended.{round_ended, round_counted}
use Rattle.coordinator_laws.proofs.Carried.{data_in_le, commits_in_le}

-- A round is counted, or the rounds stay as they were.
rounds_step : (x : Instance) (r : ℕ) → ((run_to x (suc r)).rounds ≡ suc r) ⊎ ((run_to x (suc r)).rounds ≡ (run_to x r).rounds)
unfolding run_to
rounds_step x r = by_test (any_undecided (run_to x r).states) refl
  where
    by_test : (b : Bool) → any_undecided (run_to x r).states ≡ b
        → ((with_round x (suc r) (run_to x r)).rounds ≡ suc r) ⊎ ((with_round x (suc r) (run_to x r)).rounds ≡ (run_to x r).rounds)
    by_test true e = inl (round_counted x (suc r) (run_to x r) e)
    by_test false e = inr (ap (λ (run : Run). run.rounds) (round_ended x (suc r) (run_to x r) e))

pub rounds_le : (x : Instance) (r : ℕ) → (run_to x r).rounds ≤ r
unfolding run_to initial
rounds_le x zero = omega arith
rounds_le x (suc r) = by_step (rounds_step x r) (rounds_le x r)
  where
    by_step : ((run_to x (suc r)).rounds ≡ suc r) ⊎ ((run_to x (suc r)).rounds ≡ (run_to x r).rounds) → (run_to x r).rounds ≤ r → (run_to x (suc r)).rounds ≤ suc r
    by_step (inl e) before = omega arith
    by_step (inr e) before = omega arith

pub speakers_le : (x : Instance) (r : ℕ) → (run_to x r).speakers ≤ r
unfolding run_to initial with_round
speakers_le x zero = omega arith
speakers_le x (suc r) = omega (arith, speakers_le x r, cond_le (speaks (suc r) (run_to x r).states) 1 0 1 (omega arith) (omega arith))

-- The rounds do not fall from one round to the next, nor to any later one.
rounds_rise : (x : Instance) (r : ℕ) → (run_to x r).rounds ≤ (run_to x (suc r)).rounds
rounds_rise x r = by_step (rounds_step x r)
  where
    by_step : ((run_to x (suc r)).rounds ≡ suc r) ⊎ ((run_to x (suc r)).rounds ≡ (run_to x r).rounds) → (run_to x r).rounds ≤ (run_to x (suc r)).rounds
    by_step (inl e) = omega (arith, rounds_le x r)
    by_step (inr e) = omega arith

pub rounds_mono : (x : Instance) (q m : ℕ) → q ≤ m → (run_to x q).rounds ≤ (run_to x m).rounds
rounds_mono x q m h = le_ind (λ (r : ℕ). (run_to x q).rounds ≤ (run_to x r).rounds) (le_refl _) (λ r _ rest. le_trans rest (rounds_rise x r)) m h

proposed_undecided : (proposals : List ℕ) → 1 ≤ length proposals → any_undecided (map undecided proposals) ≡ true
unfolding any_undecided is_undecided
proposed_undecided [] h = absurd (let z : ⊥ = omega arith in z)
proposed_undecided (v ∷ proposals) h = refl

-- Round 1 begins with every process up and undecided, so it is one of the run's rounds.
first_round_lem : (x : Instance) → 1 ≤ length x.proposals → (run_to x 1).rounds ≡ 1
unfolding run_to initial
first_round_lem x h = round_counted x 1 (initial x) (proposed_undecided x.proposals h)

pub rounds_pos : (x : Instance) → WellFormed x → (r : ℕ) → 1 ≤ r → 1 ≤ (run_to x r).rounds
rounds_pos x w r h = omega (arith, first_round_lem x (omega arith), rounds_mono x 1 r h)

module _ (x : Instance) (w : WellFormed x) where
  pub data_sent_le : (r : ℕ) → r ≤ x.processes → (run_to x r).data_sent ≤ r * 64
  unfolding run_to initial with_round
  data_sent_le zero h = omega arith
  data_sent_le (suc r) h = omega (arith, data_sent_le r (omega arith), data_in_le x (suc r) (run_to x r).states, length-states x r)

  pub commits_sent_le : (r : ℕ) → r ≤ x.processes → (run_to x r).commits_sent ≤ r * 64
  unfolding run_to initial with_round
  commits_sent_le zero h = omega arith
  commits_sent_le (suc r) h = omega (arith, commits_sent_le r (omega arith), commits_in_le x (suc r) (run_to x r).states, length-states x r)

-- What the last line of a result has room for: one byte each for the rounds, the crashes and the speakers, two each for the data and the commit messages.
pub record CountsFit (x : Instance) : Type 0 where
  pub some_round : 1 ≤ (run_of x).rounds
  pub rounds : (run_of x).rounds ≤ 64
  pub crashes : crashes_of x < 64
  pub speakers : (run_of x).speakers ≤ 64
  pub data_sent : (run_of x).data_sent < 65536
  pub commits_sent : (run_of x).commits_sent < 65536

pub counts_fit : (x : Instance) → WellFormed x → CountsFit x
unfolding run_of
counts_fit x w =
    let m : ℕ = last_round x in
    record {
      some_round = rounds_pos x w m (omega arith);
      rounds = omega (arith, rounds_le x m);
      crashes = omega (arith, crashes_le x w);
      speakers = omega (arith, speakers_le x m);
      data_sent = omega (arith, data_sent_le x w m (omega arith));
      commits_sent = omega (arith, commits_sent_le x w m (omega arith));
    }
