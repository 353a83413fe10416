-- A round that begins with no process up and undecided changes nothing and counts nothing (document 01, 'A round': the run has ended), so it makes no
-- difference whether it is run. Assumes nothing.
use mathlib.Core.List.{List, [], ◌∷◌}
use mathlib.Core.Path.{◌≡◌, refl, sym, ap, ap₂, ◌∙◌}
use mathlib.Core.Bool.{Bool, true, false, true≢false}
use Prim.Native.Nat.{ℕ, zero, suc, ◌≤◌}
use native.Mathlib.Nat.{add-zero}
use native.Mathlib.Decide.{le_ind}
use Rattle.general.specs.Indexed.{map_from}
use Rattle.coordinator.specs.Message.{Messages}
use Rattle.consensus.specs.Instance.{Instance}
use Rattle.consensus.specs.declared.Fault.{Fault}
use Rattle.consensus.specs.declared.State.{State}
use Rattle.consensus.specs.declared.State.TheVariants.{Undecided as undecided, Decided as decided, Crashed as crashed}
use Rattle.coordinator.specs.Round.{after, states_after}
use Rattle.coordinator.specs.Undecided.{is_undecided, any_undecided}
use Rattle.coordinator.specs.Count.{speaks, carried_in, data_in, commits_in}
use Rattle.coordinator.specs.Run.{Run, initial, with_round, run_to}
use Rattle.coordinator_laws.proofs.Undecided.{none_undecided}

-- A process that has decided or crashed stays as it is.
pub after_ended : (r p : ℕ) (own : Fault) (m : Messages) (s : State) → is_undecided s ≡ false → after r p own m s ≡ s
unfolding is_undecided after
after_ended r p own m (undecided v) h = absurd (true≢false h)
after_ended r p own m (decided round v) h = refl
after_ended r p own m (crashed round) h = refl

all_ended : (f : ℕ → State → State) → ((p : ℕ) (s : State) → is_undecided s ≡ false → f p s ≡ s)
    → (i : ℕ) (states : List State) → any_undecided states ≡ false → map_from f i states ≡ states
unfolding map_from any_undecided is_undecided
all_ended f stays i [] h = refl
all_ended f stays i (undecided v ∷ states) h = absurd (true≢false h)
all_ended f stays i (decided round v ∷ states) h =
    ap₂ {C = List State} (λ s rest. s ∷ rest) (stays i (decided round v) refl) (all_ended f stays (suc i) states h)
all_ended f stays i (crashed round ∷ states) h = ap₂ {C = List State} (λ s rest. s ∷ rest) (stays i (crashed round) refl) (all_ended f stays (suc i) states h)

states_ended : (x : Instance) (r : ℕ) (states : List State) → any_undecided states ≡ false → states_after x r states ≡ states
unfolding states_after
states_ended x r states h = all_ended _ (λ p s e. after_ended r p _ _ s e) 1 states h

-- A round that begins after the run's end leaves the run as it is.
pub round_ended : (x : Instance) (r : ℕ) (run : Run) → any_undecided run.states ≡ false → with_round x r run ≡ run
unfolding with_round data_in commits_in carried_in speaks
round_ended x r run h = simp (states_ended x r run.states h, none_undecided run.states r h, h, add-zero)

-- A round that begins before the run's end is counted.
pub round_counted : (x : Instance) (r : ℕ) (run : Run) → any_undecided run.states ≡ true → (with_round x r run).rounds ≡ r
unfolding with_round
round_counted x r run h = rw h

-- The run after round m is that after round r, if it has ended by then.
pub run_ended : (x : Instance) (r m : ℕ) → any_undecided (run_to x r).states ≡ false → r ≤ m → run_to x m ≡ run_to x r
unfolding run_to
run_ended x r m h le =
    le_ind (λ (k : ℕ). run_to x k ≡ run_to x r) refl
    (λ k _ same. round_ended x (suc k) (run_to x k) (ap (λ (run : Run). any_undecided run.states) same ∙ h) ∙ same) m le

-- The run is over at the end of its last round.
pub run_at_rounds : (x : Instance) (m : ℕ) → run_to x (run_to x m).rounds ≡ run_to x m
unfolding run_to initial
run_at_rounds x zero = refl
run_at_rounds x (suc m) = by_test (any_undecided (run_to x m).states) refl (run_at_rounds x m)
  where
    by_test : (b : Bool) → any_undecided (run_to x m).states ≡ b → run_to x (run_to x m).rounds ≡ run_to x m → run_to x (run_to x (suc m)).rounds ≡ run_to x (suc m)
    by_test true e before = ap (λ (r : ℕ). run_to x r) (round_counted x (suc m) (run_to x m) e)
    by_test false e before = let same = round_ended x (suc m) (run_to x m) e in ap (λ (run : Run). run_to x run.rounds) same ∙ before ∙ sym same
