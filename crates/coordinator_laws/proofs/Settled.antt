-- The run's last round qualifies for the settling operation (document 01, 'The result', last paragraph): at its end no process is undecided, and all that are
-- not crashed hold one value.
-- For well-formed instances. Assumes nothing else.
use mathlib.Core.List.{List, [], ◌∷◌}
use mathlib.Core.Logic.{◌⊎◌, inl, inr}
use mathlib.Core.Path.{◌≡◌, refl, sym, ap, subst, ◌∙◌}
use mathlib.Core.Bool.{true, false}
use Prim.Native.Nat.{ℕ, zero, suc, ◌-◌, ◌≤◌, ◌<◌}
use native.Mathlib.Omega.{arith}
use native.Mathlib.Nat.{le_refl}
use borrow.Author.Tests.{eq-eqb, eqb-true, le-leb}
use lib.Dec.{eqb}
use lib.ListN.{length, get_or}
use Rattle.general.proofs.Tests.{both}
use Rattle.consensus.specs.Instance.{Instance}
use Rattle.consensus.specs.State.{state_of}
use Rattle.consensus.specs.declared.State.{State}
use Rattle.consensus.specs.declared.State.TheVariants.{Undecided as undecided, Decided as decided, Crashed as crashed}
use Rattle.consensus.specs.Consensus.{IsProcess}
use Rattle.coordinator.specs.Undecided.{any_undecided}
use Rattle.coordinator.specs.Run.{run_to, run_of, last_round, end_of}
use Rattle.coordinator.specs.Settling.{values_held, all_are, one_value, qualifies}
use Rattle.coordinator_laws.specs.FirstSettling.{HoldsOrCrashed, holds, has_decided, has_crashed, AllHold}
use Rattle.coordinator.specs.WellFormed.{WellFormed}
use Rattle.coordinator_laws.proofs.Pointwise.{state_at, length-states, state_at_lem}
use Rattle.coordinator_laws.proofs.Undecided.{not_any}
use Rattle.coordinator_laws.proofs.Values.{Holds}
use Rattle.coordinator_laws.proofs.Locking.{NoneDecided, Locked, open_or_locked}
use Rattle.coordinator_laws.proofs.Ends.{states_at_end, end_at}
use Rattle.coordinator_laws.proofs.Termination.{waits_for_crashes}
use Rattle.coordinator_laws.proofs.Ended.{run_at_rounds}
use Rattle.coordinator_laws.proofs.Counts.{rounds_pos}
use Rattle.coordinator_laws.proofs.CrashCount.{crashes_le}

-- All values held are v just if every process that holds one holds v.
module _ (v : ℕ) where
  all_held : (states : List State) → ((k : ℕ) → k < length states → Holds (λ w. w ≡ v) (get_or states k (crashed 0))) → all_are v (values_held states) ≡ true
  unfolding all_are values_held Holds
  all_held [] h = refl
  all_held (undecided u ∷ states) h = rw (eq-eqb v u (sym (h 0 (omega arith)))) (all_held states (λ k g. h (suc k) (omega arith)))
  all_held (decided round u ∷ states) h = rw (eq-eqb v u (sym (h 0 (omega arith)))) (all_held states (λ k g. h (suc k) (omega arith)))
  all_held (crashed round ∷ states) h = all_held states (λ k g. h (suc k) (omega arith))

  each_held : (states : List State) → all_are v (values_held states) ≡ true → (k : ℕ) → k < length states → Holds (λ w. w ≡ v) (get_or states k (crashed 0))
  unfolding all_are values_held Holds
  each_held [] h k g = absurd (let z : ⊥ = omega arith in z)
  each_held (undecided u ∷ states) h zero g = sym (eqb-true v u (both (eqb v u) _ h).0)
  each_held (undecided u ∷ states) h (suc k) g = each_held states (both (eqb v u) _ h).1 k (omega arith)
  each_held (decided round u ∷ states) h zero g = sym (eqb-true v u (both (eqb v u) _ h).0)
  each_held (decided round u ∷ states) h (suc k) g = each_held states (both (eqb v u) _ h).1 k (omega arith)
  each_held (crashed round ∷ states) h zero g = tt
  each_held (crashed round ∷ states) h (suc k) g = each_held states h k (omega arith)

-- What holds v is crashed or holds v, as the claims have it.
held_or_crashed : (v : ℕ) (s : State) → Holds (λ w. w ≡ v) s → HoldsOrCrashed v s
unfolding Holds
held_or_crashed v (undecided w) e = rw e holds
held_or_crashed v (decided q w) e = rw e has_decided
held_or_crashed v (crashed q) e = has_crashed

-- Values that are all v are one value, and one value is that of all.
pub one_of_all : (v : ℕ) (values : List ℕ) → all_are v values ≡ true → one_value values ≡ true
unfolding all_are one_value
one_of_all v [] h = refl
one_of_all v (w ∷ values) h =
    let (same, rest) = both (eqb v w) _ h in
    subst (λ (u : ℕ). all_are u values ≡ true) (eqb-true v w same) rest

pub all_of_one : (values : List ℕ) → one_value values ≡ true → (v : ℕ) × (all_are v values ≡ true)
unfolding all_are one_value
all_of_one [] h = (0, refl)
all_of_one (w ∷ values) h = (w, rw (eq-eqb w w refl) h)

module _ (x : Instance) (formed : WellFormed x) where
  -- Every process that is not crashed after round r holds v, process by process.
  abbrev pub Held : (r v : ℕ) → Type 0
  Held r v = (p : ℕ) → IsProcess x p → Holds (λ w. w ≡ v) (state_at x r p)

  as_many : (r : ℕ) → length (run_to x r).states ≡ x.processes
  as_many r = length-states x r ∙ formed.all_propose

  -- The state of a process after round r, in the form of Pointwise.
  pub its_state : (r p : ℕ) → r ≤ last_round x → IsProcess x p → state_of (run_to x r).states p ≡ state_at x r p
  its_state r p within process =
      state_at_lem x r p (omega (arith, formed.all_propose, formed.fewer_crashes)) process.first (omega (arith, formed.all_propose, process.last))

  pub held_values : (r v : ℕ) → r ≤ last_round x → Held r v → all_are v (values_held (run_to x r).states) ≡ true
  unfolding state_of
  held_values r v within h =
      all_held v (run_to x r).states
      (λ k g.
      let process : IsProcess x (suc k) = omega (arith, as_many r) in
      let place : suc k - 1 ≡ k = omega arith in
      let its : get_or (run_to x r).states (suc k - 1) (crashed 0) ≡ state_at x r (suc k) = its_state r (suc k) within process in
      subst (λ (s : State). Holds (λ w. w ≡ v) s) (sym its ∙ ap (λ (i : ℕ). get_or (run_to x r).states i (crashed 0)) place) (h (suc k) process))

  pub values_held_lem : (r v : ℕ) → r ≤ last_round x → all_are v (values_held (run_to x r).states) ≡ true → Held r v
  unfolding state_of
  values_held_lem r v within h p process =
      let its : get_or (run_to x r).states (p - 1) (crashed 0) ≡ state_at x r p = its_state r p within process in
      subst (λ (s : State). Holds (λ w. w ≡ v) s) its (each_held v (run_to x r).states h (p - 1) (omega (arith, as_many r, process.first, process.last)))

  -- The same of the states of the run, as the claims have it.
  pub held_all : (r v : ℕ) → r ≤ last_round x → Held r v → AllHold x r v
  unfolding AllHold
  held_all r v within h p process = rw (its_state r p within process) (held_or_crashed v (state_at x r p) (h p process))

  -- No process ends the run up and undecided.
  pub none_ends_undecided : (p v : ℕ) → IsProcess x p → end_of x p ≡ undecided v → ⊥
  none_ends_undecided p v process e =
      omega (arith, waits_for_crashes x formed _ p v (omega arith) process (sym (end_at x formed p process) ∙ e), crashes_le x formed)

  pub run_over_lem : any_undecided (run_of x).states ≡ false
  unfolding end_of
  run_over_lem =
      not_any (run_of x).states (λ p v first last e. none_ends_undecided p v (record { first = first; last = omega (arith, states_at_end x formed) }) e)

  -- At the end one value is held: that which is fixed, or none, where nobody has decided and so all have crashed.
  end_held : (v : ℕ) × Held (last_round x) v
  unfolding NoneDecided Locked Holds
  end_held = by_lock (open_or_locked x (last_round x))
    where
      by_state : (p : ℕ) → IsProcess x p → NoneDecided x (last_round x) → (s : State) → state_at x (last_round x) p ≡ s → Holds (λ w. w ≡ 0) s
      by_state p process fresh (undecided v) e = absurd (none_ends_undecided p v process (end_at x formed p process ∙ e))
      by_state p process fresh (decided r v) e = absurd (fresh p r v e)
      by_state p process fresh (crashed r) e = tt

      by_lock : NoneDecided x (last_round x) ⊎ ((v : ℕ) × Locked x (last_round x) v) → (v : ℕ) × Held (last_round x) v
      by_lock (inl fresh) = (0, λ p process. by_state p process fresh (state_at x (last_round x) p) refl)
      by_lock (inr (v, locked)) = (v, λ p process. locked p process.first)

  -- The run's last round qualifies.
  pub settled_at_last : qualifies x (run_of x).rounds ≡ true
  unfolding qualifies run_of
  settled_at_last =
      let last : ℕ = (run_of x).rounds in
      let (v, held) = end_held in
      rw (
        le-leb 1 last (rounds_pos x formed (last_round x) (omega arith)),
        le-leb last last (le_refl last),
        run_at_rounds x (last_round x),
        one_of_all v _ (held_values (last_round x) v (omega arith) held),
      )
