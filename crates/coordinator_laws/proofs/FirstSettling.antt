-- The settling round is the lowest that qualifies, and all that are later in the run qualify too (document 02, Paper 6): a round hands on no value but those
-- held as it begins, and the run's last round qualifies. For well-formed instances. Assumes nothing else.
use mathlib.Core.Path.{◌≡◌, refl, sym, ap, subst, ◌∙◌}
use mathlib.Core.Bool.{true, false, true≢false}
use Prim.Native.Nat.{ℕ, zero, suc, ◌≤◌, ◌<◌}
use native.Mathlib.Omega.{arith}
use native.Mathlib.Decide.{le_ind}
use borrow.Author.Tests.{le-leb, lt-leb, leb-true}
use Rattle.general.proofs.Tests.{both, by_order}
use Rattle.general.proofs.Search.{none_lower, found_passes, found}
use Rattle.consensus.specs.Instance.{Instance}
use Rattle.consensus.specs.declared.State.TheVariants.{Undecided as undecided, Decided as decided}
use Rattle.consensus.specs.Consensus.{IsProcess, Decides}
use Rattle.coordinator.specs.Undecided.{is_undecided, any_undecided}
use Rattle.coordinator.specs.Run.{run_to, run_of, last_round, end_of}
use Rattle.coordinator.specs.Settling.{values_held, one_value, qualifies, first_settling}
use Rattle.coordinator_laws.specs.FirstSettling.{FirstSettles, SettledSince}
use Rattle.coordinator_laws.specs.RunRounds.{RunRounds}
use Rattle.coordinator.specs.WellFormed.{WellFormed}
use Rattle.coordinator_laws.proofs.Pointwise.{state_at}
use Rattle.coordinator_laws.proofs.Values.{holds_decided, holds_after_round}
use Rattle.coordinator_laws.proofs.Locking.{holds_decision}
use Rattle.coordinator_laws.proofs.Coordinator.{decided_since}
use Rattle.coordinator_laws.proofs.Ends.{decided_at}
use Rattle.coordinator_laws.proofs.Undecided.{none_undecided}
use Rattle.coordinator_laws.proofs.Ended.{round_counted}
use Rattle.coordinator_laws.proofs.Counts.{rounds_le}
use Rattle.coordinator_laws.proofs.RunRounds.{run_rounds}
use Rattle.coordinator_laws.proofs.Settled.{Held, its_state, held_values, values_held_lem, held_all, one_of_all, all_of_one, settled_at_last}

module _ (x : Instance) (formed : WellFormed x) where
  -- A value held by all stays so, round by round.
  held_later : (v q m : ℕ) → q ≤ m → Held x formed q v → m ≤ last_round x → Held x formed m v
  held_later v q m h first =
      le_ind (λ (k : ℕ). k ≤ last_round x → Held x formed k v) (λ _. first)
      (λ k _ before within p process.
      let its : IsProcess x (suc k) = omega (arith, formed.fewer_crashes) in
      holds_after_round (λ w. w ≡ v) x k p (before (omega arith) (suc k) its) (before (omega arith) p process))
      m h

  rounds_last : (run_of x).rounds ≤ last_round x
  unfolding run_of
  rounds_last = rounds_le x (last_round x)

  -- A round of the run at whose end all not crashed hold one value qualifies.
  qualifies_by : (r v : ℕ) → 1 ≤ r → r ≤ (run_of x).rounds → Held x formed r v → qualifies x r ≡ true
  unfolding qualifies
  qualifies_by r v some within h =
      rw (le-leb 1 r some, le-leb r _ within, one_of_all v _ (held_values x formed r v (omega (arith, rounds_last)) h))

  pub qualified_within : (r : ℕ) → qualifies x r ≡ true → (1 ≤ r) × (r ≤ (run_of x).rounds) × (one_value (values_held (run_to x r).states) ≡ true)
  unfolding qualifies
  qualified_within r h =
      let (numbers, one) = both _ _ h in
      let (some, within) = both _ _ numbers in
      (leb-true 1 r some, leb-true r _ within, one)

  -- What all hold at the end of a round that qualifies they hold at the end of every later one of the run, and of all rounds.
  value_settled : (q : ℕ) → qualifies x q ≡ true → (v : ℕ) × ((m : ℕ) → q ≤ m → m ≤ last_round x → Held x formed m v)
  value_settled q h =
      let (some, within, one) = qualified_within q h in
      let (v, all) = all_of_one _ one in
      (v, λ m later inside. held_later v q m later (values_held_lem x formed q v (omega (arith, rounds_last)) all) inside)

  onward : (q m : ℕ) → qualifies x q ≡ true → q ≤ m → m ≤ (run_of x).rounds → qualifies x m ≡ true
  onward q m h later inside =
      let (v, held) = value_settled q h in
      let last : m ≤ last_round x = omega (arith, rounds_last) in
      qualifies_by m v (omega (arith, (qualified_within q h).0)) inside (held m later last)

  -- A round that begins with a process up and undecided is one of the run's.
  open_within : (k p u : ℕ) → k < last_round x → IsProcess x p → state_at x k p ≡ undecided u → suc k ≤ (run_of x).rounds
  unfolding RunRounds run_of is_undecided
  open_within k p u h process waiting =
      let its = its_state x formed k p (omega arith) process in
      by_order (suc k) (run_of x).rounds (λ within. within)
      (λ (beyond : (run_of x).rounds < suc k).
      let over : any_undecided (run_to x k).states ≡ false = run_rounds x k (last_round x) h ∙ lt-leb (suc k) _ beyond in
      absurd (true≢false (ap is_undecided (sym (its ∙ waiting)) ∙ none_undecided (run_to x k).states p over)))

  -- The round in which a process decides qualifies.
  decided_settles : (p q v : ℕ) → Decides x (end_of x) p q v → qualifies x q ≡ true
  decided_settles p q v d =
      let (k, u, same, within, waiting, since) = decided_since x (last_round x) p q v (decided_at x formed d) in
      let now : state_at x q p ≡ decided q v = subst (λ (r : ℕ). state_at x r p ≡ decided q v) (sym same) since in
      let inside : suc k ≤ (run_of x).rounds = open_within k p u (omega arith) d.process waiting in
      qualifies_by q v (omega arith) (omega arith)
      (λ other process. holds_decision x q p other q v d.process.first process.first now)

  -- As long as no round below r qualifies, r is one of the run's rounds.
  pub unsettled_within : (r : ℕ) → ((q : ℕ) → q < r → qualifies x q ≡ false) → r ≤ (run_of x).rounds
  unsettled_within r none =
      by_order r (run_of x).rounds (λ h. h) (λ beyond. absurd (true≢false (sym (settled_at_last x formed) ∙ none (run_of x).rounds beyond)))

  -- The first that qualifies is the settling round.
  pub settles_first : (r : ℕ) → qualifies x r ≡ true → ((q : ℕ) → q < r → qualifies x q ≡ false) → first_settling x ≡ r
  unfolding first_settling
  settles_first r h none =
      let (some, within, one) = qualified_within r h in
      found (qualifies x) (last_round x) 1 r some (omega (arith, rounds_last)) h none

  qualified : qualifies x (first_settling x) ≡ true
  unfolding first_settling
  qualified =
      let last = settled_at_last x formed in
      found_passes (qualifies x) (last_round x) 1 (run_of x).rounds (qualified_within _ last).0 (omega (arith, rounds_last)) last

  lowest : (q : ℕ) → q < first_settling x → qualifies x q ≡ false
  unfolding first_settling qualifies
  lowest zero h = refl
  lowest (suc q) h = none_lower (qualifies x) (last_round x) 1 (suc q) (omega arith) h

  pub first_settling_lem : FirstSettles x (first_settling x)
  first_settling_lem =
      let (some, within, one) = qualified_within (first_settling x) qualified in
      record { within = (some, within); qualified = qualified; lowest = lowest }

  pub settled_since : SettledSince x (first_settling x)
  settled_since =
      let (w, held) = value_settled (first_settling x) qualified in
      record {
        later_qualify = onward;
        value = w;
        held = λ m later inside. held_all x formed m w (omega (arith, rounds_last)) (held m later (omega (arith, rounds_last)));
        decision = λ p q v d. (
          holds_decided (λ u. u ≡ w) _ q v (decided_at x formed d)
              (held (last_round x) (omega (arith, rounds_last, qualified_within _ qualified)) (omega arith) p d.process),
          by_order (first_settling x) q (λ h. h) (λ early. absurd (true≢false (sym (decided_settles p q v d) ∙ lowest q early))),
        );
      }

  -- The run up to a round of its own has counted that round, the settling round too.
  counted_within : (r : ℕ) → 1 ≤ r → r ≤ (run_of x).rounds → (run_to x r).rounds ≡ r
  unfolding RunRounds run_of run_to
  counted_within zero some within = absurd (let z : ⊥ = omega arith in z)
  counted_within (suc q) some within =
      round_counted x (suc q) (run_to x q) (run_rounds x q (last_round x) (omega (arith, rounds_last)) ∙ le-leb (suc q) _ within)

  pub rounds_settled : (run_to x (first_settling x)).rounds ≡ first_settling x
  rounds_settled =
      let (some, within, one) = qualified_within (first_settling x) qualified in
      counted_within (first_settling x) some within
