-- A whole round: what the code has stored and counted is one round more of the definitions. Assumes nothing.
use mathlib.Core.List.{List}
use mathlib.Core.Path.{◌≡◌, refl, sym, ap, ◌∙◌}
use mathlib.Core.Bool.{Bool, true, false, cond}
use Prim.Native.Nat.{ℕ, ◌-◌, ◌≤◌}
use native.Mathlib.Omega.{arith}
use lib.Bits.{bit_and, and_le_l}
use lib.Dec.{eqb}
use lib.ListN.{length, get_or}
use borrow.Author.Tests.{eqb-true}
use Rattle.general.specs.Bits.{member, ones64, members_to, set_of}
use Rattle.general.proofs.Bits.{ones64_members}
use Rattle.general.proofs.Indexed.{length-map_from}
use Rattle.general.proofs.Sets.{member_set}
use Rattle.coordinator.specs.Message.{Reach, nothing, arriving, gets_data, gets_commit}
use Rattle.coordinator.specs.Transition.{sends}
use Rattle.consensus.specs.Instance.{Instance, fault_of}
use Rattle.consensus.specs.declared.Fault.{Fault}
use Rattle.coordinator.specs.Delivery.{reach}
use Rattle.consensus.specs.State.{state_of, crashes_in}
use Rattle.consensus.specs.declared.State.{State}
use Rattle.coordinator.specs.Round.{received, states_after}
use Rattle.coordinator.specs.Undecided.{is_undecided}
use Rattle.coordinator.specs.Count.{speaks, carried_in, data_in, commits_in}
use Rattle.coordinator.specs.Run.{with_round}
use Rattle.coordinator_laws.proofs.SentSets.{none_to_itself}
use Rattle.coordinator_laws.proofs.Carried.{carried_size}
use Rattle.coordinator_laws.proofs.Pointwise.{received_in, states_ext, round_state}
use Rattle.tables.specs.declared.run.RunTable.{RunTable}
use Rattle.tables.specs.code.RunOfTable.{state_by_end, states_in, run_over, run_from}
use Rattle.tables.proofs.Places.{length_states_over, state_at_place}
use Rattle.coordinator_sending.specs.code.Sending.{sending_by}
use Rattle.coordinator_round.specs.code.Round.{RoundAllowed, RoundOf, RoundRun}
use Rattle.coordinator_round.proofs.Becoming.{undecided_end, sent_by_end, becomes}
use Rattle.coordinator_round.proofs.Stored.{Sized, next_run, length_ends_next, waits_as, state_after, kept_after}

-- The number of members that a set, empty unless the coordinator speaks, has in common with another.
size_if : (b : Bool) (set other : ℕ) → length (members_to 64 (bit_and (cond b set 0) other)) ≡ cond b (ones64 (bit_and set other)) 0
unfolding members_to member
size_if true set other = sym (ones64_members (bit_and set other))
size_if false set other = ap (λ (k : ℕ). length (members_to 64 k)) (none_with other)
  where
    none_with : (other : ℕ) → bit_and 0 other ≡ 0
    none_with other = omega (arith, and_le_l 0 other)

module _ (r : ℕ) (fault : Fault) (faulty : ℕ) (run : RunTable) (sized : Sized run) (allowed : RoundAllowed r fault faulty run) where
  abbrev states : List State
  states = states_in run

  abbrev next : RunTable
  next = next_run r fault faulty run sized allowed

  entries : run.n ≤ length run.ends
  entries = omega (arith, allowed.sender.at_most_64, sized.ends)

  as_many : length states ≡ run.n
  as_many = length_states_over run.n _ _ _ entries

  state_before : (p : ℕ) → 1 ≤ p → p ≤ run.n
      → state_of states p ≡ state_by_end (get_or run.ends (p - 1) 0) (get_or run.end_rounds (p - 1) 0) (get_or run.values (p - 1) 0)
  state_before p h g = state_at_place run.n _ _ _ entries p h g

  -- Whether a process waits, and so whether the coordinator speaks.
  waiting : (p : ℕ) → 1 ≤ p → p ≤ run.n → member p run.undecided ≡ eqb (get_or run.ends (p - 1) 0) 0
  waiting = waits_as r fault faulty run sized allowed

  speaker : member r run.undecided ≡ speaks r states
  unfolding speaks
  speaker =
      waiting r allowed.sender.first allowed.sender.last
      ∙ sym (ap is_undecided (state_before r allowed.sender.first allowed.sender.last) ∙ undecided_end _ _ _)

  module _ (x : Instance) (of : RoundOf x run.n r fault faulty) where
    -- What process p hears.
    hears : (p : ℕ) → received_in x r (state_of states r) p
        ≡ arriving (reach run.n fault r p) (cond (member r run.undecided) (sends true (get_or run.values (r - 1) 0)) nothing)
    unfolding received
    hears p =
        let speaks-as = waiting r allowed.sender.first allowed.sender.last in
        rw (of.coordinator, of.processes, state_before r allowed.sender.first allowed.sender.last, sent_by_end, speaks-as)

    -- The states, process by process.
    state_as : (p : ℕ) → 1 ≤ p → p ≤ run.n → state_of (states_in next) p ≡ state_of (states_after x r states) p
    state_as p h g =
        let crashes : crashes_in r (fault_of x p) ≡ member p faulty = sym (ap (member p) of.crashing ∙ member_set run.n _ p h g) in
        let one : eqb p r ≡ true → member r run.undecided ≡ eqb (get_or run.ends (p - 1) 0) 0 =
        λ e. ap (λ (q : ℕ). member q run.undecided) (sym (eqb-true p r e)) ∙ waiting p h g
        in
        let becoming = becomes r p (get_or run.values (r - 1) 0) (get_or run.end_rounds (p - 1) 0) (get_or run.values (p - 1) 0) (fault_of x p)
        (get_or run.ends (p - 1) 0) _ (member p faulty) (member r run.undecided) (eqb p r) (reach run.n fault r p) refl crashes refl one
        (none_to_itself run.n r p fault)
        in
        state_after r fault faulty run sized allowed p h g ∙ becoming
        ∙ sym (round_state x r p states h (omega (arith, as_many)) ∙ rw (hears p, state_before p h g))

    states_as : states_in next ≡ states_after x r states
    unfolding states_after
    states_as =
        let entries_next : run.n ≤ length next.ends = omega (arith, allowed.sender.at_most_64, length_ends_next r fault faulty run sized allowed) in
        states_ext run.n (states_in next) _ (length_states_over run.n _ _ _ entries_next) (length-map_from _ 1 states ∙ as_many) state_as

    -- The messages counted are those that reach a process up and undecided, of either kind.
    counted_as : (gets : Reach → Bool)
        → length (members_to 64 (bit_and (cond (member r run.undecided) (set_of run.n (λ p. gets (reach run.n fault r p))) 0) run.undecided))
        ≡ carried_in gets x r states
    counted_as gets =
        let counted = carried_size gets x r states (as_many ∙ sym of.processes) (rw of.processes allowed.sender.at_most_64) in
        size_if (member r run.undecided) _ run.undecided ∙ rw (speaker, allowed.kept) (sym (counted ∙ rw (of.coordinator, of.processes)))

    round_as : run_from next ≡ with_round x r (run_from run)
    unfolding run_over with_round data_in commits_in sending_by
    round_as = rw (states_as, allowed.some_undecided, counted_as gets_data, counted_as gets_commit, speaker)

  pub round_done : RoundRun r fault faulty run next
  round_done = record { processes = refl; kept = kept_after r fault faulty run sized allowed; round = round_as }
