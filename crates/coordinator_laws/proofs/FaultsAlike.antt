-- A round looks only at the faults of the processes that are up and undecided as it begins, and at those only as far as they are of this round: so two
-- instances whose faults it does not tell apart have the same round from the same states. Assumes nothing.
use mathlib.Core.List.{List}
use mathlib.Core.Path.{◌≡◌, refl, sym, ap, ◌∙◌}
use mathlib.Core.Bool.{Bool, true, false, cond, ◌&&◌}
use Prim.Native.Nat.{ℕ, ◌+◌, ◌≤◌}
use lib.Dec.{ltb}
use lib.ListN.{length}
use Rattle.general.specs.Indexed.{count_from}
use Rattle.general.proofs.Indexed.{length-map_from, count_same}
use Rattle.consensus.specs.Instance.{Instance, fault_of}
use Rattle.consensus.specs.declared.Fault.{Fault}
use Rattle.consensus.specs.State.{state_of, crashes_in}
use Rattle.consensus.specs.declared.State.{State}
use Rattle.consensus.specs.declared.State.TheVariants.{Undecided as undecided, Decided as decided, Crashed as crashed}
use Rattle.coordinator.specs.Message.{Messages, Reach, none, gets_data, gets_commit}
use Rattle.coordinator.specs.Delivery.{reach, reach_in}
use Rattle.coordinator.specs.Round.{sent_by, received, after, states_after}
use Rattle.coordinator.specs.Undecided.{is_undecided}
use Rattle.coordinator.specs.Count.{speaks, carries, carried_in, data_in, commits_in}
use Rattle.coordinator.specs.Run.{Run, with_round}
use Rattle.coordinator_laws.proofs.Pointwise.{states_ext, round_state}
use Rattle.coordinator.specs.Reason.{reason_from}
use Rattle.coordinator_laws.proofs.Rounds.{nothing_arrives}
use Rattle.coordinator_laws.proofs.Delivery.{reach_up}

-- Two faults that round r does not tell apart: they are the same, or neither is of this round.
pub data AlikeIn (r : ℕ) (fault fault' : Fault) : Type 0 where
  same : fault ≡ fault' → AlikeIn r fault fault'
  of_others : crashes_in r fault ≡ false → crashes_in r fault' ≡ false → AlikeIn r fault fault'

module _ (r : ℕ) {fault fault' : Fault} where
  crashes_alike : AlikeIn r fault fault' → crashes_in r fault ≡ crashes_in r fault'
  crashes_alike (same e) = ap (crashes_in r) e
  crashes_alike (of_others e e') = e ∙ sym e'

  reach_alike_lem : (n p : ℕ) → AlikeIn r fault fault' → reach_in n fault r p ≡ reach_in n fault' r p
  reach_alike_lem n p (same e) = ap (λ (f : Fault). reach_in n f r p) e
  reach_alike_lem n p (of_others e e') = reach_up n fault r p e ∙ sym (reach_up n fault' r p e')

  -- What a process becomes: its own fault matters only if it is undecided.
  after_alike : (p : ℕ) (m : Messages) (s : State) → (is_undecided s ≡ true → AlikeIn r fault fault') → after r p fault m s ≡ after r p fault' m s
  unfolding is_undecided after
  after_alike p m (undecided v) alike = rw (crashes_alike (alike refl))
  after_alike p m (decided i v) alike = refl
  after_alike p m (crashed i) alike = refl

  -- What it receives: the coordinator's fault matters only if that is undecided.
  received_alike : (n p : ℕ) (c : State) → (is_undecided c ≡ true → AlikeIn r fault fault') → received n r fault c p ≡ received n r fault' c p
  unfolding is_undecided received reach sent_by
  received_alike n p (undecided v) alike = rw (reach_alike_lem n p (alike refl))
  received_alike n p (decided i v) alike = nothing_arrives _ ∙ sym (nothing_arrives _)
  received_alike n p (crashed i) alike = nothing_arrives _ ∙ sym (nothing_arrives _)

  -- Why it stands where it stands: as what it becomes.
  reason_from_alike : (p : ℕ) (m : Messages) (c s : State) → (is_undecided s ≡ true → AlikeIn r fault fault')
      → reason_from r p fault m c s ≡ reason_from r p fault' m c s
  unfolding is_undecided reason_from
  reason_from_alike p m c (undecided v) alike = rw (crashes_alike (alike refl))
  reason_from_alike p m c (decided i v) alike = refl
  reason_from_alike p m c (crashed i) alike = refl

-- One round of two instances from the same states: `alike` says that it does not tell the faults apart of a process that begins it undecided.
module _ (x y : Instance) (size : x.processes ≡ y.processes) (r : ℕ) (states : List State) (first : 1 ≤ r) (last : r ≤ length states)
    (alike : (p : ℕ) → 1 ≤ p → p ≤ length states → is_undecided (state_of states p) ≡ true → AlikeIn r (fault_of x p) (fault_of y p)) where
  -- What a process receives is the same in both.
  heard_alike_lem : (p : ℕ) → received x.processes r (fault_of x r) (state_of states r) p ≡ received y.processes r (fault_of y r) (state_of states r) p
  heard_alike_lem p =
      ap (λ (n : ℕ). received n r (fault_of x r) (state_of states r) p) size ∙ received_alike r y.processes p (state_of states r) (alike r first last)

  states_alike : states_after x r states ≡ states_after y r states
  unfolding states_after
  states_alike =
      states_ext (length states) _ _ (length-map_from _ 1 states) (length-map_from _ 1 states)
      (λ p h g. round_state x r p states h g ∙ at_process p h g ∙ sym (round_state y r p states h g))
    where
      at_process : (p : ℕ) → 1 ≤ p → p ≤ length states
          → after r p (fault_of x p) (received x.processes r (fault_of x r) (state_of states r) p) (state_of states p)
          ≡ after r p (fault_of y p) (received y.processes r (fault_of y r) (state_of states r) p) (state_of states p)
      at_process p h g =
          ap (λ (m : Messages). after r p (fault_of x p) m (state_of states p)) (heard_alike_lem p) ∙ after_alike r p _ (state_of states p) (alike p h g)

  -- So is its reason.
  pub reason_alike : (p : ℕ) → 1 ≤ p → p ≤ length states
      → reason_from r p (fault_of x p) (received x.processes r (fault_of x r) (state_of states r) p) (state_of states r) (state_of states p)
      ≡ reason_from r p (fault_of y p) (received y.processes r (fault_of y r) (state_of states r) p) (state_of states r) (state_of states p)
  reason_alike p h g =
      ap (λ (m : Messages). reason_from r p (fault_of x p) m (state_of states r) (state_of states p)) (heard_alike_lem p)
      ∙ reason_from_alike r p _ (state_of states r) (state_of states p) (alike p h g)

  -- What is counted: the coordinator's fault matters only if it speaks.
  carried_alike : (gets : Reach → Bool) → carried_in gets x r states ≡ carried_in gets y r states
  unfolding carried_in carries speaks reach
  carried_alike gets = by_test (is_undecided (state_of states r)) refl
    where
      by_test : (b : Bool) → is_undecided (state_of states r) ≡ b
          → cond b (count_from (carries gets x r) 1 states) 0 ≡ cond b (count_from (carries gets y r) 1 states) 0
      by_test true spoke =
          count_same _ _ 1 states
          (λ k s _ _.
          ap (λ (n : ℕ). is_undecided s && gets (reach n (fault_of x r) r (1 + k))) size
          ∙ ap (λ (far : Reach). is_undecided s && gets (cond (ltb r (1 + k)) far none)) (reach_alike_lem r y.processes (1 + k) (alike r first last spoke)))
      by_test false silent = refl

-- A round looks only at the faults of undecided processes, and at those only as far as they are of this round.
pub round_alike : (x y : Instance) → x.processes ≡ y.processes → (r : ℕ) (run : Run) → 1 ≤ r → r ≤ length run.states
    → ((p : ℕ) → 1 ≤ p → p ≤ length run.states → is_undecided (state_of run.states p) ≡ true → AlikeIn r (fault_of x p) (fault_of y p))
    → with_round x r run ≡ with_round y r run
unfolding with_round data_in commits_in
round_alike x y size r run first last alike =
    rw (
      states_alike x y size r run.states first last alike,
      carried_alike x y size r run.states first last alike gets_data,
      carried_alike x y size r run.states first last alike gets_commit,
    )
