-- The messages carried in a round: as many as the ones that two sets have in common, those whom they reach and the undecided; at most as many as there
-- are processes above its coordinator; and each commit that is carried, and each speaker, leaves one process fewer up and undecided. Of any instance and
-- any states. Assumes nothing.
use mathlib.Core.List.{List}
use mathlib.Core.Path.{◌≡◌, refl, sym, ap, ap₂, ◌∙◌}
use mathlib.Core.Bool.{Bool, true, false, cond, ◌&&◌}
use Prim.Native.Nat.{ℕ, ◌+◌, ◌-◌, ◌≤◌, ◌<◌}
use native.Mathlib.Nat.{lt_of_le_of_lt}
use native.Mathlib.Omega.{arith}
use lib.Bits.{bit_and, and_le_l}
use lib.Dec.{eqb, ltb}
use lib.ListN.{length, get_or}
use borrow.Author.Tests.{eq-eqb}
use Rattle.general.specs.Bits.{member, ones64, set_of}
use Rattle.general.specs.Indexed.{count_from}
use Rattle.general.proofs.Tests.{cond_le}
use Rattle.general.proofs.Lists.{get_d_inside}
use Rattle.general.proofs.Indexed.{count_same, count_map_from, count_apart, count_stricter, count_above, count_some}
use Rattle.general.proofs.Sets.{member_and, member_set, set_within, set_size, is_set}
use Rattle.consensus.specs.Instance.{Instance, fault_of}
use Rattle.consensus.specs.State.{state_of, crashes_in}
use Rattle.consensus.specs.declared.State.{State}
use Rattle.consensus.specs.declared.State.TheVariants.{Undecided as undecided, Decided as decided, Crashed as crashed}
use Rattle.coordinator.specs.Message.{Reach, none, data_only, all, arriving, gets_data, gets_commit}
use Rattle.coordinator.specs.Transition.{sends, receives}
use Rattle.coordinator.specs.Delivery.{reach_in, reach}
use Rattle.coordinator.specs.Round.{sent_by, received, after_outcome, after, states_after}
use Rattle.coordinator.specs.Undecided.{is_undecided, undecided_among}
use Rattle.coordinator.specs.Count.{speaks, carries, carried_in, data_in, commits_in}
use Rattle.coordinator_laws.proofs.Undecided.{value_of_undecided}
use Rattle.coordinator_laws.proofs.SentSets.{reached_set, none_to_itself}

-- What the set of those that pass a test and the undecided have in common: as many as there are states that are undecided, of a process that passes.
pub undecided_size : (n : ℕ) (test : ℕ → Bool) (states : List State) → length states ≡ n → n ≤ 64
    → ones64 (bit_and (set_of n test) (undecided_among n states)) ≡ count_from (λ p s. is_undecided s && test p) 1 states
unfolding state_of
undecided_size n test states as_many small =
    ap ones64 (is_set n _ both (lt_of_le_of_lt (and_le_l (set_of n test) _) (set_within n test)) in_both)
    ∙ set_size n both states as_many small ∙ count_same _ _ 1 states at_place
  where
    both : ℕ → Bool
    both p = is_undecided (state_of states p) && test p

    swapped : (a b : Bool) → (a && b) ≡ (b && a)
    swapped true true = refl
    swapped true false = refl
    swapped false true = refl
    swapped false false = refl

    in_both : (p : ℕ) → 1 ≤ p → p ≤ n → member p (bit_and (set_of n test) (undecided_among n states)) ≡ both p
    in_both p h g =
        member_and p (set_of n test) _ ∙ ap₂ (λ (a b : Bool). a && b) (member_set n test p h g) (member_set n _ p h g)
        ∙ swapped (test p) (is_undecided (state_of states p))

    at_place : (k : ℕ) (s : State) → k < length states → get_or states k s ≡ s → both (1 + k) ≡ (is_undecided s && test (1 + k))
    at_place k s h at =
        let place : 1 + k - 1 ≡ k = omega arith in
        let own : get_or states (1 + k - 1) (crashed 0) ≡ s =
        ap (λ (j : ℕ). get_or states j (crashed 0)) place ∙ get_d_inside states k (crashed 0) s h ∙ at
        in
        ap (λ (c : State). is_undecided c && test (1 + k)) own

-- So the messages of a kind that are carried, by the set of those whom they reach.
pub carried_size : (gets : Reach → Bool) (x : Instance) (r : ℕ) (states : List State) → length states ≡ x.processes → x.processes ≤ 64
    → carried_in gets x r states
    ≡ cond (speaks r states) (ones64 (bit_and (reached_set gets x.processes (fault_of x r) r) (undecided_among x.processes states))) 0
unfolding carried_in carries
carried_size gets x r states as_many small =
    ap (λ (k : ℕ). cond (speaks r states) k 0) (sym (undecided_size x.processes _ states as_many small))

-- A message is carried only to a process above the coordinator.
carried_above : (gets : Reach → Bool) → gets none ≡ false → (x : Instance) (r p : ℕ) (s : State) → cond (carries gets x r p s) 1 0 ≤ cond (ltb r p) 1 0
unfolding carries reach
carried_above gets silent x r p s = by_tests (is_undecided s) (ltb r p) (reach_in x.processes (fault_of x r) r p)
  where
    by_tests : (a b : Bool) (far : Reach) → cond (a && gets (cond b far none)) 1 0 ≤ cond b 1 0
    by_tests false b far = omega arith
    by_tests true true far = cond_le (gets far) 1 0 1 (omega arith) (omega arith)
    by_tests true false far = rw silent (omega arith)

carried_le : (gets : Reach → Bool) → gets none ≡ false → (x : Instance) (r : ℕ) (states : List State) → carried_in gets x r states ≤ length states - r
unfolding carried_in
carried_le gets silent x r states =
    cond_le (speaks r states) _ 0 (length states - r)
    (omega (arith, count_stricter (carries gets x r) (λ p s. ltb r p) (carried_above gets silent x r) 1 states, count_above r states)) (omega arith)

-- Round r of n processes counts at most n - r data messages, and at most n - r commit messages.
pub data_in_le : (x : Instance) (r : ℕ) (states : List State) → data_in x r states ≤ length states - r
unfolding data_in gets_data gets_commit
data_in_le x r states = carried_le _ refl x r states

pub commits_in_le : (x : Instance) (r : ℕ) (states : List State) → commits_in x r states ≤ length states - r
unfolding commits_in gets_data gets_commit
commits_in_le x r states = carried_le _ refl x r states

-- How many processes are up and undecided.
unfoldable pub undecided_count : List State → ℕ
undecided_count states = count_from (λ p s. is_undecided s) 1 states

-- A process that begins round r undecided, in which w is sent, is at most one of three: the coordinator, one to whom the commit is sent, or undecided after
-- the round. One that crashes in the round is not undecided after it, be the commit sent to it or not.
ends_once : (r v w : ℕ) (crashes coordinates : Bool) (far : Reach) → (coordinates ≡ true → far ≡ none)
    → cond (is_undecided (cond crashes (crashed r) (after_outcome r (receives coordinates v (arriving far (sends true w)))))) 1 0
    + cond coordinates 1 0 + cond (gets_commit far) 1 0 ≤ 1
unfolding is_undecided after_outcome receives arriving sends gets_commit
ends_once r v w true true none itself = omega arith
ends_once r v w true true data_only itself = absurd (let z : ◌≡◌ {A = ℕ} 0 1 = cc (itself refl) in omega arith)
ends_once r v w true true all itself = absurd (let z : ◌≡◌ {A = ℕ} 0 1 = cc (itself refl) in omega arith)
ends_once r v w true false none itself = omega arith
ends_once r v w true false data_only itself = omega arith
ends_once r v w true false all itself = omega arith
ends_once r v w false true none itself = omega arith
ends_once r v w false true data_only itself = absurd (let z : ◌≡◌ {A = ℕ} 0 1 = cc (itself refl) in omega arith)
ends_once r v w false true all itself = absurd (let z : ◌≡◌ {A = ℕ} 0 1 = cc (itself refl) in omega arith)
ends_once r v w false false none itself = omega arith
ends_once r v w false false data_only itself = omega arith
ends_once r v w false false all itself = omega arith

module _ (x : Instance) (r : ℕ) where
  -- What process p becomes in round r, whose coordinator began it in the state `c`.
  abbrev after_in : State → ℕ → State → State
  after_in c p s = after r p (fault_of x p) (received x.processes r (fault_of x r) c p) s

  -- Any process, where the coordinator speaks.
  spoken_at : (w p : ℕ) (s : State)
      → cond (is_undecided (after_in (undecided w) p s)) 1 0 + cond (is_undecided s && eqb p r) 1 0 + cond (carries gets_commit x r p s) 1 0
      ≤ cond (is_undecided s) 1 0
  unfolding is_undecided after received sent_by carries
  spoken_at w p (undecided v) =
      ends_once r v w (crashes_in r (fault_of x p)) (eqb p r) (reach x.processes (fault_of x r) r p) (none_to_itself x.processes r p (fault_of x r))
  spoken_at w p (decided round v) = omega arith
  spoken_at w p (crashed round) = omega arith

  -- And where it is silent.
  silent_at : (c : State) (p : ℕ) (s : State) → cond (is_undecided (after_in c p s)) 1 0 ≤ cond (is_undecided s) 1 0
  unfolding is_undecided after
  silent_at c p (undecided v) = cond_le (is_undecided (after_in c p (undecided v))) 1 0 1 (omega arith) (omega arith)
  silent_at c p (decided round v) = omega arith
  silent_at c p (crashed round) = omega arith

  module _ (states : List State) where
    count_after : undecided_count (states_after x r states) ≡ count_from (λ p s. is_undecided (after_in (state_of states r) p s)) 1 states
    unfolding undecided_count states_after
    count_after = count_map_from (λ p s. is_undecided s) (after_in (state_of states r)) 1 states

    -- The speaker is one of those that are undecided as the round begins.
    one_speaker : 1 ≤ r → r ≤ length states → speaks r states ≡ true → 1 ≤ count_from (λ p s. is_undecided s && eqb p r) 1 states
    unfolding speaks state_of
    one_speaker h g spoke =
        let place : 1 + (r - 1) ≡ r = omega arith in
        count_some (λ p s. is_undecided s && eqb p r) (crashed 0) 1 states (r - 1) (omega arith) (rw (spoke, eq-eqb _ _ place))

    -- In a round the undecided get fewer by the speaker and by each commit that is carried, at least.
    pub fewer_undecided : 1 ≤ r → r ≤ length states
        → undecided_count (states_after x r states) + cond (speaks r states) 1 0 + commits_in x r states ≤ undecided_count states
    unfolding undecided_count commits_in carried_in speaks
    fewer_undecided h g = by_test (speaks r states) refl
      where
        by_test : (b : Bool) → speaks r states ≡ b
            → undecided_count (states_after x r states) + cond b 1 0 + cond b (count_from (carries gets_commit x r) 1 states) 0 ≤ undecided_count states
        by_test true spoke =
            let (w, own) = value_of_undecided (state_of states r) spoke in
            let apart = count_apart (λ p s. is_undecided (after_in (state_of states r) p s)) (λ p s. is_undecided s && eqb p r) (carries gets_commit x r)
            (λ p s. is_undecided s) (λ p s. rw own (spoken_at w p s)) 1 states
            in
            omega (arith, apart, count_after, one_speaker h g spoke)
        by_test false silent =
            let fewer = count_stricter (λ p s. is_undecided (after_in (state_of states r) p s)) (λ p s. is_undecided s) (silent_at (state_of states r)) 1 states in
            omega (arith, fewer, count_after)
