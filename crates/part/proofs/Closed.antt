-- The state after a round, by its outcome and by the messages received, one law for each way. Assumes nothing.
use mathlib.Core.Path.{◌≡◌, refl}
use mathlib.Core.List.{List}
use Prim.Native.Nat.{ℕ, suc, ◌+◌}
use native.Mathlib.Numerals.{add-one}
use lib.ListN.{length, get_or, take, drop}
use borrow.Author.Tests.{eq-eqb, ne_eqb}
use Rattle.general.specs.BigEndian.{number}
use Rattle.coordinator.specs.Message.{Messages, nothing, estimate, estimate_and_commit}
use Rattle.coordinator.specs.Transition.{continues, decides, receives}
use Rattle.part_format.specs.PartState.{PartState, state_bytes, state_from, is_own_round}
use Rattle.part_format.specs.Close.{state_after, closed_on}
use Rattle.part_format.proofs.Bytes.{value_from}

-- The process, n and t of a state, with another round, mark and value.
abbrev pub with_mark : List ℕ → (round mark v : ℕ) → PartState
with_mark b round mark v =
    record { process = get_or b 0 0; processes = get_or b 1 0; resilience = get_or b 2 0; round = round; mark = mark; value = v }

module _ (b : List ℕ) (v : ℕ) where
  pub after_decides : state_bytes (with_mark b (get_or b 3 0) 1 v) ≡ state_bytes (state_after (state_from b) (decides v))
  unfolding state_after state_from
  after_decides = refl

  pub after_last : get_or b 3 0 ≡ get_or b 2 0 + 1 → state_bytes (with_mark b (get_or b 3 0) 2 v) ≡ state_bytes (state_after (state_from b) (continues v))
  unfolding state_after state_from
  after_last h = rw (eq-eqb (get_or b 3 0) (suc (get_or b 2 0)) (rw add-one at h))

  pub after_earlier : (get_or b 3 0 ≡ get_or b 2 0 + 1 → ⊥) → state_bytes (with_mark b (get_or b 3 0 + 1) 0 v) ≡ state_bytes (state_after (state_from b) (continues v))
  unfolding state_after state_from
  after_earlier h = rw (ne_eqb (get_or b 3 0) (suc (get_or b 2 0)) (rw add-one at h), add-one)

-- By the messages received: in its own round a process decides its value; in any other it keeps, adopts, or adopts and decides.
module _ (b : List ℕ) (m : Messages) (v : ℕ) where
  pub closed_own : get_or b 0 0 ≡ get_or b 3 0 → length b ≡ 9 → v ≡ number (take 4 (drop 5 b))
      → state_bytes (state_after (state_from b) (decides v)) ≡ state_bytes (closed_on (state_from b) m)
  unfolding closed_on is_own_round state_from receives
  closed_own own nine e = rw (eq-eqb (get_or b 0 0) (get_or b 3 0) own, e, value_from b nine)

  module _ (other : get_or b 0 0 ≡ get_or b 3 0 → ⊥) where
    pub closed_nothing : length b ≡ 9 → v ≡ number (take 4 (drop 5 b)) → m ≡ nothing
        → state_bytes (state_after (state_from b) (continues v)) ≡ state_bytes (closed_on (state_from b) m)
    unfolding closed_on is_own_round state_from receives
    closed_nothing nine e h = rw (ne_eqb (get_or b 0 0) (get_or b 3 0) other, h, e, value_from b nine)

    pub closed_data : m ≡ estimate v → state_bytes (state_after (state_from b) (continues v)) ≡ state_bytes (closed_on (state_from b) m)
    unfolding closed_on is_own_round state_from receives
    closed_data h = rw (ne_eqb (get_or b 0 0) (get_or b 3 0) other, h)

    pub closed_commit : m ≡ estimate_and_commit v → state_bytes (state_after (state_from b) (decides v)) ≡ state_bytes (closed_on (state_from b) m)
    unfolding closed_on is_own_round state_from receives
    closed_commit h = rw (ne_eqb (get_or b 0 0) (get_or b 3 0) other, h)
