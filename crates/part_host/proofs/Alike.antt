-- Process and part in one round: what the part of a process yields, and that process and part go on alike. For well-formed instances. Assumes nothing else.
use mathlib.Core.List.{[]}
use mathlib.Core.Path.{◌≡◌, refl, ◌∙◌}
use mathlib.Core.Bool.{Bool, true, false, cond}
use Prim.Native.Nat.{ℕ, suc, ◌^◌, ◌≤◌, ◌<◌}
use native.Mathlib.Omega.{arith}
use lib.Dec.{eqb}
use borrow.Author.Tests.{eq-eqb, ne_eqb, eqb-true, eqb-false}
use Rattle.coordinator.specs.Message.{Messages, nothing}
use Rattle.consensus.specs.Instance.{Instance}
use Rattle.consensus.specs.declared.Fault.{Fault}
use Rattle.coordinator.specs.Transition.{Outcome, continues, decides, sends, receives}
use Rattle.consensus.specs.State.{state_of, crashes_in}
use Rattle.consensus.specs.declared.State.{State}
use Rattle.consensus.specs.declared.State.TheVariants.{Undecided as undecided, Decided as decided, Crashed as crashed}
use Rattle.coordinator.specs.Round.{sent_by, after_outcome, after}
use Rattle.coordinator.specs.Run.{run_to}
use Rattle.coordinator.specs.WellFormed.{WellFormed}
use Rattle.consensus.specs.Consensus.{IsProcess}
use Rattle.coordinator_laws.proofs.Pointwise.{state_at, state_at_lem}
use Rattle.coordinator_laws.proofs.Values.{Holds, holds_fitting}
use Rattle.coordinator_laws.proofs.Coordinator.{waits_below}
use Rattle.part_format.specs.PartState.{state_bytes, state_from, state_valid, is_own_round, mark_open, mark_decided, mark_over}
use Rattle.part_format.specs.Frame.{frames_of}
use Rattle.part_format.specs.Speak.{speak_refusal, speak_yields}
use Rattle.part_format.specs.Close.{state_after, closed_on, close_refusal, close_state}
use Rattle.part_format.proofs.Valid.{Identity, within_valid}
use Rattle.part_format.proofs.Carried.{Carried}
use Rattle.part_format.proofs.Exchange.{speak_taken, speak_yields_lem, close_on_frames}
use Rattle.part_host.specs.Part.{Part, up, crashed_in, is_open, output_room, yielded}
use Rattle.part_host.specs.Host.{part_after}
use Rattle.part_host.specs.DecideAlike.{part_state, part_bytes}
use Rattle.part_host.proofs.Calls.{ended_silent, ended_stays}

-- The state of process p after rounds 1 to r in the run, and its part then: open in the next round with the same estimate, after the last round with the mark
-- "rounds over"; decided in the same round on the same value; crashed in the same round, with the bytes with which that round began.
pub data Alike (x : Instance) (r p : ℕ) : State → Part → Type 0 where
  both_open : {v : ℕ} → r ≤ x.resilience → Alike x r p (undecided v) (up (part_bytes x p (suc r) mark_open v))
  both_over : {v : ℕ} → r ≡ suc x.resilience → Alike x r p (undecided v) (up (part_bytes x p r mark_over v))
  both_decided : {i v : ℕ} → Alike x r p (decided i v) (up (part_bytes x p i mark_decided v))
  both_crashed : {i v : ℕ} → state_of (run_to x i).states p ≡ undecided v
      → Alike x r p (crashed (suc i)) (crashed_in (suc i) (part_bytes x p (suc i) mark_open v))

-- The part of a decided process is not open.
decided_ended : (x : Instance) (p i v : ℕ) → (state_from (part_bytes x p i mark_decided v)).mark ≡ 0 → ⊥
unfolding state_from state_bytes part_state
decided_ended x p i v e = omega arith

module _ (x : Instance) (formed : WellFormed x) where
  -- n, t and every process of the instance are within the limits.
  pub identity : (p : ℕ) → IsProcess x p → Identity p x.processes x.resilience
  identity p process = record { process = process.first; within = process.last; processes = formed.at_most_64; resilience = formed.fewer_crashes }

  module _ (r p : ℕ) (within : r ≤ x.resilience) (process : IsProcess x p) where
    module _ (v : ℕ) (waiting : state_at x r p ≡ undecided v) where
      value_fits : v < 2 ^ 32
      unfolding Holds
      value_fits = rw waiting at (holds_fitting x formed r p)

      -- The part of an undecided process is in a valid state.
      open_valid : state_valid (part_state x p (suc r) mark_open v) ≡ true
      unfolding state_valid part_state
      open_valid =
          let own : suc r ≤ p = waits_below x r p v process.first waiting in
          within_valid (identity p process) (omega arith) (record { first = omega arith; last = omega arith; own = own })

      -- It is not refused when it speaks; what it yields; and what it becomes on frames of the round: in its own round it takes none.
      pub open_spoken : speak_refusal (part_bytes x p (suc r) mark_open v) output_room ≡ 0
      unfolding part_state output_room
      open_spoken = speak_taken (part_state x p (suc r) mark_open v) open_valid refl value_fits output_room (omega arith)

      open_yields : speak_yields (part_bytes x p (suc r) mark_open v) output_room ≡ frames_of (suc r) (sends (eqb p (suc r)) v)
      unfolding is_own_round part_state output_room
      open_yields = speak_yields_lem (part_state x p (suc r) mark_open v) open_valid refl value_fits output_room (omega arith)

      pub open_after : (m : Messages) → Carried m → (p ≤ suc r → m ≡ nothing)
          → (close_refusal (part_bytes x p (suc r) mark_open v) (frames_of (suc r) m) ≡ 0)
          × (close_state (part_bytes x p (suc r) mark_open v) (frames_of (suc r) m)
          ≡ state_bytes (state_after (part_state x p (suc r) mark_open v) (receives (eqb p (suc r)) v m)))
      unfolding closed_on is_own_round part_state
      open_after m carried alone =
          let silent : eqb p (suc r) ≡ true → m ≡ nothing = λ e. let own : p ≡ suc r = eqb-true p (suc r) e in alone (omega arith) in
          close_on_frames (part_state x p (suc r) mark_open v) open_valid refl value_fits m carried silent

    -- The part of the coordinator of round r + 1 yields the frames of what its process sends; every other part nothing.
    pub coordinator_yields : p ≡ suc r → {s : State} {part : Part} → state_at x r p ≡ s → Alike x r p s part → yielded part ≡ frames_of (suc r) (sent_by s)
    unfolding yielded sent_by frames_of
    coordinator_yields own e (both_open {v} _) = open_yields v e ∙ rw (eq-eqb p (suc r))
    coordinator_yields own e (both_over over) = absurd (let z : ⊥ = omega arith in z)
    coordinator_yields own e (both_decided {i} {v}) = ended_silent _ (decided_ended x p i v)
    coordinator_yields own e (both_crashed _) = refl

    pub others_silent : (p ≡ suc r → ⊥) → {s : State} {part : Part} → state_at x r p ≡ s → Alike x r p s part → yielded part ≡ []
    unfolding yielded sends frames_of
    others_silent other e (both_open {v} _) = open_yields v e ∙ rw (ne_eqb p (suc r))
    others_silent other e (both_over over) = absurd (let z : ⊥ = omega arith in z)
    others_silent other e (both_decided {i} {v}) = ended_silent _ (decided_ended x p i v)
    others_silent other e (both_crashed _) = refl

    -- A process that is undecided after round r + 1, or decides in it, has a part that is in round r + 2, or decided in round r + 1.
    outcome_alike : (v : ℕ) (o : Outcome) → Alike x (suc r) p (after_outcome (suc r) o) (up (state_bytes (state_after (part_state x p (suc r) mark_open v) o)))
    unfolding after_outcome state_after part_state
    outcome_alike v (decides w) = both_decided
    outcome_alike v (continues w) = by_round (eqb (suc r) (suc x.resilience)) refl
      where
        by_round : (over : Bool) → eqb (suc r) (suc x.resilience) ≡ over
            → Alike x (suc r) p (undecided w) (up (state_bytes (state_after (part_state x p (suc r) mark_open v) (continues w))))
        by_round true e = let last : suc r ≡ suc x.resilience = eqb-true _ _ e in rw e (both_over last)
        by_round false e = let more : suc r ≡ suc x.resilience → ⊥ = eqb-false _ _ e in rw e (both_open (omega arith))

    -- They go on alike.
    pub round_alike : (own : Fault) (m : Messages) → Carried m → (p ≤ suc r → m ≡ nothing) → {s : State} {part : Part} → state_at x r p ≡ s → Alike x r p s part
        → Alike x (suc r) p (after (suc r) p own m s) (part_after (suc r) own (frames_of (suc r) m) part)
    unfolding after part_after is_open state_from part_state state_bytes
    round_alike own m carried alone e (both_open {v} _) = by_test (crashes_in (suc r) own)
      where
        by_test : (crashing : Bool)
            → Alike x (suc r) p (cond crashing (crashed (suc r)) (after_outcome (suc r) (receives (eqb p (suc r)) v m)))
            (cond crashing (crashed_in (suc r) (part_bytes x p (suc r) mark_open v)) (up (close_state (part_bytes x p (suc r) mark_open v) (frames_of (suc r) m))))
        by_test true = both_crashed (state_at_lem x r p (omega arith) process.first (omega arith) ∙ e)
        by_test false = rw (open_after v e m carried alone).1 (outcome_alike v (receives (eqb p (suc r)) v m))
    round_alike own m carried alone e (both_over over) = absurd (let z : ⊥ = omega arith in z)
    round_alike own m carried alone e (both_decided {i} {v}) =
        rw (ended_stays (part_bytes x p i mark_decided v) (decided_ended x p i v) (frames_of (suc r) m)) both_decided
    round_alike own m carried alone e (both_crashed began) = both_crashed began
