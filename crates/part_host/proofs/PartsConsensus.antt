-- Demand 3 of separate parts (`parts_consensus`, `parts_no_later_lem`): read by their own nine bytes they are the states of the run after every round
-- (`parts_read`), so what is proved of the run is true of them. For well-formed instances. Assumes nothing else.
use mathlib.Core.List.{List, [], map}
use mathlib.Core.Path.{◌≡◌, refl, sym, ap, fun_ext, ◌∙◌}
use Prim.Native.Nat.{ℕ, suc, ◌-◌, ◌^◌, ◌≤◌, ◌<◌}
use native.Mathlib.Omega.{arith}
use lib.ListN.{length, get_or, length-map, get_or-map}
use Rattle.consensus.specs.Instance.{Instance}
use Rattle.consensus.specs.State.{state_of}
use Rattle.consensus.specs.declared.State.{State}
use Rattle.consensus.specs.declared.State.TheVariants.{Crashed as crashed}
use Rattle.coordinator.specs.Run.{run_to, run_of, crashes_of, end_of, latest_of}
use Rattle.coordinator.specs.WellFormed.{WellFormed}
use Rattle.consensus.specs.Consensus.{IsProcess, UniformConsensus, NoLater}
use Rattle.coordinator_laws.specs.Pairing.{Paired}
use Rattle.coordinator_laws.proofs.Pointwise.{states_ext, state_at_lem, length-states}
use Rattle.coordinator_laws.proofs.Values.{Holds, holds_fitting}
use Rattle.coordinator_laws.proofs.Consensus.{uniform_consensus}
use Rattle.coordinator_laws.proofs.Pair.{no_later_lem}
use Rattle.part_format.proofs.RoundTrip.{state_from_bytes}
use Rattle.part_host.specs.Part.{Part, crashed_in, part_of}
use Rattle.part_host.specs.Host.{parts_to, parts_of, end_part_of}
use Rattle.part_host.specs.DecideAlike.{part_state}
use Rattle.part_host.specs.PartEnds.{state_by_part, end_by_part, latest_by_parts}
use Rattle.part_host.proofs.Places.{length-parts}
use Rattle.part_host.proofs.Alike.{Alike, both_open, both_over, both_decided, both_crashed}
use Rattle.part_host.proofs.DecideAlike.{parts_alike}

-- A part that is like its process says so.
says_state : (x : Instance) (r p : ℕ) {s : State} {part : Part} → Alike x r p s part → Holds (λ v. v < 2 ^ 32) s → state_by_part part ≡ s
unfolding state_by_part Holds part_state
says_state x r p (both_open {v} _) fits = simp (state_from_bytes (part_state x p (suc r) 0 v) fits)
says_state x r p (both_over {v} _) fits = simp (state_from_bytes (part_state x p r 2 v) fits)
says_state x r p (both_decided {i} {v}) fits = simp (state_from_bytes (part_state x p i 1 v) fits)
says_state x r p (both_crashed _) fits = refl

module _ (x : Instance) (formed : WellFormed x) where
  pub part_says : (r p : ℕ) → r ≤ suc x.resilience → IsProcess x p → state_by_part (part_of (parts_to x r) p) ≡ state_of (run_to x r).states p
  part_says r p within process =
      says_state x r p (parts_alike x formed r p within process)
      (rw (state_at_lem x r p (omega arith) process.first (omega arith)) (holds_fitting x formed r p))

  -- Read by their bytes, the parts are the states of the run after every round.
  pub parts_read : (r : ℕ) → r ≤ suc x.resilience → map state_by_part (parts_to x r) ≡ (run_to x r).states
  unfolding part_of state_of state_by_part
  parts_read r within =
      let as_many : length (map state_by_part (parts_to x r)) ≡ length x.proposals = length-map (parts_to x r) state_by_part ∙ length-parts x r in
      states_ext (length x.proposals) (map state_by_part (parts_to x r)) (run_to x r).states as_many (length-states x r)
      (λ p h g. get_or-map state_by_part (parts_to x r) (p - 1) (crashed_in 0 []) ∙ part_says r p within (record { first = h; last = omega arith }))

  ends_read : map state_by_part (parts_of x) ≡ (run_of x).states
  unfolding parts_of run_of
  ends_read = parts_read (suc x.resilience) (omega arith)

  -- Every process ends by its part as in the run.
  pub ends_alike : end_by_part x ≡ end_of x
  unfolding end_by_part end_part_of part_of end_of state_of state_by_part
  ends_alike =
      fun_ext
      (λ p. sym (get_or-map state_by_part (parts_of x) (p - 1) (crashed_in 0 []))
      ∙ ap (λ (states : List State). get_or states (p - 1) (crashed 0)) ends_read)

  latest_alike : latest_by_parts x ≡ latest_of x
  unfolding latest_by_parts latest_of crashes_of
  latest_alike = rw ends_read

  pub parts_consensus : UniformConsensus (latest_by_parts x) x (end_by_part x)
  parts_consensus = rw (latest_alike, ends_alike) (uniform_consensus x formed)

-- More commits let through make no part decide later, or on another value.
pub parts_no_later_lem : (x y : Instance) → WellFormed x → WellFormed y → Paired x y → NoLater x (end_by_part x) y (end_by_part y)
parts_no_later_lem x y formed formed' paired = rw (ends_alike x formed, ends_alike y formed') (no_later_lem x y formed formed' paired)
