-- A part that is up and not open is in a valid state, so that calls of it are refused with 11. For well-formed instances. Assumes nothing else.
use mathlib.Core.List.{List}
use mathlib.Core.Path.{◌≡◌, sym, ap, ◌∙◌}
use mathlib.Core.Bool.{true, false}
use Prim.Native.Nat.{ℕ, suc, ◌≤◌, ◌<◌}
use native.Mathlib.Omega.{arith}
use Rattle.general.proofs.Tests.{by_order}
use Rattle.consensus.specs.Instance.{Instance}
use Rattle.consensus.specs.declared.State.{State}
use Rattle.consensus.specs.declared.State.TheVariants.{Decided as decided}
use Rattle.consensus.specs.Consensus.{IsProcess}
use Rattle.coordinator.specs.Run.{last_round, end_of}
use Rattle.coordinator.specs.WellFormed.{WellFormed}
use Rattle.coordinator_laws.proofs.Pointwise.{state_at, state_at_lem}
use Rattle.coordinator_laws.proofs.History.{decided_later}
use Rattle.coordinator_laws.proofs.Coordinator.{waits_below}
use Rattle.coordinator_laws.proofs.Ends.{end_at}
use Rattle.part_format.specs.PartState.{state_from, state_bytes, state_valid, state_refusal, mark_decided, ValidBytes}
use Rattle.part_format.proofs.Valid.{over_valid}
use Rattle.part_format.proofs.ValidBytes.{valid_bytes}
use Rattle.part_host.specs.Part.{Part, up, part_of, bytes_kept, is_open}
use Rattle.part_host.specs.Host.{parts_to}
use Rattle.part_host.specs.DecideAlike.{part_state, part_bytes, EndsAs}
use Rattle.part_host.proofs.Alike.{identity, Alike, both_open, both_over, both_decided, both_crashed}
use Rattle.part_host.proofs.DecideAlike.{parts_alike, parts_decide_alike}
use Rattle.part_host.proofs.Kept.{kept_decided}
use Rattle.part_schedules.proofs.Waiting.{refused_11, beyond_last}

module _ (x : Instance) (formed : WellFormed x) where
  -- The bytes of a process that has decided.
  decided_valid : (p i v : ℕ) → EndsAs x p (decided i v) → ValidBytes (part_bytes x p i mark_decided v)
  unfolding bytes_kept
  decided_valid p i v ends = rw ((parts_decide_alike x formed).when_decided p i v ends) at (kept_decided x formed p i v ends).0

  module _ (r p : ℕ) (process : IsProcess x p) where
    ended_valid : r ≤ suc x.resilience → {s : State} {part : Part} → state_at x r p ≡ s → Alike x r p s part → (b : List ℕ) → part ≡ up b → is_open b ≡ false
        → ValidBytes b
    unfolding is_open state_from state_bytes part_state state_valid
    ended_valid within e (both_open {v} _) b has ended =
        let same : b ≡ part_bytes x p (suc r) 0 v = cc in
        let clash : true ≡ false = rw same at ended in
        absurd (let z : ◌≡◌ {A = ℕ} 0 1 = cc in let w : ⊥ = omega arith in w)
    ended_valid within e (both_over {v} over) b has ended =
        let same : part_bytes x p r 2 v ≡ b = cc in
        let above : r < p = waits_below x r p v process.first e in
        rw (← same, over) (valid_bytes (part_state x p (suc x.resilience) 2 v) (over_valid (identity x formed p process) (omega arith)))
    ended_valid within e (both_decided {i} {v}) b has ended =
        let same : part_bytes x p i mark_decided v ≡ b = cc in
        let ends : end_of x p ≡ decided i v = end_at x formed p process ∙ decided_later x r (last_round x) p i v within e in
        rw (← same) (decided_valid p i v (record { is_process = process; state = ends }))
    ended_valid within e (both_crashed _) b has ended = absurd (let z : ◌≡◌ {A = ℕ} 0 1 = cc in let w : ⊥ = omega arith in w)

  pub ended_bytes_lem : (r p : ℕ) → IsProcess x p → (b : List ℕ) → part_of (parts_to x r) p ≡ up b → is_open b ≡ false → ValidBytes b
  ended_bytes_lem r p process b has ended =
      by_order r (suc x.resilience) (λ low. of_round_lem r low has) (λ high. of_round_lem (suc x.resilience) (omega arith) (later high))
    where
      of_round_lem : (m : ℕ) → m ≤ suc x.resilience → part_of (parts_to x m) p ≡ up b → ValidBytes b
      of_round_lem m low e =
          ended_valid m p process low (sym (state_at_lem x m p (omega arith) process.first (omega arith))) (parts_alike x formed m p low process) b e ended

      later : suc x.resilience < r → part_of (parts_to x (suc x.resilience)) p ≡ up b
      later high = ap (λ (parts : List Part). part_of parts p) (sym (beyond_last x formed r (omega arith))) ∙ has

  pub ended_refused : (r p : ℕ) → IsProcess x p → (b : List ℕ) → part_of (parts_to x r) p ≡ up b → is_open b ≡ false → state_refusal b ≡ 11
  ended_refused r p process b has ended = refused_11 b (ended_bytes_lem r p process b has ended) ended
