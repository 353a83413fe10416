-- Parts that are started in whatever order are those of the base's host before round 1 (`started_in_order`). For well-formed instances. Assumes nothing else.
use mathlib.Core.List.{List, [], map}
use mathlib.Core.Path.{◌≡◌, refl, sym, ap, ◌∙◌}
use Prim.Native.Nat.{ℕ, ◌-◌}
use native.Mathlib.Omega.{arith}
use lib.ListN.{length, length-replicate, get_or-replicate}
use Rattle.consensus.specs.Instance.{Instance, proposal_of}
use Rattle.consensus.specs.Consensus.{IsProcess}
use Rattle.coordinator.specs.WellFormed.{WellFormed}
use Rattle.part_format.specs.PartState.{state_bytes}
use Rattle.part_format.specs.Start.{start_refusal, start_state, start_bytes}
use Rattle.part_format.proofs.Valid.{identity_holds}
use Rattle.part_host.specs.Part.{Part, up, part_of}
use Rattle.part_host.specs.Host.{blank, parts_to}
use Rattle.part_host.proofs.Places.{part_started}
use Rattle.part_host.proofs.Alike.{identity}
use Rattle.part_schedules.specs.Steps.{start, unstarted, with_bytes, started_with, play}
use Rattle.part_schedules.specs.Schedule.{EachOnce}
use Rattle.part_schedules.specs.AnyOrder.{NineBytes}
use Rattle.part_schedules.proofs.Turns.{parts_ext, repeated, changed_in_turn, length_in_turn, in_turn}
use Rattle.part_schedules.proofs.Phases.{all_started}
use Rattle.part_schedules.proofs.Waiting.{as_many}
use Rattle.part_schedules.proofs.Round.{at_round}

module _ (x : Instance) where
  -- The part of each process before it is started.
  pub part_unstarted : (p : ℕ) → IsProcess x p → part_of (unstarted x).parts p ≡ up blank
  unfolding unstarted part_of
  part_unstarted p process = get_or-replicate x.processes (p - 1) (up blank) _ (omega arith)

  pub length-unstarted : length (unstarted x).parts ≡ x.processes
  unfolding unstarted
  length-unstarted = length-replicate x.processes (up blank)

  -- Such bytes are nine.
  pub unstarted_nine : NineBytes x (unstarted x).parts
  unfolding blank
  unstarted_nine = record { many = length-unstarted; each = λ p process. (blank, part_unstarted p process, refl) }

  module _ (formed : WellFormed x) where
    -- What starting leaves, whatever stood in the nine bytes.
    started_bytes : (p v : ℕ) → IsProcess x p → (b : List ℕ) → length b ≡ 9
        → start_bytes p x.processes x.resilience v b ≡ state_bytes (start_state p x.processes x.resilience v)
    unfolding start_bytes start_refusal
    started_bytes p v process b nine = rw (identity_holds (identity x formed p process), nine) refl

    module _ (order : List ℕ) (all : EachOnce x order) (parts : List Part) (nine : NineBytes x parts) where
      part_after_start : (p : ℕ) → IsProcess x p → part_of (changed_in_turn (started_with x) order parts) p ≡ part_of (parts_to x 0) p
      unfolding EachOnce repeated started_with with_bytes blank
      part_after_start p process =
          let (b, has, size) = nine.each p process in
          in_turn (started_with x) order parts p process.first (omega (arith, nine.many))
          ∙ rw (all.once p process refl, has, started_bytes p (proposal_of x p) process b size)
          (sym (part_started x p process.first (omega arith) ∙ ap up (started_bytes p (proposal_of x p) process blank refl)))

      pub started_in_order : play x (map start order) (record { round = 1; parts = parts; spoken = [] }) ≡ at_round x 0
      started_in_order =
          all_started x order (record { round = 1; parts = parts; spoken = [] })
          ∙ ap (λ (after : List Part). record { round = 1; parts = after; spoken = [] })
          (parts_ext x.processes _ _ (length_in_turn (started_with x) order parts ∙ nine.many) (as_many x formed 0)
          (λ p first last. part_after_start p (record { first = first; last = last })))
