-- Demand 2, second half: separate parts, fed the frames that the failure pattern lets through, decide as the processes of the run do (`parts_decide_alike`);
-- and no call to an open part is refused (`none_refused_lem`). By induction over the rounds. For well-formed instances. Assumes nothing else.
use mathlib.Core.List.{List}
use mathlib.Core.Path.{◌≡◌, refl, sym, ◌∙◌}
use mathlib.Core.Bool.{true, false}
use Prim.Native.Nat.{ℕ, zero, suc, ◌^◌, ◌≤◌, ◌<◌}
use native.Mathlib.Omega.{arith}
use lib.ListN.{length}
use Rattle.consensus.specs.Instance.{Instance, fault_of, proposal_of}
use Rattle.coordinator.specs.Delivery.{reach}
use Rattle.consensus.specs.State.{state_of}
use Rattle.consensus.specs.declared.State.{State}
use Rattle.consensus.specs.declared.State.TheVariants.{Undecided as undecided, Decided as decided, Crashed as crashed}
use Rattle.coordinator.specs.Round.{sent_by, received}
use Rattle.coordinator.specs.Run.{run_to, run_of, end_of}
use Rattle.coordinator.specs.WellFormed.{WellFormed}
use Rattle.consensus.specs.Consensus.{IsProcess}
use Rattle.coordinator_laws.proofs.Pointwise.{state_at, state_at_lem}
use Rattle.coordinator_laws.proofs.Rounds.{received_below}
use Rattle.coordinator_laws.proofs.History.{heard_at, undecided_crashed, decided_crashed}
use Rattle.coordinator_laws.proofs.Values.{Holds, holds_fitting}
use Rattle.part_format.specs.PartState.{state_bytes, state_from, mark_open, mark_decided}
use Rattle.part_format.specs.Frame.{frames_of}
use Rattle.part_format.specs.Start.{start_refusal, start_state, start_bytes}
use Rattle.part_format.specs.Speak.{speak_refusal}
use Rattle.part_format.specs.Close.{close_refusal}
use Rattle.part_format.proofs.Valid.{identity_holds}
use Rattle.part_format.proofs.Operations.{start_written}
use Rattle.part_format.proofs.Carried.{Carried, sends_carried, arriving_carried}
use Rattle.part_host.specs.Part.{Part, up, part_of, is_open, output_room, yielded}
use Rattle.part_host.specs.Hearing.{reach_from, let_through, heard}
use Rattle.part_host.specs.Host.{blank, parts_to, parts_of, end_part_of}
use Rattle.part_host.specs.DecideAlike.{part_state, part_bytes, CrashedAlike, DecideAlike, OpenAfter, NoneRefused}
use Rattle.part_host.proofs.Places.{length-parts, part_started, part_after_lem}
use Rattle.part_host.proofs.Hearing.{heard_from_one, frames_reaching}
use Rattle.part_host.proofs.Alike.{Alike, both_open, both_over, both_decided, both_crashed}
use Rattle.part_host.proofs.Alike.{identity, open_spoken, open_after, coordinator_yields, others_silent, round_alike}

-- What is sent has a value of four bytes, if the coordinator's has.
sent_carried : (c : State) → Holds (λ v. v < 2 ^ 32) c → Carried (sent_by c)
unfolding Holds sent_by Carried
sent_carried (undecided v) h = sends_carried true v h
sent_carried (decided i v) h = tt
sent_carried (crashed i) h = tt

-- What a part that is open says of its process.
open_part : (x : Instance) (r p : ℕ) (b : List ℕ) → r ≤ x.resilience → is_open b ≡ true → {s : State} {part : Part} → Alike x r p s part → part ≡ up b
    → (v : ℕ) × (s ≡ undecided v) × (part_bytes x p (suc r) mark_open v ≡ b)
unfolding is_open state_from state_bytes part_state
open_part x r p b within marked (both_open {v} _) e = (v, refl, cc)
open_part x r p b within marked (both_over over) e = absurd (let z : ⊥ = omega arith in z)
open_part x r p b within marked (both_decided {i} {v}) e =
    let same : b ≡ part_bytes x p i mark_decided v = cc in
    let clash : false ≡ true = rw same at marked in
    absurd (let z : ◌≡◌ {A = ℕ} 0 1 = cc in omega arith)
open_part x r p b within marked (both_crashed _) e = absurd (let z : ◌≡◌ {A = ℕ} 0 1 = cc in omega arith)

-- What an end of a process says of its part.
decided_part : (x : Instance) (r p i v : ℕ) {s : State} {part : Part} → Alike x r p s part → s ≡ decided i v → part ≡ up (part_bytes x p i mark_decided v)
decided_part x r p i v (both_open _) e = cc
decided_part x r p i v (both_over _) e = cc
decided_part x r p i v both_decided e = cc
decided_part x r p i v (both_crashed _) e = cc

crashed_part : (x : Instance) (r p j : ℕ) {s : State} {part : Part} → Alike x r p s part → s ≡ crashed j
    → CrashedAlike x p j part
crashed_part x r p j (both_open {v} _) e = absurd (undecided_crashed _ v j refl e)
crashed_part x r p j (both_over {v} _) e = absurd (undecided_crashed _ v j refl e)
crashed_part x r p j (both_decided {i} {v}) e = absurd (decided_crashed _ i v j refl e)
crashed_part x r p j (both_crashed {i} {v} began) e =
    let same : suc i ≡ j = cc in
    record { before = i; estimate = v; next = sym same; undecided_then = began; bytes = cc }

module _ (x : Instance) (formed : WellFormed x) where
  -- All processes and their parts are alike after r rounds.
  abbrev AllAlike : ℕ → Type 0
  AllAlike r = (p : ℕ) → IsProcess x p → Alike x r p (state_at x r p) (part_of (parts_to x r) p)

  started : (p : ℕ) → IsProcess x p → (0 ≡ start_refusal p x.processes x.resilience blank)
      × (part_bytes x p 1 mark_open (proposal_of x p) ≡ start_bytes p x.processes x.resilience (proposal_of x p) blank)
  unfolding blank start_state part_state
  started p process = start_written p x.processes x.resilience (proposal_of x p) blank (identity_holds (identity x formed p process)) _ refl refl

  module _ (r : ℕ) (within : r ≤ x.resilience) (alike : AllAlike r) where
    -- The frames that process p hears carry what it receives in the run.
    heard_received : (p : ℕ) → heard x (suc r) p (parts_to x r) ≡ frames_of (suc r) (heard_at x r p)
    unfolding let_through reach_from received reach
    heard_received p =
        let as_many : length (parts_to x r) ≡ x.processes = length-parts x r ∙ formed.all_propose in
        let coordinator : IsProcess x (suc r) = record { first = omega arith; last = omega arith } in
        let sent : yielded (part_of (parts_to x r) (suc r)) ≡ frames_of (suc r) (sent_by (state_at x r (suc r))) =
        coordinator_yields x formed r (suc r) within coordinator refl refl (alike (suc r) coordinator) in
        heard_from_one x r p (parts_to x r) (omega arith)
        (λ q first last other. let process : IsProcess x q = record { first = first; last = omega arith } in
        others_silent x formed r q within process other refl (alike q process))
        ∙ rw (sent, frames_reaching)

  received_carried : (r p : ℕ) → Carried (heard_at x r p)
  unfolding received
  received_carried r p = arriving_carried _ _ (sent_carried (state_at x r (suc r)) (holds_fitting x formed r (suc r)))

  -- They are alike after every round.
  alike_after : (r : ℕ) → r ≤ suc x.resilience → AllAlike r
  unfolding state_at
  alike_after zero within p process =
      rw (part_started x p process.first (omega arith), ← (started p process).1) (both_open (omega arith))
  alike_after (suc r) within p process =
      let before : AllAlike r = alike_after r (omega arith) in
      rw (part_after_lem x p process.first (omega arith) r, heard_received r (omega arith) before p)
      (round_alike x formed r p (omega arith) process (fault_of x p) (heard_at x r p) (received_carried r p)
      (λ low. received_below _ _ _ p _ low) refl (before p process))

  -- After rounds 1 to r, in the terms of the run.
  pub parts_alike : (r p : ℕ) → r ≤ suc x.resilience → IsProcess x p → Alike x r p (state_of (run_to x r).states p) (part_of (parts_to x r) p)
  parts_alike r p within process = rw (state_at_lem x r p (omega arith) process.first (omega arith)) (alike_after r within p process)

  pub parts_decide_alike : DecideAlike x
  unfolding end_of run_of end_part_of parts_of
  parts_decide_alike =
      record {
        when_decided = λ p r v d. decided_part x _ p r v (parts_alike _ p (omega arith) (omega (arith, d.is_process))) d.state;
        when_crashed = λ p r c. crashed_part x _ p r (parts_alike _ p (omega arith) (omega (arith, c.is_process))) c.state;
      }

  speaks_taken : (r p : ℕ) (b : List ℕ) → OpenAfter x r p b → speak_refusal b output_room ≡ 0
  speaks_taken r p b o =
      let within : r ≤ x.resilience = omega arith in
      let (v, waiting, same) = open_part x r p b within o.marked (alike_after r (omega arith) p o.process) o.kept in
      rw (← same) (open_spoken x formed r p within o.process v waiting)

  close_taken : (r p : ℕ) (b : List ℕ) → OpenAfter x r p b → close_refusal b (heard x (suc r) p (parts_to x r)) ≡ 0
  close_taken r p b o =
      let within : r ≤ x.resilience = omega arith in
      let before : AllAlike r = alike_after r (omega arith) in
      let (v, waiting, same) = open_part x r p b within o.marked (before p o.process) o.kept in
      rw (← same, heard_received r within before p)
      (open_after x formed r p within o.process v waiting (heard_at x r p) (received_carried r p) (λ low. received_below _ _ _ p _ low)).0

  pub none_refused_lem : NoneRefused x
  none_refused_lem = record { when_started = λ p process. sym (started p process).0; when_speaking = speaks_taken; when_closing = close_taken }
