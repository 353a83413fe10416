-- The nine bytes that a host keeps of a part: at the end they are a valid state, and say of a process that decided that it has, and of one that crashed that it
-- has not (`kept_decided`, `kept_crashed`); and where they say after some rounds that a process has decided, it ends so (`kept_since`). For well-formed instances. Assumes nothing else.
use mathlib.Core.List.{List}
use mathlib.Core.Path.{◌≡◌, refl, sym, ap, ◌∙◌}
use Prim.Native.Nat.{ℕ, suc, ◌≤◌, ◌<◌}
use native.Mathlib.Omega.{arith}
use Rattle.consensus.specs.Instance.{Instance}
use Rattle.consensus.specs.declared.State.{State}
use Rattle.consensus.specs.declared.State.TheVariants.{Undecided as undecided, Decided as decided, Crashed as crashed}
use Rattle.consensus.specs.Consensus.{IsProcess}
use Rattle.coordinator.specs.Run.{last_round, end_of}
use Rattle.coordinator.specs.WellFormed.{WellFormed}
use Rattle.coordinator_laws.proofs.Pointwise.{state_at, state_at_lem}
use Rattle.coordinator_laws.proofs.History.{undecided_decided, decided_later}
use Rattle.coordinator_laws.proofs.Coordinator.{waits_below, decided_since}
use Rattle.coordinator_laws.proofs.Reason.{crashed_since}
use Rattle.coordinator_laws.proofs.Ends.{end_at}
use Rattle.part_format.specs.PartState.{state_from, state_bytes, state_valid, mark_open, mark_decided, ValidBytes}
use Rattle.part_format.proofs.Valid.{within_valid}
use Rattle.part_format.proofs.ValidBytes.{valid_bytes}
use Rattle.part_host.specs.Part.{Part, up, crashed_in, part_of, bytes_kept}
use Rattle.part_host.specs.Host.{parts_to, end_part_of}
use Rattle.part_host.specs.DecideAlike.{part_state, part_bytes, EndsAs}
use Rattle.part_host.specs.PartEnds.{state_by_part, end_by_part}
use Rattle.part_host.proofs.Alike.{identity, Alike, both_open, both_over, both_decided, both_crashed}
use Rattle.part_host.proofs.DecideAlike.{parts_decide_alike, parts_alike}
use Rattle.part_host.proofs.PartsConsensus.{part_says, ends_alike}

-- An open part says that its process has not decided.
open_undecided : (x : Instance) (p r v : ℕ) → state_by_part (up (part_bytes x p r mark_open v)) ≡ undecided (state_from (part_bytes x p r mark_open v)).value
unfolding state_by_part part_state state_from state_bytes
open_undecided x p r v = refl

module _ (x : Instance) (formed : WellFormed x) where
  -- The bytes of a process in a round that is not above it, open or decided.
  bytes_valid : (p q r mark v : ℕ) → IsProcess x p → mark < 2 → r ≡ suc q → q < p → q ≤ x.resilience → ValidBytes (part_bytes x p r mark v)
  unfolding part_state state_valid
  bytes_valid p q r mark v process low round own within =
      valid_bytes _ (within_valid (identity x formed p process) low (record { first = omega arith; last = omega arith; own = omega arith }))

  decided_bytes : (p r v : ℕ) → EndsAs x p (decided r v) → bytes_kept (end_part_of x p) ≡ part_bytes x p r mark_decided v
  unfolding bytes_kept
  decided_bytes p r v ends = ap bytes_kept ((parts_decide_alike x formed).when_decided p r v ends)

  pub kept_decided : (p r v : ℕ) → EndsAs x p (decided r v)
      → ValidBytes (bytes_kept (end_part_of x p)) × (state_by_part (up (bytes_kept (end_part_of x p))) ≡ decided r v)
  unfolding end_by_part
  kept_decided p r v ends =
      let bytes = decided_bytes p r v ends in
      let part = (parts_decide_alike x formed).when_decided p r v ends in
      let process = ends.is_process in
      let decides : state_at x (last_round x) p ≡ decided r v = sym (end_at x formed p process) ∙ ends.state in
      let (q, u, same, within, waiting, since) = decided_since x (last_round x) p r v decides in
      let valid = bytes_valid p q r mark_decided v process (omega arith) same (waits_below x q p u process.first waiting) (omega arith) in
      let said : end_by_part x p ≡ decided r v = ap (λ (ends' : ℕ → State). ends' p) (ends_alike x formed) ∙ ends.state in
      (rw bytes valid, ap (λ (b : List ℕ). state_by_part (up b)) bytes ∙ sym (ap state_by_part part) ∙ said)

  pub kept_crashed : (p r : ℕ) → EndsAs x p (crashed r)
      → ValidBytes (bytes_kept (end_part_of x p)) × ((v : ℕ) × (state_by_part (up (bytes_kept (end_part_of x p))) ≡ undecided v))
  unfolding bytes_kept
  kept_crashed p r ends =
      let alike = (parts_decide_alike x formed).when_crashed p r ends in
      let process = ends.is_process in
      let bytes : bytes_kept (end_part_of x p) ≡ part_bytes x p r mark_open alike.estimate = ap bytes_kept alike.bytes in
      let crashes : state_at x (last_round x) p ≡ crashed r = sym (end_at x formed p process) ∙ ends.state in
      let (q, u, same, within, waiting, since) = crashed_since x (last_round x) p r crashes in
      let valid = bytes_valid p q r mark_open alike.estimate process (omega arith) same (waits_below x q p u process.first waiting) (omega arith) in
      (rw bytes valid, (_, ap (λ (b : List ℕ). state_by_part (up b)) bytes ∙ open_undecided x p r alike.estimate))

  -- The bytes of a part that has crashed are open.
  crashed_open : (r p j : ℕ) (b : List ℕ) {s : State} {part : Part} → Alike x r p s part → part ≡ crashed_in j b → (v : ℕ) × (state_by_part (up b) ≡ undecided v)
  crashed_open r p j b (both_open _) e = absurd (let z : ◌≡◌ {A = ℕ} 0 1 = cc in let w : ⊥ = omega arith in w)
  crashed_open r p j b (both_over _) e = absurd (let z : ◌≡◌ {A = ℕ} 0 1 = cc in let w : ⊥ = omega arith in w)
  crashed_open r p j b both_decided e = absurd (let z : ◌≡◌ {A = ℕ} 0 1 = cc in let w : ⊥ = omega arith in w)
  crashed_open r p j b (both_crashed {i} {v} _) e =
      let same : b ≡ part_bytes x p (suc i) mark_open v = cc in
      (_, ap (λ (c : List ℕ). state_by_part (up c)) same ∙ open_undecided x p (suc i) v)

  -- What the bytes say after some rounds that a process has decided, it ends with.
  pub kept_since : (r p i v : ℕ) → r ≤ suc x.resilience → IsProcess x p → state_by_part (up (bytes_kept (part_of (parts_to x r) p))) ≡ decided i v
      → end_of x p ≡ decided i v
  unfolding bytes_kept
  kept_since r p i v within process says = by_part (part_of (parts_to x r) p) refl
    where
      by_part : (part : Part) → part_of (parts_to x r) p ≡ part → end_of x p ≡ decided i v
      by_part (up b) e =
          let known : state_by_part (part_of (parts_to x r) p) ≡ decided i v = ap state_by_part e ∙ (rw e at says) in
          let state : state_at x r p ≡ decided i v = sym (state_at_lem x r p (omega arith) process.first (omega (arith, process.last, formed.all_propose)))
          ∙ sym (part_says x formed r p within process) ∙ known in
          end_at x formed p process ∙ decided_later x r (last_round x) p i v within state
      by_part (crashed_in j b) e =
          let (u, open-says) = crashed_open r p j b (parts_alike x formed r p within process) e in
          let told : state_by_part (up b) ≡ decided i v = rw e at says in
          absurd (undecided_decided (state_by_part (up b)) u i v open-says told)
