-- What starts are answered, in whatever order (`starts_answered`). For well-formed instances. Assumes nothing else.
use mathlib.Core.List.{List, [], ◌∷◌, ◌++◌, map}
use mathlib.Core.Path.{◌≡◌, refl, ap, ◌∙◌}
use Prim.Native.Nat.{ℕ, ◌≤◌}
use native.Mathlib.Omega.{arith}
use lib.ListN.{length, get_or}
use borrow.Author.Tests.{eq-eqb, ne_eqb}
use Rattle.general.specs.BigEndian.{bytes_of}
use Rattle.general.proofs.Tests.{by_equal}
use Rattle.consensus.specs.Instance.{Instance, proposal_of}
use Rattle.consensus.specs.Consensus.{IsProcess}
use Rattle.coordinator.specs.WellFormed.{WellFormed}
use Rattle.part_format.specs.PartState.{state_bytes}
use Rattle.part_format.specs.Start.{start_refusal, start_state, start_bytes}
use Rattle.part_format.proofs.Valid.{identity_holds}
use Rattle.part_host.specs.Part.{Part, up, part_of, bytes_kept}
use Rattle.part_host.proofs.Alike.{identity}
use Rattle.part_schedules.specs.Steps.{Spoken, Hosted, Step, start, round_over, unstarted, with_bytes, started_with, changed_at, step, play}
use Rattle.part_schedules.specs.Schedule.{times_called, EachOnce}
use Rattle.part_schedules.specs.Answers.{answers, due, Answered, AllAnswered, all_answers, all_due}
use Rattle.part_schedules.specs.AnyOrder.{NineBytes}
use Rattle.part_schedules.proofs.Turns.{times_more, times_first, length-changed, changed_at_lem}
use Rattle.part_schedules.proofs.Starts.{unstarted_nine}

-- One number is another if they are all that two lists hold.
pub only_number : (a b : ℕ) → a ∷ [] ≡ b ∷ [] → a ≡ b
only_number a b e = ap (λ (l : List ℕ). get_or l 0 0) e

module _ (x : Instance) where
  -- The steps behind others are answered from what those leave.
  pub answered_append : (a b : List Step) (h : Hosted) → AllAnswered x h a → AllAnswered x (play x a h) b → AllAnswered x h (a ++ b)
  unfolding AllAnswered play
  answered_append [] b h first second = second
  answered_append (one ∷ a) b h first second = (first.0, answered_append a b (step x one h) first.1 second)

  pub over_answered : (h : Hosted) → AllAnswered x h (round_over ∷ [])
  unfolding AllAnswered answers due
  over_answered h = (record { number = refl; stays = λ e. cc; silent = λ e r p. cc }, tt)

  -- What is answered is what is due.
  pub answers_due : (steps : List Step) (h : Hosted) → AllAnswered x h steps → all_answers x h steps ≡ all_due x h steps
  unfolding AllAnswered all_answers all_due
  answers_due [] h answered = refl
  answers_due (one ∷ steps) h answered = rw (answered.0.number, answers_due steps (step x one h) answered.1) refl

module _ (x : Instance) (formed : WellFormed x) where
  module _ (p : ℕ) (process : IsProcess x p) (b : List ℕ) (nine : length b ≡ 9) where
    start_taken : start_refusal p x.processes x.resilience b ≡ 0
    unfolding start_refusal
    start_taken = rw (identity_holds (identity x formed p process), nine) refl

    start_nine : (v : ℕ) → length (start_bytes p x.processes x.resilience v b) ≡ 9
    unfolding start_bytes state_bytes start_state bytes_of
    start_nine v = rw start_taken refl

  start_answered : (h : Hosted) (p : ℕ) → IsProcess x p → NineBytes x h.parts → Answered x h (start p)
  unfolding answers due bytes_kept
  start_answered h p process nine =
      let (b, has, size) = nine.each p process in
      record {
        number = rw (has, start_taken p process b size) refl;
        stays = λ e. absurd (let z : ◌≡◌ {A = ℕ} 0 11 = only_number 0 11 e in let w : ⊥ = omega arith in w);
        silent = λ e. absurd (let z : ◌≡◌ {A = ℕ} 0 11 = only_number 0 11 e in let w : ⊥ = omega arith in w);
      }

  stays_nine : (q : ℕ) (parts : List Part) → NineBytes x parts → NineBytes x (changed_at q (started_with x q) parts)
  unfolding started_with with_bytes
  stays_nine q parts nine = record { many = length-changed q (started_with x q) parts ∙ nine.many; each = at_process }
    where
      at_process : (p : ℕ) → IsProcess x p → (b : List ℕ) × (part_of (changed_at q (started_with x q) parts) p ≡ up b) × (length b ≡ 9)
      at_process p process =
          let (b, has, size) = nine.each p process in
          let at = changed_at_lem q (started_with x q) parts p process.first (omega (arith, nine.many)) in
          by_equal p q
          (λ same. (start_bytes p x.processes x.resilience (proposal_of x p) b, rw (at, eq-eqb p q same, has, ← same) refl, start_nine p process b size _))
          (λ other. (b, rw (at, ne_eqb p q other) has, size))

  all_starts : (order : List ℕ) (parts : List Part) (S : List Spoken) → NineBytes x parts
      → ((p : ℕ) → 1 ≤ times_called p order → IsProcess x p) → AllAnswered x (record { round = 1; parts = parts; spoken = S }) (map start order)
  unfolding AllAnswered step
  all_starts [] parts S nine called = tt
  all_starts (q ∷ order) parts S nine called = (
    start_answered (record { round = 1; parts = parts; spoken = S }) q (called q (omega (arith, times_first q order))) nine,
    all_starts order (changed_at q (started_with x q) parts) S (stays_nine q parts nine) (λ p h. called p (times_more p q order h)),
  )

  pub starts_taken : (order : List ℕ) → EachOnce x order → (parts : List Part) → NineBytes x parts
      → AllAnswered x (record { round = 1; parts = parts; spoken = [] }) (map start order)
  unfolding EachOnce
  starts_taken order all parts nine = all_starts order parts [] nine (λ p h. (all.only p h).0)

  pub starts_answered : (order : List ℕ) → EachOnce x order → AllAnswered x (unstarted x) (map start order)
  unfolding unstarted
  starts_answered order all = starts_taken order all (unstarted x).parts (unstarted_nine x)
