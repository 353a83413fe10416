-- Paper 14 on one tender: every schedule in order leaves what the base's host has after as many rounds, by induction over the rounds; so it ends as the run says
-- (`any_order_lem`, `orders_no_later_lem`). For well-formed instances. Assumes nothing else.
use mathlib.Core.List.{List, [], ◌∷◌, ◌++◌, map}
use mathlib.Core.Bool.{true}
use mathlib.Core.Path.{◌≡◌, refl, sym, ap, ◌∙◌}
use Prim.Native.Nat.{ℕ, suc, ◌+◌}
use native.Mathlib.Numerals.{unary_clauses}
use native.Mathlib.Omega.{arith}
use lib.ListN.{length}
use Rattle.general.proofs.Tests.{both}
use Rattle.consensus.specs.Instance.{Instance, fault_of}
use Rattle.consensus.specs.declared.Fault.{Fault}
use Rattle.consensus.specs.State.{crashes_in}
use Rattle.consensus.specs.declared.State.{State}
use Rattle.consensus.specs.Consensus.{IsProcess, UniformConsensus, NoLater}
use Rattle.coordinator_laws.specs.Pairing.{Paired}
use Rattle.coordinator.specs.Run.{run_of, end_of}
use Rattle.coordinator.specs.WellFormed.{WellFormed}
use Rattle.part_format.specs.PartState.{ValidBytes}
use Rattle.part_host.specs.Part.{Part, up, crashed_in, part_of, bytes_kept}
use Rattle.part_host.specs.Hearing.{heard}
use Rattle.part_host.specs.Host.{part_after, parts_to, parts_of, end_part_of}
use Rattle.part_host.proofs.Places.{part_after_lem}
use Rattle.part_host.specs.PartEnds.{end_by_part, latest_by_parts}
use Rattle.part_host.proofs.Alike.{Alike, both_open, both_over, both_decided, both_crashed}
use Rattle.part_host.proofs.DecideAlike.{parts_alike}
use Rattle.part_host.proofs.PartsConsensus.{parts_consensus, parts_no_later_lem}
use Rattle.part_schedules.specs.Steps.{Hosted, Step, start, unstarted, play}
use Rattle.part_schedules.specs.Schedule.{RoundOrder, Schedule, round_steps, steps_of_rounds, schedule_steps, played, up_and_open, crashes_now, EachOnce, RoundInOrder, RoundsInOrder, InOrder}
use Rattle.part_schedules.specs.Answers.{AllAnswered}
use Rattle.part_schedules.specs.ByRun.{value_held, estimate_in, part_by_end, part_by_run}
use Rattle.part_schedules.specs.AnyOrder.{Whole, EnoughRounds, ends_by, latest_by, AnyOrder}
use Rattle.part_schedules.specs.EndedCalls.{Ended}
use Rattle.part_schedules.proofs.EndedCalls.{unstarted_behind, ended_calls_lem}
use Rattle.part_schedules.proofs.Phases.{play_append}
use Rattle.part_schedules.proofs.Waiting.{none_open_lem, ended_parts}
use Rattle.part_schedules.proofs.Round.{at_round, round_in_order}
use Rattle.part_schedules.proofs.Starts.{unstarted_nine, started_in_order}
use Rattle.part_schedules.proofs.StartsAnswered.{answered_append, starts_taken, starts_answered}
use Rattle.part_schedules.proofs.Refused.{ended_bytes_lem}
use Rattle.part_schedules.proofs.RoundAnswered.{round_answered}

-- The part of a process at the end, by how the process ends.
by_end : (x : Instance) (p : ℕ) {s : State} {part : Part} → Alike x (suc x.resilience) p s part → part ≡ part_by_end x p s
unfolding part_by_end estimate_in value_held
by_end x p (both_open within) = absurd (let z : ⊥ = omega arith in z)
by_end x p (both_over over) = refl
by_end x p both_decided = refl
by_end x p (both_crashed began) = simp (unary_clauses, began)

-- An open part that crashes.
crash_left : (r : ℕ) (own : Fault) (frames : List ℕ) (part : Part) → up_and_open part ≡ true → crashes_in r own ≡ true
    → part_after r own frames part ≡ crashed_in r (bytes_kept part)
unfolding up_and_open part_after bytes_kept
crash_left r own frames (up b) opens line = rw (opens, line) refl
crash_left r own frames (crashed_in j b) opens line = absurd (let z : ◌≡◌ {A = ℕ} 0 1 = cc in let w : ⊥ = omega arith in w)

module _ (x : Instance) (formed : WellFormed x) where
  rounds_played : (orders : List RoundOrder) (r : ℕ) → RoundsInOrder x (at_round x r) orders
      → (play x (steps_of_rounds orders) (at_round x r) ≡ at_round x (length orders + r)) × AllAnswered x (at_round x r) (steps_of_rounds orders)
  unfolding RoundsInOrder steps_of_rounds AllAnswered play
  rounds_played [] r ordered = (ap (at_round x) (omega arith), tt)
  rounds_played (order ∷ orders) r ordered =
      let one = round_in_order x formed r order ordered.0 in
      let (more, answered) = rounds_played orders (suc r) (rw one at ordered.1) in (
        play_append x (round_steps order) (steps_of_rounds orders) (at_round x r) ∙ ap (play x (steps_of_rounds orders)) one ∙ more ∙ ap (at_round x) (omega arith),
        answered_append x (round_steps order) (steps_of_rounds orders) (at_round x r) (round_answered x formed r order ordered.0) (rw one answered),
      )

  -- A process that crashes in round r + 1 keeps the bytes with which it began.
  crash_kept : (r : ℕ) (order : RoundOrder) → RoundInOrder x (at_round x r) order → (p : ℕ) → IsProcess x p → crashes_now x (at_round x r) p ≡ true
      → part_of (play x (round_steps order) (at_round x r)).parts p ≡ crashed_in (suc r) (bytes_kept (part_of (parts_to x r) p))
  unfolding crashes_now
  crash_kept r order ordered p process crashing =
      let (opens, line) = both (up_and_open (part_of (parts_to x r) p)) _ crashing in
      ap (λ (h : Hosted). part_of h.parts p) (round_in_order x formed r order ordered)
      ∙ part_after_lem x p process.first (omega (arith, formed.all_propose)) r
      ∙ crash_left (suc r) (fault_of x p) (heard x (suc r) p (parts_to x r)) (part_of (parts_to x r) p) opens line

  started_unstarted : (order : List ℕ) → EachOnce x order → play x (map start order) (unstarted x) ≡ at_round x 0
  unfolding unstarted
  started_unstarted order all = started_in_order x formed order all (unstarted x).parts (unstarted_nine x)

  module _ (s : Schedule) (ordered : InOrder x s) where
    started : play x (map start s.starting) (unstarted x) ≡ at_round x 0
    started = started_unstarted s.starting ordered.starts

    all_rounds_lem : (play x (steps_of_rounds s.rounds) (at_round x 0) ≡ at_round x (length s.rounds + 0))
        × AllAnswered x (at_round x 0) (steps_of_rounds s.rounds)
    all_rounds_lem = rounds_played s.rounds 0 (rw started at ordered.rounds)

    schedule_kept : played x s ≡ at_round x (length s.rounds)
    unfolding played schedule_steps
    schedule_kept =
        play_append x (map start s.starting) (steps_of_rounds s.rounds) (unstarted x) ∙ ap (play x (steps_of_rounds s.rounds)) started
        ∙ all_rounds_lem.0 ∙ ap (at_round x) (omega arith)

    schedule_played : (played x s).parts ≡ parts_to x (length s.rounds)
    schedule_played = ap (λ (h : Hosted). h.parts) schedule_kept

    -- One round more, in which a process crashes.
    crash_keeps_lem : (order : RoundOrder) → RoundInOrder x (played x s) order → (p : ℕ) → IsProcess x p → crashes_now x (played x s) p ≡ true
        → part_of (play x (round_steps order) (played x s)).parts p ≡ crashed_in (played x s).round (bytes_kept (part_of (played x s).parts p))
    crash_keeps_lem order more p process = rw schedule_kept (crash_kept (length s.rounds) order (rw schedule_kept at more) p process)

    schedule_answered : AllAnswered x (unstarted x) (schedule_steps s)
    unfolding schedule_steps
    schedule_answered =
        answered_append x (map start s.starting) (steps_of_rounds s.rounds) (unstarted x) (starts_answered x formed s.starting ordered.starts)
        (rw started all_rounds_lem.1)

    rounds_through : EnoughRounds x s → Whole x s
    rounds_through through = record { in_order = ordered; none_open = rw schedule_played (none_open_lem x formed (length s.rounds) through.enough) }

  -- A whole schedule leaves the parts of the end.
  whole_parts : (s : Schedule) → Whole x s → (played x s).parts ≡ parts_of x
  whole_parts s whole =
      let as-host = schedule_played s whole.in_order in
      as-host ∙ ended_parts x formed (length s.rounds) (rw as-host at whole.none_open)

  end_by_run : (p : ℕ) → IsProcess x p → part_of (parts_of x) p ≡ part_by_run x p
  unfolding part_by_run parts_of end_of run_of
  end_by_run p process = by_end x p (parts_alike x formed (suc x.resilience) p (omega arith) process)

  decided_early_lem : (s : Schedule) → Whole x s → (before behind : List Step) → steps_of_rounds s.rounds ≡ before ++ behind → (p : ℕ) → IsProcess x p
      → (b : List ℕ) → Ended (play x before (play x (map start s.starting) (unstarted x))) p b → (up b ≡ part_by_run x p) × ValidBytes b
  unfolding played schedule_steps parts_of
  decided_early_lem s whole before behind split p process b ended =
      let begun = play x (map start s.starting) (unstarted x) in
      let played_on : played x s ≡ play x behind (play x before begun) =
      play_append x (map start s.starting) (steps_of_rounds s.rounds) (unstarted x)
      ∙ ap (λ (steps : List Step). play x steps begun) split ∙ play_append x before behind begun
      in
      let last : part_of (parts_of x) p ≡ up b =
      sym (ap (λ (parts : List Part). part_of parts p) (whole_parts s whole)) ∙ ap (λ (h : Hosted). part_of h.parts p) played_on
      ∙ ended_calls_lem.keeps x (play x before begun) p b ended behind (unstarted_behind p s.rounds before behind split)
      in
      (sym last ∙ end_by_run p process, ended_bytes_lem x formed (suc x.resilience) p process b last ended.not_open)

  pub whole_ends : (s : Schedule) → Whole x s → ends_by (played x s).parts ≡ end_by_part x
  unfolding ends_by end_by_part end_part_of
  whole_ends s whole = rw (whole_parts s whole) refl

  whole_consensus : (s : Schedule) → Whole x s → UniformConsensus (latest_by x (played x s).parts) x (ends_by (played x s).parts)
  unfolding latest_by latest_by_parts ends_by end_by_part end_part_of
  whole_consensus s whole = rw (whole_parts s whole) (parts_consensus x formed)

  pub any_order_lem : AnyOrder x
  any_order_lem =
      record {
        after_rounds = schedule_played;
        any_bytes = λ parts nine order all.
            (started_in_order x formed order all parts nine ∙ sym (started_unstarted order all), starts_taken x formed order all parts nine);
        crash_keeps = λ s order ordered. crash_keeps_lem s ordered order;
        through = rounds_through;
        by_run = λ s whole p process. rw (whole_parts s whole) (end_by_run p process);
        decided_early = decided_early_lem;
        alike = λ s u whole whole'. whole_parts s whole ∙ sym (whole_parts u whole');
        answered = schedule_answered;
        consensus = whole_consensus;
      }

-- More commits let through make no process decide later, or on another value, whatever the orders.
pub orders_no_later_lem : (x y : Instance) → WellFormed x → WellFormed y → Paired x y → (s u : Schedule) → Whole x s → Whole y u
    → NoLater x (ends_by (played x s).parts) y (ends_by (played y u).parts)
orders_no_later_lem x y formed formed' paired s u whole whole' = rw (whole_ends x formed s whole, whole_ends y formed' u whole') (parts_no_later_lem x y formed formed' paired)
