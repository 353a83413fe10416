-- Which parts are open after how many rounds, and what one that is not open does: it yields nothing, stays as it is, and is refused with 11. For well-formed
-- instances. Assumes nothing else.
use mathlib.Core.List.{List, [], ◌∷◌}
use mathlib.Core.Path.{◌≡◌, refl, sym, ap, ◌∙◌}
use mathlib.Core.Bool.{true, false, ◌||◌}
use Prim.Native.Nat.{ℕ, zero, suc, ◌+◌, ◌-◌, ◌≤◌}
use native.Mathlib.Omega.{arith}
use lib.ListN.{length, get_or}
use borrow.Author.Tests.{eqb-false, lt-leb}
use Rattle.general.proofs.Indexed.{length-map_from, map_from_at}
use Rattle.general.proofs.Tests.{by_order}
use Rattle.consensus.specs.Instance.{Instance, fault_of}
use Rattle.consensus.specs.State.{state_of}
use Rattle.consensus.specs.declared.State.{State}
use Rattle.consensus.specs.declared.State.TheVariants.{Undecided as undecided, Decided as decided, Crashed as crashed}
use Rattle.consensus.specs.Consensus.{IsProcess}
use Rattle.coordinator.specs.Undecided.{is_undecided, any_undecided}
use Rattle.coordinator.specs.Run.{run_to, run_of}
use Rattle.coordinator.specs.WellFormed.{WellFormed}
use Rattle.coordinator_laws.specs.RunRounds.{RunRounds}
use Rattle.coordinator_laws.proofs.RunRounds.{run_rounds}
use Rattle.part_format.specs.PartState.{state_from, state_bytes, state_refusal, ValidBytes}
use Rattle.part_format.specs.Speak.{speak_refusal, speak_answer}
use Rattle.part_format.specs.Close.{close_refusal, close_state}
use Rattle.part_host.specs.Part.{Part, up, crashed_in, part_of, bytes_kept, is_open, yielded}
use Rattle.part_host.specs.Hearing.{heard}
use Rattle.part_host.specs.Host.{part_after, parts_after, parts_to, parts_of}
use Rattle.part_host.specs.DecideAlike.{part_state}
use Rattle.part_host.proofs.Places.{length-parts}
use Rattle.part_host.proofs.Calls.{ended_silent, ended_stays}
use Rattle.part_host.proofs.Alike.{Alike, both_open, both_over, both_decided, both_crashed}
use Rattle.part_host.proofs.DecideAlike.{parts_alike}
use Rattle.part_schedules.specs.Steps.{frames_yielded}
use Rattle.part_schedules.specs.Schedule.{is_up, up_and_open}
use Rattle.part_schedules.proofs.Turns.{parts_ext}

-- A part that is not open.
module _ (b : List ℕ) (ended : is_open b ≡ false) where
  marked : (state_from b).mark ≡ 0 → ⊥
  unfolding is_open
  marked = eqb-false (state_from b).mark 0 ended

  pub closed_stays : (frames : List ℕ) → close_state b frames ≡ b
  closed_stays frames = ended_stays b marked frames

  ended_yields : yielded (up b) ≡ []
  unfolding yielded
  ended_yields = ended_silent b marked

-- One that is up yields what the base's host has it yield; and nothing, if it is not open.
pub up_yields : (part : Part) → is_up part ≡ true → frames_yielded part ≡ yielded part
unfolding is_up frames_yielded bytes_kept yielded
up_yields (up b) e = refl
up_yields (crashed_in round b) e = cc

pub ended_yields_nothing : (part : Part) → up_and_open part ≡ false → yielded part ≡ []
unfolding up_and_open yielded
ended_yields_nothing (up b) e = ended_yields b e
ended_yields_nothing (crashed_in round b) e = refl

-- Who is open is up.
pub open_up : (part : Part) → up_and_open part ≡ true → is_up part ≡ true
unfolding up_and_open is_up
open_up (up b) e = refl
open_up (crashed_in round b) e = e

after_stays : (r : ℕ) (x : Instance) (p : ℕ) (frames : List ℕ) (part : Part) → up_and_open part ≡ false → part_after r (fault_of x p) frames part ≡ part
unfolding up_and_open part_after
after_stays r x p frames (up b) e = rw (e, closed_stays b e frames) refl
after_stays r x p frames (crashed_in round b) e = refl

-- Its calls are refused with 11, if its state is valid.
pub refused_11 : (b : List ℕ) → ValidBytes b → is_open b ≡ false → state_refusal b ≡ 11
unfolding state_refusal is_open
refused_11 b valid ended = rw (valid.nine, valid.valid, ended) refl

pub speak_refused_lem : (b : List ℕ) → state_refusal b ≡ 11 → (room : ℕ) → speak_answer b room ≡ 11
unfolding speak_answer speak_refusal
speak_refused_lem b e room = rw e refl

pub close_refused_11 : (b : List ℕ) → state_refusal b ≡ 11 → (heard : List ℕ) → close_refusal b heard ≡ 11
unfolding close_refusal
close_refused_11 b e heard = rw e refl

-- No process is open.
abbrev pub NoneOpen : Instance → List Part → Type 0
NoneOpen x parts = (p : ℕ) → IsProcess x p → up_and_open (part_of parts p) ≡ false

-- Where no process is undecided, none in particular is.
none_undecided : (states : List State) (k v : ℕ) → any_undecided states ≡ false → get_or states k (crashed 0) ≡ undecided v → ⊥
unfolding any_undecided is_undecided
none_undecided [] k v none e = let z : ◌≡◌ {A = ℕ} 0 1 = cc in omega arith
none_undecided (s ∷ states) zero v none e = let z : true ≡ false = rw e at none in let w : ◌≡◌ {A = ℕ} 0 1 = cc in omega arith
none_undecided (s ∷ states) (suc k) v none e = none_undecided states k v (rest s none) e
  where
    rest : (s' : State) → (is_undecided s' || any_undecided states) ≡ false → any_undecided states ≡ false
    rest (undecided w) h = cc
    rest (decided i w) h = h
    rest (crashed i) h = h

module _ (x : Instance) (formed : WellFormed x) where
  pub as_many : (r : ℕ) → length (parts_to x r) ≡ x.processes
  as_many r = length-parts x r ∙ formed.all_propose

  -- Where no process is open, rounds change nothing.
  round_stays : (r : ℕ) → NoneOpen x (parts_to x r) → parts_to x (suc r) ≡ parts_to x r
  unfolding parts_to parts_after part_of
  round_stays r none =
      parts_ext x.processes (parts_after x (suc r) (parts_to x r)) (parts_to x r) (length-map_from _ 1 (parts_to x r) ∙ as_many r) (as_many r)
      (λ p first last. map_from_at _ (parts_to x r) p _ _ first (omega (arith, as_many r))
      ∙ after_stays (suc r) x p (heard x (suc r) p (parts_to x r)) (part_of (parts_to x r) p) (none p (record { first = first; last = last })))

  pub rounds_stay : (d r : ℕ) → NoneOpen x (parts_to x r) → parts_to x (d + r) ≡ parts_to x r
  rounds_stay zero r none = ap (parts_to x) (omega arith)
  rounds_stay (suc d) r none =
      let before = rounds_stay d r none in
      ap (parts_to x) (omega arith) ∙ round_stays (d + r) (rw before none) ∙ before

  -- After round t + 1 no process is open; nor is one after the rounds of the run.
  alike_waits : (r p : ℕ) {s : State} {part : Part} → Alike x r p s part → ((v : ℕ) → s ≡ undecided v → r ≤ x.resilience → ⊥) → up_and_open part ≡ false
  unfolding up_and_open is_open state_from state_bytes part_state
  alike_waits r p (both_open {v} within) h = absurd (h v refl within)
  alike_waits r p (both_over _) h = refl
  alike_waits r p both_decided h = refl
  alike_waits r p (both_crashed _) h = refl

  last_ended : NoneOpen x (parts_to x (suc x.resilience))
  last_ended p process = alike_waits (suc x.resilience) p (parts_alike x formed (suc x.resilience) p (omega arith) process) (λ v e within. omega arith)

  -- After any number of rounds that is not below t + 1 the parts are the same.
  pub beyond_last : (r : ℕ) → suc x.resilience ≤ r → parts_to x r ≡ parts_to x (suc x.resilience)
  beyond_last r high =
      ap (parts_to x) (let e : r ≡ r - suc x.resilience + suc x.resilience = omega arith in e)
      ∙ rounds_stay (r - suc x.resilience) (suc x.resilience) last_ended

  -- A process that is open is so before a round of the run.
  pub open_within : (r p : ℕ) → IsProcess x p → up_and_open (part_of (parts_to x r) p) ≡ true → r ≤ x.resilience
  open_within r p process e =
      by_order r x.resilience (λ low. low)
      (λ high. let ended : up_and_open (part_of (parts_to x r) p) ≡ false = rw (beyond_last r high) (last_ended p process) in
      absurd (let z : ◌≡◌ {A = ℕ} 0 1 = cc in let w : ⊥ = omega arith in w))

  run_ended : (r : ℕ) → r ≤ x.resilience → (run_of x).rounds ≤ r → NoneOpen x (parts_to x r)
  unfolding RunRounds run_of state_of
  run_ended r low through p process =
      let none : any_undecided (run_to x r).states ≡ false = run_rounds x r (suc x.resilience) (omega arith) ∙ lt-leb (suc r) _ (omega arith) in
      alike_waits r p (parts_alike x formed r p (omega arith) process) (λ v e within. none_undecided (run_to x r).states (p - 1) v none e)

  pub none_open_lem : (r : ℕ) → (run_of x).rounds ≤ r → NoneOpen x (parts_to x r)
  none_open_lem r through =
      by_order r x.resilience (λ low. run_ended r low through) (λ high. rw (beyond_last r high) last_ended)

  -- Where no process is open, the parts are those of the end.
  pub ended_parts : (r : ℕ) → NoneOpen x (parts_to x r) → parts_to x r ≡ parts_of x
  unfolding parts_of
  ended_parts r none =
      by_order r x.resilience
      (λ low. sym (rounds_stay (suc x.resilience - r) r none) ∙ ap (parts_to x) (let e : suc x.resilience - r + r ≡ suc x.resilience = omega arith in e))
      (beyond_last r)
