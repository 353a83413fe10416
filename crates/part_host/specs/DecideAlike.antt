-- Demand 2, second half (document 00): separate parts, fed the frames that the failure pattern lets through, decide as the processes of the run do.
use Rattle.std.specs.Prelude.{List, ◌≡◌, true, ℕ, suc, ◌≤◌}
use Rattle.consensus.specs.Instance.{Instance}
use Rattle.consensus.specs.State.{state_of}
use Rattle.consensus.specs.declared.State.{State}
use Rattle.consensus.specs.declared.State.TheVariants.{Undecided as undecided, Decided as decided, Crashed as crashed}
use Rattle.coordinator.specs.Run.{run_to, end_of}
use Rattle.consensus.specs.Consensus.{IsProcess}
use Rattle.part_format.specs.PartState.{PartState, state_bytes, mark_open, mark_decided}
use Rattle.part_format.specs.Start.{start_refusal}
use Rattle.part_format.specs.Speak.{speak_refusal}
use Rattle.part_format.specs.Close.{close_refusal}
use Rattle.part_host.specs.Part.{Part, up, crashed_in, part_of, is_open, output_room}
use Rattle.part_host.specs.Hearing.{heard}
use Rattle.part_host.specs.Host.{blank, parts_to, end_part_of}

-- The state of process p's part in this round, with this mark and value.
unfoldable pub part_state : Instance → (p round mark v : ℕ) → PartState
part_state x p round mark v =
    record { process = p; processes = x.processes; resilience = x.resilience; round = round; mark = mark; value = v }

-- Its nine bytes.
abbrev pub part_bytes : Instance → (p round mark v : ℕ) → List ℕ
part_bytes x p round mark v = state_bytes (part_state x p round mark v)

-- The part of a process that crashes in round r: it keeps the nine bytes with which the round began, open and with the estimate that the process has then
-- in the run.
pub record CrashedAlike (x : Instance) (p r : ℕ) (part : Part) : Type 0 where
  pub before : ℕ
  pub estimate : ℕ
  pub next : r ≡ suc before
  pub undecided_then : state_of (run_to x before).states p ≡ undecided estimate
  pub bytes : part ≡ crashed_in r (part_bytes x p r mark_open estimate)

-- Process p of the run ends in this state.
pub record EndsAs (x : Instance) (p : ℕ) (end : State) : Type 0 where
  pub is_process : IsProcess x p
  pub state : end_of x p ≡ end

-- The claim: a process that decides has a part that is up with its round, mark 01 and its value; one that crashes, a part that crashed in the same round.
pub record DecideAlike (x : Instance) : Type 0 where
  pub when_decided : (p r v : ℕ) → EndsAs x p (decided r v) → end_part_of x p ≡ up (part_bytes x p r mark_decided v)
  pub when_crashed : (p r : ℕ) → EndsAs x p (crashed r) → CrashedAlike x p r (end_part_of x p)

-- After rounds 1 to r, and before another, the part of process p is open, with these nine bytes.
pub record OpenAfter (x : Instance) (r p : ℕ) (b : List ℕ) : Type 0 where
  pub process : IsProcess x p
  pub within : r ≤ x.resilience
  pub kept : part_of (parts_to x r) p ≡ up b
  -- its mark is 00
  pub marked : is_open b ≡ true

-- No call is refused while its part is open: in each round r + 1 of the run, and at the start.
pub record NoneRefused (x : Instance) : Type 0 where
  pub when_started : (p : ℕ) → IsProcess x p → start_refusal p x.processes x.resilience blank ≡ 0
  pub when_speaking : (r p : ℕ) (b : List ℕ) → OpenAfter x r p b → speak_refusal b output_room ≡ 0
  pub when_closing : (r p : ℕ) (b : List ℕ) → OpenAfter x r p b → close_refusal b (heard x (suc r) p (parts_to x r)) ≡ 0
