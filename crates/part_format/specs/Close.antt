-- Closing a round on what was heard (document 01, 'The desk part' and 'Refused calls', "Closing").
use Rattle.std.specs.Prelude.{List, ℕ, suc, cond, not, eqb}
use Rattle.std.proofs.Math.Option.{Option, some, none}
use Rattle.coordinator.specs.Message.{Messages}
use Rattle.coordinator.specs.Transition.{Outcome, continues, decides, receives}
use Rattle.part_format.specs.PartState.{PartState, state_bytes, state_from, mark_open, mark_decided, mark_over, state_refusal, is_own_round}
use Rattle.part_format.specs.Frame.{heard_by}

-- Still open it goes on to the next round; after round t + 1 its rounds are over. A process that decides keeps its deciding round.
unfoldable pub state_after : PartState → Outcome → PartState
state_after s (continues v) =
    let over = eqb s.round (suc s.resilience) in
    record {
      process = s.process;
      processes = s.processes;
      resilience = s.resilience;
      round = cond over s.round (suc s.round);
      mark = cond over mark_over mark_open;
      value = v;
    }
state_after s (decides v) =
    record {
      process = s.process;
      processes = s.processes;
      resilience = s.resilience;
      round = s.round;
      mark = mark_decided;
      value = v;
    }

-- The state after a round in which these messages were received.
unfoldable pub closed_on : PartState → Messages → PartState
closed_on s m = state_after s (receives (is_own_round s) s.value m)

-- 12, at the end: bytes that the process does not take in this round.
unfoldable pub heard_refusal : Option Messages → ℕ
heard_refusal (some m) = 0
heard_refusal none = 12

-- 10 and 11 as for every state, then 12; 0: none.
unfoldable pub close_refusal : (state heard : List ℕ) → ℕ
close_refusal state heard =
    cond (not (eqb (state_refusal state) 0)) (state_refusal state) (heard_refusal (heard_by (state_from state) heard))

-- The nine bytes after a close on these messages, or as they were where the bytes heard carry none.
unfoldable pub close_on_heard : List ℕ → Option Messages → List ℕ
close_on_heard state (some m) = state_bytes (closed_on (state_from state) m)
close_on_heard state none = state

-- What the nine bytes hold afterwards.
unfoldable pub close_state : (state heard : List ℕ) → List ℕ
close_state state heard =
    cond (eqb (state_refusal state) 0) (close_on_heard state (heard_by (state_from state) heard)) state
