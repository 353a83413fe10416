-- `part::speak` meets its contract: a law for each return. Assumes nothing.
use Rattle.std.proofs.Common.{arith}
use Rattle.part_format.proofs.Opened.{opened}
use Rattle.part.proofs.Operations.{speak_refused_lem, speak_silent, speak_short, speak_frames}
use Rattle.part.proofs.speak.Goals as goal

pub returns-then-refusal-ne0 : goal.returns-then-refusal-ne0
returns-then-refusal-ne0 c =
    let law = speak_refused_lem c.args.state.now c.args.output.now _ c.state_refusal-refusal.ensures c.if-refusal-ne0.true in
    record { value = law.0; output_after = law.1 }

pub bounds-state-0 : goal.bounds-state-0
bounds-state-0 c = omega (arith, opened _ _ c.state_refusal-refusal.ensures c.if-refusal-ne0.false)

pub bounds-state-3 : goal.bounds-state-3
bounds-state-3 c = omega (arith, opened _ _ c.state_refusal-refusal.ensures c.if-refusal-ne0.false)

pub returns-then-process-round : goal.returns-then-process-round
returns-then-process-round c =
    let state = opened _ _ c.state_refusal-refusal.ensures c.if-refusal-ne0.false in
    let law = speak_silent c.args.state.now c.args.output.now state.refusal (λ e. omega arith) in
    record { value = law.0; output_after = law.1 }

pub returns-then-output-lt-FRAMES_SIZE : goal.returns-then-output-lt-FRAMES_SIZE
returns-then-output-lt-FRAMES_SIZE c =
    let state = opened _ _ c.state_refusal-refusal.ensures c.if-refusal-ne0.false in
    let law = speak_short c.args.state.now c.args.output.now state.refusal (omega arith) (omega arith) in
    record { value = law.0; output_after = law.1 }

pub number_at-value-requires : goal.number_at-value-requires
number_at-value-requires c = omega (arith, opened _ _ c.state_refusal-refusal.ensures c.if-refusal-ne0.false)

pub returns : goal.returns
returns c =
    let state = opened _ _ c.state_refusal-refusal.ensures c.if-refusal-ne0.false in
    let law =
    speak_frames c.args.state.now c.args.output.now state.refusal (omega arith) _ _ (omega arith) state.nine c.number_at-value.ensures
    c.write_frames.ensures in
    record { value = law.0; output_after = law.1 }
