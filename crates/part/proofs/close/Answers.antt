-- `part::close` meets its contract: a law for each return. Assumes nothing.
use Rattle.std.proofs.Common.{arith}
use Rattle.part_frames.specs.code.Heard.{heard_as}
use Rattle.part_format.proofs.Opened.{opened}
use Rattle.part_format.proofs.Operations.{close_refused_lem, close_no_form, close_closed}
use Rattle.part.proofs.close.Goals as goal

pub returns-then-refusal-ne0 : goal.returns-then-refusal-ne0
returns-then-refusal-ne0 c =
    let law = close_refused_lem c.args.state.now c.args.heard.now _ c.state_refusal-refusal.ensures c.if-refusal-ne0.true in
    record { value = law.0; state_after = law.1 }

pub heard_by-requires : goal.heard_by-requires
heard_by-requires c = (opened _ _ c.state_refusal-refusal.ensures c.if-refusal-ne0.false).nine

pub returns-in_default : goal.returns-in_default
unfolding heard_as
returns-in_default c =
    let state = opened _ _ c.state_refusal-refusal.ensures c.if-refusal-ne0.false in
    let law = close_no_form c.args.state.now c.args.heard.now state.refusal c.in_default.ensures in
    record { value = law.0; state_after = law.1 }

pub close_on-requires : goal.close_on-requires
close_on-requires c =
    let state = opened _ _ c.state_refusal-refusal.ensures c.if-refusal-ne0.false in
    (state.nine, omega (arith, state), omega (arith, state))

pub returns : goal.returns
unfolding heard_as
returns c =
    let state = opened _ _ c.state_refusal-refusal.ensures c.if-refusal-ne0.false in
    let law = close_closed c.args.state.now c.args.heard.now state.refusal _ _ c.in-Form.ensures c.close_on.ensures in
    record { value = law.0; state_after = law.1 }
