-- `quote_own` meets its contract: each reply is a law of Answers. Assumes nothing.
use Rattle.std.proofs.Common.{arith, inl, inr}
use Rattle.answers.specs.Reply.{answer_by, reply_of}
use Rattle.refusals.specs.Number.{number_of}
use Rattle.part_price.proofs.Answers.{no_state, nine_bytes, own_given}
use Rattle.part_price.proofs.quote_own.Goals as goal
use Rattle.part_price.proofs.quote_own.Goals.{then-mark-eq-MARK_DECIDED, else-mark-eq-MARK_DECIDED}

pub returns-then-state_refusal-eq10 : goal.returns-then-state_refusal-eq10
unfolding answer_by reply_of number_of
returns-then-state_refusal-eq10 c = rw c.at_line.ensures (no_state _ _ _ c.state_refusal.ensures c.if-state_refusal-eq10.true)

-- Past the first return there are nine bytes.
pub bounds-state-4 : goal.bounds-state-4
bounds-state-4 c = omega (arith, nine_bytes _ _ c.state_refusal.ensures c.if-state_refusal-eq10.false)

pub number_at-value-requires : goal.number_at-value-requires
number_at-value-requires c = omega (arith, nine_bytes _ _ c.state_refusal.ensures c.if-state_refusal-eq10.false)

pub returns : goal.returns
returns c =
    own_given _ _ _ c.state_refusal.ensures c.if-state_refusal-eq10.false _ c.number_at-value.result c.number_at-value.ensures
    c.if-mark-eq-MARK_DECIDED.decided
    (elim c.if-mark-eq-MARK_DECIDED.branch [
      | then-mark-eq-MARK_DECIDED w ↦ inl (w.if-mark-eq-MARK_DECIDED.true, w.decided-is)
      | else-mark-eq-MARK_DECIDED w ↦ inr (w.if-mark-eq-MARK_DECIDED.false, w.decided-is)
    ]) c.quote_by.ensures
