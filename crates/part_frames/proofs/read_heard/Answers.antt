-- `part_frames::read_heard` meets its contract: a law for each return. Assumes nothing.
use Rattle.std.proofs.Common.{sym, arith}
use Rattle.part_frames.specs.code.Heard.{heard_as, messages_as}
use Rattle.part_frames.proofs.Frames.{heard_nothing, heard_other_size, heard_no_data, heard_data, heard_no_commit, heard_both}
use Rattle.part_frames.proofs.read_heard.Goals as goal

pub returns-then-heard-eq0 : goal.returns-then-heard-eq0
unfolding heard_as messages_as
returns-then-heard-eq0 c = heard_nothing _ _ (omega arith)

pub returns-then-not-starts_frame : goal.returns-then-not-starts_frame
unfolding heard_as messages_as
returns-then-not-starts_frame c = heard_no_data _ _ (λ e. omega arith) (omega arith) (sym c.if-not-starts_frame.ensures)

pub returns-then-heard-eq-DATA_SIZE : goal.returns-then-heard-eq-DATA_SIZE
unfolding heard_as messages_as
returns-then-heard-eq-DATA_SIZE c =
    heard_data _ _ (λ e. omega arith) (omega arith) (sym c.if-not-starts_frame.ensures) _ c.number_at.ensures (omega arith)

pub returns-then-heard-ne-FRAMES_SIZE : goal.returns-then-heard-ne-FRAMES_SIZE
unfolding heard_as messages_as
returns-then-heard-ne-FRAMES_SIZE c = heard_other_size _ _ (λ e. omega arith) (λ e. omega arith) (λ e. omega arith)

pub returns-then-not-starts_frame-2 : goal.returns-then-not-starts_frame-2
unfolding heard_as messages_as
returns-then-not-starts_frame-2 c = heard_no_data _ _ (λ e. omega arith) (omega arith) (sym c.if-not-starts_frame-2.ensures)

pub returns-then-not-starts_frame-3 : goal.returns-then-not-starts_frame-3
unfolding heard_as messages_as
returns-then-not-starts_frame-3 c =
    heard_no_commit _ _ (λ e. omega arith) (omega arith) (sym c.if-not-starts_frame-2.ensures) (omega arith) (sym c.if-not-starts_frame-3.ensures)

pub returns : goal.returns
unfolding heard_as messages_as
returns c =
    heard_both _ _ (λ e. omega arith) (omega arith) (sym c.if-not-starts_frame-2.ensures) (omega arith) _ c.number_at-2.ensures
    (sym c.if-not-starts_frame-3.ensures)
