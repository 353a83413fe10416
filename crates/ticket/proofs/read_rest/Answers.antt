-- `read_rest` meets its contract: what each line that is read makes of what is left. Assumes nothing.
use Rattle.std.proofs.Common.{List, ℕ, length, Bor, ap, ◌∙◌, arith, Ok}
use Rattle.refusals.specs.Answered.{answer_of}
use Rattle.reader.proofs.NextLine.{next_text, next_line_at}
use Rattle.ticket.proofs.Reached.{reached_start, same_place, proposal_place, crash_fits, reached_refused, reached_proposal, reached_crash, reached_ended}
use Rattle.ticket.proofs.read_rest.Goals as goal
use Rattle.ticket.proofs.read_rest.Goals.{in-Ok-Proposal, in-Ok-Crash, in-Ok-End}

pub loop-reader-init : goal.loop-reader-init
loop-reader-init c = reached_start _ _ _ c.requires.0 c.requires.1 _ (grind arith)

-- The place of a proposal, and that of a crash.
pub bounds-table-count : goal.bounds-table-count
bounds-table-count c =
    let line = next_line_at _ _ _ c.next_line.ensures.line c.next_line.ensures.behind c.in-Some.is in
    proposal_place _ _ _ _ _ _ _ c.loop-reader.invariant _ _ line _ c.accept_line.ensures (c.in-Ok-Proposal.is ∙ ap Ok c.in-Ok-Proposal.field-0-is)

pub overflow_sub-l : goal.overflow_sub-l
overflow_sub-l c =
    let line = next_line_at _ _ _ c.next_line.ensures.line c.next_line.ensures.behind c.in-Some.is in
    (crash_fits _ _ _ _ _ _ _ c.loop-reader.invariant _ _ line _ c.accept_line.ensures (c.in-Ok-Crash.is ∙ ap Ok c.in-Ok-Crash.field-0-is)).first

pub bounds-table-l : goal.bounds-table-l
bounds-table-l c =
    let line = next_line_at _ _ _ c.next_line.ensures.line c.next_line.ensures.behind c.in-Some.is in
    let inside = crash_fits _ _ _ _ _ _ _ c.loop-reader.invariant _ _ line _ c.accept_line.ensures (c.in-Ok-Crash.is ∙ ap Ok c.in-Ok-Crash.field-0-is) in
    omega (arith, inside.first, inside.last, c.loop-reader.invariant.few)

pub returns-in-Err : goal.returns-in-Err
unfolding answer_of
returns-in-Err c =
    let line = next_line_at _ _ _ c.next_line.ensures.line c.next_line.ensures.behind c.in-Some.is in
    rw c.at_line-in-Err.ensures (reached_refused _ _ _ _ _ _ _ c.loop-reader.invariant _ _ line _ c.accept_line.ensures c.in-Err.is)

pub loop-reader-smaller : goal.loop-reader-smaller
loop-reader-smaller c =
    let line = next_line_at _ _ _ c.next_line.ensures.line c.next_line.ensures.behind c.in-Some.is in
    let text = next_text _ _ _ c.next_line.ensures.line c.next_line.ensures.behind in
    omega (arith, ap (λ (r : Bor (List ℕ)). length r.now) text, line.after, line.inside)

pub loop-reader-preserved : goal.loop-reader-preserved
loop-reader-preserved c =
    let line = next_line_at _ _ _ c.next_line.ensures.line c.next_line.ensures.behind c.in-Some.is in
    let text = ap (λ (r : Bor (List ℕ)). r.now) (next_text _ _ _ c.next_line.ensures.line c.next_line.ensures.behind) in
    let here = c.loop-reader.invariant in
    elim c.match-accept_line-2.branch [
      | in-Ok-Proposal w ↦ same_place text w.table-is w.place-is (reached_proposal _ _ _ _ _ _ _ here _ _ line _ c.accept_line.ensures (cc))
      | in-Ok-Crash w ↦
          same_place text (rw w.fault.ensures at w.table-is) w.place-is (reached_crash _ _ _ _ _ _ _ here _ _ line _ c.accept_line.ensures (cc))
      | in-Ok-End w ↦ same_place text w.table-is w.place-is (reached_ended _ _ _ _ _ _ _ here _ _ line _ c.accept_line.ensures (cc))
    ]
