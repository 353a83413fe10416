-- `result::put_process_lines` meets its contract. Assumes nothing.
use Rattle.std.proofs.Common.{◌≡◌, ◌+◌, ◌-◌, ◌*◌, length, take, ◌∙◌, sym, arith}
use borrow.Rule.Slice.PartMut.{put_mid}
use Rattle.tables.specs.code.RunOfTable.{states_in}
use Rattle.tables.proofs.Places.{length_states_over, state_at_place}
use Rattle.result.proofs.ResultLine.{line_of, with_lines, with_none, with_all, with_more}
use Rattle.result.proofs.put_process_lines.Goals as goal
use Rattle.result.proofs.put_process_lines.Goals.{After-put_line}

pub loop-p-init : goal.loop-p-init
loop-p-init c =
    let a = c.args in
    (omega arith, with_none (take a.run.now.n a.sent.now.data_by) (take a.run.now.n a.sent.now.commits_by) (states_in a.run.now) a.out.now)

-- The part of process p comes back with its line.
written : (c : After-put_line) →
    let run = c.args.run.now in
    let sent = c.args.sent.now in
    put_mid (21 * c.from-i.result) (length c.loop-p.out - 21 * c.from-i.result) c.loop-p.out c.put_line.new.out
    ≡ with_lines (take run.n sent.data_by) (take run.n sent.commits_by) (states_in run) c.args.out.now c.loop-p.p
written c =
    let run = c.args.run.now in
    let sent = c.args.sent.now in
    let p = c.loop-p.p in
    let size : length (states_in run) ≡ run.n = length_states_over run.n run.ends run.end_rounds run.values (omega arith) in
    let state = state_at_place run.n run.ends run.end_rounds run.values (omega arith) p (omega arith) (omega arith) ∙ sym c.state.ensures in
    with_more _ _ _ c.args.out.now p c.from-i.result c.loop-p.out _ _ (omega arith) (omega arith) (omega arith) c.from-i.ensures c.loop-p.invariant.1
    (line_of run.n p c.from-i.result sent.data_by sent.commits_by _ _ _ c.from-i.ensures (omega arith) c.process_bytes-line.ensures state)
    c.put_line.ensures

pub loop-p-preserved : goal.loop-p-preserved
loop-p-preserved c =
    let place : c.loop-p.p + 1 - 1 ≡ c.loop-p.p = omega arith in
    (omega arith, rw place (written (goal.at.loop-p-preserved c).After-put_line))

pub returns : goal.returns
returns c =
    let run = c.args.run.now in
    let passed : c.loop-p.p - 1 ≡ run.n = omega arith in
    c.loop-p.invariant.1 ∙ rw passed (with_all _ _ _ _ run.n (length_states_over run.n run.ends run.end_rounds run.values (omega arith)))

pub returns-2 : goal.returns-2
returns-2 c =
    let run = c.args.run.now in
    let last : c.loop-p.p ≡ run.n = omega arith in
    written (goal.at.returns-2 c).After-put_line
    ∙ rw last (with_all _ _ _ _ run.n (length_states_over run.n run.ends run.end_rounds run.values (omega arith)))
