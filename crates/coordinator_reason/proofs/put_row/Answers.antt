-- `put_row` meets its contract. Assumes nothing.
use Rattle.std.proofs.Common.{◌≡◌, ◌+◌, ◌-◌, sym, arith}
use Rattle.general.proofs.Table.{overwritten, overwritten_none}
use Rattle.coordinator_reason.specs.Number.{number_of_reason}
use Rattle.coordinator_reason.proofs.Rows.{besides, row_more, row_beside, row_beyond, row_decided}
use Rattle.coordinator_reason.proofs.put_row.Goals as goal
use Rattle.coordinator_reason.proofs.put_row.Goals.{Left-loop-p, else-loop-p-test, then-loop-p-test+else-p-p-end, else-r-run-via-then-r-run+else-coordinates, else-r-run-via-else-r-run}

-- Behind the loop stands the row as of processes that do not coordinate.
looped : (c : Left-loop-p) → c.loop-p-test.out ≡ overwritten (besides c.args.table.now c.args.run.now c.args.r) c.args.out.now c.args.run.now.n
looped c =
    elim c.loop-p-test.branch [
      | else-loop-p-test w ↦
          let none : c.loop-p.p - 1 ≡ c.args.run.now.n = omega arith in
          rw (w.out-is, ← none) c.loop-p.invariant.1
      | then-loop-p-test+else-p-p-end w ↦
          let last : c.loop-p.p ≡ c.args.run.now.n = omega arith in
          rw (w.out-is, ← last)
          (row_more c.args.table.now c.args.run.now c.args.r c.args.out.now c.loop-p.out c.loop-p.p w.from.result (omega arith) (omega arith) c.loop-p.invariant.1
          (cc (c.heard_in-heard.ensures c.loop-p.p)))
    ]

pub loop-p-init : goal.loop-p-init
loop-p-init c = (omega arith, sym (overwritten_none _ _))

pub loop-p-preserved : goal.loop-p-preserved
loop-p-preserved c =
    let place : c.loop-p.p + 1 - 1 ≡ c.loop-p.p = omega arith in (
      omega arith,
      rw place
          (row_more c.args.table.now c.args.run.now c.args.r c.args.out.now c.loop-p.out c.loop-p.p c.from.result (omega arith) (omega arith) c.loop-p.invariant.1
          (cc (c.heard_in-heard.ensures c.loop-p.p))),
    )

pub returns-then-coordinates : goal.returns-then-coordinates
unfolding number_of_reason
returns-then-coordinates c =
    rw c.from-then-coordinates.ensures
    (row_decided c.args.table.now c.args.run.now c.args.r c.args.out.now c.loop-p-test.out (looped (goal.at.returns-then-coordinates c).Left-loop-p)
    (omega arith) (omega arith) (cc))

pub returns-else-r-run : goal.returns-else-r-run
returns-else-r-run c =
    let all = looped (goal.at.returns-else-r-run c).Left-loop-p in
    elim c.else-r-run.branch [
      | else-r-run-via-then-r-run+else-coordinates w ↦ row_beside c.args.table.now c.args.run.now c.args.r c.args.out.now c.loop-p-test.out all (cc)
      | else-r-run-via-else-r-run w ↦ row_beyond c.args.table.now c.args.run.now c.args.r c.args.out.now c.loop-p-test.out all (omega arith)
    ]
