-- `crash_count` meets its contract. Assumes nothing.
use Rattle.std.proofs.Common.{◌≡◌, ◌≤◌, ◌+◌, ◌-◌, get_or, arith}
use Rattle.consensus.specs.declared.Fault.TheVariants.{Correct as correct}
use Rattle.consensus.proofs.CrashCount.{counts_once}
use Rattle.coordinator_crashes.proofs.Crashes.{crashes_from, crashes_at, crashes_none}
use Rattle.coordinator_crashes.proofs.crash_count.Goals as goal
use Rattle.coordinator_crashes.proofs.crash_count.Goals.{After-counts_as_crash-f}

pub loop-p-init : goal.loop-p-init
loop-p-init c = (omega arith, omega arith, omega arith)

-- What process p counts, once at most, and what is left behind it.
counted : (c : After-counts_as_crash-f)
    → (c.counts_as_crash-f.result ≤ 1)
    × (c.loop-p.f + c.counts_as_crash-f.result + crashes_from c.args.table.now c.args.run.now c.loop-p.p ≡ crashes_from c.args.table.now c.args.run.now 0)
counted c =
    let once = counts_once (get_or c.args.table.now.pattern (c.loop-p.p - 1) correct) c.state.result in
    let here = crashes_at c.args.table.now c.args.run.now (omega arith) (omega arith) (omega arith) c.loop-p.p (omega arith) (omega arith) _ c.state.ensures in
    (omega (arith, once, c.counts_as_crash-f.ensures), omega (arith, here, c.counts_as_crash-f.ensures, c.loop-p.invariant.2))

pub overflow_add-f : goal.overflow_add-f
overflow_add-f c = omega (arith, (counted (goal.at.overflow_add-f c).After-counts_as_crash-f).0)

pub loop-p-preserved : goal.loop-p-preserved
loop-p-preserved c =
    let place : c.loop-p.p + 1 - 1 ≡ c.loop-p.p = omega arith in
    let (once, all) = counted (goal.at.loop-p-preserved c).After-counts_as_crash-f in
    (omega arith, omega arith, rw place all)

pub returns : goal.returns
returns c =
    let none : c.loop-p.p - 1 ≡ c.args.table.now.n = omega arith in
    omega (arith, rw none at c.loop-p.invariant.2, crashes_none c.args.table.now c.args.run.now (grind arith) (omega arith) (omega arith))

pub returns-2 : goal.returns-2
returns-2 c =
    let last : c.loop-p.p ≡ c.args.table.now.n = omega arith in
    let (once, all) = counted (goal.at.returns-2 c).After-counts_as_crash-f in
    omega (arith, rw last at all, crashes_none c.args.table.now c.args.run.now (omega arith) (omega arith) (omega arith))
