-- `crash_sets` meets its contract. Assumes nothing.
use Rattle.std.proofs.Common.{◌≡◌, ◌∙◌, ◌+◌, ◌-◌, length, refl, arith}
use lib.ListN.{length-set}
use Rattle.coordinator_crashes.specs.code.CrashSets.{CrashSets}
use Rattle.coordinator_crashes.proofs.CrashSets.{none_put, correct_stays, other_stays, put}
use Rattle.coordinator_crashes.proofs.crash_sets.Goals as goal
use Rattle.coordinator_crashes.proofs.crash_sets.Goals.{Joined-table-p, in-Crashes+then-round-ge1+then-round-le-LAST_ROUND, in-Crashes+else-round-ge1, in_default}

-- The processes up to p are in the sets of their rounds.
joined : (c : Joined-table-p) → (length c.match-table-p.by_round ≡ 64) × CrashSets c.loop-p.p c.args.table.now.pattern c.match-table-p.by_round
joined c =
    elim c.match-table-p.branch [
      | in-Crashes+then-round-ge1+then-round-le-LAST_ROUND w ↦
          rw (w.by_round-is, w.only.ensures) (
            length-set c.loop-p.by_round _ _ ∙ c.loop-p.invariant.1,
            put _ c.loop-p.by_round c.loop-p.p (omega arith) c.loop-p.invariant.2 _ _ w.in-Crashes.is (omega arith) (omega arith) (omega arith),
          )
      | in-Crashes+else-round-ge1 w ↦
          rw w.by_round-is
          (c.loop-p.invariant.1, other_stays _ c.loop-p.by_round c.loop-p.p (omega arith) c.loop-p.invariant.2 _ _ w.in-Crashes.is (λ low high. omega arith))
      | in_default w ↦
          rw w.by_round-is (c.loop-p.invariant.1, correct_stays _ c.loop-p.by_round c.loop-p.p (omega arith) c.loop-p.invariant.2 w.in_default.is)
    ]

pub loop-p-init : goal.loop-p-init
loop-p-init c = (omega arith, refl, none_put _)

pub loop-p-preserved : goal.loop-p-preserved
loop-p-preserved c =
    let place : c.loop-p.p + 1 - 1 ≡ c.loop-p.p = omega arith in
    let (places, put) = joined (goal.at.loop-p-preserved c).Joined-table-p in
    (omega arith, places, rw place put)

pub returns : goal.returns
returns c = let none : c.args.table.now.n ≡ c.loop-p.p - 1 = omega arith in rw none c.loop-p.invariant.2

pub returns-after-table-p : goal.returns-after-table-p
returns-after-table-p c =
    let last : c.args.table.now.n ≡ c.loop-p.p = omega arith in
    rw last (joined (goal.at.returns-after-table-p c).Joined-table-p).1
