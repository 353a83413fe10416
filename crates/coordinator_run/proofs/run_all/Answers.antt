-- `run_all` meets its contract. Assumes nothing.
use Rattle.std.proofs.Common.{◌≡◌, false, ◌+◌, ◌-◌, sym, ◌∙◌, arith}
use Rattle.tables.specs.code.InstanceOfTable.{instance_of}
use Rattle.tables.proofs.Places.{resilience_of}
use Rattle.tables.specs.code.RunOfTable.{states_in}
use Rattle.coordinator.specs.Settling.{values_held, one_value}
use Rattle.coordinator_run.proofs.OfTable.{before_rounds, round_of, not_beyond}
use Rattle.coordinator_run.proofs.Rounds.{RoundEnded, round_allowed, after_round}
use Rattle.coordinator_run.proofs.Stopping.{Unsettled, unsettled_first, unasked, all_ended, all_run, settled, unsettled_next}
use Rattle.coordinator_run.proofs.run_all.Goals as goal
use Rattle.coordinator_run.proofs.run_all.Goals.{After-run_round-run, else-until_settled-via-then-until_settled+else-hold_one_value, else-until_settled-via-else-until_settled}

pub loop-r-init : goal.loop-r-init
loop-r-init c = (before_rounds _ c.args.instance.well_formed _ _ c.initial_run-run.ensures c.requires, unsettled_first _ _)

pub returns-then-run-eq0 : goal.returns-then-run-eq0
returns-then-run-eq0 c =
    let (now, unsettled) = c.loop-r.invariant in
    all_ended _ c.args.instance.well_formed _ c.loop-r.auto.r (not_beyond _ _ c.loop-r-test.true) _ _ now _ unsettled c.if-run-eq0.true

pub run_round-run-requires : goal.run_round-run-requires
run_round-run-requires c =
    let (now, unsettled) = c.loop-r.invariant in
    let formed = c.args.instance.well_formed in
    let of = round_of _ formed _ c.crash_sets-faulty.ensures _ now.processes _ c.loop-r.auto.r c.loop-r-test.true in
    round_allowed _ formed _ _ _ now c.loop-r.auto.r (not_beyond _ _ c.loop-r-test.true) _ _ of c.if-run-eq0.false

ended : (c : After-run_round-run) → RoundEnded (instance_of c.args.instance.table.now) c.loop-r.r c.loop-r.run c.run_round-run.result c.loop-r.sent
ended c =
    let (now, unsettled) = c.loop-r.invariant in
    let formed = c.args.instance.well_formed in
    let of = round_of _ formed _ c.crash_sets-faulty.ensures _ now.processes _ c.loop-r.auto.r c.loop-r-test.true in
    after_round _ formed _ _ _ now c.loop-r.auto.r (not_beyond _ _ c.loop-r-test.true) _ _ of _ c.run_round-run.ensures

pub overflow_sub-sent : goal.overflow_sub-sent
overflow_sub-sent c = omega (arith, ended (goal.at.overflow_sub-sent c).After-run_round-run)

pub overflow_cast-sent : goal.overflow_cast-sent
overflow_cast-sent c = omega (arith, ended (goal.at.overflow_cast-sent c).After-run_round-run)

pub overflow_sub-sent-in-loop-r : goal.overflow_sub-sent-in-loop-r
overflow_sub-sent-in-loop-r c = omega (arith, ended (goal.at.overflow_sub-sent-in-loop-r c).After-run_round-run)

pub overflow_cast-sent-in-loop-r : goal.overflow_cast-sent-in-loop-r
overflow_cast-sent-in-loop-r c = omega (arith, ended (goal.at.overflow_cast-sent-in-loop-r c).After-run_round-run)

-- A round that does not qualify is no reason to stop.
goes_on : (c : After-run_round-run) → false ≡ one_value (values_held (states_in c.run_round-run.result))
    → Unsettled (instance_of c.args.instance.table.now) c.args.until_settled (c.loop-r.r + 1)
goes_on c e =
    let (now, unsettled) = c.loop-r.invariant in
    unsettled_next _ c.args.instance.well_formed _ c.loop-r.auto.r (not_beyond _ _ c.loop-r-test.true) _ _ (ended c).ended _ unsettled e

pub returns-then-hold_one_value : goal.returns-then-hold_one_value
returns-then-hold_one_value c =
    let (now, unsettled) = c.loop-r.invariant in
    let after = (ended (goal.at.returns-then-hold_one_value c).After-run_round-run).ended in
    settled _ c.args.instance.well_formed _ c.loop-r.auto.r (not_beyond _ _ c.loop-r-test.true) _ _ after _ unsettled c.if-until_settled.true
    (sym c.if-hold_one_value.true ∙ c.hold_one_value.ensures)

pub loop-r-preserved : goal.loop-r-preserved
loop-r-preserved c =
    let ran = (goal.at.loop-r-preserved c).After-run_round-run in
    let number : c.loop-r.r + 1 - 1 ≡ c.loop-r.r = omega arith in (
      rw number (ended ran).ended,
      elim c.else-until_settled.branch [
        | else-until_settled-via-then-until_settled+else-hold_one_value w ↦ goes_on ran (sym w.if-hold_one_value.false ∙ w.hold_one_value.ensures)
        | else-until_settled-via-else-until_settled w ↦ unasked _ _ _ w.if-until_settled.false
      ],
    )

pub returns-else-until_settled : goal.returns-else-until_settled
returns-else-until_settled c =
    let ran = (goal.at.returns-else-until_settled c).After-run_round-run in
    let unsettled : Unsettled (instance_of c.args.instance.table.now) c.args.until_settled (c.loop-r.r + 1) =
    elim c.else-until_settled.branch [
      | else-until_settled-via-then-until_settled+else-hold_one_value w ↦ goes_on ran (sym w.if-hold_one_value.false ∙ w.hold_one_value.ensures)
      | else-until_settled-via-else-until_settled w ↦ unasked _ _ _ w.if-until_settled.false
    ]
    in
    all_run _ c.args.instance.well_formed _ c.loop-r.auto.r (not_beyond _ _ c.loop-r-test.true) _ _ (ended ran).ended _ unsettled
    (rw resilience_of (omega arith))
