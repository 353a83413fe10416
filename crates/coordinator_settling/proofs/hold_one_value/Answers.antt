-- `hold_one_value` meets its contract. Assumes nothing.
use Rattle.std.proofs.Common.{◌≡◌, ◌∙◌, ◌++◌, ℕ, List, ◌+◌, ◌-◌, drop, sym, ap, arith}
use Rattle.std.specs.Option.{option_to_list}
use Rattle.coordinator.specs.Settling.{values_held, one_value}
use Rattle.tables.specs.code.RunOfTable.{states_in}
use Rattle.coordinator_settling.proofs.OneValue.{held_from, none_from, all_compared, known_next, other_known}
use Rattle.coordinator_settling.proofs.hold_one_value.Goals as goal
use Rattle.coordinator_settling.proofs.hold_one_value.Goals.{Joined-state, in_default, in-Undecided+else-unwrap_or-own}

-- What is left to compare behind process p.
joined : (c : Joined-state)
    → one_value (values_held (states_in c.args.run))
    ≡ one_value (option_to_list c.match-state.known ++ values_held (drop c.loop-p.p (states_in c.args.run)))
joined c =
    elim c.match-state.branch [
      | in_default w ↦
          rw w.known-is
          (c.loop-p.invariant ∙ ap (λ (l : List ℕ). one_value (option_to_list c.loop-p.known ++ l))
          (none_from c.args.run (omega arith) c.loop-p.p (omega arith) (omega arith) c.state.result c.state.ensures _ w.in_default.is))
      | in-Undecided+else-unwrap_or-own w ↦
          rw w.known-is
          (c.loop-p.invariant ∙ ap (λ (l : List ℕ). one_value (option_to_list c.loop-p.known ++ l))
          (held_from c.args.run (omega arith) c.loop-p.p (omega arith) (omega arith) c.state.result c.state.ensures _ w.in-Undecided.is)
          ∙ known_next _ _ c.loop-p.known (sym w.unwrap_or.ensures ∙ w.if-unwrap_or-own.false))
    ]

pub returns-then-unwrap_or-own : goal.returns-then-unwrap_or-own
returns-then-unwrap_or-own c =
    sym (c.loop-p.invariant ∙ ap (λ (l : List ℕ). one_value (option_to_list c.loop-p.known ++ l))
    (held_from c.args.run (omega arith) c.loop-p.p (omega arith) (omega arith) c.state.result c.state.ensures _ c.in-Undecided.is)
    ∙ other_known _ _ c.loop-p.known (λ same. c.if-unwrap_or-own.true (c.unwrap_or.ensures ∙ same)))

pub loop-p-preserved : goal.loop-p-preserved
loop-p-preserved c =
    let place : c.loop-p.p + 1 - 1 ≡ c.loop-p.p = omega arith in
    rw place (joined (goal.at.loop-p-preserved c).Joined-state)

pub returns : goal.returns
returns c = sym (c.loop-p.invariant ∙ all_compared c.args.run (omega arith) _ _ (omega arith))

pub returns-after-state : goal.returns-after-state
returns-after-state c =
    sym (joined (goal.at.returns-after-state c).Joined-state ∙ all_compared c.args.run (omega arith) _ _ (omega arith))
