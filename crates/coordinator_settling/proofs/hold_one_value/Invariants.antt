-- The loop's invariant: what is left to compare are the one value that is known, if one is, and those of the processes from p on.
use Rattle.std.proofs.Common.{◌≡◌, ◌-◌, ◌++◌, drop}
use Rattle.std.specs.Option.{option_to_list}
use Rattle.coordinator.specs.Settling.{values_held, one_value}
use Rattle.tables.specs.code.RunOfTable.{states_in}
use Rattle.coordinator_settling.proofs.hold_one_value.Given as goal

abbrev pub invariant-loop-p : goal.invariant-loop-p
invariant-loop-p l =
    one_value (values_held (states_in l.run))
    ≡ one_value (option_to_list l.known ++ values_held (drop (l.p - 1) (states_in l.run)))
