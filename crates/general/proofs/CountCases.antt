-- The counts worked out by hand are what the definitions give. Assumes nothing.
use mathlib.Core.Path.{refl}
use Rattle.general.specs.Indexed.{map_from}
use Rattle.general.specs.Counts.{count_of, add_at, sum_to}
use Rattle.general.specs.CountCases.{CountCases}

pub count_cases : CountCases
unfolding map_from count_of add_at sum_to
count_cases = record { raised = refl; each = refl; sum = refl }
