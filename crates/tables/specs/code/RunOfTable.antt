-- The run that a table stands for (document 01, 'The ticket': 'The run keeps the table of 64 stations, with each one's value, round and end'; the numbers
-- for an end are those of 'The result').
use Rattle.std.specs.Prelude.{List, ℕ, ◌-◌, cond, eqb, get_or, take}
use Rattle.general.specs.Indexed.{map_from}
use Rattle.consensus.specs.declared.State.{State}
use Rattle.consensus.specs.declared.State.TheVariants.{Undecided as undecided, Decided as decided, Crashed as crashed}
use Rattle.coordinator.specs.Run.{Run}
use Rattle.tables.specs.declared.run.RunTable.{RunTable}

-- The state that an end (00 undecided, 01 decided, 02 crashed), the round of it and a value stand for.
unfoldable pub state_by_end : (end round value : ℕ) → State
state_by_end end round value = cond (eqb end 0) (undecided value) (cond (eqb end 1) (decided round value) (crashed round))

-- The state of process p by the rounds of the ends and the values of all, of which this is the end.
unfoldable pub state_over : (end_rounds values : List ℕ) → ℕ → ℕ → State
state_over end_rounds values p end = state_by_end end (get_or end_rounds (p - 1) 0) (get_or values (p - 1) 0)

-- The states of the first n processes, by the ends, the rounds of these and the values.
unfoldable pub states_over : ℕ → (ends end_rounds values : List ℕ) → List State
states_over n ends end_rounds values = map_from (state_over end_rounds values) 1 (take n ends)

-- The states of a table's processes.
abbrev pub states_in : RunTable → List State
states_in run = states_over run.n run.ends run.end_rounds run.values

-- The run of n processes, by its arrays and its counts.
unfoldable pub run_over : ℕ → (ends end_rounds values : List ℕ) → (rounds speakers data_sent commits_sent : ℕ) → Run
run_over n ends end_rounds values rounds speakers data_sent commits_sent =
    record {
      states = states_over n ends end_rounds values;
      rounds = rounds;
      speakers = speakers;
      data_sent = data_sent;
      commits_sent = commits_sent;
    }

-- The same in a table.
abbrev pub run_from : RunTable → Run
run_from run = run_over run.n run.ends run.end_rounds run.values run.rounds run.speakers run.data_sent run.commits_sent
