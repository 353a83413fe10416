-- For the code alone: the table of a run before round 1 (document 01, 'A round').
use Rattle.std.specs.Prelude.{List, ℕ, ◌-◌, ◌^◌, replicate}
use Rattle.tables.specs.declared.run.RunTable.{RunTable}

-- Every one of n processes is up and undecided and holds its value, and nothing has been counted.
abbrev pub initial_table : (n : ℕ) → (values : List ℕ) → RunTable
initial_table n values =
    record {
      n = n;
      ends = replicate 64 0;
      end_rounds = replicate 64 0;
      values = values;
      rounds = 0;
      speakers = 0;
      data_sent = 0;
      commits_sent = 0;
      undecided = 2 ^ n - 1;
    }
