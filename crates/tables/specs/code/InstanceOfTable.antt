-- The instance that a table stands for (document 01, 'The ticket': n, t, the proposals and the failure lines).
use Rattle.std.specs.Prelude.{ℕ, take, replicate}
use Rattle.consensus.specs.Instance.{Instance}
use Rattle.consensus.specs.declared.Fault.TheVariants.{Correct as correct}
use Rattle.tables.specs.declared.instance.InstanceTable.{InstanceTable}

-- The table before a line is stored in it.
abbrev pub empty_table : (n t : ℕ) → InstanceTable
empty_table n t = record { n = n; t = t; proposals = replicate 64 0; pattern = replicate 64 correct }

-- The instance: process p stands at place p - 1 of each array.
unfoldable pub instance_of : InstanceTable → Instance
instance_of x =
    record { processes = x.n; resilience = x.t; proposals = take x.n x.proposals; pattern = take x.n x.pattern }
