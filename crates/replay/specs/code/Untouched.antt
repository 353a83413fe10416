-- What an output buffer holds where nothing was written (document 01, 'Refused calls': "The output is unchanged in each").
use Rattle.std.specs.Prelude.{List, ℕ, Bool, eqb}
use Rattle.std.specs.List.{list_all}

-- Every byte is the filling. (165 is a byte that no result has.)
abbrev pub untouched : List ℕ → Bool
untouched bytes = list_all (λ b. eqb b 165) bytes
