-- For the code alone: what it asks of a place before it looks at a line there.
use Rattle.std.specs.Prelude.{ℕ, ◌≤◌, ◌<◌}
use Rattle.ticket_format.specs.declared.Place.{Place}
use Rattle.ticket_format.specs.declared.Place.TheVariants.{Proposals, Failures, Ended}

-- A table of 64 places has one for every process that a line here can name, of n.
unfoldable pub HasPlaces : Place → ℕ → Type 0
HasPlaces (Proposals count) n = (count < n) × (n ≤ 64)
HasPlaces (Failures lines last) n = n ≤ 64
HasPlaces Ended n = Unit {0}
