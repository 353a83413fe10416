-- How processes end by the nine bytes of their own parts (document 01, 'The desk part'). Of these ends demand 3 is claimed too, in the words of
-- consensus/specs/Consensus.
use Rattle.std.specs.Prelude.{map, ℕ, suc, cond, eqb}
use Rattle.consensus.specs.Instance.{Instance}
use Rattle.consensus.specs.declared.State.{State}
use Rattle.consensus.specs.declared.State.TheVariants.{Undecided as undecided, Decided as decided, Crashed as crashed}
use Rattle.consensus.specs.CrashCount.{crash_count}
use Rattle.part_format.specs.PartState.{state_from, mark_decided}
use Rattle.part_host.specs.Part.{Part, up, crashed_in}
use Rattle.part_host.specs.Host.{parts_of, end_part_of}

-- What a part says of its process: with mark 01, that it decided in the round and on the value of the bytes; with another mark, that it is undecided with
-- that value.
unfoldable pub state_by_part : Part → State
state_by_part (up b) = cond (eqb (state_from b).mark mark_decided) (decided (state_from b).round (state_from b).value) (undecided (state_from b).value)
state_by_part (crashed_in round b) = crashed round

-- The end of process p by its part.
unfoldable pub end_by_part : Instance → ℕ → State
end_by_part x p = state_by_part (end_part_of x p)

-- f + 1, where f counts the failure lines that are not idle by the parts.
unfoldable pub latest_by_parts : Instance → ℕ
latest_by_parts x = suc (crash_count x.pattern (map state_by_part (parts_of x)))
