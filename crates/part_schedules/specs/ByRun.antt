-- The nine bytes with which each part ends by the rounds of the ticket's run (document 02, Paper 14: "those that the rounds of the ticket's run give; a desk that
-- goes dark keeps the bytes with which that round began").
use Rattle.std.specs.Prelude.{ℕ, suc, ◌-◌}
use Rattle.consensus.specs.Instance.{Instance}
use Rattle.consensus.specs.State.{state_of}
use Rattle.consensus.specs.declared.State.{State}
use Rattle.consensus.specs.declared.State.TheVariants.{Undecided as undecided, Decided as decided, Crashed as crashed}
use Rattle.coordinator.specs.Run.{run_to, end_of}
use Rattle.part_format.specs.PartState.{mark_open, mark_decided, mark_over}
use Rattle.part_host.specs.Part.{Part, up, crashed_in}
use Rattle.part_host.specs.DecideAlike.{part_bytes}

-- The value that a process holds, its estimate or what it has decided; 0 for a crashed one, which holds none.
unfoldable pub value_held : State → ℕ
value_held (undecided v) = v
value_held (decided round v) = v
value_held (crashed round) = 0

-- The estimate with which process p begins round r.
unfoldable pub estimate_in : Instance → (r p : ℕ) → ℕ
estimate_in x r p = value_held (state_of (run_to x (r - 1)).states p)

-- The part of process p by its end: decided, with the round and the value; crashed, with the bytes of an open process in that round. (None ends undecided,
-- which is proved.)
unfoldable pub part_by_end : Instance → ℕ → State → Part
part_by_end x p (undecided v) = up (part_bytes x p (suc x.resilience) mark_over v)
part_by_end x p (decided round v) = up (part_bytes x p round mark_decided v)
part_by_end x p (crashed round) = crashed_in round (part_bytes x p round mark_open (estimate_in x round p))

unfoldable pub part_by_run : Instance → ℕ → Part
part_by_run x p = part_by_end x p (end_of x p)
