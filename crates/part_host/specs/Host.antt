-- A host that keeps the parts of all processes and calls each once to speak and once to close in every round (document 00, 'The callers'; document 01,
-- 'The desk part').
use Rattle.std.specs.Prelude.{List, ℕ, zero, suc, cond, ◌&&◌, replicate}
use Rattle.general.specs.Indexed.{map_from}
use Rattle.consensus.specs.Instance.{Instance, fault_of}
use Rattle.consensus.specs.declared.Fault.{Fault}
use Rattle.consensus.specs.State.{crashes_in}
use Rattle.part_format.specs.Start.{start_bytes}
use Rattle.part_format.specs.Close.{close_state}
use Rattle.part_host.specs.Part.{Part, up, crashed_in, part_of, is_open}
use Rattle.part_host.specs.Hearing.{heard}

-- The nine bytes that the host lends, before a part is started on them.
unfoldable pub blank : List ℕ
blank = replicate 9 0

-- Every part is started with its process's proposal.
unfoldable pub started_parts : Instance → List Part
started_parts x = map_from (λ p v. up (start_bytes p x.processes x.resilience v blank)) 1 x.proposals

-- What becomes of a part in round r, given its process's fault and the frames that are let through to it: an open part that crashes in the round is not
-- called to close it; any other that is up is.
unfoldable pub part_after : ℕ → Fault → List ℕ → Part → Part
part_after r own frames (up b) = cond (is_open b && crashes_in r own) (crashed_in r b) (up (close_state b frames))
part_after r own frames (crashed_in round b) = crashed_in round b

-- What becomes of all parts in round r.
unfoldable pub parts_after : Instance → ℕ → List Part → List Part
parts_after x r parts = map_from (λ p part. part_after r (fault_of x p) (heard x r p parts) part) 1 parts

-- The parts after rounds 1 to r.
unfoldable pub parts_to : Instance → ℕ → List Part
parts_to x zero = started_parts x
parts_to x (suc r) = parts_after x (suc r) (parts_to x r)

-- The parts after the whole run: t + 1 rounds.
unfoldable pub parts_of : Instance → List Part
parts_of x = parts_to x (suc x.resilience)

-- The part of process p at the end of the run.
unfoldable pub end_part_of : Instance → ℕ → Part
end_part_of x p = part_of (parts_of x) p
