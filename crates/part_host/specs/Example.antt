-- Case 1 of document 01 ('Worked runs') by separate parts; and by it the premises of the claims on parts can be met.
use Rattle.std.specs.Prelude.{List, [], ◌∷◌, ◌≡◌, ℕ, take}
use Rattle.consensus.specs.declared.State.TheVariants.{Decided as decided, Crashed as crashed}
use Rattle.consensus.specs.Consensus.{IsProcess}
use Rattle.consensus.specs.FourProcesses.{after_one_commit}
use Rattle.part_format.specs.Speak.{speak_output}
use Rattle.part_host.specs.Part.{up, crashed_in, yielded}
use Rattle.part_host.specs.Output.{FindsYielded}
use Rattle.part_host.specs.Host.{parts_of}
use Rattle.part_host.specs.DecideAlike.{EndsAs, OpenAfter}

-- Process 1's part is still in round 1; process 4's decided in round 1 and the others in round 2, all on 10.
unfoldable pub Case1Parts : Type 0
Case1Parts = parts_of after_one_commit
    ≡ crashed_in 1 (1 ∷ 4 ∷ 2 ∷ 1 ∷ 0 ∷ 0 ∷ 0 ∷ 0 ∷ 10 ∷ [])
    ∷ up (2 ∷ 4 ∷ 2 ∷ 2 ∷ 1 ∷ 0 ∷ 0 ∷ 0 ∷ 10 ∷ [])
    ∷ up (3 ∷ 4 ∷ 2 ∷ 2 ∷ 1 ∷ 0 ∷ 0 ∷ 0 ∷ 10 ∷ [])
    ∷ up (4 ∷ 4 ∷ 2 ∷ 1 ∷ 1 ∷ 0 ∷ 0 ∷ 0 ∷ 10 ∷ [])
    ∷ []

-- The part of process 2 as round 2 begins, which it coordinates.
unfoldable pub second : List ℕ
second = 2 ∷ 4 ∷ 2 ∷ 2 ∷ 0 ∷ 0 ∷ 0 ∷ 0 ∷ 10 ∷ []

-- The part of process 2 once it has decided.
unfoldable pub ended : List ℕ
ended = 2 ∷ 4 ∷ 2 ∷ 2 ∷ 1 ∷ 0 ∷ 0 ∷ 0 ∷ 10 ∷ []

-- A buffer of twelve bytes.
unfoldable pub buffer : List ℕ
buffer = 1 ∷ 2 ∷ 3 ∷ 4 ∷ 5 ∷ 6 ∷ 7 ∷ 8 ∷ 9 ∷ 10 ∷ 11 ∷ 12 ∷ []

-- Each premise of `DecideAlike`, `NoneRefused` and `OutputYielded`.
pub record PremisesMet : Type 0 where
  -- process 4 decides in round 1, and process 1 crashes in it
  pub decides : EndsAs after_one_commit 4 (decided 1 10)
  pub crashes : EndsAs after_one_commit 1 (crashed 1)
  -- process 2 is started, and its part is open as round 2 begins
  pub started : IsProcess after_one_commit 2
  pub opens : OpenAfter after_one_commit 1 2 second
  -- the buffer has room; that part's answer is up to 8, and its frames stand at the front; and above 8 once it has decided, and it yields nothing
  pub low : FindsYielded second buffer
  pub front : take 8 (speak_output second buffer) ≡ yielded (up second)
  pub high : yielded (up ended) ≡ []
