-- Demand 2 (document 00): "The result of an accepted ticket, desk by desk and count by count, is that of document 001's rounds as condensed in document 01;
-- and separate desk parts, fed the frames that the ticket lets through, decide alike."
use Rattle.std.specs.Prelude.{List, ◌≡◌, ℕ}
use Rattle.std.proofs.Math.Option.{some}
use Rattle.consensus.specs.Consensus.{IsProcess}
use Rattle.consensus.specs.Instance.{Instance}
use Rattle.coordinator.specs.Run.{end_of}
use Rattle.demands.specs.OutputSays.{OutputSays, counts_of, sent_said, sent_of}
use Rattle.demands.specs.Written.{Wrote, WritesResults}
use Rattle.demands.specs.PartsClaim.{PartsClaim}

pub record Demand2 : Type 0 where
  -- running writes the result of an accepted text, in C as in Rattle
  pub written : WritesResults
  -- the bytes of every result that running writes say how each process ends in the rounds, and what is counted of them
  pub result : (text : List ℕ) (x : Instance) (out : List ℕ) → Wrote text x out → OutputSays x out (end_of x) (counts_of x)
  -- and what counts of what each process sends in them (document 02, Papers 2 and 4)
  pub sent : (text : List ℕ) (x : Instance) (out : List ℕ) → Wrote text x out → (p : ℕ) → IsProcess x p → sent_said out p ≡ some (sent_of x p)
  pub parts : PartsClaim
