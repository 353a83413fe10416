-- Laws of running with the front of a buffer: what comes back, and that what is written has room. Assumes nothing.
use mathlib.Core.List.{List, ◌++◌}
use mathlib.Core.Path.{◌≡◌, ◌∙◌}
use Prim.Native.Nat.{ℕ, ◌≤◌}
use native.Mathlib.Omega.{arith}
use lib.ListN.{length, take, drop, length-take}
use lib.Seq.{length-take-le, take_at, drop_at}
use Rattle.answers.specs.Reply.{Reply, Given, Ran}
use Rattle.answers.proofs.Replies.{written_fits}
use Rattle.replay.specs.code.RanIn.{RanIn}

module _ (text before : List ℕ) (room : ℕ) (reply : Reply) where
  -- The front that was lent comes back as `front`.
  pub ran_in : (front : List ℕ) → room ≤ length before → length front ≡ length (take room before) → Ran text (take room before) front reply
      → RanIn text room before (front ++ drop room before) reply
  ran_in front fits same ran =
      let size : length front ≡ room = same ∙ length-take-le room before fits in
      record { ran = rw (take_at front (drop room before) room size) ran; behind = drop_at front (drop room before) room size }

  pub written_fits_in : (after : List ℕ) (size : ℕ) → RanIn text room before after reply → reply ≡ Given size → size ≤ length before
  written_fits_in after size ran_in written =
      let fits : size ≤ length (take room before) = written_fits text (take room before) (take room after) reply size ran_in.ran written in
      omega (arith, length-take room before)
