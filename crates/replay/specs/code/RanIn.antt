-- Running a ticket with the front of a buffer as its output (document 01, 'The result': "Bytes after the last line stay").
use Rattle.std.specs.Prelude.{List, ◌≡◌, ℕ, take, drop}
use Rattle.answers.specs.Reply.{Reply, Ran}

-- The first `room` bytes are the output; what is behind them stays.
pub record RanIn (text : List ℕ) (room : ℕ) (before after : List ℕ) (reply : Reply) : Type 0 where
  pub ran : Ran text (take room before) (take room after) reply
  pub behind : drop room after ≡ drop room before
