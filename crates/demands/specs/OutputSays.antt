-- What the bytes of an output say (document 01, 'The result'; document 02, Papers 2 and 4): how each process ended, what counts of what it sent, and the run's
-- counts, read off the bytes alone. A line that is not as the papers lay it out says nothing. What the rounds count, to which the bytes are held, are
-- `counts_of` and `sent_of`, at the end.
use Rattle.std.specs.Prelude.{List, ◌≡◌, ℕ, ◌-◌, Bool, cond, ◌&&◌, ◌||◌, eqb, get_or, take, drop}
use Rattle.std.proofs.Math.Option.{Option, some, none}
use Rattle.general.specs.BigEndian.{number}
use Rattle.general.specs.Counts.{count_of}
use Rattle.consensus.specs.Instance.{Instance}
use Rattle.consensus.specs.declared.State.{State}
use Rattle.consensus.specs.declared.State.TheVariants.{Decided as decided, Crashed as crashed}
use Rattle.coordinator.specs.Run.{run_of, crashes_of}
use Rattle.coordinator.specs.SentBy.{data_by, commits_by}
use Rattle.consensus.specs.Consensus.{IsProcess}
use Rattle.text.specs.Line.{Line, bytes, no_line, lines_of}
use Rattle.ticket_format.specs.Says.{is_kind}

-- A station line of process p with this end: 11, station, end, round, value (4 bytes), data, commits.
unfoldable pub is_process_line : (p end : ℕ) → List ℕ → Bool
is_process_line p end b = is_kind 0x11 10 b && eqb (get_or b 1 0) p && eqb (get_or b 2 0) end

-- The round and the value of such a line.
abbrev pub round_in : List ℕ → ℕ
round_in b = get_or b 3 0

abbrev pub value_in : List ℕ → ℕ
value_in b = number (take 4 (drop 4 b))

-- How process p ended by the bytes of its line: with end 01 it decided; with end 02, and 0 for a value, it crashed.
unfoldable pub end_in : (p : ℕ) → List ℕ → Option State
end_in p b =
    cond (is_process_line p 1 b) (some (decided (round_in b) (value_in b)))
    (cond (is_process_line p 2 b && eqb (value_in b) 0) (some (crashed (round_in b)))
    none)

unfoldable pub end_from : ℕ → Line → Option State
end_from p (bytes b) = end_in p b
end_from p no_line = none

-- What counts of what a process sent: the data and the commits of its line, whether it decided or crashed.
pub record Sent : Type 0 where
  pub data_sent : ℕ
  pub commits_sent : ℕ

unfoldable pub sent_in : (p : ℕ) → List ℕ → Option Sent
sent_in p b =
    cond (is_process_line p 1 b || (is_process_line p 2 b && eqb (value_in b) 0)) (some (record { data_sent = get_or b 8 0; commits_sent = get_or b 9 0 })) none

unfoldable pub sent_from : ℕ → Line → Option Sent
sent_from p (bytes b) = sent_in p b
sent_from p no_line = none

-- What the last line counts: 12, rounds, f, speakers, data (2 bytes), commits (2 bytes).
pub record Counts : Type 0 where
  pub rounds : ℕ
  pub crashes : ℕ
  pub speakers : ℕ
  pub data_sent : ℕ
  pub commits_sent : ℕ

abbrev pub counts_by : List ℕ → Counts
counts_by b =
    record {
      rounds = get_or b 1 0;
      crashes = get_or b 2 0;
      speakers = get_or b 3 0;
      data_sent = number (take 2 (drop 4 b));
      commits_sent = number (drop 6 b);
    }

unfoldable pub counts_in : List ℕ → Option Counts
counts_in b = cond (is_kind 0x12 8 b) (some (counts_by b)) none

unfoldable pub counts_from : Line → Option Counts
counts_from (bytes b) = counts_in b
counts_from no_line = none

-- Line k of an output, counted from 0. The lines of a result come first, and what stands after them changes none of them.
unfoldable pub line_at : (out : List ℕ) → (k : ℕ) → Line
line_at out k = get_or (lines_of out) k no_line

-- How process p ended, and what it sent: the p-th line is its station line.
unfoldable pub end_said : (out : List ℕ) → (p : ℕ) → Option State
end_said out p = end_from p (line_at out (p - 1))

unfoldable pub sent_said : (out : List ℕ) → (p : ℕ) → Option Sent
sent_said out p = sent_from p (line_at out (p - 1))

-- The counts of a result of n processes: line n + 1 is the last line.
unfoldable pub counts_said : (out : List ℕ) → (n : ℕ) → Option Counts
counts_said out n = counts_from (line_at out n)

-- What the first line says if it is a refusal's: 1F, number, line (2 bytes).
pub record Refusal : Type 0 where
  pub refusal : ℕ
  pub line : ℕ

unfoldable pub refusal_from : Line → Option Refusal
refusal_from (bytes b) = cond (is_kind 0x1F 4 b) (some (record { refusal = get_or b 1 0; line = number (drop 2 b) })) none
refusal_from no_line = none

unfoldable pub refusal_said : List ℕ → Option Refusal
refusal_said out = refusal_from (line_at out 0)

-- The bytes say that the processes of the instance end so, and that this was counted.
pub record OutputSays (x : Instance) (out : List ℕ) (ends : ℕ → State) (counts : Counts) : Type 0 where
  pub states : (p : ℕ) → IsProcess x p → end_said out p ≡ some (ends p)
  pub last : counts_said out x.processes ≡ some counts

-- What is counted of the instance's rounds.
unfoldable pub counts_of : Instance → Counts
counts_of x =
    record {
      rounds = (run_of x).rounds;
      crashes = crashes_of x;
      speakers = (run_of x).speakers;
      data_sent = (run_of x).data_sent;
      commits_sent = (run_of x).commits_sent;
    }

-- What is counted of the messages that process p sends in them.
unfoldable pub sent_of : Instance → ℕ → Sent
sent_of x p = record { data_sent = count_of (data_by x) p; commits_sent = count_of (commits_by x) p }
