-- The lines of a result and of a refusal (document 01, 'The result'; document 02, Paper 2, for the last two bytes of a process's line).
use Rattle.std.specs.Prelude.{List, [], ◌∷◌, ◌++◌, ℕ, ◌+◌, ◌*◌}
use Rattle.general.specs.BigEndian.{bytes_of}
use Rattle.general.specs.Indexed.{map_from}
use Rattle.general.specs.Counts.{count_of}
use Rattle.consensus.specs.Instance.{Instance}
use Rattle.consensus.specs.declared.State.{State}
use Rattle.consensus.specs.declared.State.TheVariants.{Undecided as undecided, Decided as decided, Crashed as crashed}
use Rattle.coordinator.specs.Run.{Run, run_of, crashes_of}
use Rattle.coordinator.specs.SentBy.{data_by, commits_by}
use Rattle.text.specs.HexText.{hex_line, line_size}

-- The end of a process (01 decided, 02 dark), the round of it, and the value, 0 if dark. No process is left undecided by the run of an accepted ticket,
-- so that no result has the end 00 of one that is.
unfoldable pub end_bytes : State → List ℕ
end_bytes (undecided v) = 0 ∷ 0 ∷ bytes_of 4 v
end_bytes (decided round v) = 1 ∷ round ∷ bytes_of 4 v
end_bytes (crashed round) = 2 ∷ round ∷ bytes_of 4 0

-- 11, station, end, round, value (4 bytes), and the data and the commits that the station sent, be it decided or dark (document 02, Paper 2), as far as they
-- count (Paper 4).
unfoldable pub process_line : (p : ℕ) → State → (data_sent commits_sent : ℕ) → List ℕ
process_line p s data_sent commits_sent = hex_line (0x11 ∷ p ∷ end_bytes s ++ (data_sent ∷ commits_sent ∷ []))

-- 12, rounds, f, speakers, data (2 bytes), commits (2 bytes).
unfoldable pub last_line : Run → (f : ℕ) → List ℕ
last_line run f = hex_line (0x12 ∷ run.rounds ∷ f ∷ run.speakers ∷ bytes_of 2 run.data_sent ++ bytes_of 2 run.commits_sent)

-- The lines one after the other.
unfoldable pub joined : List (List ℕ) → List ℕ
joined [] = []
joined (line ∷ lines) = line ++ joined lines

-- The line of process p in this state, by the messages that each process sent.
unfoldable pub line_by : (data_counts commit_counts : List ℕ) → (p : ℕ) → State → List ℕ
line_by data_counts commit_counts p s = process_line p s (count_of data_counts p) (count_of commit_counts p)

-- The lines of all processes in order.
unfoldable pub process_lines : (data_counts commit_counts : List ℕ) → List State → List ℕ
process_lines data_counts commit_counts states = joined (map_from (line_by data_counts commit_counts) 1 states)

-- The result of a run in which each process sent so much: these lines, and the last one.
unfoldable pub result_lines : Run → (data_counts commit_counts : List ℕ) → (f : ℕ) → List ℕ
result_lines run data_counts commit_counts f = process_lines data_counts commit_counts run.states ++ last_line run f

-- The result of an instance.
unfoldable pub result_text : Instance → List ℕ
result_text x = result_lines (run_of x) (data_by x) (commits_by x) (crashes_of x)

-- The length of a process's line, which has 10 bytes, and of the last line, which has 8.
abbrev pub process_line_size : ℕ
process_line_size = line_size 10

abbrev pub last_line_size : ℕ
last_line_size = line_size 8

-- The length of a result of n processes.
unfoldable pub result_size : (n : ℕ) → ℕ
result_size n = process_line_size * n + last_line_size

-- A refusal: 1F, number, line (2 bytes).
unfoldable pub refusal_line : (number line : ℕ) → List ℕ
refusal_line number line = hex_line (0x1F ∷ number ∷ bytes_of 2 line)

-- The length of a refusal's line, which has 4 bytes.
abbrev pub refusal_line_size : ℕ
refusal_line_size = line_size 4
