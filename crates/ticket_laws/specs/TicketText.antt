-- The ticket of an instance (document 01, 'The ticket': "Lines stand in this order"): its lines, kind by kind, and its text, in capitals.
use Rattle.std.specs.Prelude.{List, [], ◌∷◌, ◌++◌, ℕ, suc}
use Rattle.general.specs.BigEndian.{bytes_of}
use Rattle.general.specs.Indexed.{map_from}
use Rattle.consensus.specs.Instance.{Instance}
use Rattle.consensus.specs.declared.Fault.{Fault}
use Rattle.consensus.specs.declared.Fault.TheVariants.{Correct as correct, Crashes as crashes}
use Rattle.consensus.specs.declared.CrashPoint.{CrashPoint}
use Rattle.consensus.specs.declared.CrashPoint.TheVariants.{BeforeSending as before_sending, DuringData as during_data, DuringCommits as during_commits}
use Rattle.text.specs.HexText.{hex_lines}

-- 01, n, t.
unfoldable pub header_line : (n t : ℕ) → List ℕ
header_line n t = 1 ∷ n ∷ t ∷ []

-- 02, station, value (4 bytes).
unfoldable pub proposal_line : (p v : ℕ) → List ℕ
proposal_line p v = 2 ∷ p ∷ bytes_of 4 v

-- Step, set (8 bytes), count: of a step that has no set or no count it is 0.
unfoldable pub point_bytes : CrashPoint → List ℕ
point_bytes before_sending = 0 ∷ bytes_of 8 0 ++ (0 ∷ [])
point_bytes (during_data reached) = 1 ∷ bytes_of 8 reached ++ (0 ∷ [])
point_bytes (during_commits sent) = 2 ∷ bytes_of 8 0 ++ (sent ∷ [])

-- 03, station, round, step, set (8 bytes), count.
unfoldable pub crash_line : (p round : ℕ) → CrashPoint → List ℕ
crash_line p round point = 3 ∷ p ∷ round ∷ point_bytes point

-- A failure line for each process that has a fault, processes rising from p on.
unfoldable pub crash_lines : (p : ℕ) → List Fault → List (List ℕ)
crash_lines p [] = []
crash_lines p (correct ∷ faults) = crash_lines (suc p) faults
crash_lines p (crashes round point ∷ faults) = crash_line p round point ∷ crash_lines (suc p) faults

-- 04.
unfoldable pub end_line : List ℕ
end_line = 4 ∷ []

-- The lines of an instance's ticket.
unfoldable pub ticket_lines : Instance → List (List ℕ)
ticket_lines x =
    header_line x.processes x.resilience ∷ map_from proposal_line 1 x.proposals ++ crash_lines 1 x.pattern ++ (end_line ∷ [])

-- Its text, in capitals.
unfoldable pub ticket_text : Instance → List ℕ
ticket_text x = hex_lines (ticket_lines x)
