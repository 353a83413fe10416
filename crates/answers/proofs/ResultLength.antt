-- The length of a result: that of each line, and of all. Assumes nothing.
use mathlib.Core.List.{List, [], ◌∷◌}
use mathlib.Core.Path.{◌≡◌, refl, ap₂, ◌∙◌}
use Prim.Native.Nat.{ℕ, suc, ◌+◌, ◌*◌}
use native.Mathlib.Omega.{arith}
use lib.ListN.{length, length-append}
use Rattle.general.specs.BigEndian.{bytes_of}
use Rattle.general.specs.Indexed.{map_from}
use Rattle.consensus.specs.Instance.{Instance}
use Rattle.consensus.specs.declared.State.{State}
use Rattle.consensus.specs.declared.State.TheVariants.{Undecided as undecided, Decided as decided, Crashed as crashed}
use Rattle.coordinator.specs.Run.{Run, run_of, crashes_of}
use Rattle.coordinator.specs.WellFormed.{WellFormed}
use Rattle.coordinator_laws.proofs.Ends.{states_at_end}
use Rattle.text.specs.HexText.{hex_digits, hex_line}
use Rattle.answers.specs.ResultLine.{end_bytes, process_line, last_line, process_line_size, last_line_size, joined, line_by, process_lines, result_lines, result_text, result_size}

pub length-line : (data_by commits_by : List ℕ) (p : ℕ) (s : State) → length (line_by data_by commits_by p s) ≡ process_line_size
unfolding line_by process_line end_bytes bytes_of hex_line hex_digits
length-line data_by commits_by p (undecided v) = refl
length-line data_by commits_by p (decided round v) = refl
length-line data_by commits_by p (crashed round) = refl

pub length_last : (run : Run) (f : ℕ) → length (last_line run f) ≡ last_line_size
unfolding last_line bytes_of hex_line hex_digits
length_last run f = refl

module _ (data_by commits_by : List ℕ) where
  length_from : (states : List State) (p : ℕ) → length (joined (map_from (line_by data_by commits_by) p states)) ≡ process_line_size * length states
  unfolding map_from joined
  length_from [] p = refl
  length_from (s ∷ states) p =
      length-append (line_by data_by commits_by p s) _
      ∙ ap₂ (λ (a b : ℕ). a + b) (length-line data_by commits_by p s) (length_from states (suc p))
      ∙ omega arith

  pub length_process_lines : (states : List State) → length (process_lines data_by commits_by states) ≡ process_line_size * length states
  unfolding process_lines
  length_process_lines states = length_from states 1

  pub length-result : (run : Run) (f n : ℕ) → length run.states ≡ n → length (result_lines run data_by commits_by f) ≡ result_size n
  unfolding result_lines result_size
  length-result run f n all =
      length-append (process_lines data_by commits_by run.states) _
      ∙ ap₂ (λ (a b : ℕ). a + b) (length_process_lines run.states) (length_last run f)
      ∙ omega arith

-- Of a well-formed instance.
pub length-text : (x : Instance) → WellFormed x → length (result_text x) ≡ result_size x.processes
unfolding result_text
length-text x formed = length-result _ _ (run_of x) (crashes_of x) x.processes (states_at_end x formed)
