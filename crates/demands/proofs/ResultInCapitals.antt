-- The result of an accepted text has no small letter: every number in it fits its bytes, and hexadecimal text is in capitals. Assumes nothing.
use mathlib.Core.List.{List, [], ◌∷◌}
use mathlib.Core.Path.{◌≡◌, refl}
use Prim.Native.Nat.{ℕ, suc, ◌+◌, ◌≤◌, ◌<◌}
use native.Mathlib.Omega.{arith}
use lib.ListN.{length, get_or}
use Rattle.general.specs.Indexed.{map_from}
use Rattle.consensus.specs.Instance.{Instance}
use Rattle.consensus.specs.declared.State.{State}
use Rattle.consensus.specs.declared.State.TheVariants.{Crashed as crashed}
use Rattle.coordinator.specs.Run.{Run, run_of, crashes_of}
use Rattle.text.specs.Capitals.{InCapitals}
use Rattle.general.specs.Answer.{accepted}
use Rattle.ticket_format.specs.Ticket.{read_ticket}
use Rattle.answers.specs.ResultLine.{process_line, last_line, joined, line_by, process_lines, result_lines, result_text}
use Rattle.answers.proofs.InCapitals.{capitals_append, line_in_capitals}
use Rattle.ticket_laws.proofs.WellFormed.{accepted_well_formed}
use Rattle.demands.proofs.ResultReadBack.{Fits, AllFit, RunFits, line_bytes, process_line_bytes, last_bytes, last_line_bytes}
use Rattle.demands.proofs.EndsFit.{run_fits}

-- The lines of processes, of which the first is process p.
module _ (data_by commits_by : List ℕ) where
  processes_in_capitals : (states : List State) (p : ℕ) → p + length states ≤ 256 → ((k : ℕ) → k < length states → Fits (get_or states k (crashed 0)))
      → AllFit data_by p (p + length states) → AllFit commits_by p (p + length states) → InCapitals (joined (map_from (line_by data_by commits_by) p states))
  unfolding map_from joined line_by process_line InCapitals
  processes_in_capitals [] p few ends e c = refl
  processes_in_capitals (s ∷ states) p few ends e c =
      let own = process_line_bytes data_by commits_by p s (omega arith) (ends 0 (omega arith))
      (e p (omega arith) (omega arith)) (c p (omega arith) (omega arith))
      in
      capitals_append (line_by data_by commits_by p s) (joined (map_from (line_by data_by commits_by) (suc p) states))
      (line_in_capitals (line_bytes data_by commits_by p s) own)
      (processes_in_capitals states (suc p) (omega arith) (λ k h. ends (suc k) (omega arith))
      (λ q h g. e q (omega arith) (omega arith)) (λ q h g. c q (omega arith) (omega arith)))

lines_in_capitals : (run : Run) (data_by commits_by : List ℕ) (f n : ℕ) → RunFits run data_by commits_by f n → InCapitals (result_lines run data_by commits_by f)
unfolding result_lines process_lines last_line
lines_in_capitals run data_by commits_by f n fit =
    capitals_append (process_lines data_by commits_by run.states) (last_line run f)
    (processes_in_capitals data_by commits_by run.states 1 (omega (arith, fit.few, fit.all_end))
    (λ k h. fit.states k (omega (arith, fit.all_end))) (rw fit.all_end fit.data_by) (rw fit.all_end fit.commits_by))
    (line_in_capitals (last_bytes run data_by commits_by f n fit) (last_line_bytes run data_by commits_by f n fit))

-- Of an accepted text.
pub text_in_capitals : (text : List ℕ) (x : Instance) → read_ticket text ≡ accepted x → InCapitals (result_text x)
unfolding result_text
text_in_capitals text x read = lines_in_capitals (run_of x) _ _ (crashes_of x) x.processes (run_fits x (accepted_well_formed text x read))
