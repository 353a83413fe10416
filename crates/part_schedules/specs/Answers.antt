-- What the calls of a schedule answer, by the definitions that the contracts of uc_start, uc_speak and uc_close state (document 01, 'Refused calls').
use Rattle.std.specs.Prelude.{List, [], ◌∷◌, ◌++◌, ◌≡◌, ℕ, cond, length}
use Rattle.consensus.specs.Instance.{Instance}
use Rattle.part_format.specs.Start.{start_refusal}
use Rattle.part_format.specs.Speak.{speak_answer}
use Rattle.part_format.specs.Close.{close_refusal}
use Rattle.part_host.specs.Part.{part_of, bytes_kept, output_room}
use Rattle.part_schedules.specs.Steps.{Hosted, Step, start, speak, close, round_over, heard_of, frames_yielded, step}
use Rattle.part_schedules.specs.Schedule.{up_and_open}

-- The number that a call answers. The end of a round is no call.
unfoldable pub answers : Instance → Hosted → Step → List ℕ
answers x h (start p) = start_refusal p x.processes x.resilience (bytes_kept (part_of h.parts p)) ∷ []
answers x h (speak p) = speak_answer (bytes_kept (part_of h.parts p)) output_room ∷ []
answers x h (close p) = close_refusal (bytes_kept (part_of h.parts p)) (heard_of x h.round p h.spoken) ∷ []
answers x h round_over = []

-- The number that is due: a start and a close are answered 0, speaking the count of bytes yielded; where the process is not open, 11.
unfoldable pub due : Hosted → Step → List ℕ
due h (start p) = 0 ∷ []
due h (speak p) = cond (up_and_open (part_of h.parts p)) (length (frames_yielded (part_of h.parts p))) 11 ∷ []
due h (close p) = cond (up_and_open (part_of h.parts p)) 0 11 ∷ []
due h round_over = []

-- One call, or the end of a round: it is answered what is due; and where that is 11, every part stays as it was, and nobody hears more.
pub record Answered (x : Instance) (h : Hosted) (one : Step) : Type 0 where
  pub number : answers x h one ≡ due h one
  pub stays : due h one ≡ 11 ∷ [] → (step x one h).parts ≡ h.parts
  pub silent : due h one ≡ 11 ∷ [] → (r p : ℕ) → heard_of x r p (step x one h).spoken ≡ heard_of x r p h.spoken

-- All steps, one after the other.
unfoldable pub AllAnswered : Instance → Hosted → List Step → Type 0
AllAnswered x h [] = Unit
AllAnswered x h (one ∷ steps) = Answered x h one × AllAnswered x (step x one h) steps

-- All numbers that are answered, in order, and all that are due.
unfoldable pub all_answers : Instance → Hosted → List Step → List ℕ
all_answers x h [] = []
all_answers x h (one ∷ steps) = answers x h one ++ all_answers x (step x one h) steps

unfoldable pub all_due : Instance → Hosted → List Step → List ℕ
all_due x h [] = []
all_due x h (one ∷ steps) = due h one ++ all_due x (step x one h) steps
