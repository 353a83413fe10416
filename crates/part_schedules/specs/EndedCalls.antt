-- A process that is up and not open, as one that has decided (document 02, Paper 14, and document 01, refusal 11). It may be called or left out at any moment of any
-- steps, in order or not, and keeps its bytes.
use Rattle.std.specs.Prelude.{List, [], ◌∷◌, ◌≡◌, ℕ, ◌≤◌, Bool, false, ◌||◌, eqb, length}
use Rattle.consensus.specs.Instance.{Instance}
use Rattle.part_format.specs.PartState.{ValidBytes}
use Rattle.part_format.specs.Speak.{speak_answer}
use Rattle.part_format.specs.Close.{close_refusal, close_state}
use Rattle.part_host.specs.Part.{up, part_of, is_open}
use Rattle.part_schedules.specs.Steps.{Hosted, Step, start, speak, close, round_over, step, play}
use Rattle.part_schedules.specs.Answers.{all_answers}

-- Such a process, with its nine bytes.
pub record Ended (h : Hosted) (p : ℕ) (b : List ℕ) : Type 0 where
  pub first : 1 ≤ p
  pub last : p ≤ length h.parts
  pub kept : part_of h.parts p ≡ up b
  -- its mark is not 00
  pub not_open : is_open b ≡ false

-- It is called to speak or to close.
pub data CallOf (p : ℕ) : Step → Type 0 where
  to_speak : CallOf p (speak p)
  to_close : CallOf p (close p)

-- Whether process p is started in these steps.
unfoldable pub starts : ℕ → List Step → Bool
starts p [] = false
starts p (start q ∷ steps) = eqb p q || starts p steps
starts p (speak q ∷ steps) = starts p steps
starts p (close q ∷ steps) = starts p steps
starts p (round_over ∷ steps) = starts p steps

-- The claim.
pub record EndedCalls : Type 0 where
  -- it is answered 11, however long the output is and whatever was heard, and closing leaves its bytes
  pub speak_answers : (b : List ℕ) (room : ℕ) → ValidBytes b → is_open b ≡ false → speak_answer b room ≡ 11
  pub close_answers : (b heard : List ℕ) → ValidBytes b → is_open b ≡ false → (close_refusal b heard ≡ 11) × (close_state b heard ≡ b)
  -- a call of it may be left out, wherever it stands: the steps behind it leave the same parts, and are answered the same
  pub left_out : (x : Instance) (h : Hosted) (p : ℕ) (b : List ℕ) → Ended h p b → (one : Step) → CallOf p one → (steps : List Step)
      → ((play x (one ∷ steps) h).parts ≡ (play x steps h).parts) × (all_answers x (step x one h) steps ≡ all_answers x h steps)
  -- it keeps its bytes through all steps but a start of its own
  pub keeps : (x : Instance) (h : Hosted) (p : ℕ) (b : List ℕ) → Ended h p b → (steps : List Step) → starts p steps ≡ false
      → part_of (play x steps h).parts p ≡ up b
