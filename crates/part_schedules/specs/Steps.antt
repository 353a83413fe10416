-- A tender as its host plays it, call by call (document 02, Paper 14: "Our host now calls desk parts as they come ready"; document 01, 'The desk part').
use Rattle.std.specs.Prelude.{List, [], ◌∷◌, ◌++◌, ℕ, suc, cond, ◌&&◌, eqb, replicate}
use Rattle.general.specs.Indexed.{map_from}
use Rattle.consensus.specs.Instance.{Instance, proposal_of, fault_of}
use Rattle.consensus.specs.declared.Fault.{Fault}
use Rattle.consensus.specs.State.{crashes_in}
use Rattle.part_format.specs.Start.{start_bytes}
use Rattle.part_format.specs.Speak.{speak_yields}
use Rattle.part_format.specs.Close.{close_state}
use Rattle.part_host.specs.Part.{Part, up, crashed_in, part_of, bytes_kept, is_open, output_room}
use Rattle.part_host.specs.Hearing.{let_through}
use Rattle.part_host.specs.Host.{blank}

-- What a process has yielded in the round that is played, none where its call was refused. The host keeps it from speaking to closing.
pub record Spoken : Type 0 where
  pub sender : ℕ
  pub frames : List ℕ

-- What the host keeps of a tender: the round that is played, the part of each process, and what was yielded in this round, in the order of speaking.
pub record Hosted : Type 0 where
  pub round : ℕ
  pub parts : List Part
  pub spoken : List Spoken

-- What the host does next: it calls the part of a process to start, to speak or to close; or the round is over.
pub data Step : Type 0 where
  start : (p : ℕ) → Step
  speak : (p : ℕ) → Step
  close : (p : ℕ) → Step
  round_over : Step

-- Before any call: nine bytes are lent to each part, here zeros. (What they are makes no difference, which is proved.)
unfoldable pub unstarted : Instance → Hosted
unstarted x = record { round = 1; parts = replicate x.processes (up blank); spoken = [] }

-- What process p hears in round r of what was yielded, in the order of speaking.
unfoldable pub heard_of : Instance → (r p : ℕ) → List Spoken → List ℕ
heard_of x r p [] = []
heard_of x r p (one ∷ others) = let_through x r one.sender p one.frames ++ heard_of x r p others

-- A part whose bytes a call changes. A call does with the bytes what its contract says, also if the process has crashed; that such a one is not called is a
-- condition on schedules.
unfoldable pub with_bytes : (List ℕ → List ℕ) → Part → Part
with_bytes change (up b) = up (change b)
with_bytes change (crashed_in round b) = crashed_in round (change b)

-- A part that is called to start, with its process's proposal; what one yields that is called to speak; one that is called to close on these frames.
unfoldable pub started_with : Instance → ℕ → Part → Part
started_with x p = with_bytes (start_bytes p x.processes x.resilience (proposal_of x p))

unfoldable pub frames_yielded : Part → List ℕ
frames_yielded part = speak_yields (bytes_kept part) output_room

unfoldable pub closed_with : List ℕ → Part → Part
closed_with frames = with_bytes (λ b. close_state b frames)

-- A part when round r is over: one that is open and has its process's failure line in this round has crashed, with the bytes that it has (document 01: it has
-- gone dark).
unfoldable pub left_after : ℕ → Fault → Part → Part
left_after r own (up b) = cond (is_open b && crashes_in r own) (crashed_in r b) (up b)
left_after r own (crashed_in round b) = crashed_in round b

-- The parts when that of process p alone has changed.
unfoldable pub changed_at : ℕ → (Part → Part) → List Part → List Part
changed_at p change parts = map_from (λ q part. cond (eqb q p) (change part) part) 1 parts

-- What the host keeps after a step.
unfoldable pub step : Instance → Step → Hosted → Hosted
step x (start p) h = record { round = h.round; parts = changed_at p (started_with x p) h.parts; spoken = h.spoken }
step x (speak p) h =
    record { round = h.round; parts = h.parts; spoken = h.spoken ++ (record { sender = p; frames = frames_yielded (part_of h.parts p) } ∷ []) }
step x (close p) h =
    record { round = h.round; parts = changed_at p (closed_with (heard_of x h.round p h.spoken)) h.parts; spoken = h.spoken }
step x round_over h =
    record { round = suc h.round; parts = map_from (λ p part. left_after h.round (fault_of x p) part) 1 h.parts; spoken = [] }

-- What it keeps after several, one after the other.
unfoldable pub play : Instance → List Step → Hosted → Hosted
play x [] h = h
play x (one ∷ steps) h = play x steps (step x one h)
