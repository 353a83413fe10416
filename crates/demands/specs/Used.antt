-- Claims, used by their own premises: on case 1 and what is paired with it, on the largest ticket and state, or on both.
use Rattle.std.specs.Prelude.{List, [], ◌∷◌, ◌≡◌, ℕ, replicate}
use Rattle.consensus.specs.Instance.{Instance}
use Rattle.consensus.specs.Consensus.{UniformConsensus, CountsCrashes, NoLater, ends_of}
use Rattle.consensus.specs.CrashCount.{crashed_count}
use Rattle.coordinator.specs.Run.{crashes_of, end_of, latest_of}
use Rattle.coordinator_laws.specs.TrueReasons.{IsRound}
use Rattle.text.specs.Line.{Line, lines_of}
use Rattle.text.specs.Split.{Split}
use Rattle.general.specs.Answer.{accepted}
use Rattle.ticket_format.specs.Ticket.{read_ticket}
use Rattle.ticket_format.specs.ReadingCases.{fullest}
use Rattle.ticket_laws.specs.TextsJudged.{TextJudged}
use Rattle.coordinator.specs.WithoutIdle.{without_idle}
use Rattle.coordinator_laws.specs.FirstSettling.{FirstSettles, SettledSince}
use Rattle.ticket_laws.specs.AcceptedTexts.{TicketOf}
use Rattle.ticket_laws.specs.FirstWrong.{FirstWrong}
use Rattle.ticket_laws.specs.TicketText.{ticket_text}
use Rattle.answers.specs.Reason.{reason}
use Rattle.answers.specs.Code.{refusal_code, RunCall, number_code}
use Rattle.part_format.specs.Start.{start_refusal, start_bytes}
use Rattle.part_format.specs.Speak.{speak_answer, speak_output}
use Rattle.part_format.specs.Close.{close_refusal, close_state}
use Rattle.part_laws.specs.PartCalls.{Starts, Speaks, Closes}
use Rattle.part_host.specs.PartEnds.{end_by_part}
use Rattle.part_schedules.specs.AnyOrder.{ends_by}
use Rattle.part_schedules.specs.Schedule.{played}
use Rattle.part_schedules.specs.Permutations.{passing_schedule}
use Rattle.consensus.specs.FourProcesses.{after_one_commit}
use Rattle.part_schedules.specs.Example.{permuted, after_all_commits}
use Rattle.part_host.specs.Part.{part_of, bytes_kept}
use Rattle.part_host.specs.Host.{parts_to}
use Rattle.pricing_format.specs.QuoteCall.{QuoteCall, PriceCall}
use Rattle.demands.specs.OutputSays.{counts_of}
use Rattle.demands.specs.BoundClaim.{CountsBounded}
use Rattle.demands.specs.Written.{Wrote}
use Rattle.demands.specs.LettersClaim.{RunAlike}
use Rattle.demands.specs.ReasonClaim.{OnlyReason, AllReasons}
use Rattle.demands.specs.Witnesses.{crash_text, mixed_text, Witnesses}

-- The largest ticket: 64 processes, of which 63 have a failure line, in 2,543 bytes.
pub record FullestMet : Type 0 where
  pub instance : Instance
  pub read : read_ticket fullest ≡ accepted instance
  pub processes : instance.processes ≡ 64
  pub resilience : instance.resilience ≡ 63

-- Process 64 of 64, open in round 1 of 64, with the value FFFFFFFF.
unfoldable pub last_state : List ℕ
last_state = 64 ∷ 64 ∷ 63 ∷ 1 ∷ 0 ∷ 255 ∷ 255 ∷ 255 ∷ 255 ∷ []

-- The data frame of round 1 with the value 7.
unfoldable pub data_of_round1 : List ℕ
data_of_round1 = 0x21 ∷ 1 ∷ 0 ∷ 0 ∷ 0 ∷ 7 ∷ []

-- On the largest.
pub record UsedOnFullest (f : FullestMet) : Type 0 where
  -- demand 1: the text, its lines, and calls of the process part
  pub judged : TextJudged fullest
  pub ticket_read : read_ticket (ticket_text f.instance) ≡ accepted f.instance
  pub cut : (lines : List Line) → Split fullest lines → lines ≡ lines_of fullest
  pub started : Starts 64 64 63 4294967295 (replicate 9 0) (start_refusal 64 64 63 (replicate 9 0)) (start_bytes 64 64 63 4294967295 (replicate 9 0))
  pub spoken : Speaks last_state (replicate 64 0) (speak_answer last_state 64) (speak_output last_state (replicate 64 0))
  pub spoken_only : (answer : ℕ) (after : List ℕ) → Speaks last_state (replicate 64 0) answer after → answer ≡ speak_answer last_state 64
  pub closed : Closes last_state [] (close_refusal last_state []) (close_state last_state [])
  pub closed_on_data : Closes last_state data_of_round1 (close_refusal last_state data_of_round1) (close_state last_state data_of_round1)
  pub closed_only : (answer : ℕ) (after : List ℕ) → Closes last_state data_of_round1 answer after → after ≡ close_state last_state data_of_round1
  -- demand 3: the rounds, and the bytes of a result
  pub consensus : UniformConsensus (latest_of f.instance) f.instance (end_of f.instance)
  pub counted : CountsCrashes (crashes_of f.instance) f.instance (end_of f.instance)
  pub said_no_later : NoLater f.instance (end_of f.instance) f.instance (end_of f.instance)
  -- the bound on messages, by the bytes of a result
  pub bounded : CountsBounded f.instance.processes (counts_of f.instance)
  -- a reason in whichever round, and quotes after different rounds
  pub reason : (r : ℕ) → IsRound f.instance r → OnlyReason f.instance 64 r (number_code (reason fullest 64 r))
  pub quotes : (a b : ℕ) → PriceCall (bytes_kept (part_of (parts_to f.instance 1) 1)) (100000 ∷ []) 7 a 0
      → PriceCall (bytes_kept (part_of (parts_to f.instance 2) 64)) (100000 ∷ []) 7 b 0 → a ≡ b

-- On the witnesses.
pub record ClaimsUsed (w : Witnesses) : Type 0 where
  -- demand 1: case 1 is the ticket of its instance, and has no wrong line
  pub ticket : TicketOf w.settled.instance crash_text
  pub not_wrong : (refusal line : ℕ) → FirstWrong crash_text refusal line → ⊥
  -- demand 2: what the call wrote is a result
  pub result : (x : Instance) × Wrote crash_text x w.written.after
  -- demand 3: of cases 1 and 3, in the rounds, by separate parts, and by parts in another order; of the bytes of case 1's result
  pub no_later : NoLater w.more_commits.first (end_of w.more_commits.first) w.more_commits.second (end_of w.more_commits.second)
  pub parts_no_later : NoLater w.more_commits.first (end_by_part w.more_commits.first) w.more_commits.second (end_by_part w.more_commits.second)
  pub orders_no_later : NoLater w.played_otherwise.instance (ends_by (played w.played_otherwise.instance (passing_schedule after_one_commit permuted)).parts)
      w.played_paired.instance (ends_by (played w.played_paired.instance (passing_schedule after_all_commits permuted)).parts)
  pub rounds_crashed : crashes_of w.sent.instance ≡ crashed_count (ends_of w.sent.instance (end_of w.sent.instance))
  pub crashed : (counts_of w.sent.instance).crashes ≡ crashed_count (ends_of w.sent.instance (end_of w.sent.instance))
  -- the room: 100 bytes are too few, and 101 are not
  pub short : (after : List ℕ) (code : ℕ) → RunCall crash_text (replicate 100 165) after code → (code ≡ refusal_code 9 0) × (after ≡ replicate 100 165)
  pub fits : (after : List ℕ) (code : ℕ) → RunCall crash_text (replicate 101 165) after code → code ≡ 101
  -- idle lines and the case of letters
  pub idle : RunAlike crash_text (ticket_text (without_idle w.settled.instance))
  pub letters : RunAlike crash_text mixed_text
  -- the settling round, a reason and all of them
  pub settles : FirstSettles w.settled_later.instance 2 × SettledSince w.settled_later.instance 2
  pub reason : OnlyReason w.explained.instance 3 1 3
  pub reasons : (x : Instance) × AllReasons x (6 ∷ 3 ∷ 3 ∷ 2 ∷ 7 ∷ 1 ∷ 2 ∷ 7 ∷ 165 ∷ [])
  -- two processes quote the same, by the ticket and by their own bytes
  pub quotes : (a b : ℕ) → QuoteCall crash_text (100000 ∷ []) 2 7 a 0 → QuoteCall crash_text (100000 ∷ []) 4 7 b 0 → a ≡ b
