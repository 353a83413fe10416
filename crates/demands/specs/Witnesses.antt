-- The premises of the claims can be met: case 1 (document 01, 'Worked runs') is run, as it stands, in mixed letters and into a buffer that is too short, and
-- paired with case 3 and with itself without its failure line; its lines say what counts of each process. (What else is answered on case 1 in mixed letters,
-- and on refused texts in two letterings: answers/specs/LetteringCases.) Settling case 1 names a round below the run's last, and settling the further run
-- `crashes_later` one that is neither the first nor the last. Reasons are given in cases 1 and 6, and all of case 1 are written. Two processes of case 1 quote, and
-- one that crashes does not. Cases 1, 3 and 5 are played by separate parts, case 1 in two orders.
use Rattle.std.specs.Prelude.{List, [], ◌∷◌, ◌++◌, map, ◌≡◌, ℕ, ◌<◌, replicate}
use Rattle.std.proofs.Math.Option.{Option, some, none}
use Rattle.consensus.specs.Instance.{Instance}
use Rattle.consensus.specs.declared.State.TheVariants.{Crashed as crashed}
use Rattle.consensus.specs.Consensus.{IsProcess, Decides}
use Rattle.consensus.specs.FourProcesses.{after_one_commit, data_to_the_last}
use Rattle.coordinator_laws.specs.Pairing.{Paired}
use Rattle.coordinator.specs.Run.{run_of, end_of}
use Rattle.coordinator_laws.specs.TrueReasons.{IsRound, StaysUp, end_round}
use Rattle.general.specs.Answer.{accepted}
use Rattle.ticket_format.specs.Ticket.{read_ticket}
use Rattle.answers.specs.Settle.{settling}
use Rattle.answers.specs.Reason.{reason}
use Rattle.text.specs.TextOf.{text_of}
use Rattle.ticket_format.specs.Openings.{opening}
use Rattle.answers.specs.Table.{case1, case3, case5, case6}
use Rattle.answers.specs.FurtherRuns.{crashes_later}
use Rattle.answers.specs.LetterRuns.{case1_mixed}
use Rattle.answers.specs.Code.{refusals_from, refusal_code, RunCall, ReasonsCall, number_code}
use Rattle.answers.specs.Reply.{answer_by, Ran, Explained}
use Rattle.answers.specs.Reply.{Given}
use Rattle.part_format.specs.PartState.{ValidBytes}
use Rattle.part_host.specs.Part.{Part, part_of, bytes_kept}
use Rattle.part_host.specs.Host.{parts_to, end_part_of}
use Rattle.part_schedules.specs.Schedule.{Schedule, played}
use Rattle.part_schedules.specs.AnyOrder.{Whole}
use Rattle.part_schedules.specs.Permutations.{passing_schedule}
use Rattle.part_schedules.specs.Example.{ascending, permuted, case1_left, after_all_commits, case3_left, case5_left}
use Rattle.pricing_format.specs.Quoting.{quoting}
use Rattle.pricing_format.specs.QuoteCall.{QuoteCall, PriceCall}
use Rattle.demands.specs.OutputSays.{Sent, Counts, sent_said, sent_of}
use Rattle.demands.specs.Written.{Wrote}
use Rattle.demands.specs.SenderClaim.{MessagesSaid}
use Rattle.demands.specs.PairedTexts.{PairedTexts}

-- Case 1's text, the same in mixed letters, case 3's, and case 1's without its failure line.
unfoldable pub crash_text : List ℕ
crash_text = text_of case1.ticket

unfoldable pub mixed_text : List ℕ
mixed_text = text_of case1_mixed.ticket

unfoldable pub more_commits_text : List ℕ
more_commits_text = text_of case3.ticket

unfoldable pub no_crash_text : List ℕ
no_crash_text = text_of (opening ++ ("04" ∷ []))

-- The text of the further run `crashes_later`.
unfoldable pub later_text : List ℕ
later_text = text_of crashes_later.ticket

-- Case 6's text.
unfoldable pub silent_text : List ℕ
silent_text = text_of case6.ticket

-- Case 5's text.
unfoldable pub reached_text : List ℕ
reached_text = text_of case5.ticket

-- Two texts are accepted, and paired line by line and in what they describe; process 2 decides in the first in round r and in the second in round s.
pub record PairMet (a b : List ℕ) (r s : ℕ) : Type 0 where
  pub first : Instance
  pub second : Instance
  pub lines : PairedTexts a b
  pub read_first : read_ticket a ≡ accepted first
  pub read_second : read_ticket b ≡ accepted second
  pub paired : Paired first second
  pub decides : Decides first (end_of first) 2 r 10
  pub decides_second : Decides second (end_of second) 2 s 10

-- Running a text answers that it wrote so many bytes, in Rattle and in C.
pub record RunMet (text : List ℕ) (size : ℕ) : Type 0 where
  pub before : List ℕ
  pub after : List ℕ
  pub ran : Ran text before after (Given size)
  pub called : RunCall text before after size
  pub small : size < refusals_from

-- A text is accepted and its result is `out`, whose lines say what counts of each process and of all; what the first lines say of processes 1, 2 and so on.
pub record SentMet (text out : List ℕ) (rows : List (Option Sent)) (counts : Counts) : Type 0 where
  pub instance : Instance
  pub wrote : Wrote text instance out
  pub said : MessagesSaid instance out (sent_of instance) counts
  pub each : map (sent_said out) (1 ∷ 2 ∷ 3 ∷ 4 ∷ 5 ∷ []) ≡ rows

-- A text is accepted, settling it answers `code`, its run has `rounds` rounds, and process p decides v in the last of them.
pub record SettledMet (text : List ℕ) (code rounds p v : ℕ) : Type 0 where
  pub instance : Instance
  pub read : read_ticket text ≡ accepted instance
  pub answered : answer_by (Given code) ≡ settling text
  pub called : code ≡ number_code (settling text)
  pub last : (run_of instance).rounds ≡ rounds
  pub decides : Decides instance (end_of instance) p rounds v

-- A text is accepted, process p begins round r of its run undecided and stays up in it, and it is answered reason k there, in Rattle and in C; the process ends
-- later, and `ended` is the round in which the round's coordinator ends.
pub record ReasonMet (text : List ℕ) (p r k ended : ℕ) : Type 0 where
  pub instance : Instance
  pub read : read_ticket text ≡ accepted instance
  pub process : IsProcess instance p
  pub round : IsRound instance r
  pub stays : StaysUp instance p r
  pub answered : answer_by (Given k) ≡ reason text p r
  pub called : k ≡ number_code (reason text p r)
  pub later : r < end_round (end_of instance p)
  pub coordinator : end_round (end_of instance r) ≡ ended

-- A text is accepted, process p ends crashed in round q, and r is a later round of the run.
pub record CrashMet (text : List ℕ) (p q r : ℕ) : Type 0 where
  pub instance : Instance
  pub read : read_ticket text ≡ accepted instance
  pub process : IsProcess instance p
  pub ended : end_of instance p ≡ crashed q
  pub round : IsRound instance r
  pub later : end_round (end_of instance p) < r

-- All reasons of a text are written into a buffer, in Rattle and in C.
pub record ReasonsMet (text before after : List ℕ) (size : ℕ) : Type 0 where
  pub answered : Explained text before after (Given size)
  pub called : ReasonsCall text before after size
  pub small : size < refusals_from

-- A text is accepted, and its process p quotes so many pence for these costs: by the library, by the C call, which finds 7 in the place, and by the nine bytes of
-- its own part.
pub record QuoteMet (text costs : List ℕ) (p pence : ℕ) : Type 0 where
  pub instance : Instance
  pub read : read_ticket text ≡ accepted instance
  pub process : IsProcess instance p
  pub answered : answer_by (Given pence) ≡ quoting text costs p
  pub called : QuoteCall text costs p 7 pence 0
  pub own : PriceCall (bytes_kept (end_part_of instance p)) costs 7 pence 0

-- A text is accepted; after rounds 1 to r of its run, behind which another comes, process p prices by the nine bytes that its host keeps then, and process q, whose
-- state is open, is refused.
pub record PricedMeanwhile (text costs : List ℕ) (r p q pence : ℕ) : Type 0 where
  pub instance : Instance
  pub read : read_ticket text ≡ accepted instance
  pub process : IsProcess instance p
  pub before : r < (run_of instance).rounds
  pub priced : PriceCall (bytes_kept (part_of (parts_to instance r) p)) costs 7 pence 0
  pub waits : PriceCall (bytes_kept (part_of (parts_to instance r) q)) costs 7 7 16
  pub valid : ValidBytes (bytes_kept (part_of (parts_to instance r) p))

-- A text is accepted; this schedule of its processes is in order, ends with none of them open, and leaves these parts.
pub record PlayedMet (text : List ℕ) (s : Schedule) (ends : List Part) : Type 0 where
  pub instance : Instance
  pub read : read_ticket text ≡ accepted instance
  pub whole : Whole instance s
  pub left : (played instance s).parts ≡ ends

abbrev pub sent_as : (data_sent commits_sent : ℕ) → Option Sent
sent_as data_sent commits_sent = some (record { data_sent = data_sent; commits_sent = commits_sent })

pub record Witnesses : Type 0 where
  pub more_commits : PairMet crash_text more_commits_text 2 1
  pub line_missing : PairMet crash_text no_crash_text 2 1
  pub written : RunMet crash_text 101
  pub written_mixed : RunMet mixed_text 101
  -- the last line is no station line
  pub sent : SentMet crash_text (text_of case1.output) (sent_as 3 1 ∷ sent_as 1 1 ∷ sent_as 0 0 ∷ sent_as 0 0 ∷ none ∷ [])
      (record { rounds = 2; crashes = 1; speakers = 2; data_sent = 4; commits_sent = 2 })
  pub settled : SettledMet crash_text 1 2 2 10
  pub four_processes : settled.instance.processes ≡ 4
  pub settled_later : SettledMet later_text 2 3 3 30
  -- process 3 hears the value only in round 1, whose coordinator crashes in it; and nothing in round 2 of case 6, whose coordinator crashed in round 1
  pub explained : ReasonMet crash_text 3 1 3 1
  pub explained_silent : ReasonMet silent_text 3 2 4 1
  -- process 1 crashes in round 1, of two
  pub crashes : CrashMet crash_text 1 1 2
  -- the eight reasons, and behind them what stood there
  pub all_explained : ReasonsMet crash_text (replicate 9 165) (6 ∷ 3 ∷ 3 ∷ 2 ∷ 7 ∷ 1 ∷ 2 ∷ 7 ∷ 165 ∷ []) 8
  -- processes 2 and 4, which decide in rounds 2 and 1, quote 100,100 for 100,000; so does process 2 in mixed letters, and process 1 crashes
  pub quoted : QuoteMet crash_text (100000 ∷ []) 2 100100
  pub quoted_earlier : QuoteMet crash_text (100000 ∷ []) 4 100100
  pub quoted_mixed : QuoteCall mixed_text (100000 ∷ []) 2 7 100100 0
  pub not_quoted : QuoteCall crash_text (100000 ∷ []) 1 7 7 (refusal_code 16 0)
  -- after round 1 of two process 4 has decided, and prices by its nine bytes; process 2 is open, and cannot yet
  pub quoted_meanwhile : PricedMeanwhile crash_text (100000 ∷ []) 1 4 2 100100
  -- case 1 in two orders, and case 3, with which it is paired, in one of them
  pub played : PlayedMet crash_text ascending case1_left
  pub played_otherwise : PlayedMet crash_text (passing_schedule after_one_commit permuted) case1_left
  pub played_paired : PlayedMet more_commits_text (passing_schedule after_all_commits permuted) case3_left
  -- case 5 in these orders, and beside it case 1 as another tender (part_schedules/specs/Example, `mixed`)
  pub played_beside : PlayedMet reached_text (passing_schedule data_to_the_last permuted) case5_left
  -- a buffer of 100 bytes is too short for it, and one of 101 is not
  pub short : RunCall crash_text (replicate 100 165) (replicate 100 165) (refusal_code 9 0)
  pub fits : RunCall crash_text (replicate 101 165) (text_of case1.output) 101
