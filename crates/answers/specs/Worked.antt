-- What the papers say of a case besides its result: which rounds qualify for settling (document 01, 'The result', last paragraph), and that the bound
-- on commits is met (document 02, Paper 4).
use Rattle.std.specs.Prelude.{List, [], ◌∷◌, ◌++◌, map, ◌≡◌, ℕ}
use Rattle.consensus.specs.Instance.{Instance}
use Rattle.coordinator.specs.Run.{run_of}
use Rattle.coordinator.specs.SpeakerLimits.{most_commits}
use Rattle.coordinator.specs.WorkedRuns.{qualifying_rounds}
use Rattle.general.specs.Answer.{Answer, accepted, refused}
use Rattle.ticket_format.specs.Ticket.{read_ticket}
use Rattle.text.specs.TextOf.{text_of}
use Rattle.answers.specs.Table.{Case, case1, case2, case3, case4, case5, case6, case7, case8, case9}
use Rattle.answers.specs.FurtherRuns.{further_runs}
use Rattle.answers.specs.LetterRuns.{letter_runs}

-- The rounds that qualify in the run of a ticket as read.
unfoldable pub qualifying_in : Answer Instance → List ℕ
qualifying_in (accepted x) = qualifying_rounds x
qualifying_in (refused refusal line) = []

-- The claim: the rounds that qualify in cases 1 to 9, in the further runs and in those in small letters (document 01, 'The result': "In case 1 both 1 and 2
-- qualify").
unfoldable pub RoundsThatQualify : Type 0
RoundsThatQualify =
    map (λ (c : Case). qualifying_in (read_ticket (text_of c.ticket)))
    (case1 ∷ case2 ∷ case3 ∷ case4 ∷ case5 ∷ case6 ∷ case7 ∷ case8 ∷ case9 ∷ further_runs ++ letter_runs)
    ≡ (1 ∷ 2 ∷ []) ∷ (1 ∷ []) ∷ (1 ∷ []) ∷ (2 ∷ []) ∷ (2 ∷ []) ∷ (3 ∷ []) ∷ (1 ∷ 2 ∷ []) ∷ (1 ∷ []) ∷ (1 ∷ 2 ∷ 3 ∷ 4 ∷ 5 ∷ 6 ∷ 7 ∷ [])
    ∷ (1 ∷ 2 ∷ []) ∷ (1 ∷ 2 ∷ []) ∷ (2 ∷ []) ∷ (1 ∷ 2 ∷ []) ∷ (1 ∷ []) ∷ (1 ∷ 2 ∷ 3 ∷ []) ∷ (1 ∷ 2 ∷ 3 ∷ []) ∷ (2 ∷ 3 ∷ [])
    ∷ (1 ∷ 2 ∷ []) ∷ (2 ∷ [])
    ∷ (1 ∷ 2 ∷ []) ∷ (1 ∷ []) ∷ (1 ∷ []) ∷ (2 ∷ 3 ∷ []) ∷ []

-- n, the speakers, the commit messages that count, and the most that there may be of them, of a ticket as read.
unfoldable pub commit_bound_of : Answer Instance → List ℕ
commit_bound_of (accepted x) = x.processes ∷ (run_of x).speakers ∷ (run_of x).commits_sent ∷ most_commits x ∷ []
commit_bound_of (refused refusal line) = []

-- The claim on case 9: of 10 processes 7 speak, and 3 commits count, which is the bound (document 02, Paper 4: "line 12's commits are at most n less its
-- speakers"; "case 9 has data 24, commits 3").
unfoldable pub Case9MeetsCommitBound : Type 0
Case9MeetsCommitBound = commit_bound_of (read_ticket (text_of case9.ticket)) ≡ 10 ∷ 7 ∷ 3 ∷ 3 ∷ []
