-- What a line of a ticket says where it stands, and which refusal a wrong one gets (document 01, 'The ticket' and 'Refused calls', refusals 3 to 8).
-- Besides its own bytes it depends on n, t and the place, and not on what earlier lines proposed. `Place` is the code's enum.
use Rattle.std.specs.Prelude.{List, ℕ, suc, Bool, cond, not, ◌&&◌, eqb, leb, length, get_or, take, drop}
use Rattle.general.specs.BigEndian.{number}
use Rattle.consensus.specs.Instance.{within_limits}
use Rattle.ticket_format.specs.declared.FailureLine.{FailureLine}
use Rattle.ticket_format.specs.declared.Place.{Place}
use Rattle.ticket_format.specs.declared.Place.TheVariants.{Proposals, Failures, Ended}
use Rattle.ticket_format.specs.LineAnswer.{HeaderAnswer}
use Rattle.ticket_format.specs.LineAnswer.{LineAnswer}
use Rattle.ticket_format.specs.LineAnswer.LineAnswer.{Proposal, Crash, End, Refused}
use Rattle.ticket_format.specs.FailureLine.{places_crash, suits_step}

-- A line of this kind and of this many bytes.
unfoldable pub is_kind : (kind size : ℕ) → List ℕ → Bool
is_kind kind size b = eqb (get_or b 0 0) kind && eqb (length b) size

-- 01, n, t.
unfoldable pub header_says : List ℕ → HeaderAnswer
header_says b =
    let n = get_or b 1 0 in
    let t = get_or b 2 0 in
    cond (not (is_kind 1 3 b)) (HeaderAnswer.Refused 3)
    (cond (not (within_limits n t)) (HeaderAnswer.Refused 4)
    (HeaderAnswer.Limits n t))

-- After the n-th proposal come the failure lines.
unfoldable pub after_proposal : (n count : ℕ) → Place
after_proposal n count = cond (eqb (suc count) n) (Failures 0 0) (Proposals (suc count))

-- 02, station, value (4 bytes); stations 1 to n in order.
unfoldable pub proposal_says : (n count : ℕ) → List ℕ → LineAnswer
proposal_says n count b =
    cond (not (is_kind 2 6 b)) (Refused 3)
    (cond (not (eqb (get_or b 1 0) (suc count))) (Refused 5)
    (Proposal count (number (drop 2 b)) (after_proposal n count)))

-- The bytes of a failure line behind its kind: station, round, step, set (8 bytes), count.
unfoldable pub failure_line : List ℕ → FailureLine
failure_line b =
    record {
      process = get_or b 1 0;
      round = get_or b 2 0;
      step = get_or b 3 0;
      reached = number (take 8 (drop 4 b));
      count = get_or b 12 0;
    }

-- A failure line, whose kind and length are right, after `lines` of them, the last of process `last`: at most t of them (6), refusals 7 and 8.
unfoldable pub crash_says : (n t lines last : ℕ) → FailureLine → LineAnswer
crash_says n t lines last l =
    cond (leb t lines) (Refused 6)
    (cond (not (places_crash n t last l)) (Refused 7)
    (cond (not (suits_step n l)) (Refused 8)
    (Crash (suc lines) l)))

-- 03, station, round, step, set (8 bytes), count; or 04, the end.
unfoldable pub failure_says : (n t lines last : ℕ) → List ℕ → LineAnswer
failure_says n t lines last b =
    cond (is_kind 4 1 b) End
    (cond (not (is_kind 3 13 b)) (Refused 3)
    (crash_says n t lines last (failure_line b)))

-- A line behind the header. After the 04 every kind is refused.
unfoldable pub line_says : (n t : ℕ) → Place → List ℕ → LineAnswer
line_says n t (Proposals count) b = proposal_says n count b
line_says n t (Failures lines last) b = failure_says n t lines last b
line_says n t Ended b = Refused 3
