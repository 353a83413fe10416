-- The lines of a ticket in their order: what each adds to the instance that the lines before it describe (document 01, 'The ticket').
use Rattle.std.specs.Prelude.{List, [], ◌∷◌, ◌++◌, ℕ, ◌-◌, set, replicate}
use Rattle.consensus.specs.Instance.{Instance}
use Rattle.consensus.specs.declared.Fault.TheVariants.{Correct as correct}
use Rattle.ticket_format.specs.LineVerdict.{LineVerdict, next, refuse}
use Rattle.ticket_format.specs.Says.{header_says, line_says}
use Rattle.ticket_format.specs.FailureLine.{fault_by}
use Rattle.ticket_format.specs.declared.FailureLine.{FailureLine}
use Rattle.ticket_format.specs.declared.Place.{Place}
use Rattle.ticket_format.specs.declared.Place.TheVariants.{Proposals, Failures, Ended}
use Rattle.ticket_format.specs.LineAnswer.{HeaderAnswer}
use Rattle.ticket_format.specs.LineAnswer.{LineAnswer}
use Rattle.ticket_format.specs.LineAnswer.LineAnswer.{Proposal, Crash, End, Refused}

-- Where in a ticket a line stands: first, or behind the header at a place, with the instance as described so far.
pub data Stage : Type 0 where
  header : Stage
  body : Place → Instance → Stage

-- The instance of n and t without a proposal; every process is correct until a failure line says otherwise.
unfoldable pub unproposed : (n t : ℕ) → Instance
unproposed n t = record { processes = n; resilience = t; proposals = []; pattern = replicate n correct }

-- The instance with one proposal more.
unfoldable pub with_proposal : Instance → ℕ → Instance
with_proposal x v =
    record { processes = x.processes; resilience = x.resilience; proposals = x.proposals ++ (v ∷ []); pattern = x.pattern }

-- The instance with this failure line.
unfoldable pub with_crash : Instance → FailureLine → Instance
with_crash x l =
    record {
      processes = x.processes;
      resilience = x.resilience;
      proposals = x.proposals;
      pattern = set x.pattern (l.process - 1) (fault_by l);
    }

-- What the header makes of a ticket.
unfoldable pub begin : HeaderAnswer → LineVerdict Stage
begin (HeaderAnswer.Limits n t) = next (body (Proposals 0) (unproposed n t))
begin (HeaderAnswer.Refused number) = refuse number

-- What a line behind it makes of the instance described so far.
unfoldable pub store : Instance → LineAnswer → LineVerdict Stage
store x (Proposal count v to) = next (body to (with_proposal x v))
store x (Crash lines l) = next (body (Failures lines l.process) (with_crash x l))
store x End = next (body Ended x)
store x (Refused number) = refuse number

-- One line of a ticket.
unfoldable pub accept : Stage → List ℕ → LineVerdict Stage
accept header b = begin (header_says b)
accept (body place x) b = store x (line_says x.processes x.resilience place b)
