-- What two tickets describe, number by number (document 01, 'The ticket').
use Rattle.std.specs.Prelude.{List, [], ◌∷◌, ◌++◌, ◌≡◌, ℕ}
use Prim.Native.String.{String}
use Rattle.general.specs.Bits.{members_to}
use Rattle.consensus.specs.Instance.{Instance, fault_of}
use Rattle.consensus.specs.declared.Fault.{Fault}
use Rattle.consensus.specs.declared.Fault.TheVariants.{Correct as correct, Crashes as crashes}
use Rattle.consensus.specs.declared.CrashPoint.TheVariants.{BeforeSending as before_sending, DuringData as during_data, DuringCommits as during_commits}
use Rattle.general.specs.Answer.{Answer, accepted, refused}
use Rattle.ticket_format.specs.Ticket.{read_ticket}
use Rattle.text.specs.TextOf.{text_of}
use Rattle.ticket_format.specs.Openings.{opening64}

-- A ticket with a failure line of each step, every digit, and what it describes: values of four bytes, most significant first; in a set bit j − 1 stands
-- for station j.
unfoldable pub describing_ticket : List String
describing_ticket =
    "010504" ∷ "020101234567" ∷ "020289ABCDEF" ∷ "020300000000" ∷ "0204FFFFFFFF" ∷ "020500000100"
    ∷ "03010101000000000000001A00" ∷ "03030302000000000000000001" ∷ "03050500000000000000000000" ∷ "04" ∷ []

unfoldable pub described_faults : List Fault
described_faults =
    crashes 1 (during_data 26) ∷ correct ∷ crashes 3 (during_commits 1) ∷ correct ∷ crashes 5 before_sending ∷ []

unfoldable pub described : Instance
described =
    record {
      processes = 5;
      resilience = 4;
      proposals = 19088743 ∷ 2309737967 ∷ 0 ∷ 4294967295 ∷ 256 ∷ [];
      pattern = described_faults;
    }

unfoldable pub TicketDescribes : Type 0
TicketDescribes = read_ticket (text_of describing_ticket) ≡ accepted described

-- A set with a bit in each of its eight bytes, of station 1 among 64, and the stations that it stands for, highest first.
unfoldable pub large_set : ℕ
large_set = 18364758544493064720

unfoldable pub large_set_ticket : List ℕ
large_set_ticket = text_of (opening64 ++ ("03010101FEDCBA987654321000" ∷ "04" ∷ []))

-- What a ticket as read says of process 1.
unfoldable pub first_fault : Answer Instance → Fault
first_fault (accepted x) = fault_of x 1
first_fault (refused refusal line) = correct

pub record LargeSet : Type 0 where
  pub fault : first_fault (read_ticket large_set_ticket) ≡ crashes 1 (during_data large_set)
  pub members : members_to 64 large_set
      ≡ 64 ∷ 63 ∷ 62 ∷ 61 ∷ 60 ∷ 59 ∷ 58 ∷ 56 ∷ 55 ∷ 53 ∷ 52 ∷ 51 ∷ 48 ∷ 46 ∷ 45 ∷ 44 ∷ 42 ∷ 40 ∷ 37 ∷ 36
      ∷ 31 ∷ 30 ∷ 29 ∷ 27 ∷ 26 ∷ 23 ∷ 21 ∷ 19 ∷ 14 ∷ 13 ∷ 10 ∷ 5 ∷ []
