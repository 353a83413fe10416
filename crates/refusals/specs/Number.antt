-- The refusals' numbers (document 01, 'Refused calls'; document 02, Papers 7 and 9). `Refusal` is the code's enum.
use Rattle.std.specs.Prelude.{ℕ}
use Rattle.refusals.specs.declared.Refusal.{Refusal}
use Rattle.refusals.specs.declared.Refusal.TheVariants.{TicketTooLong, NoLine, WrongLine, OutsideLimits, NotNextProposal, TooManyCrashes, CrashMisplaced, CrashUnsuited, OutputTooShort, InvalidState, NotOpen, WrongFrames, NoSuchReason, WrongLineCount, CostTooHigh, NoQuote}

unfoldable pub number_of : Refusal → ℕ
number_of TicketTooLong = 1
number_of NoLine = 2
number_of WrongLine = 3
number_of OutsideLimits = 4
number_of NotNextProposal = 5
number_of TooManyCrashes = 6
number_of CrashMisplaced = 7
number_of CrashUnsuited = 8
number_of OutputTooShort = 9
number_of InvalidState = 10
number_of NotOpen = 11
number_of WrongFrames = 12
number_of NoSuchReason = 13
number_of WrongLineCount = 14
number_of CostTooHigh = 15
number_of NoQuote = 16
