-- The numbers of the enum are the papers'. Assumes nothing.
use Rattle.std.proofs.Common.{◌≡◌, ◌+◌, refl}
use Rattle.refusals.specs.declared.Refusal.{Refusal}
use Rattle.refusals.specs.declared.Refusal.TheVariants.{TicketTooLong, NoLine, WrongLine, OutsideLimits, NotNextProposal, TooManyCrashes, CrashMisplaced, CrashUnsuited, OutputTooShort, InvalidState, NotOpen, WrongFrames, NoSuchReason, WrongLineCount, CostTooHigh, NoQuote}
use Rattle.refusals.specs.Number.{number_of}
use Rattle.refusals.proofs.U8FromRefusal.from.Goals as goal

numbered : (r : Refusal) → denote.Enum.Declared.tag_of Rattle.refusals.specs.contracts.Refusal.the_type r + 1 ≡ number_of r
unfolding number_of
numbered TicketTooLong = refl
numbered NoLine = refl
numbered WrongLine = refl
numbered OutsideLimits = refl
numbered NotNextProposal = refl
numbered TooManyCrashes = refl
numbered CrashMisplaced = refl
numbered CrashUnsuited = refl
numbered OutputTooShort = refl
numbered InvalidState = refl
numbered NotOpen = refl
numbered WrongFrames = refl
numbered NoSuchReason = refl
numbered WrongLineCount = refl
numbered CostTooHigh = refl
numbered NoQuote = refl

pub returns : goal.returns
returns c = numbered c.args.refusal
