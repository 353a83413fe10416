-- No refusal has the number 0. Assumes nothing.
use Prim.Native.Nat.{◌<◌}
use native.Mathlib.Omega.{arith}
use Rattle.refusals.specs.declared.Refusal.{Refusal}
use Rattle.refusals.specs.declared.Refusal.TheVariants.{TicketTooLong, NoLine, WrongLine, OutsideLimits, NotNextProposal, TooManyCrashes, CrashMisplaced, CrashUnsuited, OutputTooShort, InvalidState, NotOpen, WrongFrames, NoSuchReason, WrongLineCount, CostTooHigh, NoQuote}
use Rattle.refusals.specs.Number.{number_of}

pub number_positive : (r : Refusal) → 0 < number_of r
unfolding number_of
number_positive TicketTooLong = omega arith
number_positive NoLine = omega arith
number_positive WrongLine = omega arith
number_positive OutsideLimits = omega arith
number_positive NotNextProposal = omega arith
number_positive TooManyCrashes = omega arith
number_positive CrashMisplaced = omega arith
number_positive CrashUnsuited = omega arith
number_positive OutputTooShort = omega arith
number_positive InvalidState = omega arith
number_positive NotOpen = omega arith
number_positive WrongFrames = omega arith
number_positive NoSuchReason = omega arith
number_positive WrongLineCount = omega arith
number_positive CostTooHigh = omega arith
number_positive NoQuote = omega arith
