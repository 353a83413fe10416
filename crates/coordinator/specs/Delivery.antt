-- Which messages of the coordinator reach which process (document 001, section 2.1; document 01, 'A round' and the failure lines of 'The ticket').
-- Hearing (Round) and counting (Count) both rest on it.
use Rattle.std.specs.Prelude.{ℕ, ◌+◌, Bool, cond, eqb, ltb}
use Rattle.general.specs.Bits.{member}
use Rattle.coordinator.specs.Message.{Reach, none, data_only, all}
use Rattle.consensus.specs.declared.Fault.{Fault}
use Rattle.consensus.specs.declared.Fault.TheVariants.{Correct as correct, Crashes as crashes}
use Rattle.consensus.specs.declared.CrashPoint.{CrashPoint}
use Rattle.consensus.specs.declared.CrashPoint.TheVariants.{BeforeSending as before_sending, DuringData as during_data, DuringCommits as during_commits}

-- Commits go to n, n - 1 and so on downward, whether or not those processes still listen: process p is among the first `sent` of them just if n < p + sent.
unfoldable pub among_first : (n sent p : ℕ) → Bool
among_first n sent p = ltb n (p + sent)

-- How far the messages to process p, of n, get when their sender crashes at this point.
unfoldable pub reach_at : (n : ℕ) → CrashPoint → (p : ℕ) → Reach
reach_at n before_sending p = none
reach_at n (during_data reached) p = cond (member p reached) data_only none
reach_at n (during_commits sent) p = cond (among_first n sent p) all data_only

-- How far the messages of a process with this fault get in round r.
unfoldable pub reach_in : (n : ℕ) → Fault → (r p : ℕ) → Reach
reach_in n correct r p = all
reach_in n (crashes round point) r p = cond (eqb round r) (reach_at n point p) all

-- How far the messages of coordinator r get to process p in round r: it sends to the processes above it alone.
unfoldable pub reach : (n : ℕ) → Fault → (r p : ℕ) → Reach
reach n fault r p = cond (ltb r p) (reach_in n fault r p) none
