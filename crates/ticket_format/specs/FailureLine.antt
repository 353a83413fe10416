-- What a failure line may say (document 01, 'The ticket' and 'Refused calls', refusals 7 and 8). `FailureLine` is the code's struct: process, round,
-- step, reached and count.
use Rattle.std.specs.Prelude.{Bool, cond, ◌&&◌, ℕ, suc, ◌-◌, ◌%◌, ◌^◌, eqb, ltb, leb}
use Rattle.consensus.specs.Instance.{point_from}
use Rattle.consensus.specs.declared.Fault.{Fault}
use Rattle.consensus.specs.declared.Fault.TheVariants.{Crashes as crashes}
use Rattle.ticket_format.specs.declared.FailureLine.{FailureLine}

-- What a failure line must hold to escape refusal 7: station in 1 to n and rising, round in 1 to t + 1, step at most 02.
unfoldable pub places_crash : (n t last : ℕ) → FailureLine → Bool
places_crash n t last l =
    leb 1 l.process && leb l.process n && ltb last l.process
    && leb 1 l.round && leb l.round (suc t) && leb l.step 2

-- A set of processes all above p and at most n: bit j - 1 stands for process j, so no bit below bit p, and none from bit n on.
unfoldable pub all_between : (p n reached : ℕ) → Bool
all_between p n reached = eqb (reached % 2 ^ p) 0 && ltb reached (2 ^ n)

-- What it must hold to escape refusal 8: a set and a count that suit the step; steps 01 and 02 in the station's own round.
unfoldable pub suits_step : (n : ℕ) → FailureLine → Bool
suits_step n l =
    cond (eqb l.step 0) (eqb l.reached 0 && eqb l.count 0)
    (eqb l.round l.process
    && cond (eqb l.step 1) (all_between l.process n l.reached && eqb l.count 0)
    (eqb l.reached 0 && leb l.count (n - l.process)))

-- The fault that a failure line states.
abbrev pub fault_by : FailureLine → Fault
fault_by l = crashes l.round (point_from l.step l.reached l.count)
