-- Orders of all processes, of which those are passed over that may not be called (document 02, Paper 14: "every order of desks").
use Rattle.std.specs.Prelude.{List, [], ◌∷◌, map, ◌≡◌, ℕ, Bool, cond}
use Rattle.consensus.specs.Instance.{Instance}
use Rattle.consensus.specs.Consensus.{IsProcess}
use Rattle.part_host.specs.Part.{part_of}
use Rattle.part_schedules.specs.Steps.{Hosted, start, unstarted, play}
use Rattle.part_schedules.specs.Schedule.{RoundOrder, Schedule, round_steps, played, may_speak, may_close, EachOnce, InOrder}
use Rattle.part_schedules.specs.ByRun.{part_by_run}
use Rattle.part_schedules.specs.AnyOrder.{EnoughRounds}

-- Those of an order that may be called.
unfoldable pub among : (ℕ → Bool) → List ℕ → List ℕ
among may [] = []
among may (p ∷ order) = cond (may p) (p ∷ among may order) (among may order)

-- A round in these orders: crashed processes are passed over, and in closing those that crash in it.
unfoldable pub passing_over : Instance → Hosted → RoundOrder → RoundOrder
passing_over x h order = record { speaking = among (may_speak h) order.speaking; closing = among (may_close x h) order.closing }

unfoldable pub passing_rounds : Instance → Hosted → List RoundOrder → List RoundOrder
passing_rounds x h [] = []
passing_rounds x h (order ∷ orders) =
    let one = passing_over x h order in
    one ∷ passing_rounds x (play x (round_steps one) h) orders

unfoldable pub passing_schedule : Instance → Schedule → Schedule
passing_schedule x s = record { starting = s.starting; rounds = passing_rounds x (play x (map start s.starting) (unstarted x)) s.rounds }

-- In each round all processes are named, each once, to speak and to close.
unfoldable pub AllPermuted : Instance → List RoundOrder → Type 0
AllPermuted x [] = Unit
AllPermuted x (order ∷ orders) = EachOnce x order.speaking × EachOnce x order.closing × AllPermuted x orders

pub record Permuted (x : Instance) (s : Schedule) : Type 0 where
  pub starts : EachOnce x s.starting
  pub rounds : AllPermuted x s.rounds

-- The claim: whatever these orders are, what is called is in order; and where there is one for each round of the run, the parts end as the run says.
pub record Permutations (x : Instance) : Type 0 where
  pub in_order : (s : Schedule) → Permuted x s → InOrder x (passing_schedule x s)
  pub by_run : (s : Schedule) → Permuted x s → EnoughRounds x s → (p : ℕ) → IsProcess x p
      → part_of (played x (passing_schedule x s)).parts p ≡ part_by_run x p
