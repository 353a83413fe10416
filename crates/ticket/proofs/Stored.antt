-- The table from line to line: before the first proposal, one proposal more, and one failure line more, read as the instance so far. Assumes nothing.
use mathlib.Core.List.{List, [], ◌∷◌, ◌++◌}
use mathlib.Core.Path.{◌≡◌, refl, ap}
use mathlib.Core.Bool.{Bool, true, false, cond}
use Prim.Native.Nat.{ℕ, suc, ◌-◌, ◌≤◌, ◌<◌}
use native.Mathlib.Omega.{arith}
use lib.Dec.{eqb}
use lib.ListN.{length, take, set}
use lib.Seq.{take-suc-set, take-set-lt}
use borrow.Author.Tests.{eqb-true}
use Rattle.general.proofs.Lists.{take-replicate}
use Rattle.consensus.specs.declared.Fault.{Fault}
use Rattle.consensus.specs.declared.Fault.TheVariants.{Correct as correct}
use Rattle.tables.specs.code.InstanceOfTable.{instance_of, empty_table}
use Rattle.tables.specs.declared.instance.InstanceTable.{InstanceTable}
use Rattle.ticket_format.specs.declared.FailureLine.{FailureLine}
use Rattle.ticket_format.specs.declared.Place.TheVariants.{Proposals, Failures}
use Rattle.ticket_format.specs.FailureLine.{fault_by}
use Rattle.ticket_format.specs.Says.{after_proposal}
use Rattle.ticket_format.specs.Accept.{unproposed, with_proposal, with_crash}
use Rattle.ticket.proofs.Stage.{so_far}

-- The table with one value more.
abbrev pub with_value : InstanceTable → (count v : ℕ) → InstanceTable
with_value x count v = record { n = x.n; t = x.t; proposals = set x.proposals count v; pattern = x.pattern }

-- The table with the fault of a failure line at the place of its process.
abbrev pub with_fault : InstanceTable → FailureLine → InstanceTable
with_fault x l = record { n = x.n; t = x.t; proposals = x.proposals; pattern = set x.pattern (l.process - 1) (fault_by l) }

pub none_so_far : (n t : ℕ) → n ≤ 64 → so_far (Proposals 0) (empty_table n t) ≡ unproposed n t
unfolding so_far unproposed instance_of
none_so_far n t few =
    ap (λ (m : List Fault). record { processes = n; resilience = t; proposals = []; pattern = m }) (take-replicate n 64 correct few)

-- One proposal more: the last, or not.
module _ (x : InstanceTable) (count v : ℕ) (inside : count < length x.proposals) where
  one_more_lem : take (suc count) (set x.proposals count v) ≡ take count x.proposals ++ (v ∷ [])
  one_more_lem = take-suc-set x.proposals count v inside

  by_last : (last : Bool) → eqb (suc count) x.n ≡ last
      → so_far (cond last (Failures 0 0) (Proposals (suc count))) (with_value x count v) ≡ with_proposal (so_far (Proposals count) x) v
  unfolding so_far with_proposal instance_of
  by_last true e =
      let whole : suc count ≡ x.n = eqb-true (suc count) x.n e in
      let all : take x.n (set x.proposals count v) ≡ take count x.proposals ++ (v ∷ []) = rw (← whole) one_more_lem in
      ap (λ (l : List ℕ). record { processes = x.n; resilience = x.t; proposals = l; pattern = take x.n x.pattern }) all
  by_last false e = ap (λ (l : List ℕ). record { processes = x.n; resilience = x.t; proposals = l; pattern = take x.n x.pattern }) one_more_lem

  pub proposal_so_far : so_far (after_proposal x.n count) (with_value x count v) ≡ with_proposal (so_far (Proposals count) x) v
  unfolding after_proposal
  proposal_so_far = by_last (eqb (suc count) x.n) refl

-- One failure line more.
pub crash_stored : (x : InstanceTable) (l : FailureLine) → 1 ≤ l.process → l.process ≤ x.n → instance_of (with_fault x l) ≡ with_crash (instance_of x) l
unfolding with_crash instance_of
crash_stored x l h g =
    ap (λ (m : List Fault). record { processes = x.n; resilience = x.t; proposals = take x.n x.proposals; pattern = m })
    (take-set-lt x.n x.pattern (l.process - 1) (fault_by l) (omega arith))
