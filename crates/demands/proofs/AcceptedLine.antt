-- An accepted failure line of the commit step: it stands among the failure lines, and states a fault in its process's own round. Assumes nothing.
use mathlib.Core.List.{List}
use mathlib.Core.Path.{◌≡◌}
use mathlib.Core.Bool.{true}
use Prim.Native.Nat.{ℕ}
use native.Mathlib.Omega.{arith}
use borrow.Author.Tests.{eqb-true}
use lib.Dec.{eqb}
use lib.ListN.{length, get_or}
use Rattle.general.proofs.Tests.{both}
use Rattle.consensus.specs.declared.Fault.TheVariants.{Crashes as crashes}
use Rattle.consensus.specs.declared.CrashPoint.TheVariants.{DuringCommits as during_commits}
use Rattle.ticket_format.specs.FailureLine.{fault_by}
use Rattle.ticket_format.specs.Says.{is_kind, failure_line}
use Rattle.ticket_laws.proofs.CrashAllowed.{commit_fault}
use Rattle.ticket_format.proofs.LineCases.{CrashPasses}
use Rattle.ticket_laws.specs.FirstWrong.{kind_in, step_in}

-- A failure line of the commit step.
pub record CommitLine (b : List ℕ) : Type 0 where
  pub kind : get_or b 0 0 ≡ 3
  pub step : get_or b 3 0 ≡ 2

pub commit_line_lem : (b : List ℕ) → kind_in b ≡ 3 → step_in b ≡ 2 → CommitLine b
unfolding kind_in step_in
commit_line_lem b kind step = record { kind = kind; step = step }

-- It is of kind 03, and so of no other.
commit_kind : (b : List ℕ) → CommitLine b → (kind size : ℕ) → is_kind kind size b ≡ true → kind ≡ 3
unfolding is_kind
commit_kind b line kind size h = omega (arith, eqb-true (get_or b 0 0) kind (both (eqb (get_or b 0 0) kind) (eqb (length b) size) h).0, line.kind)

pub not_a_header : (b : List ℕ) → CommitLine b → is_kind 1 3 b ≡ true → ⊥
not_a_header b line kind = omega (arith, commit_kind b line 1 3 kind)

pub not_a_proposal : (b : List ℕ) → CommitLine b → is_kind 2 6 b ≡ true → ⊥
not_a_proposal b line kind = omega (arith, commit_kind b line 2 6 kind)

pub not_the_end : (b : List ℕ) → CommitLine b → is_kind 4 1 b ≡ true → ⊥
not_the_end b line kind = omega (arith, commit_kind b line 4 1 kind)

-- It crashes its process after as many commits as it counts.
pub stated_fault : (n t lines last : ℕ) (b : List ℕ) → CommitLine b → CrashPasses n t lines last b
    → fault_by (failure_line b) ≡ crashes (get_or b 1 0) (during_commits (get_or b 12 0))
unfolding failure_line
stated_fault n t lines last b line passes = commit_fault n t last (failure_line b) passes.placed passes.suits line.step
