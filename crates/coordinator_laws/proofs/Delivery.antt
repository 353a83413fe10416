-- How far a coordinator's messages get, by its fault: to everyone if it does not crash in the round; the commits to all processes above one that they reach;
-- and either no commit leaves, or all data do. Assumes nothing.
use mathlib.Core.Logic.{◌⊎◌, inl, inr}
use mathlib.Core.Path.{◌≡◌, refl, sym}
use mathlib.Core.Bool.{Bool, true, false, cond}
use Prim.Native.Nat.{ℕ, ◌≤◌}
use native.Mathlib.Omega.{arith}
use lib.Dec.{eqb}
use borrow.Author.Tests.{lt-ltb, ltb-true}
use Rattle.general.specs.Bits.{member}
use Rattle.coordinator.specs.Message.{none, data_only, all}
use Rattle.consensus.specs.declared.Fault.{Fault}
use Rattle.consensus.specs.declared.Fault.TheVariants.{Correct as correct, Crashes as crashes}
use Rattle.consensus.specs.declared.CrashPoint.{CrashPoint}
use Rattle.consensus.specs.declared.CrashPoint.TheVariants.{BeforeSending as before_sending, DuringData as during_data, DuringCommits as during_commits}
use Rattle.coordinator.specs.Delivery.{among_first, reach_at, reach_in}
use Rattle.consensus.specs.State.{crashes_in}

-- Messages reach every process, if their sender does not crash in the round.
pub reach_up : (n : ℕ) (fault : Fault) (r p : ℕ) → crashes_in r fault ≡ false → reach_in n fault r p ≡ all
unfolding crashes_in reach_in
reach_up n correct r p e = refl
reach_up n (crashes round point) r p e = rw e

none_all : none ≡ all → ⊥
none_all e = let z : ◌≡◌ {A = ℕ} 0 1 = cc in omega arith

-- While data are sent, no commit is.
no_commit_with_data : (b : Bool) → cond b data_only none ≡ all → ⊥
no_commit_with_data true e = let z : ◌≡◌ {A = ℕ} 0 1 = cc in omega arith
no_commit_with_data false e = none_all e

-- While commits are sent, all data have left.
data_with_commits : (b : Bool) → cond b all data_only ≡ none → ⊥
data_with_commits true e = none_all (sym e)
data_with_commits false e = let z : ◌≡◌ {A = ℕ} 0 1 = cc in omega arith

-- The first commits go to whoever stands highest.
among_upward : (n sent p q : ℕ) → p ≤ q → among_first n sent p ≡ true → among_first n sent q ≡ true
unfolding among_first
among_upward n sent p q h e = omega (arith, ltb-true, lt-ltb)

commit_among : (b : Bool) → cond b all data_only ≡ all → b ≡ true
commit_among true e = refl
commit_among false e = cc

-- No commit of the round leaves.
unfoldable pub NoCommit : ℕ → Fault → ℕ → Type 0
NoCommit n fault r = (p : ℕ) → reach_in n fault r p ≡ all → ⊥

-- All data of the round leave.
unfoldable pub AllData : ℕ → Fault → ℕ → Type 0
AllData n fault r = (p : ℕ) → reach_in n fault r p ≡ none → ⊥

-- A sender that crashes before or while sending data sends no commit; any other sends all data.
pub no_commit_or_all_data : (n : ℕ) (fault : Fault) (r : ℕ) → NoCommit n fault r ⊎ AllData n fault r
unfolding reach_in NoCommit AllData reach_at
no_commit_or_all_data n correct r = inr (λ p e. none_all (sym e))
no_commit_or_all_data n (crashes round point) r = by_round (eqb round r) point
  where
    by_round : (b : Bool) (point : CrashPoint)
        → ((p : ℕ) → cond b (reach_at n point p) all ≡ all → ⊥) ⊎ ((p : ℕ) → cond b (reach_at n point p) all ≡ none → ⊥)
    by_round true before_sending = inl (λ p e. none_all e)
    by_round true (during_data reached) = inl (λ p e. no_commit_with_data (member p reached) e)
    by_round true (during_commits sent) = inr (λ p e. data_with_commits (among_first n sent p) e)
    by_round false point = inr (λ p e. none_all (sym e))

commits_upward : (n : ℕ) (point : CrashPoint) (p q : ℕ) → p ≤ q → reach_at n point p ≡ all → reach_at n point q ≡ all
unfolding reach_at
commits_upward n before_sending p q h e = cc
commits_upward n (during_data reached) p q h e = absurd (no_commit_with_data (member p reached) e)
commits_upward n (during_commits sent) p q h e = rw (among_upward n sent p q h (commit_among (among_first n sent p) e))

-- Whoever stands above a process that a commit reaches is reached by one too.
pub reach_upward : (n : ℕ) (fault : Fault) (r p q : ℕ) → p ≤ q → reach_in n fault r p ≡ all → reach_in n fault r q ≡ all
unfolding reach_in
reach_upward n correct r p q h e = refl
reach_upward n (crashes round point) r p q h e = by_round (eqb round r) e
  where
    by_round : (b : Bool) → cond b (reach_at n point p) all ≡ all → cond b (reach_at n point q) all ≡ all
    by_round true e = commits_upward n point p q h e
    by_round false e = refl
