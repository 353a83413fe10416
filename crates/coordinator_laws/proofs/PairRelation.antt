-- Two runs side by side: what holds between the states of one process in a first and a second run, and what two paired failure lines give in a round: how
-- far the coordinator's messages get, and who crashes. Used by PairRound and Pair. Assumes nothing.
use mathlib.Core.Path.{◌≡◌, refl, sym, ◌∙◌}
use mathlib.Core.Bool.{Bool, true, false, cond}
use Prim.Native.Nat.{ℕ, ◌≤◌}
use native.Mathlib.Omega.{arith}
use lib.Dec.{eqb, ltb}
use borrow.Author.Tests.{eqb-true, ltb-true, ltb-false}
use Rattle.coordinator.specs.Message.{Reach, none, data_only, all}
use Rattle.consensus.specs.declared.Fault.{Fault}
use Rattle.consensus.specs.declared.Fault.TheVariants.{Crashes as crashes}
use Rattle.consensus.specs.declared.CrashPoint.TheVariants.{DuringCommits as during_commits}
use Rattle.coordinator.specs.Delivery.{among_first, reach_at, reach_in, reach}
use Rattle.consensus.specs.State.{crashes_in}
use Rattle.consensus.specs.declared.State.{State}
use Rattle.consensus.specs.declared.State.TheVariants.{Undecided as undecided, Decided as decided, Crashed as crashed}
use Rattle.consensus.specs.WellFormed.{FaultAllowedBy}
use Rattle.coordinator.specs.WellFormed.{PointAllowed, FaultAllowed}
use Rattle.coordinator_laws.specs.Pairing.{LinePaired, same, more_commits, missing}

-- The states of one process after r rounds, in the first run and in the second. Nothing else occurs.
pub data Related (r : ℕ) : State → State → Type 0 where
  both_undecided : {v : ℕ} → Related r (undecided v) (undecided v)
  -- decided in the second alone, on the value held in the first
  decided_in_second : {v i : ℕ} → i ≤ r → Related r (undecided v) (decided i v)
  -- in the second no later
  both_decided : {v i j : ℕ} → j ≤ i → Related r (decided i v) (decided j v)
  both_crashed : {i j : ℕ} → Related r (crashed i) (crashed j)
  crashed_in_first : {v i j : ℕ} → Related r (crashed i) (decided j v)

-- How far the messages to one process get: equally far, or in the second the commit gets through too.
pub data ReachRelated : Reach → Reach → Type 0 where
  reach_alike : {reached : Reach} → ReachRelated reached reached
  commit_too : ReachRelated data_only all

-- Whether process p crashes in round r, if it is undecided: alike in both, or in the first alone, and then in its own round.
pub data CrashRelated (r p : ℕ) : Bool → Bool → Type 0 where
  crash_alike : {b : Bool} → CrashRelated r p b b
  crash_in_first : p ≡ r → CrashRelated r p true false

-- More commits reach all whom fewer reach.
commits_related : (n p sent sent' : ℕ) → sent ≤ sent' → (b b' : Bool) → among_first n sent p ≡ b → among_first n sent' p ≡ b'
    → ReachRelated (cond b all data_only) (cond b' all data_only)
unfolding among_first
commits_related n p sent sent' more true true e e' = reach_alike
commits_related n p sent sent' more true false e e' =
    absurd (let z : ⊥ = omega (arith, ltb-true, ltb-false) in z)
commits_related n p sent sent' more false true e e' = commit_too
commits_related n p sent sent' more false false e e' = reach_alike

-- Without a crash all get through.
all_related : (b c : Bool) → ReachRelated (cond b (cond c all data_only) all) all
all_related true true = reach_alike
all_related true false = commit_too
all_related false c = reach_alike

under_test : (b : Bool) {reached reached' : Reach} (other : Reach) → ReachRelated reached reached' → ReachRelated (cond b reached other) (cond b reached' other)
under_test true other h = h
under_test false other h = reach_alike

-- Paired failure lines of the coordinator, and its messages to process p.
pub reach_related : (n r p : ℕ) {fault fault' : Fault} → LinePaired fault fault' → ReachRelated (reach n fault r p) (reach n fault' r p)
unfolding reach reach_in reach_at
reach_related n r p same = reach_alike
reach_related n r p (more_commits {round} {sent} {sent'} more) =
    let commits = commits_related n p sent sent' more (among_first n sent p) (among_first n sent' p) refl refl in
    under_test (ltb r p) none (under_test (eqb round r) all commits)
reach_related n r p (missing {round} {sent}) = under_test (ltb r p) none (all_related (eqb round r) (among_first n sent p))

-- A process crashes while sending commits in its own round.
commits_in_own_round : (n t p round sent : ℕ) → FaultAllowed n t p (crashes round (during_commits sent)) → round ≡ p
unfolding FaultAllowedBy PointAllowed
commits_in_own_round n t p round sent allowed = allowed.2.0

-- Paired failure lines of a process, the first within its limits, and its crash in round r.
pub crash_related : (n t r p : ℕ) {own own' : Fault} → FaultAllowed n t p own → LinePaired own own' → CrashRelated r p (crashes_in r own) (crashes_in r own')
unfolding crashes_in
crash_related n t r p allowed same = crash_alike
crash_related n t r p allowed (more_commits more) = crash_alike
crash_related n t r p allowed (missing {round} {sent}) = by_test (eqb round r) refl
  where
    by_test : (b : Bool) → eqb round r ≡ b → CrashRelated r p b false
    by_test true e = crash_in_first (sym (commits_in_own_round n t p round sent allowed) ∙ eqb-true round r e)
    by_test false e = crash_alike
