-- One round of two runs side by side: related states stay related (`round_related`). It is stated of plain states, of the process and of the
-- coordinator as the round begins, in the first run and in the second. The two facts that it needs of the second run are its premises; Pair supplies them.
-- Assumes nothing.
use mathlib.Core.Path.{◌≡◌, refl}
use mathlib.Core.Bool.{Bool, true, false, cond}
use Prim.Native.Nat.{ℕ, suc, ◌≤◌, ◌<◌}
use native.Mathlib.Nat.{le_refl}
use native.Mathlib.Omega.{arith}
use lib.Dec.{eqb}
use borrow.Author.Tests.{eq-eqb}
use Rattle.coordinator.specs.Message.{Messages, nothing, estimate, estimate_and_commit, Reach, none, data_only, all, arriving}
use Rattle.consensus.specs.declared.Fault.{Fault}
use Rattle.coordinator.specs.Transition.{sends, receives}
use Rattle.coordinator.specs.Delivery.{reach}
use Rattle.consensus.specs.State.{crashes_in}
use Rattle.consensus.specs.declared.State.{State}
use Rattle.consensus.specs.declared.State.TheVariants.{Undecided as undecided, Decided as decided, Crashed as crashed}
use Rattle.coordinator.specs.Round.{sent_by, received, after_outcome, after}
use Rattle.coordinator.specs.WellFormed.{FaultAllowed}
use Rattle.coordinator_laws.specs.Pairing.{LinePaired}
use Rattle.coordinator_laws.proofs.Rounds.{nothing_arrives, received_below}
use Rattle.coordinator_laws.proofs.Values.{Holds}
use Rattle.coordinator_laws.proofs.PairRelation.{Related, both_undecided, decided_in_second, both_decided, both_crashed, crashed_in_first, CrashRelated}
use Rattle.coordinator_laws.proofs.PairRelation.{crash_alike, crash_in_first, ReachRelated, reach_alike, commit_too, crash_related, reach_related}

-- What one process receives in the first run and in the second: the same, or the commit too in the second.
data HeardRelated : Messages → Messages → Type 0 where
  heard_alike : {m : Messages} → HeardRelated m m
  commit_heard : {v : ℕ} → HeardRelated (estimate v) (estimate_and_commit v)

-- Messages that carry v or nothing.
data Carries (v : ℕ) : Messages → Type 0 where
  carries_nothing : Carries v nothing
  carries_estimate : Carries v (estimate v)
  carries_commit : Carries v (estimate_and_commit v)

module _ (r v : ℕ) where
  -- What a process becomes that is undecided in both and does not crash.
  heard_outcome : (coordinates : Bool) {m m' : Messages} → HeardRelated m m'
      → Related r (after_outcome r (receives coordinates v m)) (after_outcome r (receives coordinates v m'))
  unfolding receives after_outcome
  heard_outcome true heard = both_decided (le_refl r)
  heard_outcome false (heard_alike {m = nothing}) = both_undecided
  heard_outcome false (heard_alike {m = estimate w}) = both_undecided
  heard_outcome false (heard_alike {m = estimate_and_commit w}) = both_decided (le_refl r)
  heard_outcome false commit_heard = decided_in_second (le_refl r)

  -- What one becomes that is undecided in the first alone, and does not crash there.
  carried_outcome : {i : ℕ} → i ≤ r → (coordinates : Bool) {m : Messages} → Carries v m → Related r (after_outcome r (receives coordinates v m)) (decided i v)
  unfolding receives after_outcome
  carried_outcome h true carried = both_decided h
  carried_outcome h false carries_nothing = decided_in_second h
  carried_outcome h false carries_estimate = decided_in_second h
  carried_outcome h false carries_commit = both_decided h

module _ (r p v : ℕ) where
  -- What a process becomes that is undecided in both.
  undecided_after : {m m' : Messages} {b b' : Bool} → CrashRelated r p b b' → HeardRelated m m'
      → Related r (cond b (crashed r) (after_outcome r (receives (eqb p r) v m))) (cond b' (crashed r) (after_outcome r (receives (eqb p r) v m')))
  unfolding receives after_outcome
  undecided_after (crash_alike {b = true}) heard = both_crashed
  undecided_after (crash_alike {b = false}) heard = heard_outcome r v (eqb p r) heard
  undecided_after (crash_in_first own) heard = rw (eq-eqb p r own) crashed_in_first

  -- What one becomes that is undecided in the first and decided in the second.
  decided_after : {i : ℕ} → i ≤ r → (b : Bool) {m : Messages} → Carries v m
      → Related r (cond b (crashed r) (after_outcome r (receives (eqb p r) v m))) (decided i v)
  decided_after h true carried = crashed_in_first
  decided_after h false carried = carried_outcome r v h (eqb p r) carried

-- What arrives of the messages of a coordinator that is undecided in both.
heard_undecided : (v : ℕ) {reached reached' : Reach} → ReachRelated reached reached'
    → HeardRelated (arriving reached (sent_by (undecided v))) (arriving reached' (sent_by (undecided v)))
unfolding sent_by sends arriving
heard_undecided v reach_alike = heard_alike
heard_undecided v commit_too = commit_heard

-- What arrives of the messages of one that is undecided in the first.
carried_undecided : (v w : ℕ) → w ≡ v → (reached : Reach) → Carries v (arriving reached (sent_by (undecided w)))
unfolding sent_by sends arriving
carried_undecided v w e none = carries_nothing
carried_undecided v w e data_only = rw e carries_estimate
carried_undecided v w e all = rw e carries_commit

module _ (n r p : ℕ) where
  -- What a process hears that is undecided in both, if it is not above a coordinator that is decided in the second.
  heard_related : {before : ℕ} {fault fault' : Fault} {c c' : State} → LinePaired fault fault' → Related before c c'
      → ((i v : ℕ) → c' ≡ decided i v → ¬ (r < p)) → HeardRelated (received n r fault c p) (received n r fault' c' p)
  unfolding received sent_by
  heard_related paired (both_undecided {v}) none_above = heard_undecided v (reach_related n r p paired)
  heard_related paired (decided_in_second {v} {i} _) none_above =
      let low : p ≤ r = omega (arith, none_above i v refl) in
      simp received_below heard_alike
  heard_related paired (both_decided _) none_above = simp nothing_arrives heard_alike
  heard_related paired both_crashed none_above = simp nothing_arrives heard_alike
  heard_related paired crashed_in_first none_above = simp nothing_arrives heard_alike

  -- What a process hears in the first that is decided on v in the second, if the coordinator holds v there.
  carried_related : {before : ℕ} (v : ℕ) (fault : Fault) {c c' : State} → Related before c c' → Holds (λ w. w ≡ v) c' → Carries v (received n r fault c p)
  unfolding received sent_by Holds
  carried_related v fault (both_undecided {v = w}) holds = carried_undecided v w holds (reach n fault r p)
  carried_related v fault (decided_in_second {v = w} _) holds = carried_undecided v w holds (reach n fault r p)
  carried_related v fault (both_decided _) holds = simp nothing_arrives carries_nothing
  carried_related v fault both_crashed holds = simp nothing_arrives carries_nothing
  carried_related v fault crashed_in_first holds = simp nothing_arrives carries_nothing

-- Round r + 1. Of the second run it is known that no undecided process stands above a coordinator that has decided, and that the coordinator, if it has not
-- crashed, holds what a process has decided.
pub round_related : (n n' t r p : ℕ) {own own' fault fault' : Fault} {c c' s s' : State}
    → n ≡ n' → FaultAllowed n t p own → LinePaired own own' → LinePaired fault fault' → Related r c c' → Related r s s'
    → ((i v w : ℕ) → s' ≡ undecided w → c' ≡ decided i v → ¬ (suc r < p)) → ((i v : ℕ) → s' ≡ decided i v → Holds (λ w. w ≡ v) c')
    → Related (suc r) (after (suc r) p own (received n (suc r) fault c p) s) (after (suc r) p own' (received n' (suc r) fault' c' p) s')
unfolding after
round_related n n' t r p count allowed own_paired paired coordinator (both_undecided {v}) none_above locked =
    let heard = heard_related n (suc r) p paired coordinator (λ i w. none_above i w v refl) in
    undecided_after (suc r) p v (crash_related n t (suc r) p allowed own_paired) (rw (← count) heard)
round_related n n' t r p {own = own} {fault = fault} count allowed own_paired paired coordinator (decided_in_second {v} {i} h) none_above locked =
    let carried = carried_related n (suc r) p v fault coordinator (locked i v refl) in
    decided_after (suc r) p v (omega arith) (crashes_in (suc r) own) carried
round_related n n' t r p count allowed own_paired paired coordinator (both_decided h) none_above locked = both_decided h
round_related n n' t r p count allowed own_paired paired coordinator both_crashed none_above locked = both_crashed
round_related n n' t r p count allowed own_paired paired coordinator crashed_in_first none_above locked = crashed_in_first
