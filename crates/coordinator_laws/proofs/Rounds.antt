-- One round, case by case, over plain variables: what a process receives from the coordinator, and what it becomes.
-- First the laws that compute a case, then two views (`Hears`, `Becomes`) by which a proof goes through all cases. Assumes nothing.
use mathlib.Core.Path.{◌≡◌, refl, ◌∙◌}
use mathlib.Core.Bool.{Bool, true, false}
use Prim.Native.Nat.{ℕ, ◌≤◌, ◌<◌}
use lib.Dec.{eqb}
use borrow.Author.Tests.{eqb-true, eqb-false, lt-ltb, le-ltb}
use Rattle.general.proofs.Tests.{by_order}
use Rattle.coordinator.specs.Message.{Messages, nothing, estimate, estimate_and_commit, Reach, none, data_only, all, arriving}
use Rattle.consensus.specs.declared.Fault.{Fault}
use Rattle.coordinator.specs.Transition.{sends, receives}
use Rattle.coordinator.specs.Delivery.{reach, reach_in}
use Rattle.consensus.specs.State.{crashes_in}
use Rattle.consensus.specs.declared.State.{State}
use Rattle.consensus.specs.declared.State.TheVariants.{Undecided as undecided, Decided as decided, Crashed as crashed}
use Rattle.coordinator.specs.Round.{sent_by, received, after_outcome, after}

module _ (r p : ℕ) (own : Fault) (m : Messages) where
  -- A process that has decided stays so.
  pub after_decided : (i v : ℕ) → after r p own m (decided i v) ≡ decided i v
  unfolding after
  after_decided i v = refl

  -- A process that has crashed stays so.
  pub after_crashed : (i : ℕ) → after r p own m (crashed i) ≡ crashed i
  unfolding after
  after_crashed i = refl

  -- A process whose fault is of this round crashes in it, whatever it receives.
  pub after_crashing : (v : ℕ) → crashes_in r own ≡ true → after r p own m (undecided v) ≡ crashed r
  unfolding after
  after_crashing v e = rw e

  -- A process that stays up does what `receives` says, of the coordinator or of any other.
  pub after_up : (v : ℕ) (coordinates : Bool) → crashes_in r own ≡ false → eqb p r ≡ coordinates
      → after r p own m (undecided v) ≡ after_outcome r (receives coordinates v m)
  unfolding after
  after_up v coordinates up e = rw (up, e)

-- Where nothing is sent, nothing arrives.
pub nothing_arrives : (reached : Reach) → arriving reached nothing ≡ nothing
unfolding arriving
nothing_arrives none = refl
nothing_arrives data_only = refl
nothing_arrives all = refl

module _ (n r : ℕ) (fault : Fault) (p : ℕ) where
  -- A process below the coordinator, and the coordinator itself, receive nothing.
  pub received_below : (c : State) → p ≤ r → received n r fault c p ≡ nothing
  unfolding received reach arriving
  received_below c h = rw le-ltb

  -- A process above the coordinator receives what reaches it of what the coordinator sends.
  pub received_above : (c : State) → r < p → received n r fault c p ≡ arriving (reach_in n fault r p) (sent_by c)
  unfolding received reach
  received_above c h = rw lt-ltb

  -- Where the commit of an undecided coordinator reaches it, it receives the estimate with the commit.
  pub received_commit : (v : ℕ) → r < p → reach_in n fault r p ≡ all → received n r fault (undecided v) p ≡ estimate_and_commit v
  unfolding arriving sent_by sends
  received_commit v h e = received_above (undecided v) h ∙ rw e

-- What process p receives in round r, of a coordinator in the state `c` with this fault.
pub data Hears (n r : ℕ) (fault : Fault) (p : ℕ) : State → Messages → Type 0 where
  below : {c : State} → p ≤ r → Hears n r fault p c nothing
  from_decided : {i v : ℕ} → r < p → Hears n r fault p (decided i v) nothing
  from_crashed : {i : ℕ} → r < p → Hears n r fault p (crashed i) nothing
  unreached : {v : ℕ} → r < p → reach_in n fault r p ≡ none → Hears n r fault p (undecided v) nothing
  data_alone : {v : ℕ} → r < p → reach_in n fault r p ≡ data_only → Hears n r fault p (undecided v) (estimate v)
  data_and_commit : {v : ℕ} → r < p → reach_in n fault r p ≡ all → Hears n r fault p (undecided v) (estimate_and_commit v)

module _ (n r : ℕ) (fault : Fault) (p : ℕ) where
  hears_above : r < p → (c : State) (reached : Reach) → reach_in n fault r p ≡ reached → Hears n r fault p c (arriving reached (sent_by c))
  unfolding arriving sent_by sends
  hears_above h (undecided v) none e = unreached h e
  hears_above h (undecided v) data_only e = data_alone h e
  hears_above h (undecided v) all e = data_and_commit h e
  hears_above h (decided i v) none e = from_decided h
  hears_above h (decided i v) data_only e = from_decided h
  hears_above h (decided i v) all e = from_decided h
  hears_above h (crashed i) none e = from_crashed h
  hears_above h (crashed i) data_only e = from_crashed h
  hears_above h (crashed i) all e = from_crashed h

  pub hears : (c : State) → Hears n r fault p c (received n r fault c p)
  hears c =
      by_order p r (λ h. rw (received_below n r fault p c h) (below h))
      (λ h. rw (received_above n r fault p c h) (hears_above h c (reach_in n fault r p) refl))

-- What process p with the fault `own` becomes in round r on receiving the messages: the state before, and the state after.
pub data Becomes (r p : ℕ) (own : Fault) : Messages → State → State → Type 0 where
  stays_decided : {m : Messages} {i v : ℕ} → Becomes r p own m (decided i v) (decided i v)
  stays_crashed : {m : Messages} {i : ℕ} → Becomes r p own m (crashed i) (crashed i)
  crashing : {m : Messages} {v : ℕ} → crashes_in r own ≡ true → Becomes r p own m (undecided v) (crashed r)
  coordinates : {m : Messages} {v : ℕ} → crashes_in r own ≡ false → p ≡ r → Becomes r p own m (undecided v) (after_outcome r (receives true v m))
  listens : {m : Messages} {v : ℕ} → crashes_in r own ≡ false → (p ≡ r → ⊥) → Becomes r p own m (undecided v) (after_outcome r (receives false v m))

module _ (r p : ℕ) (own : Fault) (m : Messages) where
  stays_up : (v : ℕ) → crashes_in r own ≡ false → (b : Bool) → eqb p r ≡ b → Becomes r p own m (undecided v) (after r p own m (undecided v))
  stays_up v up true e = rw (after_up r p own m v true up e) (coordinates up (eqb-true p r e))
  stays_up v up false e = rw (after_up r p own m v false up e) (listens up (eqb-false p r e))

  becomes_undecided : (v : ℕ) (b : Bool) → crashes_in r own ≡ b → Becomes r p own m (undecided v) (after r p own m (undecided v))
  becomes_undecided v true e = rw (after_crashing r p own m v e) (crashing e)
  becomes_undecided v false e = stays_up v e (eqb p r) refl

  pub becomes : (s : State) → Becomes r p own m s (after r p own m s)
  becomes (undecided v) = becomes_undecided v (crashes_in r own) refl
  becomes (decided i v) = rw (after_decided r p own m i v) stays_decided
  becomes (crashed i) = rw (after_crashed r p own m i) stays_crashed

module _ (n r : ℕ) (fault : Fault) (p : ℕ) where
  -- Where data and commit arrive, the coordinator was undecided with that estimate, below the process, and its commit reached it.
  pub hears_commit : {c : State} {w : ℕ} → Hears n r fault p c (estimate_and_commit w) → (r < p) × (reach_in n fault r p ≡ all) × (c ≡ undecided w)
  hears_commit (data_and_commit h e) = (h, e, refl)
