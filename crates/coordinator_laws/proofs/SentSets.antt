-- Whom the messages of a round are sent to, as sets: the set of a failure line, the processes above its count and those above the coordinator are the sets
-- of those whom Delivery lets them reach. Assumes nothing.
use mathlib.Core.Path.{◌≡◌, refl, sym, ap, ◌∙◌}
use mathlib.Core.Bool.{Bool, true, false, cond}
use Prim.Native.Nat.{ℕ, ◌+◌, ◌-◌, ◌≤◌}
use native.Mathlib.Omega.{arith}
use lib.Dec.{eqb, ltb}
use borrow.Author.Tests.{eqb-true, eq-eqb, ltb-true, ltb-false, lt-ltb, le-ltb}
use Rattle.general.specs.Bits.{member, set_of}
use Rattle.general.proofs.Tests.{same_test}
use Rattle.general.proofs.Bits.{member_above}
use Rattle.general.proofs.Sets.{is_set, set_same, set_empty}
use Rattle.consensus.specs.declared.Fault.{Fault}
use Rattle.consensus.specs.declared.Fault.TheVariants.{Correct as correct, Crashes as crashes}
use Rattle.consensus.specs.declared.CrashPoint.{CrashPoint}
use Rattle.consensus.specs.declared.CrashPoint.TheVariants.{BeforeSending as before_sending, DuringData as during_data, DuringCommits as during_commits}
use Rattle.consensus.specs.State.{crashes_in}
use Rattle.coordinator.specs.Message.{Reach, none, data_only, all, gets_data, gets_commit}
use Rattle.coordinator.specs.Delivery.{among_first, reach_at, reach_in, reach}
use Rattle.coordinator.specs.WellFormed.{PointAllowed}
use Rattle.coordinator.specs.SentSets.{above_set, data_set_at, commit_set_at, sent_set}
use Rattle.coordinator_laws.proofs.Delivery.{reach_up}

-- What of the messages gets to a process, where a test tells how far they do.
data_or_none : (b : Bool) → gets_data (cond b data_only none) ≡ b
unfolding gets_data
data_or_none true = refl
data_or_none false = refl

all_get_data : (b : Bool) → gets_data (cond b all data_only) ≡ true
unfolding gets_data
all_get_data true = refl
all_get_data false = refl

no_commit_lem : (b : Bool) → gets_commit (cond b data_only none) ≡ false
unfolding gets_commit
no_commit_lem true = refl
no_commit_lem false = refl

commit_or_data : (b : Bool) → gets_commit (cond b all data_only) ≡ b
unfolding gets_commit
commit_or_data true = refl
commit_or_data false = refl

-- No message goes to the coordinator itself.
pub none_to_itself : (n r p : ℕ) (fault : Fault) → eqb p r ≡ true → reach n fault r p ≡ none
unfolding reach
none_to_itself n r p fault e = let same : p ≡ r = eqb-true p r e in let below : p ≤ r = omega arith in rw (le-ltb r p below)

-- The first commits go to the processes above n - sent.
among_above : (n sent p : ℕ) → sent ≤ n → among_first n sent p ≡ ltb (n - sent) p
unfolding among_first
among_above n sent p h =
    same_test (ltb n (p + sent)) (ltb (n - sent) p)
    (λ e. lt-ltb (n - sent) p (omega (arith, ltb-true n (p + sent) e))) (λ e. lt-ltb n (p + sent) (omega (arith, ltb-true (n - sent) p e)))

-- The set of those whom messages of a kind reach.
abbrev pub reached_set : (Reach → Bool) → (n : ℕ) → Fault → (r : ℕ) → ℕ
reached_set gets n fault r = set_of n (λ p. gets (reach n fault r p))

-- A set that tells for each process above r whether the messages get there, and has none of the others.
module _ (n r : ℕ) (fault : Fault) (gets : Reach → Bool) (nothing : gets none ≡ false) where
  set_above : (test : ℕ → Bool) → ((p : ℕ) → gets (reach_in n fault r p) ≡ test p) → ((p : ℕ) → 1 ≤ p → p ≤ r → test p ≡ false)
      → set_of n test ≡ reached_set gets n fault r
  unfolding reach
  set_above test above below = set_same n test _ (λ p h g. by_place p h (ltb r p) refl)
    where
      by_place : (p : ℕ) → 1 ≤ p → (b : Bool) → ltb r p ≡ b → test p ≡ gets (cond b (reach_in n fault r p) none)
      by_place p h true e = sym (above p)
      by_place p h false e = below p h (ltb-false r p e) ∙ sym nothing

  to_all : ((p : ℕ) → gets (reach_in n fault r p) ≡ true) → above_set n r ≡ reached_set gets n fault r
  unfolding reach
  to_all every = set_same n (λ p. ltb r p) _ (λ p _ _. by_place p (ltb r p))
    where
      by_place : (p : ℕ) (b : Bool) → b ≡ gets (cond b (reach_in n fault r p) none)
      by_place p true = sym (every p)
      by_place p false = sym nothing

  to_none : ((p : ℕ) → gets (reach_in n fault r p) ≡ false) → 0 ≡ reached_set gets n fault r
  to_none nobody = set_empty n (λ p. false) (λ p _ _. refl) ∙ set_above (λ p. false) nobody (λ p _ _. refl)

-- A coordinator that does not crash in round r sends to all above it.
module _ (n r : ℕ) (fault : Fault) (up : crashes_in r fault ≡ false) where
  pub data_to_all : above_set n r ≡ reached_set gets_data n fault r
  unfolding gets_data
  data_to_all = to_all n r fault gets_data refl (λ p. ap gets_data (reach_up n fault r p up))

  pub commits_to_all : above_set n r ≡ reached_set gets_commit n fault r
  unfolding gets_commit
  commits_to_all = to_all n r fault gets_commit refl (λ p. ap gets_commit (reach_up n fault r p up))

-- One that crashes in it, by the point.
module _ (n r : ℕ) where
  reach_at_lem : (point : CrashPoint) (p : ℕ) → reach_in n (crashes r point) r p ≡ reach_at n point p
  unfolding reach_in
  reach_at_lem point p = rw (eq-eqb r r refl)

  pub data_at_crash : (point : CrashPoint) → PointAllowed n r r point → data_set_at n r point ≡ reached_set gets_data n (crashes r point) r
  unfolding data_set_at gets_data reach_at PointAllowed
  data_at_crash before_sending allowed = to_none n r _ gets_data refl (λ p. ap gets_data (reach_at_lem before_sending p))
  data_at_crash (during_data set) (_, low, high) =
      is_set n set (λ p. member p set) high (λ p _ _. refl)
      ∙ set_above n r _ gets_data refl (λ p. member p set)
      (λ p. ap gets_data (reach_at_lem (during_data set) p) ∙ data_or_none (member p set)) (λ p h g. member_above r set low p h g)
  data_at_crash (during_commits sent) allowed =
      to_all n r _ gets_data refl (λ p. ap gets_data (reach_at_lem (during_commits sent) p) ∙ all_get_data (among_first n sent p))

  pub commits_at_crash : (point : CrashPoint) → PointAllowed n r r point → commit_set_at n r point ≡ reached_set gets_commit n (crashes r point) r
  unfolding commit_set_at gets_commit reach_at PointAllowed
  commits_at_crash before_sending allowed = to_none n r _ gets_commit refl (λ p. ap gets_commit (reach_at_lem before_sending p))
  commits_at_crash (during_data set) allowed =
      to_none n r _ gets_commit refl (λ p. ap gets_commit (reach_at_lem (during_data set) p) ∙ no_commit_lem (member p set))
  commits_at_crash (during_commits sent) (_, few) =
      set_above n r _ gets_commit refl (λ p. ltb (n - sent) p)
      (λ p. ap gets_commit (reach_at_lem (during_commits sent) p) ∙ commit_or_data (among_first n sent p) ∙ among_above n sent p (omega arith))
      (λ p _ h. le-ltb (n - sent) p (omega arith))

-- Whatever its fault, if the point of a crash in round r is allowed there.
module _ (at : (n r : ℕ) → CrashPoint → ℕ) (gets : Reach → Bool) (n r : ℕ)
    (whole : (fault : Fault) → crashes_in r fault ≡ false → above_set n r ≡ reached_set gets n fault r)
    (crash : (point : CrashPoint) → PointAllowed n r r point → at n r point ≡ reached_set gets n (crashes r point) r) where
  sent_set_lem : (fault : Fault) → ((point : CrashPoint) → fault ≡ crashes r point → PointAllowed n r r point) → sent_set at n r fault ≡ reached_set gets n fault r
  unfolding sent_set crashes_in
  sent_set_lem correct allowed = whole correct refl
  sent_set_lem (crashes round point) allowed = by_round (eqb round r) refl
    where
      by_round : (b : Bool) → eqb round r ≡ b → cond b (at n r point) (above_set n r) ≡ reached_set gets n (crashes round point) r
      by_round true e =
          let now : crashes round point ≡ crashes r point = ap (λ (q : ℕ). crashes q point) (eqb-true round r e) in
          crash point (allowed point now) ∙ ap (λ (fault : Fault). reached_set gets n fault r) (sym now)
      by_round false e = whole (crashes round point) e

module _ (n r : ℕ) (fault : Fault) (allowed : (point : CrashPoint) → fault ≡ crashes r point → PointAllowed n r r point) where
  pub data_sent_set : sent_set data_set_at n r fault ≡ reached_set gets_data n fault r
  data_sent_set = sent_set_lem data_set_at gets_data n r (data_to_all n r) (data_at_crash n r) fault allowed

  pub commits_sent_set : sent_set commit_set_at n r fault ≡ reached_set gets_commit n fault r
  commits_sent_set = sent_set_lem commit_set_at gets_commit n r (commits_to_all n r) (commits_at_crash n r) fault allowed
