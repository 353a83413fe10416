-- Whatever the orders of all processes are, another one in each round, what is called is in order, and ends as the run says (`permutations`). The latter for
-- well-formed instances. Assumes nothing else.
use mathlib.Core.List.{List, [], ◌∷◌, map}
use mathlib.Core.Path.{◌≡◌, refl, sym, ap, subst, ◌∙◌}
use mathlib.Core.Bool.{Bool, true, false, cond}
use Prim.Native.Nat.{ℕ, suc, ◌≤◌}
use native.Mathlib.Omega.{arith}
use lib.ListN.{length}
use Rattle.general.proofs.Tests.{by_equal, both}
use Rattle.consensus.specs.Instance.{Instance}
use Rattle.consensus.specs.Consensus.{IsProcess}
use Rattle.coordinator.specs.WellFormed.{WellFormed}
use Rattle.part_host.specs.Part.{part_of}
use Rattle.part_schedules.specs.Steps.{Hosted, start, unstarted, play}
use Rattle.part_schedules.specs.Schedule.{RoundOrder, Schedule, times_called, must_speak, may_speak, must_close, may_close}
use Rattle.part_schedules.specs.Schedule.{Calls, EachOnce, RoundsInOrder, InOrder}
use Rattle.part_schedules.specs.Permutations.{among, passing_over, passing_rounds, passing_schedule, AllPermuted, Permuted, Permutations}
use Rattle.part_schedules.proofs.Turns.{times_first, times_other}
use Rattle.part_schedules.proofs.Waiting.{open_up}
use Rattle.part_schedules.proofs.AnyOrder.{any_order_lem}

module _ (may : ℕ → Bool) where
  -- One process more in front, that may be called or not.
  front_other : (p q : ℕ) (order : List ℕ) → (p ≡ q → ⊥) → (b : Bool) → times_called p (cond b (q ∷ order) order) ≡ times_called p order
  front_other p q order other true = times_other p q order other
  front_other p q order other false = refl

  front_own : (p : ℕ) (order rest : List ℕ) (b : Bool) → times_called p rest ≡ cond b (times_called p order) 0
      → times_called p (cond b (p ∷ rest) rest) ≡ cond b (times_called p (p ∷ order)) 0
  front_own p order rest true e = times_first p rest ∙ ap suc e ∙ sym (times_first p order)
  front_own p order rest false e = e

  -- How often a process stands among those that may be called.
  times_among : (p : ℕ) (order : List ℕ) → times_called p (among may order) ≡ cond (may p) (times_called p order) 0
  unfolding among times_called
  times_among p [] = by_test (may p)
    where
      by_test : (b : Bool) → 0 ≡ cond {A = ℕ} b 0 0
      by_test true = refl
      by_test false = refl
  times_among p (q ∷ order) =
      let rest = times_among p order in
      by_equal p q
      (λ same. subst (λ (k : ℕ). times_called p (cond (may k) (k ∷ among may order) (among may order)) ≡ cond (may p) (times_called p (k ∷ order)) 0) same
      (front_own p order (among may order) (may p) rest))
      (λ other. front_other p q (among may order) other (may q) ∙ rest ∙ ap (λ (k : ℕ). cond (may p) k 0) (sym (times_other p q order other)))

  -- Of an order that names each process once, those that may be called are in order, if whoever must be called may be.
  among_called : (x : Instance) (must : ℕ → Bool) (order : List ℕ) → ((p : ℕ) → must p ≡ true → may p ≡ true) → EachOnce x order → Calls x must may (among may order)
  unfolding EachOnce
  among_called x must order allowed all =
      record {
        once = λ p process e. times_among p order ∙ rw (allowed p e) (all.once p process refl);
        only = λ p called. by_test p (may p) refl (subst (λ (k : ℕ). 1 ≤ k) (times_among p order) called);
      }
    where
      by_test : (p : ℕ) (b : Bool) → may p ≡ b → 1 ≤ cond b (times_called p order) 0 → IsProcess x p × (may p ≡ true)
      by_test p true e called = ((all.only p called).0, e)
      by_test p false e called = absurd (let z : ⊥ = omega arith in z)

module _ (x : Instance) where
  speak_may : (h : Hosted) (p : ℕ) → must_speak x h p ≡ true → may_speak h p ≡ true
  unfolding must_speak may_speak
  speak_may h p e = open_up (part_of h.parts p) (both _ _ e).0

  close_may : (h : Hosted) (p : ℕ) → must_close x h p ≡ true → may_close x h p ≡ true
  unfolding must_close may_close
  close_may h p e = let (must, stays) = both _ _ e in rw (open_up (part_of h.parts p) must, stays) refl

  rounds_passing : (orders : List RoundOrder) (h : Hosted) → AllPermuted x orders → RoundsInOrder x h (passing_rounds x h orders)
  unfolding AllPermuted RoundsInOrder passing_rounds passing_over
  rounds_passing [] h permuted = tt
  rounds_passing (order ∷ orders) h permuted = (
    record {
      speak_calls = among_called (may_speak h) x (must_speak x h) order.speaking (speak_may h) permuted.0;
      close_calls = among_called (may_close x h) x (must_close x h) order.closing (close_may h) permuted.1;
    },
    rounds_passing orders _ permuted.2,
  )

  passing_in_order : (s : Schedule) → Permuted x s → InOrder x (passing_schedule x s)
  unfolding passing_schedule
  passing_in_order s permuted = record { starts = permuted.starts; rounds = rounds_passing s.rounds _ permuted.rounds }

  as_many_rounds : (orders : List RoundOrder) (h : Hosted) → length (passing_rounds x h orders) ≡ length orders
  unfolding passing_rounds
  as_many_rounds [] h = refl
  as_many_rounds (order ∷ orders) h = ap suc (as_many_rounds orders _)

  pub permutations : WellFormed x → Permutations x
  unfolding passing_schedule
  permutations formed =
      record {
        in_order = passing_in_order;
        by_run = λ s permuted through.
            (any_order_lem x formed).by_run (passing_schedule x s)
            ((any_order_lem x formed).through (passing_schedule x s) (passing_in_order s permuted)
            (record { enough = omega (arith, through, as_many_rounds s.rounds (play x (map start s.starting) (unstarted x))) }));
      }
