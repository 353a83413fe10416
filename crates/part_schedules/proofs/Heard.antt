-- What is heard of frames that were yielded in whatever order, where one process alone yields any. Assumes nothing.
use mathlib.Core.List.{List, [], ◌∷◌, ◌++◌, map, append_assoc, append-nil}
use mathlib.Core.Bool.{Bool, true, false, cond}
use mathlib.Core.Path.{◌≡◌, refl, sym, ap, ◌∙◌}
use Prim.Native.Nat.{ℕ, ◌≤◌}
use native.Mathlib.Omega.{arith}
use lib.Dec.{ltb}
use lib.ListN.{take}
use lib.Seq.{take-nil}
use Rattle.general.proofs.Tests.{by_equal}
use Rattle.consensus.specs.Instance.{Instance, fault_of}
use Rattle.consensus.specs.declared.Fault.{Fault}
use Rattle.consensus.specs.declared.Fault.TheVariants.{Correct as correct, Crashes as crashes}
use Rattle.consensus.specs.declared.CrashPoint.TheVariants.{BeforeSending as before_sending, DuringData as during_data, DuringCommits as during_commits}
use Rattle.coordinator.specs.Message.{none}
use Rattle.coordinator.specs.Delivery.{reach_at, reach_in}
use Rattle.part_host.specs.Part.{Part, part_of}
use Rattle.part_host.specs.Hearing.{bytes_reaching, reach_from, let_through}
use Rattle.part_schedules.specs.Steps.{Spoken, heard_of, frames_yielded}
use Rattle.part_schedules.specs.Schedule.{times_called, crashes_unsent}
use Rattle.part_schedules.proofs.Turns.{times_more, times_first, times_other}
use Rattle.part_schedules.proofs.Phases.{said}

-- Where the messages of a process get that crashes before it sends anything.
unsent_reach : (n : ℕ) (fault : Fault) (r p : ℕ) → crashes_unsent r fault ≡ true → reach_in n fault r p ≡ none
unfolding crashes_unsent reach_in reach_at
unsent_reach n correct r p e = cc
unsent_reach n (crashes round before_sending) r p e = rw e refl
unsent_reach n (crashes round (during_data reached)) r p e = cc
unsent_reach n (crashes round (during_commits sent)) r p e = cc

module _ (x : Instance) (r p : ℕ) where
  -- Of nothing, nothing is let through.
  pub nothing_through : (q : ℕ) → let_through x r q p [] ≡ []
  unfolding let_through
  nothing_through q = rw take-nil

  pub heard_append : (a b : List Spoken) → heard_of x r p (a ++ b) ≡ heard_of x r p a ++ heard_of x r p b
  unfolding heard_of
  heard_append [] b = refl
  heard_append (one ∷ a) b = rw (heard_append a b) (sym (append_assoc (let_through x r one.sender p one.frames) (heard_of x r p a) (heard_of x r p b)))

  -- Who crashes before it sends anything is not heard.
  pub unsent_unheard : (q : ℕ) (frames : List ℕ) → crashes_unsent r (fault_of x q) ≡ true → let_through x r q p frames ≡ []
  unfolding let_through reach_from bytes_reaching
  unsent_unheard q frames e = rw (unsent_reach x.processes (fault_of x q) r p e) (by_test (ltb q p))
    where
      by_test : (b : Bool) → take (bytes_reaching (cond b none none)) frames ≡ []
      by_test true = refl
      by_test false = refl

  -- Who yields nothing is not heard.
  pub silent_behind : (a : List Spoken) (q : ℕ) → heard_of x r p (a ++ (record { sender = q; frames = [] } ∷ [])) ≡ heard_of x r p a
  unfolding heard_of
  silent_behind a q = heard_append a _ ∙ rw (nothing_through q) (append-nil (heard_of x r p a))

  module _ (parts : List Part) where
    -- Of what process q yields nothing is let through.
    abbrev Unheard : ℕ → Type 0
    Unheard q = let_through x r q p (frames_yielded (part_of parts q)) ≡ []

    pub none_heard : (order : List ℕ) → ((q : ℕ) → 1 ≤ times_called q order → Unheard q) → heard_of x r p (map (said parts) order) ≡ []
    unfolding heard_of
    none_heard [] unheard = refl
    none_heard (q ∷ order) unheard =
        rw (unheard q (omega (arith, times_first q order))) (none_heard order (λ k h. unheard k (times_more k q order h)))

    -- Where process c stands in the order once and no other is heard, its frames are heard, wherever it stands.
    pub one_heard : (c : ℕ) (order : List ℕ) → times_called c order ≡ 1 → ((q : ℕ) → 1 ≤ times_called q order → (q ≡ c → ⊥) → Unheard q)
        → heard_of x r p (map (said parts) order) ≡ let_through x r c p (frames_yielded (part_of parts c))
    unfolding heard_of times_called
    one_heard c [] once unheard = absurd (let z : ⊥ = omega arith in z)
    one_heard c (q ∷ order) once unheard =
        by_equal c q
        (λ same. let rest : times_called q order ≡ 0 = omega (arith, once, times_first q order, ap (λ (k : ℕ). times_called k (q ∷ order)) same) in
        let behind : heard_of x r p (map (said parts) order) ≡ [] =
        none_heard order (λ k h. unheard k (times_more k q order h) (λ e. omega (arith, h, rest, ap (λ (i : ℕ). times_called i order) (e ∙ same))))
        in
        rw (behind, append-nil) (ap (λ (k : ℕ). let_through x r k p (frames_yielded (part_of parts k))) (sym same)))
        (λ other. let silent : Unheard q = unheard q (omega (arith, times_first q order)) (λ e. other (sym e)) in
        rw silent (one_heard c order (sym (times_other c q order other) ∙ once) (λ k h. unheard k (times_more k q order h))))
