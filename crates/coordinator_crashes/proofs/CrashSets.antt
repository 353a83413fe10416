-- The sets of the processes that have the same crash round, process by process. Assumes nothing.
use mathlib.Core.List.{List}
use mathlib.Core.Path.{◌≡◌, refl, sym, ◌∙◌}
use mathlib.Core.Bool.{Bool, true, false, cond}
use Prim.Native.Nat.{ℕ, zero, suc, ◌+◌, ◌-◌, ◌*◌, ◌^◌, ◌≤◌, ◌<◌}
use native.Mathlib.Omega.{arith}
use lib.Bits.{bit_or, or_shifted_r}
use lib.ListN.{length, get_or, set, replicate, get_or-replicate}
use lib.Seq.{get_or-set_same, get_or-set_other}
use borrow.Author.Tests.{eq-eqb, ne_eqb}
use Rattle.general.specs.Bits.{set_of}
use Rattle.general.proofs.Sets.{set_within}
use Rattle.general.proofs.Tests.{by_equal}
use Rattle.consensus.specs.State.{crashes_in}
use Rattle.consensus.specs.declared.Fault.{Fault}
use Rattle.consensus.specs.declared.CrashPoint.{CrashPoint}
use Rattle.consensus.specs.declared.Fault.TheVariants.{Correct as correct, Crashes as crashes}
use Rattle.coordinator_crashes.specs.code.CrashSets.{CrashSets}

-- Of no process every set is empty.
pub none_put : (pattern : List Fault) → CrashSets 0 pattern (replicate 64 0)
unfolding set_of
none_put pattern r h g = get_or-replicate 64 (r - 1) 0 0 (omega arith)

-- The set of one process more, where its test is this.
one_more_lem : (p : ℕ) (test : ℕ → Bool) (b : Bool) → 1 ≤ p → test p ≡ b → set_of p test ≡ cond b 1 0 * 2 ^ (p - 1) + set_of (p - 1) test
unfolding set_of
one_more_lem zero test b h e = absurd (let z : ⊥ = omega arith in z)
one_more_lem (suc q) test b h e = let place : suc q - 1 ≡ q = omega arith in rw (place, e) refl

module _ (pattern : List Fault) (sets : List ℕ) (p : ℕ) (first : 1 ≤ p) (so_far : CrashSets (p - 1) pattern sets) where
  abbrev crashing : ℕ → ℕ → Bool
  crashing r q = crashes_in r (get_or pattern (q - 1) correct)

  -- Where process p does not crash in round r, the set of round r stays.
  stays : (r : ℕ) → 1 ≤ r → r ≤ 64 → crashing r p ≡ false → get_or sets (r - 1) 0 ≡ set_of p (crashing r)
  stays r h g none = so_far r h g ∙ sym (one_more_lem p (crashing r) false first none ∙ omega arith)

  -- It crashes in none of rounds 1 to 64.
  pub correct_stays : get_or pattern (p - 1) correct ≡ correct → CrashSets p pattern sets
  unfolding crashes_in
  correct_stays fault r h g = stays r h g (rw fault)

  pub other_stays : (own : ℕ) (point : CrashPoint) → get_or pattern (p - 1) correct ≡ crashes own point → (1 ≤ own → own ≤ 64 → ⊥)
      → CrashSets p pattern sets
  unfolding crashes_in
  other_stays own point fault none r h g = stays r h g (rw fault (ne_eqb own r (λ same. none (omega arith) (omega arith))))

  -- It crashes in one of them.
  pub put : (own : ℕ) (point : CrashPoint) → get_or pattern (p - 1) correct ≡ crashes own point → 1 ≤ own → own ≤ 64 → length sets ≡ 64
      → CrashSets p pattern (set sets (own - 1) (bit_or (get_or sets (own - 1) 0) (2 ^ (p - 1))))
  unfolding crashes_in
  put own point fault low high places r h g =
      by_equal own r
      (λ same.
      let inside : own - 1 < length sets = omega (arith, places) in
      let shifted : 2 ^ (p - 1) ≡ 1 * 2 ^ (p - 1) = omega arith in
      rw (← same) (get_or-set_same sets (own - 1) _ 0 inside
      ∙ rw (so_far own low high, shifted, or_shifted_r 1 (p - 1) (set_of (p - 1) (crashing own)) (set_within (p - 1) (crashing own)))
      (sym (one_more_lem p (crashing own) true first (rw fault (eq-eqb own own refl))))))
      (λ other. get_or-set_other sets (own - 1) (r - 1) _ 0 (λ same. other (omega arith)) ∙ stays r h g (rw fault (ne_eqb own r other)))
