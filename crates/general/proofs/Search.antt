-- A search upwards finds the lowest number that passes. Assumes nothing.
use mathlib.Core.Path.{◌≡◌, refl, sym, ap, ◌∙◌}
use mathlib.Core.Bool.{Bool, true, false, cond, true≢false}
use Prim.Native.Nat.{ℕ, zero, suc, ◌+◌, ◌≤◌, ◌<◌}
use native.Mathlib.Omega.{arith}
use Rattle.general.specs.Search.{lowest_from}
use Rattle.general.proofs.Tests.{by_equal, by_order}

module _ (passes : ℕ → Bool) where
  -- No lower number than the one that is found passes.
  pub none_lower : (many from q : ℕ) → from ≤ q → q < lowest_from passes from many → passes q ≡ false
  unfolding lowest_from
  none_lower zero from q h g = absurd (let z : ⊥ = omega arith in z)
  none_lower (suc many) from q h g = by_test (passes from) refl g (λ above low. none_lower many (suc from) q above low)
    where
      by_test : (b : Bool) → passes from ≡ b → q < cond b from (lowest_from passes (suc from) many)
          → (suc from ≤ q → q < lowest_from passes (suc from) many → passes q ≡ false) → passes q ≡ false
      by_test true e low rest = absurd (let z : ⊥ = omega arith in z)
      by_test false e low rest = by_equal from q (λ same. ap passes (sym same) ∙ e) (λ other. rest (omega arith) low)

  -- If a number passes, so does what is found.
  pub found_passes : (many from m : ℕ) → from ≤ m → m < from + many → passes m ≡ true → passes (lowest_from passes from many) ≡ true
  unfolding lowest_from
  found_passes zero from m h g e = absurd (let z : ⊥ = omega arith in z)
  found_passes (suc many) from m h g e = by_test (passes from) refl (λ above. found_passes many (suc from) m above (omega arith) e)
    where
      by_test : (b : Bool) → passes from ≡ b → (suc from ≤ m → passes (lowest_from passes (suc from) many) ≡ true)
          → passes (cond b from (lowest_from passes (suc from) many)) ≡ true
      by_test true p rest = p
      by_test false p rest = by_equal from m (λ same. absurd (true≢false (sym e ∙ ap passes (sym same) ∙ p))) (λ other. rest (omega arith))

  -- A number that passes, where no lower one does, is found.
  pub found : (many from m : ℕ) → from ≤ m → m < from + many → passes m ≡ true → ((q : ℕ) → q < m → passes q ≡ false) → lowest_from passes from many ≡ m
  found many from m h g e none =
      let at : ℕ = lowest_from passes from many in
      by_order at m
      (λ low. by_order m at (λ high. omega arith) (λ below. absurd (true≢false (sym (found_passes many from m h g e) ∙ none at below))))
      (λ high. absurd (true≢false (sym e ∙ none_lower many from m h high)))

-- Two tests that say the same of the numbers searched find the same.
pub found_same : (one other : ℕ → Bool) (many from : ℕ) → ((q : ℕ) → q < from + many → one q ≡ other q)
    → lowest_from one from many ≡ lowest_from other from many
unfolding lowest_from
found_same one other zero from same = refl
found_same one other (suc many) from same =
    rw (same from (omega arith), found_same one other many (suc from) (λ q h. same q (omega arith))) refl
