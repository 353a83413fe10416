-- What a refusal is not, and where an accepted text went on, whatever the format. Assumes nothing.
use mathlib.Core.Path.{◌≡◌, refl}
use Prim.Native.Nat.{ℕ}
use native.Mathlib.Omega.{arith}
use Rattle.ticket_format.specs.LineVerdict.{LineVerdict, next, refuse}
use Rattle.general.specs.Answer.{Answer, accepted, refused}
use Rattle.ticket_format.specs.Reading.{proceed}

-- A refusal is not the next stage, nor what a text is accepted with.
pub refuse_next : {S : Type 0} (refusal : ℕ) (s : S) → refuse refusal ≡ next s → ⊥
refuse_next refusal s e = let z : ◌≡◌ {A = ℕ} 0 1 = cc in omega arith

pub refused_accepted : {A : Type 0} (refusal k : ℕ) (a : A) → refused refusal k ≡ accepted a → ⊥
refused_accepted refusal k a e = let z : ◌≡◌ {A = ℕ} 0 1 = cc in omega arith

-- Where an accepted text went on.
module _ {S : Type 0} where
  pub proceeds : {A : Type 0} (step : LineVerdict S) (k : ℕ) (go : S → Answer A) (a : A) → proceed step k go ≡ accepted a
      → (s : S) × (step ≡ next s) × (go s ≡ accepted a)
  unfolding proceed
  proceeds (next s) k go a e = (s, refl, e)
  proceeds (refuse refusal) k go a e = absurd (refused_accepted refusal k a e)
