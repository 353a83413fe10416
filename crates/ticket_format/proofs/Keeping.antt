-- A property of stages that every line keeps holds of what a text is accepted with, whatever the format. Assumes nothing.
use mathlib.Core.List.{List, [], ◌∷◌}
use Prim.Native.Nat.{ℕ, suc}
use Rattle.general.proofs.Bytes.{Bytes}
use Rattle.text.specs.Line.{Line, bytes, no_line}
use Rattle.ticket_format.specs.LineVerdict.{LineVerdict, next, refuse}
use Rattle.general.specs.Answer.{Answer, accepted, refused}
use Rattle.ticket_format.specs.Reading.{proceed, read_from}
use Rattle.text.proofs.LineBytes.{Lines}

-- The next stage, if there is one, has the property.
unfoldable pub Keeps : {S : Type 0} → (S → Type 0) → LineVerdict S → Type 0
Keeps P (next s) = P s
Keeps P (refuse number) = Unit {0}

-- What a text is accepted with, if it is, has the property.
unfoldable pub Gives : {A : Type 0} → (A → Type 0) → Answer A → Type 0
Gives Q (accepted a) = Q a
Gives Q (refused number k) = Unit {0}

module _ {S A : Type 0} (accept : S → List ℕ → LineVerdict S) (end : S → ℕ → Answer A) (P : S → Type 0) (Q : A → Type 0)
    (keeps : (s : S) (b : List ℕ) → Bytes b → P s → Keeps P (accept s b)) (ends : (s : S) (k : ℕ) → P s → Gives Q (end s k)) where
  proceed_gives : (step : LineVerdict S) (k : ℕ) (go : S → Answer A) → Keeps P step → ((s : S) → P s → Gives Q (go s)) → Gives Q (proceed step k go)
  unfolding Keeps Gives proceed
  proceed_gives (next s) k go h g = g s h
  proceed_gives (refuse number) k go h g = tt

  pub reading_gives : (lines : List Line) (s : S) (k : ℕ) → Lines lines → P s → Gives Q (read_from accept end s k lines)
  unfolding read_from Lines Gives
  reading_gives [] s k h g = ends s k g
  reading_gives (no_line ∷ lines) s k h g = tt
  reading_gives (bytes b ∷ lines) s k h g =
      proceed_gives (accept s b) k _ (keeps s b h.0 g) (λ (s' : S) (g' : P s'). reading_gives lines s' (suc k) h.1 g')
