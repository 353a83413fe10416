-- What a state that is not refused is: nine bytes of a valid state whose mark is open. Assumes nothing.
use mathlib.Core.Path.{◌≡◌, refl, sym, ◌∙◌}
use mathlib.Core.List.{List}
use mathlib.Core.Bool.{Bool, true, false, cond, not, ◌&&◌}
use Prim.Native.Nat.{ℕ}
use native.Mathlib.Omega.{arith}
use lib.Dec.{eqb}
use lib.ListN.{length, get_or}
use borrow.Author.Tests.{eqb-true}
use Rattle.part_format.specs.PartState.{state_valid, state_from, state_refusal}
use Rattle.general.proofs.Tests.{both}
use Rattle.part_format.proofs.Valid.{Identity, Within, round_within, fields_say}

pub record Opened (b : List ℕ) : Type 0 where
  pub refusal : state_refusal b ≡ 0
  pub nine : length b ≡ 9
  pub valid : state_valid (state_from b) ≡ true
  pub mark : get_or b 4 0 ≡ 0
  pub identity : Identity (get_or b 0 0) (get_or b 1 0) (get_or b 2 0)
  pub round : Within (get_or b 0 0) (get_or b 2 0) (get_or b 3 0)

not_refused : (x y : Bool) → ◌≡◌ {A = ℕ} (cond (not x) 10 (cond (not y) 11 0)) 0 → (x ≡ true) × (y ≡ true)
not_refused true true e = (refl, refl)
not_refused true false e = absurd (omega arith)
not_refused false y e = absurd (omega arith)

pub opened : (b : List ℕ) (k : ℕ) → k ≡ state_refusal b → k ≡ 0 → Opened b
unfolding state_refusal state_valid state_from
opened b k ek e =
    let open_valid = not_refused (eqb (length b) 9 && state_valid (state_from b)) (eqb (get_or b 4 0) 0) (sym ek ∙ e) in
    let nine-valid = both (eqb (length b) 9) (state_valid (state_from b)) open_valid.0 in
    let fields = fields_say (get_or b 0 0) (get_or b 1 0) (get_or b 2 0) (get_or b 3 0) (get_or b 4 0) nine-valid.1 in
    let zero : get_or b 4 0 ≡ 0 = eqb-true _ _ open_valid.1 in
    record {
      refusal = sym ek ∙ e;
      nine = eqb-true (length b) 9 nine-valid.0;
      valid = nine-valid.1;
      mark = zero;
      identity = fields.identity;
      round = round_within _ _ _ _ (λ h. omega arith) fields.round_valid_lem;
    }
