-- What an accepted start and an accepted close leave: nine bytes of a valid state again (`leaves_valid`). Assumes nothing.
use mathlib.Core.Path.{◌≡◌, refl, sym}
use mathlib.Core.List.{List}
use mathlib.Core.Option.{Option, some, none}
use mathlib.Core.Bool.{Bool, true, false, cond, not, ◌&&◌}
use Prim.Native.Nat.{ℕ}
use native.Mathlib.Omega.{arith}
use lib.Dec.{eqb}
use lib.ListN.{length}
use borrow.Author.Tests.{eqb-true, eqb-false}
use Rattle.coordinator.specs.Message.{Messages}
use Rattle.part_format.specs.PartState.{state_bytes, state_from, identity_valid, state_valid, state_refusal, ValidBytes}
use Rattle.part_format.specs.Frame.{heard_by}
use Rattle.part_format.specs.Start.{start_state, start_refusal, start_bytes}
use Rattle.part_format.specs.Close.{closed_on, heard_refusal, close_refusal, close_state}
use Rattle.part_format.specs.Leaves.{LeavesValid}
use Rattle.general.proofs.Tests.{both}
use Rattle.part_format.proofs.Valid.{identity_says, within_valid}
use Rattle.part_format.proofs.Opened.{Opened, opened}
use Rattle.part_format.proofs.ValidBytes.{valid_bytes, open_bytes}
use Rattle.part_format.proofs.Operations.{start_written, close_closed}
use Rattle.part_format.proofs.StaysValid.{closed_on_valid}

-- ---- starting

accepted_start : (good : Bool) → ◌≡◌ {A = ℕ} (cond (not good) 10 0) 0 → good ≡ true
accepted_start true e = refl
accepted_start false e = absurd (omega arith)

module _ (p n t v : ℕ) (lent : List ℕ) (accepted : start_refusal p n t lent ≡ 0) where
  limits : (identity_valid p n t ≡ true) × (eqb (length lent) 9 ≡ true)
  unfolding start_refusal
  limits = both (identity_valid p n t) (eqb (length lent) 9) (accepted_start (identity_valid p n t && eqb (length lent) 9) accepted)

  -- The bytes that it leaves.
  pub start_leaves_lem : start_bytes p n t v lent ≡ state_bytes (start_state p n t v)
  start_leaves_lem = sym (start_written p n t v lent limits.0 (state_bytes (start_state p n t v)) (eqb-true (length lent) 9 limits.1) refl).1

  pub start_valid : state_valid (start_state p n t v) ≡ true
  unfolding state_valid start_state
  start_valid =
      let i = identity_says p n t limits.0 in
      within_valid i (omega arith) (record { first = omega arith; last = omega arith; own = omega arith })

  start_leaves_valid : ValidBytes (start_bytes p n t v lent)
  start_leaves_valid = rw start_leaves_lem (valid_bytes (start_state p n t v) start_valid)

  -- The process may go on from there.
  start_leaves_open : state_refusal (start_bytes p n t v lent) ≡ 0
  unfolding start_state
  start_leaves_open = rw start_leaves_lem (open_bytes (start_state p n t v) start_valid refl)

-- ---- closing

-- What an accepted close rests on, and what it leaves.
pub record Closing (state heard : List ℕ) : Type 0 where
  pub before : Opened state
  pub messages : Messages
  pub received : heard_by (state_from state) heard ≡ some messages
  pub left : close_state state heard ≡ state_bytes (closed_on (state_from state) messages)

accepted_state : (good : Bool) (k x : ℕ) → eqb k 0 ≡ good → cond (not good) k x ≡ 0 → (k ≡ 0) × (x ≡ 0)
accepted_state true k x g e = (eqb-true k 0 g, e)
accepted_state false k x g e = absurd (eqb-false k 0 g e)

accepted_heard : (state heard : List ℕ) → Opened state → (h : Option Messages) → heard_by (state_from state) heard ≡ h → heard_refusal h ≡ 0 → Closing state heard
unfolding heard_refusal
accepted_heard state heard o (some m) e z =
    record {
      before = o;
      messages = m;
      received = e;
      left = sym (close_closed state heard o.refusal (state_bytes (closed_on (state_from state) m)) m (sym e) refl).1;
    }
accepted_heard state heard o none e z = absurd (omega arith)

module _ (state heard : List ℕ) (accepted : close_refusal state heard ≡ 0) where
  pub close_accepted_lem : Closing state heard
  unfolding close_refusal
  close_accepted_lem =
      let parts = accepted_state (eqb (state_refusal state) 0) (state_refusal state) (heard_refusal (heard_by (state_from state) heard)) refl accepted in
      accepted_heard state heard (opened state (state_refusal state) refl parts.0) (heard_by (state_from state) heard) refl parts.1

  close_leaves_valid : ValidBytes (close_state state heard)
  unfolding state_from
  close_leaves_valid =
      let a = close_accepted_lem in
      let o = a.before in
      rw a.left (valid_bytes (closed_on (state_from state) a.messages) (closed_on_valid (state_from state) o.valid o.mark a.messages))

-- ---- both

pub leaves_valid : LeavesValid
leaves_valid =
    record {
      after_start = λ p n t v lent a. start_leaves_valid p n t v lent a.is_zero;
      open_after_start = λ p n t v lent a. start_leaves_open p n t v lent a.is_zero;
      after_close = λ state heard a. close_leaves_valid state heard a.is_zero;
    }
