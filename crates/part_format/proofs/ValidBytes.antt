-- The bytes of a valid state are nine bytes, and those of an open one are not refused. Assumes nothing.
use mathlib.Core.Path.{◌≡◌, refl}
use mathlib.Core.List.{List, [], ◌∷◌}
use mathlib.Core.Bool.{Bool, true, false, cond, not}
use Prim.Native.Nat.{ℕ}
use native.Mathlib.Omega.{arith}
use lib.Dec.{eqb}
use lib.ListN.{length}
use borrow.Author.Tests.{eq-eqb}
use Rattle.general.specs.BigEndian.{bytes_of}
use Rattle.general.proofs.Bytes.{bytes_each, bytes_append}
use Rattle.general.proofs.BigEndian.{bytes_of_number}
use Rattle.part_format.specs.PartState.{PartState, state_bytes, state_from, state_valid, state_refusal, ValidBytes}
use Rattle.part_format.proofs.Valid.{fields_say}

pub valid_bytes : (s : PartState) → state_valid s ≡ true → ValidBytes (state_bytes s)
unfolding state_valid state_from state_bytes bytes_of
valid_bytes s e =
    let small = fields_say s.process s.processes s.resilience s.round s.mark e in
    let front = s.process ∷ s.processes ∷ s.resilience ∷ s.round ∷ s.mark ∷ [] in
    record {
      nine = refl;
      bytes =
          bytes_append front (bytes_of 4 s.value)
          (bytes_each front (omega arith, (omega arith, (omega arith, (omega arith, (omega arith, tt))))))
          (bytes_of_number 4 s.value);
      valid = e;
    }

pub open_bytes : (s : PartState) → state_valid s ≡ true → s.mark ≡ 0 → state_refusal (state_bytes s) ≡ 0
unfolding state_refusal state_valid state_from state_bytes bytes_of
open_bytes s e h = rw (e, h)

-- Nine bytes of a valid state are not refused with 10, whatever their mark.
pub valid_taken : (b : List ℕ) → ValidBytes b → state_refusal b ≡ 10 → ⊥
unfolding state_refusal
valid_taken b known refused =
    by_mark (eqb (state_from b).mark 0) (rw (eq-eqb (length b) 9 known.nine, known.valid) at refused)
  where
    by_mark : (first : Bool) → ◌≡◌ {A = ℕ} (cond (not first) 11 0) 10 → ⊥
    by_mark true e = let z : ⊥ = omega arith in z
    by_mark false e = let z : ⊥ = omega arith in z
