-- What a row of reasons does to an output that is being written. Assumes nothing.
use mathlib.Core.List.{List, ◌++◌}
use mathlib.Core.Path.{◌≡◌, refl, sym, ap, ap₂, ◌∙◌}
use mathlib.Core.Bool.{Bool, true, false, ◌&&◌}
use Prim.Native.Nat.{ℕ, zero, suc, ◌+◌, ◌-◌, ◌*◌, ◌≤◌, ◌<◌}
use native.Mathlib.Omega.{arith}
use native.Mathlib.Nat.{le_trans, mul-le-mul_right}
use borrow.Author.Tests.{ne_eqb}
use borrow.Rule.Slice.PartMut.{mid_of, put_mid}
use lib.Dec.{eqb}
use lib.ListN.{length, get_or, set, drop, length-append, length-drop, length-set}
use lib.Seq.{get_or-set_same, get_or-set_other}
use Rattle.std.proofs.lemmas.List.{ext_get_or, set-append_left}
use Rattle.general.specs.Table.{tabulate}
use Rattle.general.proofs.Overwrite.{put_part}
use Rattle.general.proofs.Table.{length-tabulate, tabulate_same, entry_at, overwritten, overwritten_more}
use Rattle.general.proofs.Tests.{by_equal}
use Rattle.consensus.specs.declared.Fault.TheVariants.{Correct as correct}
use Rattle.consensus.specs.declared.State.{State}
use Rattle.consensus.specs.declared.State.TheVariants.{Undecided as undecided, Decided as decided, Crashed as crashed}
use Rattle.tables.specs.declared.instance.InstanceTable.{InstanceTable}
use Rattle.tables.specs.declared.run.RunTable.{RunTable}
use Rattle.coordinator_reason.specs.code.ByEnds.{end_in, coordinates, reason_waiting, reason_beside, reason_by_end, reason_in_table, row_by_ends, rows_by_ends}

-- Process p does not coordinate another round.
neither : (b : Bool) → (b && false) ≡ false
neither true = refl
neither false = refl

coordinates_not : (p r : ℕ) (s : State) → (p ≡ r → ⊥) → coordinates p r s ≡ false
unfolding coordinates
coordinates_not p r (undecided v) other = refl
coordinates_not p r (decided i v) other = rw (ne_eqb p r other) (neither (eqb i r))
coordinates_not p r (crashed i) other = refl

module _ (table : InstanceTable) (run : RunTable) (r : ℕ) where
  -- The reason of process p in round r as of one that does not coordinate it, at the place of each process.
  abbrev pub beside : ℕ → ℕ
  beside p = reason_beside r (end_in run p) (reason_waiting p r (end_in run r) (get_or table.pattern (r - 1) correct))

  abbrev pub besides : ℕ → ℕ
  besides k = beside (suc k)

  abbrev pub reasons : ℕ → ℕ
  reasons k = reason_in_table table run (suc k) r

  -- One process more.
  pub row_more : (before out : List ℕ) (p a : ℕ) → 1 ≤ p → p ≤ length before → out ≡ overwritten besides before (p - 1) → a ≡ beside p
      → set out (p - 1) a ≡ overwritten besides before p
  row_more before out p a first last o e =
      let next : suc (p - 1) ≡ p = omega arith in
      rw o (overwritten_more besides before (p - 1) a (omega arith) (e ∙ ap beside (sym next)) ∙ ap (overwritten besides before) next)

  -- It is the reason but for a coordinator that decides in its round.
  reason_is : (k : ℕ) → coordinates (suc k) r (end_in run (suc k)) ≡ false → besides k ≡ reasons k
  unfolding reason_in_table reason_by_end
  reason_is k other = rw other

  other_is : (k : ℕ) → (suc k ≡ r → ⊥) → besides k ≡ reasons k
  other_is k other = reason_is k (coordinates_not (suc k) r (end_in run (suc k)) other)

  undecided_is : (k : ℕ) → coordinates r r (end_in run r) ≡ false → besides k ≡ reasons k
  undecided_is k none = by_equal (suc k) r (λ same. reason_is k (rw same none)) (other_is k)

  decided_is : (k : ℕ) → suc k ≡ r → coordinates r r (end_in run r) ≡ true → 1 ≡ reasons k
  unfolding reason_in_table reason_by_end
  decided_is k same decides = rw same (rw decides refl)

  -- So the row is done where the coordinator does not decide in the round or is no process, and else with its own reason.
  row_done : (before out : List ℕ) → out ≡ overwritten besides before run.n → ((k : ℕ) → k < run.n → besides k ≡ reasons k)
      → out ≡ row_by_ends table run r ++ drop run.n before
  unfolding row_by_ends overwritten
  row_done before out o same = o ∙ ap (λ (l : List ℕ). l ++ drop run.n before) (tabulate_same besides reasons run.n same)

  pub row_beside : (before out : List ℕ) → out ≡ overwritten besides before run.n → coordinates r r (end_in run r) ≡ false
      → out ≡ row_by_ends table run r ++ drop run.n before
  row_beside before out o none = row_done before out o (λ k h. undecided_is k none)

  pub row_beyond : (before out : List ℕ) → out ≡ overwritten besides before run.n → run.n < r → out ≡ row_by_ends table run r ++ drop run.n before
  row_beyond before out o beyond = row_done before out o (λ k h. other_is k (λ same. omega arith))

  pub row_decided : (before out : List ℕ) → out ≡ overwritten besides before run.n → 1 ≤ r → r ≤ run.n → coordinates r r (end_in run r) ≡ true
      → set out (r - 1) 1 ≡ row_by_ends table run r ++ drop run.n before
  unfolding row_by_ends overwritten
  row_decided before out o first last decides =
      let inside : r - 1 < length (tabulate besides run.n) = omega (arith, length-tabulate besides run.n) in
      let sizes = length-set (tabulate besides run.n) (r - 1) 1 ∙ length-tabulate besides run.n in
      rw o (set-append_left (tabulate besides run.n) (drop run.n before) (r - 1) 1 inside
      ∙ ap (λ (l : List ℕ). l ++ drop run.n before)
      (ext_get_or 0 _ _ (sizes ∙ sym (length-tabulate reasons run.n)) (λ k h. at_place k (omega (arith, sizes)) inside)))
    where
      at_place : (k : ℕ) → k < run.n → r - 1 < length (tabulate besides run.n) → get_or (set (tabulate besides run.n) (r - 1) 1) k 0 ≡ get_or (tabulate reasons run.n) k 0
      at_place k h inside =
          by_equal (r - 1) k
          (λ same.
          rw (← same) (get_or-set_same (tabulate besides run.n) (r - 1) 1 0 inside
          ∙ decided_is (r - 1) (omega arith) decides ∙ sym (entry_at run.n (r - 1) 0 (omega arith) reasons (tabulate reasons run.n) refl)))
          (λ other.
          get_or-set_other (tabulate besides run.n) (r - 1) k 1 0 (λ same. other (sym same))
          ∙ entry_at run.n k 0 h besides (tabulate besides run.n) refl ∙ other_is k (λ same. other (omega arith))
          ∙ sym (entry_at run.n k 0 h reasons (tabulate reasons run.n) refl))

-- Where the row behind i others begins, and that it fits where all rows do.
pub next_fits : (i rounds n room : ℕ) → i < rounds → rounds * n ≤ room → suc i * n ≤ room
next_fits i rounds n room h fits = le_trans (mul-le-mul_right n h) fits

module _ (table : InstanceTable) (run : RunTable) where
  -- The row of round i + 1.
  abbrev row_after : ℕ → List ℕ
  row_after i = row_by_ends table run (suc i)

  length-rows : (i : ℕ) → length (rows_by_ends table run i) ≡ i * run.n
  unfolding rows_by_ends row_by_ends
  length-rows zero = omega arith
  length-rows (suc i) =
      length-append (rows_by_ends table run i) (row_after i)
      ∙ ap₂ (λ (a b : ℕ). a + b) (length-rows i) (length-tabulate _ run.n) ∙ omega arith

  -- An output in which the rows of rounds 1 to i are written, over what stood there before.
  unfoldable pub with_rows : (before : List ℕ) → ℕ → List ℕ
  with_rows before i = rows_by_ends table run i ++ drop (i * run.n) before

  module _ (before : List ℕ) where
    pub with_none : with_rows before 0 ≡ before
    unfolding with_rows rows_by_ends
    with_none = let front : 0 * run.n ≡ 0 = omega arith in ap (λ (k : ℕ). drop k before) front

    pub length-with : (i : ℕ) → i * run.n ≤ length before → length (with_rows before i) ≡ length before
    unfolding with_rows
    length-with i h =
        length-append (rows_by_ends table run i) (drop (i * run.n) before)
        ∙ ap₂ (λ (a b : ℕ). a + b) (length-rows i) (length-drop (i * run.n) before) ∙ omega arith

    -- The part lent for the row of round i + 1 comes back with it.
    more_at : (i : ℕ) (out back : List ℕ) → suc i * run.n ≤ length before → out ≡ with_rows before i
        → back ≡ row_after i ++ drop run.n (mid_of (i * run.n) (length out - i * run.n) out)
        → put_mid (i * run.n) (length out - i * run.n) out back ≡ with_rows before (suc i)
    unfolding with_rows rows_by_ends row_by_ends
    more_at i out back fits o b =
        let next : i * run.n + run.n ≡ suc i * run.n = omega arith in
        rw (b, o)
        (put_part (rows_by_ends table run i) (row_after i) before (i * run.n) run.n (length-rows i) (length-tabulate _ run.n) (omega arith)
        ∙ ap (λ (k : ℕ). (rows_by_ends table run i ++ row_after i) ++ drop k before) next)

    -- The same where the length of a row has another name.
    pub with_more : (i w : ℕ) (out back : List ℕ) → w ≡ run.n → suc i * run.n ≤ length before → out ≡ with_rows before i
        → back ≡ row_after i ++ drop run.n (mid_of (i * w) (length out - i * w) out)
        → put_mid (i * w) (length out - i * w) out back ≡ with_rows before (suc i)
    with_more i w out back same fits o b = rw same (more_at i out back fits o (rw same at b))
