-- How many reasons a run has, one for each process in each round, and where each stands. Assumes nothing.
use mathlib.Core.List.{◌++◌}
use mathlib.Core.Path.{◌≡◌, refl, sym, ap, ap₂, ◌∙◌}
use Prim.Native.Nat.{ℕ, zero, suc, ◌+◌, ◌-◌, ◌*◌, ◌≤◌, ◌<◌}
use native.Mathlib.Omega.{arith}
use native.Mathlib.Nat.{mul-le-mul, mul-le-mul_right}
use lib.ListN.{length, get_or, length-append, get_or-append}
use lib.Seq.{get_or-append-add}
use Rattle.general.proofs.Tests.{by_order}
use Rattle.general.proofs.Table.{length-tabulate, entry_at}
use Rattle.consensus.specs.Instance.{Instance}
use Rattle.coordinator.specs.Run.{run_of}
use Rattle.coordinator.specs.Reason.{reason_of, reasons_in, reasons_to, reasons_of}
use Rattle.coordinator.specs.WellFormed.{WellFormed}
use Rattle.coordinator_laws.proofs.Counts.{counts_fit}
use Rattle.answers.specs.Reason.{reasons_size}

pub length-row : (x : Instance) (r : ℕ) → length (reasons_in x r) ≡ x.processes
unfolding reasons_in
length-row x r = length-tabulate (λ k. reason_of x (suc k) r) x.processes

pub length-rows : (x : Instance) (r : ℕ) → length (reasons_to x r) ≡ r * x.processes
unfolding reasons_to
length-rows x zero = omega arith
length-rows x (suc r) =
    length-append (reasons_to x r) (reasons_in x (suc r)) ∙ ap₂ (λ (a b : ℕ). a + b) (length-rows x r) (length-row x (suc r)) ∙ omega arith

pub length-reasons : (x : Instance) → length (reasons_of x) ≡ reasons_size x
unfolding reasons_of reasons_size
length-reasons x = length-rows x (run_of x).rounds

-- At least one, and at most 64 for each of 64 processes.
pub reasons_fit : (x : Instance) → WellFormed x → (1 ≤ reasons_size x) × (reasons_size x ≤ 4096)
unfolding reasons_size
reasons_fit x formed =
    let fits = counts_fit x formed in
    let least : 1 * 1 ≤ (run_of x).rounds * x.processes = mul-le-mul fits.some_round formed.some_process in
    let most : (run_of x).rounds * x.processes ≤ 64 * 64 = mul-le-mul fits.rounds formed.at_most_64 in
    (least, most)

-- The reason of process k + 1 in round q + 1 stands at place qn + k.
module _ (x : Instance) (q k : ℕ) (g : k < x.processes) where
  abbrev place : ℕ
  place = q * x.processes + k

  in_last : get_or (reasons_to x q ++ reasons_in x (suc q)) place 0 ≡ reason_of x (suc k) (suc q)
  unfolding reasons_in
  in_last =
      ap (λ (i : ℕ). get_or (reasons_to x q ++ reasons_in x (suc q)) (i + k) 0) (sym (length-rows x q))
      ∙ get_or-append-add (reasons_to x q) (reasons_in x (suc q)) k 0
      ∙ entry_at x.processes k 0 g (λ j. reason_of x (suc j) (suc q)) (reasons_in x (suc q)) refl

  row_below : (m : ℕ) → q < m → place < m * x.processes
  row_below m h =
      let next : suc q * x.processes ≤ m * x.processes = mul-le-mul_right x.processes h in
      let here : suc q * x.processes ≡ q * x.processes + x.processes = omega arith in
      omega arith

  rows_at : (m : ℕ) → q < m → get_or (reasons_to x m) place 0 ≡ reason_of x (suc k) (suc q)
  unfolding reasons_to
  rows_at zero h = absurd (let z : ⊥ = omega arith in z)
  rows_at (suc m) h =
      by_order m q (λ last. let same : m ≡ q = omega arith in rw same in_last)
      (λ below.
      let inside : place < length (reasons_to x m) = omega (arith, length-rows x m, row_below m below) in
      get_or-append (reasons_to x m) (reasons_in x (suc m)) 0 place inside ∙ rows_at m below)

-- The same by process and round, and that the place is one of them.
module _ (x : Instance) (p r : ℕ) (one : 1 ≤ p) (last : p ≤ x.processes) (first : 1 ≤ r) (known : r ≤ (run_of x).rounds) where
  pub reason_at_lem : get_or (reasons_of x) ((r - 1) * x.processes + (p - 1)) 0 ≡ reason_of x p r
  unfolding reasons_of
  reason_at_lem =
      let own : suc (p - 1) ≡ p = omega arith in
      let its : suc (r - 1) ≡ r = omega arith in
      rows_at x (r - 1) (p - 1) (omega arith) (run_of x).rounds (omega arith) ∙ ap₂ (reason_of x) own its

  pub reason_inside : (r - 1) * x.processes + (p - 1) < length (reasons_of x)
  unfolding reasons_size
  reason_inside = omega (arith, length-reasons x, row_below x (r - 1) (p - 1) (omega arith) (run_of x).rounds (omega arith))
