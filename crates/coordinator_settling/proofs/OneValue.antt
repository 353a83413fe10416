-- Whether processes hold one value, process by process: the value that is known, and what is left to compare with it. Assumes nothing.
use mathlib.Core.List.{List, [], ◌∷◌, ◌++◌}
use mathlib.Core.Path.{◌≡◌, refl, ap, ◌∙◌}
use mathlib.Core.Logic.{◌⊎◌, inl, inr}
use mathlib.Core.Bool.{true, false}
use Prim.Native.Nat.{ℕ, suc, ◌-◌, ◌≤◌, ◌<◌}
use native.Mathlib.Omega.{arith}
use borrow.Author.Tests.{eq-eqb, ne_eqb}
use lib.ListN.{length, get_or, drop, drop_of_length-le}
use lib.Seq.{drop-cons}
use Rattle.std.proofs.Common.{Option, Some, None}
use Rattle.std.specs.Option.{option_to_list, unwrap_or}
use Rattle.consensus.specs.State.{state_of}
use Rattle.consensus.specs.declared.State.{State}
use Rattle.consensus.specs.declared.State.TheVariants.{Undecided as undecided, Decided as decided, Crashed as crashed}
use Rattle.coordinator.specs.Settling.{values_held, all_are, one_value}
use Rattle.tables.specs.declared.run.RunTable.{RunTable}
use Rattle.tables.specs.code.RunOfTable.{states_in, state_by_end}
use Rattle.tables.proofs.Places.{length_states_over, state_at_place}

-- The values held by the processes of a table from process p on, whose state is s, and by those behind it.
module _ (run : RunTable) (fits : run.n ≤ length run.ends) (p : ℕ) (first : 1 ≤ p) (last : p ≤ run.n) (s : State)
    (its : s ≡ state_by_end (get_or run.ends (p - 1) 0) (get_or run.end_rounds (p - 1) 0) (get_or run.values (p - 1) 0)) where
  states_from : drop (p - 1) (states_in run) ≡ s ∷ drop p (states_in run)
  unfolding state_of
  states_from =
      let next : suc (p - 1) ≡ p = omega arith in
      let inside : p - 1 < length (states_in run) = omega (arith, length_states_over run.n run.ends run.end_rounds run.values fits) in
      drop-cons (states_in run) (p - 1) (crashed 0) inside
      ∙ rw (next, state_at_place run.n run.ends run.end_rounds run.values fits p first last, its) refl

  -- One that is not crashed holds its value.
  pub held_from : (own : ℕ) → s ≡ undecided own ⊎ (r : ℕ) × s ≡ decided r own
      → values_held (drop (p - 1) (states_in run)) ≡ own ∷ values_held (drop p (states_in run))
  unfolding values_held
  held_from own (inl e) = rw (states_from, e)
  held_from own (inr (r, e)) = rw (states_from, e)

  -- One that is crashed holds none.
  pub none_from : (r : ℕ) → s ≡ crashed r → values_held (drop (p - 1) (states_in run)) ≡ values_held (drop p (states_in run))
  unfolding values_held
  none_from r e = rw (states_from, e)

-- Behind the last process nothing is left to compare.
pub all_compared : (run : RunTable) → run.n ≤ length run.ends → (known : Option ℕ) (k : ℕ) → run.n ≤ k
    → one_value (option_to_list known ++ values_held (drop k (states_in run))) ≡ true
unfolding values_held one_value all_are
all_compared run fits known k beyond =
    let size : length (states_in run) ≤ k = omega (arith, length_states_over run.n run.ends run.end_rounds run.values fits) in
    rw (drop_of_length-le (states_in run) {i = k} size) (alone known)
  where
    alone : (known : Option ℕ) → one_value (option_to_list known ++ []) ≡ true
    alone None = refl
    alone (Some value) = refl

-- A value that is the one known, or the first, is the one to compare the rest with; another is not the one value.
module _ (own : ℕ) (rest : List ℕ) where
  pub known_next : (known : Option ℕ) → unwrap_or known own ≡ own → one_value (option_to_list known ++ own ∷ rest) ≡ one_value (own ∷ rest)
  unfolding one_value all_are
  known_next None same = refl
  known_next (Some value) same = ap (λ (v : ℕ). one_value (v ∷ own ∷ rest)) same ∙ rw (eq-eqb own own refl)

  pub other_known : (known : Option ℕ) → (unwrap_or known own ≡ own → ⊥) → one_value (option_to_list known ++ own ∷ rest) ≡ false
  unfolding one_value all_are
  other_known None other = absurd (other refl)
  other_known (Some value) other = rw (ne_eqb value own other)
