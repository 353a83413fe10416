-- Processes up and undecided (document 01, 'A round': 'The run ends when no station is both up and undecided').
use Rattle.std.specs.Prelude.{List, [], ◌∷◌, Bool, true, false, ◌||◌, ℕ}
use Rattle.general.specs.Bits.{set_of}
use Rattle.consensus.specs.State.{state_of}
use Rattle.consensus.specs.declared.State.{State}
use Rattle.consensus.specs.declared.State.TheVariants.{Undecided as undecided, Decided as decided, Crashed as crashed}

-- Whether a process in this state is both up and undecided.
unfoldable pub is_undecided : State → Bool
is_undecided (undecided v) = true
is_undecided (decided round v) = false
is_undecided (crashed round) = false

-- Whether some process is.
unfoldable pub any_undecided : List State → Bool
any_undecided [] = false
any_undecided (s ∷ states) = is_undecided s || any_undecided states

-- The set of those that are, of n.
abbrev pub undecided_among : (n : ℕ) → List State → ℕ
undecided_among n states = set_of n (λ p. is_undecided (state_of states p))
