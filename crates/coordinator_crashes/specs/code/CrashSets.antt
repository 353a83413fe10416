-- For the code alone: the processes by their crash rounds, as it keeps them for all rounds at once.
use Rattle.std.specs.Prelude.{List, ◌≡◌, ℕ, ◌-◌, ◌≤◌, get_or}
use Rattle.general.specs.Bits.{set_of}
use Rattle.consensus.specs.State.{crashes_in}
use Rattle.consensus.specs.declared.Fault.{Fault}
use Rattle.consensus.specs.declared.Fault.TheVariants.{Correct as correct}

-- At place r - 1 stands the set of the processes, of n, whose fault is a crash in round r.
abbrev pub CrashSets : ℕ → (pattern : List Fault) → (sets : List ℕ) → Type 0
CrashSets n pattern sets = (r : ℕ) → 1 ≤ r → r ≤ 64 → get_or sets (r - 1) 0 ≡ set_of n (λ p. crashes_in r (get_or pattern (p - 1) correct))
