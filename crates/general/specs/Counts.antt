-- Counts by process: what one process has, one of them raised, and the sum over processes (document 02, Paper 2: "The counts over all stations add up").
use Rattle.std.specs.Prelude.{List, ℕ, zero, suc, ◌+◌, ◌-◌, cond, eqb, get_or}
use Rattle.general.specs.Indexed.{map_from}

-- The count of process p, at place p - 1.
unfoldable pub count_of : (counts : List ℕ) → (p : ℕ) → ℕ
count_of counts p = get_or counts (p - 1) 0

-- The counts with d more for process p.
unfoldable pub add_at : (p d : ℕ) → List ℕ → List ℕ
add_at p d counts = map_from (λ q count. cond (eqb q p) (count + d) count) 1 counts

-- The sum of what a function gives for 1 to n.
unfoldable pub sum_to : (ℕ → ℕ) → (n : ℕ) → ℕ
sum_to f zero = 0
sum_to f (suc n) = sum_to f n + f (suc n)
