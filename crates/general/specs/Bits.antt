-- Sets of processes as the bits of a number: membership, size, members, the set of those that pass a test, and a list changed at the members' places
-- (document 01, 'The ticket': 'bit j − 1 stands for station j').
use Rattle.std.specs.Prelude.{List, [], ◌∷◌, ℕ, zero, suc, ◌+◌, ◌-◌, ◌*◌, ◌/◌, ◌%◌, ◌^◌, Bool, cond, eqb}
use lib.Count.{ones_in}
use Rattle.general.specs.Indexed.{map_from}

-- Process p is in the set: bit p - 1 is 1.
unfoldable pub member : (p set : ℕ) → Bool
member p set = eqb (set / 2 ^ (p - 1) % 2) 1

-- How many of the 64 bits are 1. (`lib.Count.ones`, the language's count, at a width that computes.)
unfoldable pub ones64 : ℕ → ℕ
ones64 set = ones_in 64 set

-- The members of a set among the processes 1 to p, highest first.
unfoldable pub members_to : (p set : ℕ) → List ℕ
members_to zero set = []
members_to (suc p) set =
    let lower = members_to p set in
    cond (member (suc p) set) (suc p ∷ lower) lower

-- The set of the processes from 1 to n that pass a test.
unfoldable pub set_of : (n : ℕ) → (ℕ → Bool) → ℕ
set_of zero test = 0
set_of (suc n) test = cond (test (suc n)) 1 0 * 2 ^ n + set_of n test

-- For the code alone: a list with x at the place of each member of a set; process p stands at place p - 1.
unfoldable pub filled : {A : Type 0} → (set : ℕ) → (x : A) → List A → List A
filled set x l = map_from (λ p y. cond (member p set) x y) 1 l
