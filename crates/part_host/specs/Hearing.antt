-- The frames that the failure pattern lets through (document 00, demand 2), made from what the parts themselves yield when they speak.
use Rattle.std.specs.Prelude.{List, [], ◌∷◌, ◌++◌, ℕ, suc, cond, ltb, take}
use Rattle.coordinator.specs.Message.{Reach, none, data_only, all}
use Rattle.consensus.specs.Instance.{Instance, fault_of}
use Rattle.coordinator.specs.Delivery.{reach_in}
use Rattle.part_host.specs.Part.{Part, yielded}

-- How many bytes pass: no frame, the data frame, or both frames.
unfoldable pub bytes_reaching : Reach → ℕ
bytes_reaching none = 0
bytes_reaching data_only = 6
bytes_reaching all = 8

-- How far what process q sends in round r gets to process p: as far as q's own fault lets it, and only to processes above q.
unfoldable pub reach_from : Instance → (r q p : ℕ) → Reach
reach_from x r q p = cond (ltb q p) (reach_in x.processes (fault_of x q) r p) none

-- What is let through to process p of what process q yields in round r. (Only the coordinator, process r, yields anything, which is proved.)
unfoldable pub let_through : Instance → (r q p : ℕ) → List ℕ → List ℕ
let_through x r q p frames = take (bytes_reaching (reach_from x r q p)) frames

-- What process p hears in round r from the parts of processes q, q + 1 and so on, in this order.
unfoldable pub heard_from : Instance → (r p q : ℕ) → List Part → List ℕ
heard_from x r p q [] = []
heard_from x r p q (part ∷ parts) = let_through x r q p (yielded part) ++ heard_from x r p (suc q) parts

-- What it hears from all of them.
unfoldable pub heard : Instance → (r p : ℕ) → List Part → List ℕ
heard x r p parts = heard_from x r p 1 parts
