-- Laws of lists that the kit lacks: inside a list a default does not matter, one element repeated, and four numbers from a place on. Assumes nothing.
use mathlib.Core.List.{List, [], ◌∷◌}
use mathlib.Core.Path.{◌≡◌, refl, ap}
use Prim.Native.Nat.{ℕ, zero, suc, ◌+◌, ◌≤◌, ◌<◌}
use native.Mathlib.Omega.{arith}
use lib.ListN.{length, get_or, take, drop, replicate}
use lib.Seq.{drop-cons}

-- Inside a list, what `get_or` would give outside it does not matter.
pub get_d_inside : {A : Type 0} (l : List A) (k : ℕ) (a b : A) → k < length l → get_or l k a ≡ get_or l k b
get_d_inside [] k a b h = absurd (let z : ⊥ = omega arith in z)
get_d_inside (c ∷ l) zero a b h = refl
get_d_inside (c ∷ l) (suc k) a b h = get_d_inside l k a b (omega arith)

module _ {A : Type 0} where
  -- Where the default is the element repeated, it does not matter where one looks.
  pub get_d_repeated : (n k : ℕ) (a : A) → get_or (replicate n a) k a ≡ a
  get_d_repeated zero k a = refl
  get_d_repeated (suc n) zero a = refl
  get_d_repeated (suc n) (suc k) a = get_d_repeated n k a

  pub take-replicate : (n m : ℕ) (a : A) → n ≤ m → take n (replicate m a) ≡ replicate n a
  take-replicate zero m a h = refl
  take-replicate (suc n) zero a h = absurd (let z : ⊥ = omega arith in z)
  take-replicate (suc n) (suc m) a h = ap (λ (l : List A). a ∷ l) (take-replicate n m a (omega arith))

-- Four numbers from a place on.
drop-next : (b : List ℕ) (at next : ℕ) → at < length b → next ≡ suc at → drop at b ≡ get_or b at 0 ∷ drop next b
drop-next b at next h e = rw (e, drop-cons b at 0)

pub four_bytes_lem : (b : List ℕ) (at : ℕ) → at + 4 ≤ length b
    → take 4 (drop at b) ≡ get_or b at 0 ∷ get_or b (at + 1) 0 ∷ get_or b (at + 2) 0 ∷ get_or b (at + 3) 0 ∷ []
four_bytes_lem b at h =
    rw (
      drop-next b at (at + 1) (omega arith) (omega arith),
      drop-next b (at + 1) (at + 2) (omega arith) (omega arith),
      drop-next b (at + 2) (at + 3) (omega arith) (omega arith),
      drop-next b (at + 3) (at + 4) (omega arith) (omega arith),
    )
