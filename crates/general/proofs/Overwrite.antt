-- A list that is overwritten, from the front or from a place on: what has been written, followed by what stood there before. Assumes nothing.
use mathlib.Core.List.{List, [], ◌∷◌, ◌++◌, append-nil, append_assoc}
use mathlib.Core.Path.{◌≡◌, sym, ap, ap₂, ◌∙◌}
use Prim.Native.Nat.{ℕ, suc, ◌+◌, ◌-◌, ◌≤◌, ◌<◌}
use native.Mathlib.Omega.{arith}
use native.Mathlib.Nat.{zero-add}
use borrow.Rule.Slice.PartMut.{mid_of, post_of, put_mid}
use lib.ListN.{length, set, take, drop, get_or, length-append, drop_of_length-le}
use lib.Seq.{drop-cons, set_at, sets, sets-eq, length-sets, append_snoc, take_at, drop_at, take_all, length-take-le, drop-drop}

-- One element more.
pub set_seam : {A : Type 0} (written before : List A) (m : ℕ) (a : A) → length written ≡ m → m < length before
    → set (written ++ drop m before) m a ≡ written ++ (a ∷ []) ++ drop (suc m) before
set_seam written before m a h g =
    ap (λ (l : List _). set (written ++ l) m a) (drop-cons before m a g)
    ∙ set_at written (get_or before m a) (drop (suc m) before) a m h
    ∙ sym (append_snoc written a (drop (suc m) before))

-- A part lent from place m on comes back with `line` at its front: one line more.
module _ {A : Type 0} (done line before : List A) (m w : ℕ) (at-m : length done ≡ m) (wide-w : length line ≡ w) (fits : m + w ≤ length before) where
  abbrev out : List A
  out = done ++ drop m before

  rest_is : drop m out ≡ drop m before
  rest_is = drop_at done (drop m before) m at-m

  lent : mid_of m (length out - m) out ≡ drop m before
  lent = ap (take (length out - m)) rest_is ∙ take_all (length out - m) (drop m before) (omega (arith, length-append done (drop m before)))

  past : post_of m (length out - m) out ≡ []
  past = ap (drop (length out - m)) rest_is ∙ drop_of_length-le (drop m before) {i = length out - m} (omega (arith, length-append done (drop m before)))

  pub put_part : put_mid m (length out - m) out (line ++ drop w (mid_of m (length out - m) out)) ≡ done ++ line ++ drop (m + w) before
  put_part =
      ap₂ (λ (l r : List A). l ++ (line ++ drop w r ++ post_of m (length out - m) out)) (take_at done (drop m before) m at-m) lent
      ∙ ap₂ (λ (l r : List A). done ++ (line ++ l ++ r)) (drop-drop w m before) past
      ∙ ap (λ (l : List A). done ++ l) (append-nil (line ++ drop (m + w) before))
      ∙ sym (append_assoc done line (drop (m + w) before))

-- Stores from the front leave the stored elements, and what followed them.
pub stored : (vs l : List ℕ) → length vs ≤ length l → sets l 0 vs ≡ vs ++ drop (length vs) l
stored vs l h =
    let fits : 0 + length vs ≤ length l = omega arith in
    rw (sets-eq vs l 0 fits, zero-add)

-- Where the stores from place i on reach the end, and those from the front reach place i, they alone are left.
pub back_then_front : (front back l : List ℕ) (i : ℕ) → length front ≡ i → length l ≡ i + length back → sets (sets l i back) 0 front ≡ front ++ back
back_then_front front back l i e h =
    let fits : i + length back ≤ length l = omega arith in
    let over : length l ≤ i + length back = omega arith in
    let whole : sets l i back ≡ take i l ++ back = sets-eq back l i fits ∙ rw (drop_of_length-le l over, append-nil) in
    let room : length front ≤ length (sets l i back) = omega (arith, length-sets l i back) in
    stored front (sets l i back) room ∙ rw (whole, e, drop_at (take i l) back i (length-take-le i l (omega arith)))

-- Four stores at the places that the code has.
pub four_stored : (l : List ℕ) (at w x y z : ℕ) → set (set (set (set l at w) (at + 1) x) (at + 2) y) (at + 3) z ≡ sets l at (w ∷ x ∷ y ∷ z ∷ [])
four_stored l at w x y z =
    let e1 : at + 1 ≡ suc at = omega arith in
    let e2 : at + 2 ≡ suc (suc at) = omega arith in
    let e3 : at + 3 ≡ suc (suc (suc at)) = omega arith in
    rw (e1, e2, e3)
