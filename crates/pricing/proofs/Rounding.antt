-- `nearest` gives the nearest penny, halves up, and no other number is that; what is added to a direct cost is rounded so. Assumes nothing.
use mathlib.Core.Path.{◌≡◌, refl}
use Prim.Native.Nat.{ℕ, ◌*◌, ◌≤◌}
use native.Mathlib.Omega.{arith}
use Rattle.pricing.specs.Price.{overhead_of, markup_of, nearest, with_rate, line_price}
use Rattle.pricing.specs.Rounding.{distance, NearestPenny, RoundedTwice, Rounding}

nearest_penny : (exact : ℕ) → NearestPenny exact (nearest exact)
unfolding distance nearest
nearest_penny exact = record { none_nearer = λ other. omega arith; halves_up = λ other e. omega arith }

-- Two that are nearest are equally near, so that neither is the higher.
only_nearest : (exact pence : ℕ) → NearestPenny exact pence → pence ≡ nearest exact
only_nearest exact pence near =
    let known = nearest_penny exact in
    let low = near.none_nearer (nearest exact) in
    let high = known.none_nearer pence in
    let same : distance exact (nearest exact) ≡ distance exact pence = omega arith in
    let below : nearest exact ≤ pence = near.halves_up (nearest exact) same in
    let above : pence ≤ nearest exact = known.halves_up pence (omega arith) in
    omega arith

rounded_twice : (value cost : ℕ) → RoundedTwice value cost
unfolding line_price with_rate
rounded_twice value cost =
    record {
      overhead = nearest (cost * overhead_of value);
      markup = nearest (with_rate cost (overhead_of value) * markup_of value);
      overhead_rounded = nearest_penny (cost * overhead_of value);
      markup_rounded = nearest_penny (with_rate cost (overhead_of value) * markup_of value);
      price = refl;
    }

pub rounding : Rounding
rounding = record { given = nearest_penny; only = only_nearest; lines = rounded_twice }
