-- What a state says that passes the checks, and which fields pass them. Assumes nothing.
use mathlib.Core.Path.{◌≡◌, refl}
use mathlib.Core.Bool.{Bool, true, false, ◌&&◌}
use Prim.Native.Nat.{ℕ, suc, ◌≤◌, ◌<◌}
use native.Mathlib.Omega.{arith}
use lib.Dec.{eqb, leb, ltb}
use borrow.Author.Tests.{leb-true, eqb-true, eqb-false, le-leb, lt-ltb, eq-eqb, ne_eqb}
use Rattle.general.proofs.Tests.{both}
use Rattle.consensus.specs.Instance.{within_limits}
use Rattle.consensus.proofs.Limits.{limits_hold, limits_pass}
use Rattle.part_format.specs.PartState.{identity_valid, round_valid, fields_valid}

-- Within the limits every number is a byte.
pub record Identity (p n t : ℕ) : Type 0 where
  pub process : 1 ≤ p
  pub within : p ≤ n
  pub processes : n ≤ 64
  pub resilience : t < n

pub identity_says : (p n t : ℕ) → identity_valid p n t ≡ true → Identity p n t
unfolding identity_valid
identity_says p n t e =
    let top = both (within_limits n t && leb 1 p) (leb p n) e in
    let next = both (within_limits n t) (leb 1 p) top.0 in
    let limits = limits_hold n t next.0 in
    record {
      process = leb-true 1 p next.1;
      within = leb-true p n top.1;
      processes = limits.at_most_64;
      resilience = limits.fewer_crashes;
    }

-- An open or decided state's round.
pub record Within (p t round : ℕ) : Type 0 where
  pub first : 1 ≤ round
  pub last : round ≤ suc t
  pub own : round ≤ p

pub round_within : (p t round mark : ℕ) → (mark ≡ 2 → ⊥) → round_valid p t round mark ≡ true → Within p t round
unfolding round_valid
round_within p t round mark h e =
    let all = both (leb 1 round && leb round (suc t)) (leb round p) (rw (ne_eqb mark 2 h) at e) in
    let two = both (leb 1 round) (leb round (suc t)) all.0 in
    record { first = leb-true 1 round two.0; last = leb-true round (suc t) two.1; own = leb-true round p all.1 }

-- What the fields of a valid state say.
pub record Fields (p n t round mark : ℕ) : Type 0 where
  pub identity : Identity p n t
  pub known : mark ≤ 2
  pub last : round ≤ suc t
  pub round_valid_lem : round_valid p t round mark ≡ true

round_last : (over : Bool) (p t round mark : ℕ) → eqb mark 2 ≡ over → round_valid p t round mark ≡ true → round ≤ suc t
unfolding round_valid
round_last true p t round mark o e =
    let two = both (eqb round (suc t)) (ltb (suc t) p) (rw o at e) in
    let same : round ≡ suc t = eqb-true round (suc t) two.0 in
    omega arith
round_last false p t round mark o e = (round_within p t round mark (eqb-false mark 2 o) e).last

pub fields_say : (p n t round mark : ℕ) → fields_valid p n t round mark ≡ true → Fields p n t round mark
unfolding fields_valid
fields_say p n t round mark e =
    let all = both (identity_valid p n t && leb mark 2) (round_valid p t round mark) e in
    let two = both (identity_valid p n t) (leb mark 2) all.0 in
    record {
      identity = identity_says p n t two.0;
      known = leb-true mark 2 two.1;
      last = round_last (eqb mark 2) p t round mark refl all.1;
      round_valid_lem = all.1;
    }

-- Which fields pass.
pub identity_holds : {p n t : ℕ} → Identity p n t → identity_valid p n t ≡ true
unfolding identity_valid
identity_holds {p} {n} {t} i =
    let limits = limits_pass n t (record { some_process = omega arith; at_most_64 = i.processes; fewer_crashes = i.resilience }) in
    rw (limits, le-leb 1 p i.process, le-leb p n i.within)

-- Open or decided.
pub within_valid : {p n t round mark : ℕ} → Identity p n t → mark < 2 → Within p t round → fields_valid p n t round mark ≡ true
unfolding fields_valid round_valid
within_valid {p} {n} {t} {round} {mark} i m w =
    let other : eqb mark 2 ≡ false = ne_eqb mark 2 (λ e. omega arith) in
    let known : leb mark 2 ≡ true = le-leb mark 2 (omega arith) in
    rw (identity_holds i, known, other, le-leb 1 round w.first, le-leb round (suc t) w.last, le-leb round p w.own)

-- Rounds over.
pub over_valid : {p n t : ℕ} → Identity p n t → suc t < p → fields_valid p n t (suc t) 2 ≡ true
unfolding fields_valid round_valid
over_valid {p} {n} {t} i h = rw (identity_holds i, eq-eqb (suc t) (suc t) refl, lt-ltb (suc t) p h)
