-- The state of a process part as nine lent bytes, and which states are valid (document 01, 'The desk part' and 'Refused calls', refusal 10).
use Rattle.std.specs.Prelude.{◌≡◌, List, ◌∷◌, ℕ, suc, ◌<◌, Bool, true, cond, not, ◌&&◌, eqb, ltb, leb, length, get_or, drop}
use Rattle.general.specs.BigEndian.{number, bytes_of}
use Rattle.consensus.specs.Instance.{within_limits}

-- The process (document 01: station), n, t, the round that it is in, its mark, its estimate or decided value.
pub record PartState : Type 0 where
  pub process : ℕ
  pub processes : ℕ
  pub resilience : ℕ
  pub round : ℕ
  pub mark : ℕ
  pub value : ℕ

-- The marks: up and undecided (open), decided, undecided after the last round (rounds over).
abbrev pub mark_open : ℕ
mark_open = 0

abbrev pub mark_decided : ℕ
mark_decided = 1

abbrev pub mark_over : ℕ
mark_over = 2

-- station, n, t, round, mark, value (4 bytes).
unfoldable pub state_bytes : PartState → List ℕ
state_bytes s = s.process ∷ s.processes ∷ s.resilience ∷ s.round ∷ s.mark ∷ bytes_of 4 s.value

unfoldable pub state_from : List ℕ → PartState
state_from b =
    record {
      process = get_or b 0 0;
      processes = get_or b 1 0;
      resilience = get_or b 2 0;
      round = get_or b 3 0;
      mark = get_or b 4 0;
      value = number (drop 5 b);
    }

-- n, t and the station within the limits.
unfoldable pub identity_valid : (p n t : ℕ) → Bool
identity_valid p n t = within_limits n t && leb 1 p && leb p n

-- Open or decided: a round from 1 to t + 1 that is not above the station. Rounds over: round = t + 1 < station.
unfoldable pub round_valid : (p t round mark : ℕ) → Bool
round_valid p t round mark =
    let last = suc t in
    cond (eqb mark mark_over) (eqb round last && ltb last p) (leb 1 round && leb round last && leb round p)

-- What is asked of every state, its value apart.
unfoldable pub fields_valid : (p n t round mark : ℕ) → Bool
fields_valid p n t round mark = identity_valid p n t && leb mark mark_over && round_valid p t round mark

unfoldable pub state_valid : PartState → Bool
state_valid s = fields_valid s.process s.processes s.resilience s.round s.mark

-- The refusal that speaking and closing share, 0 for none: 10, not nine bytes or not a valid state; 11, not open.
unfoldable pub state_refusal : List ℕ → ℕ
state_refusal b =
    cond (not (eqb (length b) 9 && state_valid (state_from b))) 10
    (cond (not (eqb (state_from b).mark mark_open)) 11 0)

-- Nine bytes of a valid state, whatever its mark.
pub record ValidBytes (b : List ℕ) : Type 0 where
  pub nine : length b ≡ 9
  pub bytes : (i : ℕ) → get_or b i 0 < 256
  pub valid : state_valid (state_from b) ≡ true

-- Whether the process coordinates the round that it is in.
unfoldable pub is_own_round : PartState → Bool
is_own_round s = eqb s.process s.round
