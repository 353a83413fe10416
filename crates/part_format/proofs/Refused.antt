-- Refused calls change nothing (`refused_change_nothing`), and answers of speaking are told apart (`speak_answers_apart`). Assumes nothing.
use mathlib.Core.List.{List}
use mathlib.Core.Logic.{◌⊎◌, inl, inr}
use mathlib.Core.Option.{Option, some, none}
use mathlib.Core.Path.{◌≡◌, refl, sym}
use mathlib.Core.Bool.{Bool, true, false, cond, not, ◌&&◌}
use Prim.Native.Nat.{ℕ}
use native.Mathlib.Omega.{arith}
use lib.Dec.{eqb, ltb}
use lib.ListN.{length}
use borrow.Author.Tests.{ne_eqb}
use Rattle.coordinator.specs.Message.{Messages}
use Rattle.part_format.specs.PartState.{state_from, identity_valid, state_valid, state_refusal, mark_open}
use Rattle.part_format.specs.Frame.{heard_by}
use Rattle.part_format.specs.Start.{start_refusal, start_bytes}
use Rattle.part_format.specs.Speak.{spoken_by, speak_refusal, speak_yields, speak_answer, speak_output}
use Rattle.part_format.specs.Close.{close_refusal, close_state}
use Rattle.part_format.specs.Refused.{Refused, RefusedCallsChangeNothing, AnswersCount, AnswersRefusal, SpeakAnswersApart}
use Rattle.part_format.proofs.Operations.{spoken_length, close_refused_lem, close_no_form, close_closed}

-- k is one of three numbers.
abbrev Among : (k a b c : ℕ) → Type 0
Among k a b c = (k ≡ a) ⊎ ((k ≡ b) ⊎ (k ≡ c))

-- A refusal is not 0.
not_zero_lem : {k : ℕ} → Refused k → k ≡ 0 → ⊥
not_zero_lem h e = omega (arith, h)

-- ---- starting

start_number : (good : Bool) (k : ℕ) → k ≡ cond (not good) 10 0 → (k ≡ 0 → ⊥) → k ≡ 10
start_number true k e h = absurd (h e)
start_number false k e h = e

start_refused_lem : (p n t v : ℕ) (lent : List ℕ) → (start_refusal p n t lent ≡ 0 → ⊥) → (start_refusal p n t lent ≡ 10) × (start_bytes p n t v lent ≡ lent)
unfolding start_refusal start_bytes
start_refused_lem p n t v lent h =
    (start_number (identity_valid p n t && eqb (length lent) 9) _ refl h, simp (ne_eqb (start_refusal p n t lent) 0 h))

-- ---- the state

state_number : (b : List ℕ) → Among (state_refusal b) 10 11 0
unfolding state_refusal
state_number b = by_tests (not (eqb (length b) 9 && state_valid (state_from b))) (not (eqb (state_from b).mark mark_open))
  where
    by_tests : (invalid ended : Bool) → Among (cond invalid 10 (cond ended 11 0)) 10 11 0
    by_tests true ended = inl refl
    by_tests false true = inr (inl refl)
    by_tests false false = inr (inr refl)

-- ---- speaking

speak_number : (state : List ℕ) (room : ℕ) → (speak_refusal state room ≡ 0) ⊎ Among (speak_refusal state room) 10 11 9
unfolding speak_refusal
speak_number state room = by_state (state_number state) (ltb room (length (spoken_by (state_from state))))
  where
    number : Bool → ℕ
    number short = cond (not (eqb (state_refusal state) 0)) (state_refusal state) (cond short 9 0)

    by_state : Among (state_refusal state) 10 11 0 → (short : Bool) → (number short ≡ 0) ⊎ Among (number short) 10 11 9
    by_state (inl e) short = inr (inl (rw e))
    by_state (inr (inl e)) short = inr (inr (inl (rw e)))
    by_state (inr (inr e)) true = inr (inr (inr (rw e)))
    by_state (inr (inr e)) false = inl (rw e)

among_refused : (k : ℕ) → (k ≡ 0 → ⊥) → (k ≡ 0) ⊎ Among k 10 11 9 → Among k 10 11 9
among_refused k h (inl e) = absurd (h e)
among_refused k h (inr e) = e

pub speak_unchanged : (state output : List ℕ) → (speak_refusal state (length output) ≡ 0 → ⊥) → speak_output state output ≡ output
unfolding speak_output speak_yields
speak_unchanged state output h = simp (ne_eqb (speak_refusal state (length output)) 0 h)

-- The answer of a call that is refused is its refusal; of any other, the count of what is sent.
module _ (state : List ℕ) (room : ℕ) where
  answers_refusal : Among (speak_refusal state room) 10 11 9 → AnswersRefusal state room
  unfolding speak_answer
  answers_refusal (inl e) = record { refusal = rw e; least = rw e (omega arith); most = rw e (omega arith) }
  answers_refusal (inr (inl e)) = record { refusal = rw e; least = rw e (omega arith); most = rw e (omega arith) }
  answers_refusal (inr (inr e)) = record { refusal = rw e; least = rw e (omega arith); most = rw e (omega arith) }

  answers_count : speak_refusal state room ≡ 0 → AnswersCount state room
  unfolding speak_answer speak_yields
  answers_count e = record { accepted = e; count = rw e; size = rw e (spoken_length (state_from state)) }

-- ---- closing

close_number : (state heard : List ℕ) → (close_refusal state heard ≡ 0 → ⊥)
    → Among (close_refusal state heard) 10 11 12 × (close_state state heard ≡ state)
close_number state heard h = by_state (state_number state)
  where
    Claim : Type 0
    Claim = Among (close_refusal state heard) 10 11 12 × (close_state state heard ≡ state)

    by_heard : state_refusal state ≡ 0 → (m : Option Messages) → m ≡ heard_by (state_from state) heard → Claim
    by_heard o none e = let c = close_no_form state heard o e in (inr (inr (sym c.0)), sym c.1)
    by_heard o (some m) e = absurd (h (sym (close_closed state heard o _ m e refl).0))

    by_state : Among (state_refusal state) 10 11 0 → Claim
    by_state (inl e) = let c = close_refused_lem state heard 10 (sym e) (λ z. omega arith) in (inl (sym c.0), sym c.1)
    by_state (inr (inl e)) = let c = close_refused_lem state heard 11 (sym e) (λ z. omega arith) in (inr (inl (sym c.0)), sym c.1)
    by_state (inr (inr e)) = by_heard e (heard_by (state_from state) heard) refl

-- ---- the claims

pub refused_change_nothing : RefusedCallsChangeNothing
refused_change_nothing =
    record {
      starting = λ p n t v lent h. start_refused_lem p n t v lent (not_zero_lem h);
      speaking = λ state output h. (among_refused _ (not_zero_lem h) (speak_number state (length output)), speak_unchanged state output (not_zero_lem h));
      closing = λ state heard h. close_number state heard (not_zero_lem h);
    }

pub speak_answers_apart : SpeakAnswersApart
unfolding SpeakAnswersApart
speak_answers_apart state room = by_number (speak_number state room)
  where
    by_number : (speak_refusal state room ≡ 0) ⊎ Among (speak_refusal state room) 10 11 9 → AnswersCount state room ⊎ AnswersRefusal state room
    by_number (inl e) = inl (answers_count state room e)
    by_number (inr e) = inr (answers_refusal state room e)
