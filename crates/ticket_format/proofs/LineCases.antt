-- What a line may say where it stands, by cases, with the tests that it passed: what the other proofs know of `header_says` and `line_says`. Assumes nothing.
use mathlib.Core.List.{List}
use mathlib.Core.Path.{◌≡◌, refl}
use mathlib.Core.Bool.{Bool, true, false, cond, not}
use Prim.Native.Nat.{ℕ, suc, ◌≤◌, ◌<◌}
use borrow.Author.Tests.{eqb-true, eqb-false, leb-true, leb-false}
use lib.Dec.{eqb, leb}
use lib.ListN.{get_or, drop}
use Rattle.general.specs.BigEndian.{number}
use Rattle.consensus.specs.Instance.{within_limits}
use Rattle.ticket_format.specs.FailureLine.{places_crash, suits_step}
use Rattle.ticket_format.specs.Says.{is_kind, header_says, after_proposal, proposal_says, failure_line, crash_says, failure_says, line_says}
use Rattle.ticket_format.specs.declared.Place.{Place}
use Rattle.ticket_format.specs.declared.Place.TheVariants.{Proposals, Failures, Ended}
use Rattle.ticket_format.specs.LineAnswer.{HeaderAnswer}
use Rattle.ticket_format.specs.LineAnswer.{LineAnswer}
use Rattle.ticket_format.specs.LineAnswer.LineAnswer.{Proposal, Crash, End, Refused}

-- The tests that a refused header fails and passes.
pub data HeaderWrong (b : List ℕ) : (refusal : ℕ) → Type 0 where
  no_header : is_kind 1 3 b ≡ false → HeaderWrong b 3
  outside_limits : is_kind 1 3 b ≡ true → within_limits (get_or b 1 0) (get_or b 2 0) ≡ false → HeaderWrong b 4

-- The answers to a header.
pub data HeaderCase (b : List ℕ) : HeaderAnswer → Type 0 where
  limits_said : is_kind 1 3 b ≡ true → within_limits (get_or b 1 0) (get_or b 2 0) ≡ true → HeaderCase b (HeaderAnswer.Limits (get_or b 1 0) (get_or b 2 0))
  header_refused : (refusal : ℕ) → HeaderWrong b refusal → HeaderCase b (HeaderAnswer.Refused refusal)

pub header_case : (b : List ℕ) → HeaderCase b (header_says b)
unfolding header_says
header_case b = by_kind (is_kind 1 3 b) refl
  where
    by_limits : is_kind 1 3 b ≡ true → (within : Bool) → within_limits (get_or b 1 0) (get_or b 2 0) ≡ within
        → HeaderCase b (cond (not within) (HeaderAnswer.Refused 4) (HeaderAnswer.Limits (get_or b 1 0) (get_or b 2 0)))
    by_limits kind true e = limits_said kind e
    by_limits kind false e = header_refused 4 (outside_limits kind e)

    by_kind : (kind : Bool) → is_kind 1 3 b ≡ kind → HeaderCase b (cond (not kind) (HeaderAnswer.Refused 3)
        (cond (not (within_limits (get_or b 1 0) (get_or b 2 0))) (HeaderAnswer.Refused 4) (HeaderAnswer.Limits (get_or b 1 0) (get_or b 2 0))))
    by_kind true e = by_limits e (within_limits (get_or b 1 0) (get_or b 2 0)) refl
    by_kind false e = header_refused 3 (no_header e)

-- A failure line that refusals 3 and 6 to 8 let pass.
pub record CrashPasses (n t lines last : ℕ) (b : List ℕ) : Type 0 where
  pub kind : is_kind 3 13 b ≡ true
  pub few : lines < t
  pub placed : places_crash n t last (failure_line b) ≡ true
  pub suits : suits_step n (failure_line b) ≡ true

-- The tests that a refused line behind the header fails and passes.
pub data LineWrong (n t : ℕ) (b : List ℕ) : Place → (refusal : ℕ) → Type 0 where
  no_proposal : {count : ℕ} → is_kind 2 6 b ≡ false → LineWrong n t b (Proposals count) 3
  other_station : {count : ℕ} → is_kind 2 6 b ≡ true → (get_or b 1 0 ≡ suc count → ⊥) → LineWrong n t b (Proposals count) 5
  no_failure_or_end : {lines last : ℕ} → is_kind 4 1 b ≡ false → is_kind 3 13 b ≡ false → LineWrong n t b (Failures lines last) 3
  failures_over : {lines last : ℕ} → is_kind 3 13 b ≡ true → t ≤ lines → LineWrong n t b (Failures lines last) 6
  misplaced : {lines last : ℕ} → is_kind 3 13 b ≡ true → lines < t → places_crash n t last (failure_line b) ≡ false → LineWrong n t b (Failures lines last) 7
  unsuited : {lines last : ℕ} → is_kind 3 13 b ≡ true → lines < t → places_crash n t last (failure_line b) ≡ true → suits_step n (failure_line b) ≡ false
      → LineWrong n t b (Failures lines last) 8
  after_end : LineWrong n t b Ended 3

-- The answers to a line behind the header.
pub data LineCase (n t : ℕ) (b : List ℕ) : Place → LineAnswer → Type 0 where
  proposal_said : {count : ℕ} → is_kind 2 6 b ≡ true → get_or b 1 0 ≡ suc count
      → LineCase n t b (Proposals count) (Proposal count (number (drop 2 b)) (after_proposal n count))
  crash_said : {lines last : ℕ} → CrashPasses n t lines last b → LineCase n t b (Failures lines last) (Crash (suc lines) (failure_line b))
  end_said : {lines last : ℕ} → is_kind 4 1 b ≡ true → LineCase n t b (Failures lines last) End
  line_refused : {place : Place} (refusal : ℕ) → LineWrong n t b place refusal → LineCase n t b place (Refused refusal)

module _ (n t : ℕ) (b : List ℕ) where
  proposal_case : (count : ℕ) → LineCase n t b (Proposals count) (proposal_says n count b)
  unfolding proposal_says
  proposal_case count = by_kind (is_kind 2 6 b) refl
    where
      by_station : is_kind 2 6 b ≡ true → (next : Bool) → eqb (get_or b 1 0) (suc count) ≡ next
          → LineCase n t b (Proposals count) (cond (not next) (Refused 5) (Proposal count (number (drop 2 b)) (after_proposal n count)))
      by_station kind true e = proposal_said kind (eqb-true _ _ e)
      by_station kind false e = line_refused 5 (other_station kind (eqb-false _ _ e))

      by_kind : (kind : Bool) → is_kind 2 6 b ≡ kind → LineCase n t b (Proposals count) (cond (not kind) (Refused 3)
          (cond (not (eqb (get_or b 1 0) (suc count))) (Refused 5) (Proposal count (number (drop 2 b)) (after_proposal n count))))
      by_kind true e = by_station e (eqb (get_or b 1 0) (suc count)) refl
      by_kind false e = line_refused 3 (no_proposal e)

  crash_case : (lines last : ℕ) → is_kind 3 13 b ≡ true → LineCase n t b (Failures lines last) (crash_says n t lines last (failure_line b))
  unfolding crash_says
  crash_case lines last kind = by_count (leb t lines) refl
    where
      by_step : lines < t → places_crash n t last (failure_line b) ≡ true → (suits : Bool) → suits_step n (failure_line b) ≡ suits
          → LineCase n t b (Failures lines last) (cond (not suits) (Refused 8) (Crash (suc lines) (failure_line b)))
      by_step few placed true e = crash_said (record { kind = kind; few = few; placed = placed; suits = e })
      by_step few placed false e = line_refused 8 (unsuited kind few placed e)

      by_place : lines < t → (placed : Bool) → places_crash n t last (failure_line b) ≡ placed
          → LineCase n t b (Failures lines last) (cond (not placed) (Refused 7)
          (cond (not (suits_step n (failure_line b))) (Refused 8) (Crash (suc lines) (failure_line b))))
      by_place few true e = by_step few e (suits_step n (failure_line b)) refl
      by_place few false e = line_refused 7 (misplaced kind few e)

      by_count : (many : Bool) → leb t lines ≡ many → LineCase n t b (Failures lines last) (cond many (Refused 6)
          (cond (not (places_crash n t last (failure_line b))) (Refused 7)
          (cond (not (suits_step n (failure_line b))) (Refused 8) (Crash (suc lines) (failure_line b)))))
      by_count true e = line_refused 6 (failures_over kind (leb-true _ _ e))
      by_count false e = by_place (leb-false _ _ e) (places_crash n t last (failure_line b)) refl

  failure_case : (lines last : ℕ) → LineCase n t b (Failures lines last) (failure_says n t lines last b)
  unfolding failure_says
  failure_case lines last = by_end (is_kind 4 1 b) refl
    where
      by_kind : is_kind 4 1 b ≡ false → (kind : Bool) → is_kind 3 13 b ≡ kind
          → LineCase n t b (Failures lines last) (cond (not kind) (Refused 3) (crash_says n t lines last (failure_line b)))
      by_kind no_end true e = crash_case lines last e
      by_kind no_end false e = line_refused 3 (no_failure_or_end no_end e)

      by_end : (end : Bool) → is_kind 4 1 b ≡ end
          → LineCase n t b (Failures lines last) (cond end End (cond (not (is_kind 3 13 b)) (Refused 3) (crash_says n t lines last (failure_line b))))
      by_end true e = end_said e
      by_end false e = by_kind e (is_kind 3 13 b) refl

  pub line_case : (place : Place) → LineCase n t b place (line_says n t place b)
  unfolding line_says
  line_case (Proposals count) = proposal_case count
  line_case (Failures lines last) = failure_case lines last
  line_case Ended = line_refused 3 after_end
