-- Each line of a ticket is judged in document 01's words: where nothing applies to it the reading goes on, else it gets the first refusal that applies.
-- Assumes nothing.
use mathlib.Core.List.{List, [], ◌∷◌, ◌++◌}
use mathlib.Core.Path.{◌≡◌, refl, sym, ap, ◌∙◌}
use mathlib.Core.Bool.{Bool, true, false, cond}
use Prim.Native.Nat.{ℕ, suc, ◌+◌, ◌-◌, ◌≤◌, ◌<◌}
use native.Mathlib.Omega.{arith}
use borrow.Author.Tests.{eqb-true, eqb-false}
use lib.Dec.{eqb}
use lib.ListN.{length, get_or, length-append}
use lib.Seq.{get_or_at}
use Rattle.general.proofs.Tests.{true_false}
use Rattle.consensus.specs.Instance.{Instance}
use Rattle.consensus.specs.Limits.{Limits}
use Rattle.consensus.proofs.Limits.{limits_hold, limits_pass}
use Rattle.ticket_format.specs.LineVerdict.{LineVerdict, next, refuse}
use Rattle.ticket_format.specs.FailureLine.{places_crash, suits_step}
use Rattle.ticket_format.specs.Says.{is_kind, header_says, after_proposal, failure_line}
use Rattle.ticket_format.specs.Accept.{Stage, header, body, unproposed, with_proposal, with_crash, begin, store, accept}
use Rattle.ticket_format.specs.declared.Place.{Place}
use Rattle.ticket_format.specs.declared.Place.TheVariants.{Proposals, Failures, Ended}
use Rattle.ticket_format.specs.LineAnswer.{HeaderAnswer}
use Rattle.ticket_format.specs.LineAnswer.{LineAnswer}
use Rattle.ticket_laws.specs.FirstWrong.{kind_in, station_in, n_in, t_in, last_of, AllowedHere, header_first, proposal_next, failure_next, end_next}
use Rattle.ticket_laws.specs.FirstWrong.{InPlace, Suited, Applies, not_here, outside, not_next, too_many, not_in_place, not_suited, FirstApplies}
use Rattle.ticket_format.proofs.LineCases.{HeaderWrong, no_header, outside_limits, HeaderCase, limits_said, header_refused, header_case, CrashPasses}
use Rattle.ticket_format.proofs.LineCases.{LineWrong, no_proposal, other_station, no_failure_or_end, failures_over, misplaced, unsuited, after_end}
use Rattle.ticket_format.proofs.LineCases.{LineCase, proposal_said, crash_said, end_said, line_refused, line_case}
use Rattle.ticket_laws.proofs.Wording.{is_kind_lem, no_kind, LastLine, no_failure, failure, not_over, in_place, not_in_place_lem, suited, not_suited_lem}

-- The first line says the n and the t of the instance.
pub record Opens (before : List (List ℕ)) (x : Instance) : Type 0 where
  pub n_said : n_in before ≡ x.processes
  pub t_said : t_in before ≡ x.resilience

-- What the lines before a stage are: the header and `count` proposals, of which some are missing; all of them and `lines` failure lines; all and the 04.
pub record AtProposals (before : List (List ℕ)) (count : ℕ) (x : Instance) : Type 0 where
  pub opens : Opens before x
  pub counted : length before ≡ suc count
  pub missing : count < x.processes
  pub going_on : kind_in (last_of before) ≡ 4 → ⊥

pub record AtFailures (before : List (List ℕ)) (lines last : ℕ) (x : Instance) : Type 0 where
  pub opens : Opens before x
  pub counted : length before ≡ suc (x.processes + lines)
  pub behind : LastLine before last

pub record AtEnded (before : List (List ℕ)) (x : Instance) : Type 0 where
  pub opens : Opens before x
  pub past : x.processes < length before
  pub over : kind_in (last_of before) ≡ 4

unfoldable pub Behind : (before : List (List ℕ)) → Stage → Type 0
Behind before header = length before ≡ 0
Behind before (body (Proposals count) x) = AtProposals before count x
Behind before (body (Failures lines last) x) = AtFailures before lines last x
Behind before (body Ended x) = AtEnded before x

-- What is made of a line behind them.
pub data Judged (before : List (List ℕ)) (b : List ℕ) : LineVerdict Stage → Type 0 where
  right : {u : Stage} → ((refusal : ℕ) → Applies before b refusal → ⊥) → Behind (before ++ (b ∷ [])) u → Judged before b (next u)
  wrong : {refusal : ℕ} → FirstApplies before b refusal → Judged before b (refuse refusal)

-- One line more.
module _ (before : List (List ℕ)) (b : List ℕ) where
  length_more : length (before ++ (b ∷ [])) ≡ suc (length before)
  length_more = length-append before (b ∷ []) ∙ omega arith

  last_more : last_of (before ++ (b ∷ [])) ≡ b
  unfolding last_of
  last_more =
      let place : length before ≡ length (before ++ (b ∷ [])) - 1 = omega (arith, length_more) in
      get_or_at before b [] [] (length (before ++ (b ∷ [])) - 1) place

last_kind : (before : List (List ℕ)) (b : List ℕ) → kind_in (last_of (before ++ (b ∷ []))) ≡ kind_in b
last_kind before b = ap kind_in (last_more before b)

first_more : (before : List (List ℕ)) (b : List ℕ) → 1 ≤ length before → get_or (before ++ (b ∷ [])) 0 [] ≡ get_or before 0 []
first_more [] b h = absurd (let z : ⊥ = omega (arith, h) in z)
first_more (a ∷ before) b h = refl

opens_more : (before : List (List ℕ)) (b : List ℕ) (x : Instance) → 1 ≤ length before → Opens before x → Opens (before ++ (b ∷ [])) x
unfolding n_in t_in
opens_more before b x h o = record { n_said = rw (first_more before b h) o.n_said; t_said = rw (first_more before b h) o.t_said }

-- A line that escapes every refusal below a number.
module _ (before : List (List ℕ)) (b : List ℕ) where
  pub record Escapes (below : ℕ) : Type 0 where
    pub here : 3 < below → AllowedHere before b
    pub within : 4 < below → kind_in b ≡ 1 → Limits (get_or b 1 0) (get_or b 2 0)
    pub in_turn : 5 < below → kind_in b ≡ 2 → station_in b ≡ length before
    pub few : 6 < below → kind_in b ≡ 3 → length before ≤ n_in before + t_in before
    pub placed : 7 < below → kind_in b ≡ 3 → InPlace before b
    pub suits : 8 < below → kind_in b ≡ 3 → Suited (n_in before) b

  none_below : (below : ℕ) → Escapes below → (other : ℕ) → other < below → Applies before b other → ⊥
  none_below below e other h (not_here never) = never (e.here h)
  none_below below e other h (outside k never) = never (e.within h k)
  none_below below e other h (not_next k never) = never (e.in_turn h k)
  none_below below e other h (too_many k many) = omega (arith, e.few h k, many)
  none_below below e other h (not_in_place k never) = never (e.placed h k)
  none_below below e other h (not_suited k never) = never (e.suits h k)

  applies_below_9 : (other : ℕ) → Applies before b other → other < 9
  applies_below_9 other (not_here never) = omega arith
  applies_below_9 other (outside k never) = omega arith
  applies_below_9 other (not_next k never) = omega arith
  applies_below_9 other (too_many k many) = omega arith
  applies_below_9 other (not_in_place k never) = omega arith
  applies_below_9 other (not_suited k never) = omega arith

  goes_on_lem : {u : Stage} → Escapes 9 → Behind (before ++ (b ∷ [])) u → Judged before b (next u)
  goes_on_lem e behind = right (λ refusal applies. none_below 9 e refusal (applies_below_9 refusal applies) applies) behind

  refused_with_lem : (refusal : ℕ) → Applies before b refusal → Escapes refusal → Judged before b (refuse refusal)
  refused_with_lem refusal applies e = wrong (record { applies = applies; first = none_below refusal e })

  -- Refusal 3 is the first that there is.
  refused_here : (AllowedHere before b → ⊥) → Judged before b (refuse 3)
  refused_here never =
      refused_with_lem 3 (not_here never)
      (record {
        here = λ h. absurd (let z : ⊥ = omega (arith, h) in z);
        within = λ h k. absurd (let z : ⊥ = omega (arith, h) in z);
        in_turn = λ h k. absurd (let z : ⊥ = omega (arith, h) in z);
        few = λ h k. absurd (let z : ⊥ = omega (arith, h) in z);
        placed = λ h k. absurd (let z : ⊥ = omega (arith, h) in z);
        suits = λ h k. absurd (let z : ⊥ = omega (arith, h) in z);
      })

  -- A line of kind 01, 02 or 04 has no more to escape than its kind's refusals.
  header_escapes : (below : ℕ) → kind_in b ≡ 1 → AllowedHere before b → (4 < below → Limits (get_or b 1 0) (get_or b 2 0)) → Escapes below
  header_escapes below kind allowed limits =
      record {
        here = λ h. allowed;
        within = λ h k. limits h;
        in_turn = λ h k. absurd (let z : ⊥ = omega (arith, kind, k) in z);
        few = λ h k. absurd (let z : ⊥ = omega (arith, kind, k) in z);
        placed = λ h k. absurd (let z : ⊥ = omega (arith, kind, k) in z);
        suits = λ h k. absurd (let z : ⊥ = omega (arith, kind, k) in z);
      }

  proposal_escapes : (below : ℕ) → kind_in b ≡ 2 → AllowedHere before b → (5 < below → station_in b ≡ length before) → Escapes below
  proposal_escapes below kind allowed turn =
      record {
        here = λ h. allowed;
        within = λ h k. absurd (let z : ⊥ = omega (arith, kind, k) in z);
        in_turn = λ h k. turn h;
        few = λ h k. absurd (let z : ⊥ = omega (arith, kind, k) in z);
        placed = λ h k. absurd (let z : ⊥ = omega (arith, kind, k) in z);
        suits = λ h k. absurd (let z : ⊥ = omega (arith, kind, k) in z);
      }

  end_escapes : kind_in b ≡ 4 → AllowedHere before b → Escapes 9
  end_escapes kind allowed =
      record {
        here = λ h. allowed;
        within = λ h k. absurd (let z : ⊥ = omega (arith, kind, k) in z);
        in_turn = λ h k. absurd (let z : ⊥ = omega (arith, kind, k) in z);
        few = λ h k. absurd (let z : ⊥ = omega (arith, kind, k) in z);
        placed = λ h k. absurd (let z : ⊥ = omega (arith, kind, k) in z);
        suits = λ h k. absurd (let z : ⊥ = omega (arith, kind, k) in z);
      }

  failure_escapes : (below : ℕ) → kind_in b ≡ 3 → AllowedHere before b → (6 < below → length before ≤ n_in before + t_in before)
      → (7 < below → InPlace before b) → (8 < below → Suited (n_in before) b) → Escapes below
  failure_escapes below kind allowed few placed suits =
      record {
        here = λ h. allowed;
        within = λ h k. absurd (let z : ⊥ = omega (arith, kind, k) in z);
        in_turn = λ h k. absurd (let z : ⊥ = omega (arith, kind, k) in z);
        few = λ h k. few h;
        placed = λ h k. placed h;
        suits = λ h k. suits h;
      }

-- The first line.
module _ (before : List (List ℕ)) (b : List ℕ) (none : length before ≡ 0) where
  allowed_first : AllowedHere before b → is_kind 1 3 b ≡ false → ⊥
  allowed_first (header_first e k l) never = no_kind 1 3 b never k l
  allowed_first (proposal_next some most k l) never = omega (arith, none, some)
  allowed_first (failure_next past open-yet k l) never = omega (arith, none, past)
  allowed_first (end_next past open-yet k l) never = omega (arith, none, past)

  opened : Opens (before ++ (b ∷ [])) (unproposed (get_or b 1 0) (get_or b 2 0))
  unfolding n_in t_in unproposed
  opened =
      let first : get_or (before ++ (b ∷ [])) 0 [] ≡ b = get_or_at before b [] [] 0 none in
      record { n_said = rw first refl; t_said = rw first refl }

  header_wrong : {refusal : ℕ} → HeaderWrong b refusal → Judged before b (refuse refusal)
  header_wrong (no_header e) = refused_here before b (λ allowed. allowed_first allowed e)
  header_wrong (outside_limits kind e) =
      let said = is_kind_lem 1 3 b kind in
      refused_with_lem before b 4 (outside said.0 (λ limits. true_false (sym (limits_pass _ _ limits) ∙ e)))
      (header_escapes before b 4 said.0 (header_first none said.0 said.1) (λ h. absurd (let z : ⊥ = omega (arith, h) in z)))

  pub judged_first : Judged before b (begin (header_says b))
  unfolding begin Behind unproposed
  judged_first = by_case (header_case b)
    where
      by_case : {a : HeaderAnswer} → HeaderCase b a → Judged before b (begin a)
      by_case (limits_said kind limits) =
          let said = is_kind_lem 1 3 b kind in
          let within = limits_hold _ _ limits in
          let one : length (before ++ (b ∷ [])) ≡ 1 = length_more before b ∙ omega (arith, none) in
          goes_on_lem before b (header_escapes before b 9 said.0 (header_first none said.0 said.1) (λ h. within))
          (record {
            opens = opened;
            counted = one;
            missing = omega (arith, within.some_process);
            going_on = λ four. omega (arith, last_kind before b, said.0, four);
          })
      by_case (header_refused refusal wrong-so) = header_wrong wrong-so

-- A line where the next proposal is due.
module _ (before : List (List ℕ)) (b : List ℕ) (count : ℕ) (x : Instance) (known : AtProposals before count x) where
  proposal_due : length before ≤ n_in before
  proposal_due = omega (arith, known.opens.n_said, known.counted, known.missing)

  allowed_proposal : AllowedHere before b → is_kind 2 6 b ≡ false → ⊥
  allowed_proposal (header_first e k l) never = omega (arith, known.counted, e)
  allowed_proposal (proposal_next some most k l) never = no_kind 2 6 b never k l
  allowed_proposal (failure_next past open-yet k l) never = omega (arith, past, proposal_due)
  allowed_proposal (end_next past open-yet k l) never = omega (arith, past, proposal_due)

  proposal_here : is_kind 2 6 b ≡ true → AllowedHere before b
  proposal_here kind = let said = is_kind_lem 2 6 b kind in proposal_next (omega (arith, known.counted)) proposal_due said.0 said.1

  proposal_behind : is_kind 2 6 b ≡ true → (v : ℕ) (whole : Bool) → eqb (suc count) x.processes ≡ whole
      → Behind (before ++ (b ∷ [])) (body (cond whole (Failures 0 0) (Proposals (suc count))) (with_proposal x v))
  unfolding with_proposal Behind
  proposal_behind kind v true e =
      let opens = opens_more before b x (omega (arith, known.counted)) known.opens in
      let all : suc count ≡ x.processes = eqb-true _ _ e in
      let two : kind_in (last_of (before ++ (b ∷ []))) ≡ 2 = last_kind before b ∙ (is_kind_lem 2 6 b kind).0 in
      record {
        opens = record { n_said = opens.n_said; t_said = opens.t_said };
        counted = length_more before b ∙ omega (arith, known.counted, all);
        behind = no_failure two refl;
      }
  proposal_behind kind v false e =
      let opens = opens_more before b x (omega (arith, known.counted)) known.opens in
      let more : suc count ≡ x.processes → ⊥ = eqb-false _ _ e in
      record {
        opens = record { n_said = opens.n_said; t_said = opens.t_said };
        counted = length_more before b ∙ omega (arith, known.counted);
        missing = omega (arith, known.missing, more);
        going_on = λ four. omega (arith, last_kind before b, (is_kind_lem 2 6 b kind).0, four);
      }

  proposal_right : is_kind 2 6 b ≡ true → get_or b 1 0 ≡ suc count → (v : ℕ)
      → Judged before b (next (body (after_proposal x.processes count) (with_proposal x v)))
  unfolding after_proposal station_in
  proposal_right kind station v =
      goes_on_lem before b (proposal_escapes before b 9 (is_kind_lem 2 6 b kind).0 (proposal_here kind) (λ h. station ∙ sym known.counted))
      (proposal_behind kind v (eqb (suc count) x.processes) refl)

  proposal_not_next : is_kind 2 6 b ≡ true → (get_or b 1 0 ≡ suc count → ⊥) → Judged before b (refuse 5)
  unfolding station_in
  proposal_not_next kind other =
      let said = is_kind_lem 2 6 b kind in
      refused_with_lem before b 5 (not_next said.0 (λ same. other (same ∙ known.counted)))
      (proposal_escapes before b 5 said.0 (proposal_here kind) (λ h. absurd (let z : ⊥ = omega (arith, h) in z)))

-- A line where failure lines or the end are due.
module _ (before : List (List ℕ)) (b : List ℕ) (lines last : ℕ) (x : Instance) (known : AtFailures before lines last x) where
  failure_due : n_in before < length before
  failure_due = omega (arith, known.opens.n_said, known.counted)

  still_open : kind_in (last_of before) ≡ 4 → ⊥
  still_open = not_over before last known.behind

  allowed_failure : AllowedHere before b → is_kind 4 1 b ≡ false → is_kind 3 13 b ≡ false → ⊥
  allowed_failure (header_first e k l) no_end never = omega (arith, known.counted, e)
  allowed_failure (proposal_next some most k l) no_end never = omega (arith, most, failure_due)
  allowed_failure (failure_next past open-yet k l) no_end never = no_kind 3 13 b never k l
  allowed_failure (end_next past open-yet k l) no_end never = no_kind 4 1 b no_end k l

  failure_here : is_kind 3 13 b ≡ true → AllowedHere before b
  failure_here kind = let said = is_kind_lem 3 13 b kind in failure_next failure_due still_open said.0 said.1

  -- So many failure lines that this one is not too many.
  few_lines : lines < x.resilience → length before ≤ n_in before + t_in before
  few_lines few = omega (arith, known.opens.n_said, known.opens.t_said, known.counted, few)

  well_placed : places_crash x.processes x.resilience last (failure_line b) ≡ true → InPlace before b
  well_placed e = in_place before b x.processes x.resilience last known.opens.n_said known.opens.t_said known.behind e

  well_suited : InPlace before b → suits_step x.processes (failure_line b) ≡ true → Suited (n_in before) b
  well_suited placed e =
      let inside : station_in b ≤ x.processes = omega (arith, placed.to_station_n, known.opens.n_said) in
      rw known.opens.n_said (suited x.processes b placed.to_step2 inside e)

  ill_suited : InPlace before b → suits_step x.processes (failure_line b) ≡ false → Suited (n_in before) b → ⊥
  ill_suited placed e suits =
      let inside : station_in b ≤ x.processes = omega (arith, placed.to_station_n, known.opens.n_said) in
      not_suited_lem x.processes b placed.to_step2 inside e (rw known.opens.n_said at suits)

  failure_many : is_kind 3 13 b ≡ true → x.resilience ≤ lines → Judged before b (refuse 6)
  failure_many kind many =
      let three = (is_kind_lem 3 13 b kind).0 in
      let past : n_in before + t_in before < length before = omega (arith, known.opens.n_said, known.opens.t_said, known.counted, many) in
      refused_with_lem before b 6 (too_many three past)
      (failure_escapes before b 6 three (failure_here kind) (λ h. absurd (let z : ⊥ = omega (arith, h) in z))
      (λ h. absurd (let z : ⊥ = omega (arith, h) in z)) (λ h. absurd (let z : ⊥ = omega (arith, h) in z)))

  failure_misplaced : is_kind 3 13 b ≡ true → lines < x.resilience → places_crash x.processes x.resilience last (failure_line b) ≡ false
      → Judged before b (refuse 7)
  failure_misplaced kind few e =
      let three = (is_kind_lem 3 13 b kind).0 in
      let never = not_in_place_lem before b x.processes x.resilience last known.opens.n_said known.opens.t_said known.behind e in
      refused_with_lem before b 7 (not_in_place three never)
      (failure_escapes before b 7 three (failure_here kind) (λ h. few_lines few)
      (λ h. absurd (let z : ⊥ = omega (arith, h) in z)) (λ h. absurd (let z : ⊥ = omega (arith, h) in z)))

  failure_unsuited : is_kind 3 13 b ≡ true → lines < x.resilience → places_crash x.processes x.resilience last (failure_line b) ≡ true
      → suits_step x.processes (failure_line b) ≡ false → Judged before b (refuse 8)
  failure_unsuited kind few e g =
      let three = (is_kind_lem 3 13 b kind).0 in
      let placed = well_placed e in
      refused_with_lem before b 8 (not_suited three (ill_suited placed g))
      (failure_escapes before b 8 three (failure_here kind) (λ h. few_lines few) (λ h. placed) (λ h. absurd (let z : ⊥ = omega (arith, h) in z)))

  failure_right : CrashPasses x.processes x.resilience lines last b
      → Judged before b (next (body (Failures (suc lines) (failure_line b).process) (with_crash x (failure_line b))))
  unfolding Behind with_crash failure_line station_in
  failure_right passes =
      let three = (is_kind_lem 3 13 b passes.kind).0 in
      let placed = well_placed passes.placed in
      let opens = opens_more before b x (omega (arith, known.counted)) known.opens in
      goes_on_lem before b
      (failure_escapes before b 9 three (failure_here passes.kind) (λ h. few_lines passes.few) (λ h. placed) (λ h. well_suited placed passes.suits))
      (record {
        opens = record { n_said = opens.n_said; t_said = opens.t_said };
        counted = length_more before b ∙ omega (arith, known.counted);
        behind = failure (last_kind before b ∙ three) (ap station_in (last_more before b));
      })

  end_right : is_kind 4 1 b ≡ true → Judged before b (next (body Ended x))
  unfolding Behind
  end_right kind =
      let said = is_kind_lem 4 1 b kind in
      let longer = length_more before b in
      goes_on_lem before b (end_escapes before b said.0 (end_next failure_due still_open said.0 said.1))
      (record {
        opens = opens_more before b x (omega (arith, known.counted)) known.opens;
        past = omega (arith, longer, known.counted);
        over = last_kind before b ∙ said.0;
      })

-- A line after the 04.
allowed_ended : (before : List (List ℕ)) (b : List ℕ) (x : Instance) → AtEnded before x → AllowedHere before b → ⊥
allowed_ended before b x known (header_first e k l) = omega (arith, known.past, e)
allowed_ended before b x known (proposal_next some most k l) = omega (arith, known.opens.n_said, known.past, most)
allowed_ended before b x known (failure_next past open-yet k l) = open-yet known.over
allowed_ended before b x known (end_next past open-yet k l) = open-yet known.over

module _ (before : List (List ℕ)) (b : List ℕ) (x : Instance) where
  line_wrong : {at : Place} {refusal : ℕ} → LineWrong x.processes x.resilience b at refusal → Behind before (body at x)
      → Judged before b (refuse refusal)
  unfolding Behind
  line_wrong (no_proposal {count} e) known = refused_here before b (λ allowed. allowed_proposal before b count x known allowed e)
  line_wrong (other_station {count} kind other) known = proposal_not_next before b count x known kind other
  line_wrong (no_failure_or_end {lines} {last} e g) known = refused_here before b (λ allowed. allowed_failure before b lines last x known allowed e g)
  line_wrong (failures_over {lines} {last} kind many) known = failure_many before b lines last x known kind many
  line_wrong (misplaced {lines} {last} kind few e) known = failure_misplaced before b lines last x known kind few e
  line_wrong (unsuited {lines} {last} kind few e g) known = failure_unsuited before b lines last x known kind few e g
  line_wrong after_end known = refused_here before b (allowed_ended before b x known)

  judged_line : {at : Place} {a : LineAnswer} → LineCase x.processes x.resilience b at a → Behind before (body at x) → Judged before b (store x a)
  unfolding store Behind
  judged_line (proposal_said {count} kind station) known = proposal_right before b count x known kind station _
  judged_line (crash_said {lines} {last} passes) known = failure_right before b lines last x known passes
  judged_line (end_said {lines} {last} kind) known = end_right before b lines last x known kind
  judged_line (line_refused refusal wrong-so) known = line_wrong wrong-so known

pub judged : (before : List (List ℕ)) (b : List ℕ) (s : Stage) → Behind before s → Judged before b (accept s b)
unfolding accept Behind
judged before b header none = judged_first before b none
judged before b (body place x) known = judged_line before b x (line_case x.processes x.resilience b place) known
