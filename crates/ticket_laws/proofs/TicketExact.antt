-- The lines of an accepted text are those of the ticket of what it is accepted with. Assumes nothing.
use mathlib.Core.List.{List, [], ◌∷◌, ◌++◌, map, append-nil, append_assoc}
use mathlib.Core.Path.{◌≡◌, refl, sym, ap, subst, ◌∙◌}
use mathlib.Core.Bool.{Bool, true, false, cond}
use Prim.Native.Nat.{ℕ, zero, suc, ◌+◌, ◌-◌, ◌≤◌, ◌<◌}
use native.Mathlib.Omega.{arith}
use lib.Dec.{eqb}
use lib.ListN.{length, get_or, set, take, drop, replicate, length-append, length-set, length-replicate}
use lib.Seq.{append_snoc, get_or-set_other}
use Rattle.general.specs.BigEndian.{number}
use Rattle.general.specs.Indexed.{map_from}
use Rattle.general.proofs.Bytes.{Bytes}
use Rattle.general.proofs.Lists.{get_d_repeated}
use Rattle.general.proofs.Indexed.{map_from_snoc}
use Rattle.consensus.specs.Instance.{Instance, point_from}
use Rattle.consensus.specs.declared.Fault.{Fault}
use Rattle.consensus.specs.declared.Fault.TheVariants.{Correct as correct, Crashes as crashes}
use Rattle.consensus.specs.declared.CrashPoint.{CrashPoint}
use Rattle.text.specs.Line.{Line, bytes, no_line}
use Rattle.text.proofs.LineBytes.{Lines}
use Rattle.ticket_format.specs.LineVerdict.{LineVerdict, next, refuse}
use Rattle.general.specs.Answer.{accepted}
use Rattle.ticket_format.specs.Reading.{read_from}
use Rattle.ticket_format.specs.Says.{is_kind, header_says, after_proposal, failure_line}
use Rattle.ticket_format.specs.FailureLine.{fault_by}
use Rattle.ticket_laws.specs.FirstWrong.{station_in, step_in}
use Rattle.ticket_format.specs.Accept.{Stage, header, body, unproposed, with_proposal, with_crash, begin, store, accept}
use Rattle.ticket_format.specs.declared.Place.{Place}
use Rattle.ticket_format.specs.declared.Place.TheVariants.{Proposals, Failures, Ended}
use Rattle.ticket_format.specs.LineAnswer.{HeaderAnswer}
use Rattle.ticket_format.specs.LineAnswer.{LineAnswer}
use Rattle.ticket_format.specs.Ticket.{at_end}
use Rattle.ticket_laws.specs.TicketText.{header_line, proposal_line, crash_line, crash_lines, ticket_lines}
use Rattle.ticket_format.proofs.CrashPlaced.{crash_placed}
use Rattle.ticket_format.proofs.LineCases.{HeaderCase, limits_said, header_refused, header_case, CrashPasses, LineCase}
use Rattle.ticket_format.proofs.LineCases.{proposal_said, crash_said, end_said, line_refused, line_case}
use Rattle.ticket_format.proofs.Passing.{refused_accepted, proceeds}
use Rattle.ticket_laws.proofs.Wording.{suited}
use Rattle.ticket_laws.proofs.LinesExact.{header_line_lem, proposal_line_lem, crash_line_lem, end_line_lem}

-- The lines of what has been described so far, without the end.
unfoldable described : Instance → List (List ℕ)
described x = header_line x.processes x.resilience ∷ map_from proposal_line 1 x.proposals ++ crash_lines 1 x.pattern

-- The lines that lead to a stage.
unfoldable stage_lines : Stage → List (List ℕ)
stage_lines header = []
stage_lines (body (Proposals count) x) = described x
stage_lines (body (Failures lines last) x) = described x
stage_lines (body Ended x) = ticket_lines x

-- No process from place i on has a fault.
unfoldable NoneFrom : (i : ℕ) → List Fault → Type 0
NoneFrom i faults = (j : ℕ) → i ≤ j → get_or faults j correct ≡ correct

-- What is known at a stage: how many proposed, and that no process has a fault from the last failure line on.
record SoFar (x : Instance) (last : ℕ) : Type 0 where
  pub sized : length x.pattern ≡ x.processes
  pub none_from : NoneFrom last x.pattern

unfoldable Known : Stage → Type 0
Known header = Unit {0}
Known (body (Proposals count) x) = (length x.proposals ≡ count) × SoFar x 0
Known (body (Failures lines last) x) = SoFar x last
Known (body Ended x) = Unit {0}

-- A line that is accepted leads to the stage of one line more.
unfoldable Follows : Stage → List ℕ → LineVerdict Stage → Type 0
Follows s b (next u) = Known u × (stage_lines u ≡ stage_lines s ++ (b ∷ []))
Follows s b (refuse number) = Unit {0}

crash_correct : (round : ℕ) (point : CrashPoint) → crashes round point ≡ correct → ⊥
crash_correct round point e = let z : ◌≡◌ {A = ℕ} 0 1 = cc in omega arith

-- Failure lines: none where no process has a fault, and one more where the next one gets it.
no_crash_lines : (faults : List Fault) (p : ℕ) → NoneFrom 0 faults → crash_lines p faults ≡ []
unfolding NoneFrom crash_lines
no_crash_lines [] p h = refl
no_crash_lines (correct ∷ faults) p h = no_crash_lines faults (suc p) (λ j g. h (suc j) (omega arith))
no_crash_lines (crashes round point ∷ faults) p h = absurd (crash_correct round point (h 0 (omega arith)))

one_crash_line : (faults : List Fault) (p i round : ℕ) (point : CrashPoint) → i < length faults → NoneFrom i faults
    → crash_lines p (set faults i (crashes round point)) ≡ crash_lines p faults ++ (crash_line (p + i) round point ∷ [])
unfolding NoneFrom crash_lines
one_crash_line [] p i round point h none = absurd (let z : ⊥ = omega (arith, h) in z)
one_crash_line (correct ∷ faults) p zero round point h none =
    let nothing : crash_lines (suc p) faults ≡ [] = no_crash_lines faults (suc p) (λ j g. none (suc j) (omega arith)) in
    let place : p + 0 ≡ p = omega arith in
    rw (nothing, place) refl
one_crash_line (crashes r q ∷ faults) p zero round point h none = absurd (crash_correct r q (none 0 (omega arith)))
one_crash_line (correct ∷ faults) p (suc i) round point h none =
    let place : suc p + i ≡ p + suc i = omega arith in
    rw place at (one_crash_line faults (suc p) i round point (omega (arith, h)) (λ j g. none (suc j) (omega (arith, g))))
one_crash_line (crashes r q ∷ faults) p (suc i) round point h none =
    let place : suc p + i ≡ p + suc i = omega arith in
    let deeper = one_crash_line faults (suc p) i round point (omega (arith, h)) (λ j g. none (suc j) (omega (arith, g))) in
    ap (λ (l : List (List ℕ)). crash_line p r q ∷ l) (rw place at deeper)

-- The header.
first_follows : (b : List ℕ) → is_kind 1 3 b ≡ true → Follows header b (next (body (Proposals 0) (unproposed (get_or b 1 0) (get_or b 2 0))))
unfolding Follows Known stage_lines described unproposed map_from NoneFrom
first_follows b kind =
    let n : ℕ = get_or b 1 0 in
    let none : NoneFrom 0 (replicate n correct) = λ j g. get_d_repeated n j correct in
    let nothing : crash_lines 1 (replicate n correct) ≡ [] = no_crash_lines (replicate n correct) 1 none in (
      (refl, record { sized = length-replicate n correct; none_from = none }),
      rw nothing (ap (λ (l : List ℕ). l ∷ []) (sym (header_line_lem b kind))),
    )

header_follows : (b : List ℕ) → Follows header b (begin (header_says b))
unfolding begin Follows
header_follows b = by_case (header_case b)
  where
    by_case : {a : HeaderAnswer} → HeaderCase b a → Follows header b (begin a)
    by_case (limits_said kind limits) = first_follows b kind
    by_case (header_refused refusal wrong) = tt

module _ (x : Instance) (b : List ℕ) (each : Bytes b) where
  -- A proposal: the station is the next one.
  proposal_known : (count v : ℕ) → Known (body (Proposals count) x) → (whole : Bool)
      → Known (body (cond whole (Failures 0 0) (Proposals (suc count))) (with_proposal x v))
  unfolding Known with_proposal
  proposal_known count v known true = record { sized = known.1.sized; none_from = known.1.none_from }
  proposal_known count v known false =
      (length-append x.proposals (v ∷ []) ∙ omega (arith, known.0), record { sized = known.1.sized; none_from = known.1.none_from })

  proposal_stage : (count v : ℕ) (whole : Bool)
      → stage_lines (body (cond whole (Failures 0 0) (Proposals (suc count))) (with_proposal x v)) ≡ described (with_proposal x v)
  unfolding stage_lines
  proposal_stage count v true = refl
  proposal_stage count v false = refl

  proposal_described : (count : ℕ) → is_kind 2 6 b ≡ true → get_or b 1 0 ≡ suc count → Known (body (Proposals count) x)
      → described (with_proposal x (number (drop 2 b))) ≡ described x ++ (b ∷ [])
  unfolding described with_proposal Known
  proposal_described count kind station known =
      let v : ℕ = number (drop 2 b) in
      let opening : List ℕ = header_line x.processes x.resilience in
      let before : List (List ℕ) = map_from proposal_line 1 x.proposals in
      let place : 1 + length x.proposals ≡ get_or b 1 0 = omega (arith, known.0, station) in
      let nothing : crash_lines 1 x.pattern ≡ [] = no_crash_lines x.pattern 1 known.1.none_from in
      let own : proposal_line (1 + length x.proposals) v ≡ b = ap (λ (p : ℕ). proposal_line p v) place ∙ sym (proposal_line_lem b each kind) in
      ap (λ (l : List (List ℕ)). opening ∷ map_from proposal_line 1 (x.proposals ++ (v ∷ [])) ++ l) nothing
      ∙ ap (λ (l : List (List ℕ)). opening ∷ l)
      (append-nil (map_from proposal_line 1 (x.proposals ++ (v ∷ [])))
      ∙ map_from_snoc proposal_line 1 x.proposals v
      ∙ ap (λ (l : List ℕ). before ++ (l ∷ [])) own
      ∙ sym (ap (λ (l : List (List ℕ)). l ++ (b ∷ [])) (append-nil before)))
      ∙ sym (ap (λ (l : List (List ℕ)). opening ∷ before ++ l ++ (b ∷ [])) nothing)

  proposal_follows : (count : ℕ) → is_kind 2 6 b ≡ true → get_or b 1 0 ≡ suc count → Known (body (Proposals count) x)
      → Follows (body (Proposals count) x) b (next (body (after_proposal x.processes count) (with_proposal x (number (drop 2 b)))))
  unfolding Follows after_proposal stage_lines
  proposal_follows count kind station known =
      let whole : Bool = eqb (suc count) x.processes in (
        proposal_known count (number (drop 2 b)) known whole,
        proposal_stage count (number (drop 2 b)) whole ∙ proposal_described count kind station known,
      )

  -- A failure line: its process stands behind those of the lines before it.
  crash_known : (p last : ℕ) (fault : Fault) → SoFar x last → last < p
      → (pattern : List Fault) → pattern ≡ set x.pattern (p - 1) fault
      → (length pattern ≡ x.processes) × NoneFrom p pattern
  unfolding NoneFrom
  crash_known p last fault known rises pattern e = (
    ap (λ (l : List Fault). length l) e ∙ length-set x.pattern (p - 1) fault ∙ known.sized,
    λ j h.
        let apart : j ≡ p - 1 → ⊥ = λ same. omega (arith, same, h, rises) in
        ap (λ (l : List Fault). get_or l j correct) e ∙ get_or-set_other x.pattern (p - 1) j fault correct apart ∙ known.none_from j (omega (arith, h, rises)),
  )

  crash_follows : (lines last : ℕ) → CrashPasses x.processes x.resilience lines last b → SoFar x last
      → Follows (body (Failures lines last) x) b (next (body (Failures (suc lines) (failure_line b).process) (with_crash x (failure_line b))))
  unfolding Follows Known stage_lines described with_crash failure_line NoneFrom station_in step_in
  crash_follows lines last passes known =
      let p : ℕ = get_or b 1 0 in
      let placed = crash_placed x.processes x.resilience last (failure_line b) passes.placed in
      let suits = suited x.processes b placed.step_to_2 placed.process_to_n passes.suits in
      let behind = crash_known p last (fault_by (failure_line b)) known placed.process_rises _ refl in
      let inside : p - 1 < length x.pattern = omega (arith, known.sized, placed.process_from_1, placed.process_to_n) in
      let none : NoneFrom (p - 1) x.pattern = λ j h. known.none_from j (omega (arith, h, placed.process_rises)) in
      let place : 1 + (p - 1) ≡ p = omega (arith, placed.process_from_1) in
      let own : crash_line (1 + (p - 1)) (get_or b 2 0) (point_from (get_or b 3 0) (number (take 8 (drop 4 b))) (get_or b 12 0)) ≡ b =
      ap (λ (q : ℕ). crash_line q (get_or b 2 0) (point_from (get_or b 3 0) (number (take 8 (drop 4 b))) (get_or b 12 0))) place
      ∙ sym (crash_line_lem x.processes b each passes.kind placed.step_to_2 suits)
      in (
        record { sized = behind.0; none_from = behind.1 },
        rw (one_crash_line x.pattern 1 (p - 1) _ _ inside none, own, append_assoc) refl,
      )

  end_follows : (lines last : ℕ) → is_kind 4 1 b ≡ true → Follows (body (Failures lines last) x) b (next (body Ended x))
  unfolding Follows Known stage_lines described ticket_lines
  end_follows lines last kind = (tt, ap (λ (l : List ℕ). described x ++ (l ∷ [])) (sym (end_line_lem b kind)))

  line_follows : {at : Place} {a : LineAnswer} → LineCase x.processes x.resilience b at a → Known (body at x) → Follows (body at x) b (store x a)
  unfolding store Follows Known
  line_follows (proposal_said {count} kind station) known = proposal_follows count kind station known
  line_follows (crash_said {lines} {last} passes) known = crash_follows lines last passes known
  line_follows (end_said {lines} {last} kind) known = end_follows lines last kind
  line_follows (line_refused refusal wrong) known = tt

follows : (s : Stage) (b : List ℕ) → Bytes b → Known s → Follows s b (accept s b)
unfolding accept Known
follows header b each known = header_follows b
follows (body place x) b each known = line_follows x b each (line_case x.processes x.resilience b place) known

-- The lines that are left at a stage, where they are accepted.
record Rest (s : Stage) (lines : List Line) (x : Instance) : Type 0 where
  pub left : List (List ℕ)
  pub read : lines ≡ map bytes left
  pub whole : ticket_lines x ≡ stage_lines s ++ left

rest_end : (s : Stage) (k : ℕ) (x : Instance) → at_end s k ≡ accepted x → Rest s [] x
unfolding at_end stage_lines
rest_end header k x e = absurd (refused_accepted 3 k x e)
rest_end (body (Proposals count) y) k x e = absurd (refused_accepted 3 k x e)
rest_end (body (Failures lines last) y) k x e = absurd (refused_accepted 3 k x e)
rest_end (body Ended y) k x e =
    let same : y ≡ x = cc in
    record { left = []; read = refl; whole = sym (append-nil (ticket_lines y) ∙ ap ticket_lines same) }

rest_more : (s u : Stage) (b : List ℕ) (lines : List Line) (x : Instance) → stage_lines u ≡ stage_lines s ++ (b ∷ []) → Rest u lines x
    → Rest s (bytes b ∷ lines) x
rest_more s u b lines x e rest =
    record {
      left = b ∷ rest.left;
      read = ap (λ (l : List Line). bytes b ∷ l) rest.read;
      whole = rest.whole ∙ ap (λ (l : List (List ℕ)). l ++ rest.left) e ∙ append_snoc (stage_lines s) b rest.left;
    }

next_follows : (s : Stage) (b : List ℕ) (u : Stage) → Follows s b (next u) → Known u × (stage_lines u ≡ stage_lines s ++ (b ∷ []))
unfolding Follows
next_follows s b u h = h

lines_exact : (lines : List Line) (s : Stage) (k : ℕ) (x : Instance) → Lines lines → Known s → read_from accept at_end s k lines ≡ accepted x → Rest s lines x
unfolding read_from Lines
lines_exact [] s k x each known e = rest_end s k x e
lines_exact (no_line ∷ lines) s k x each known e = absurd (refused_accepted 2 k x e)
lines_exact (bytes b ∷ lines) s k x each known e =
    let on = proceeds (accept s b) k (λ u. read_from accept at_end u (suc k) lines) x e in
    let after : Follows s b (next on.0) = subst (Follows s b) on.1 (follows s b each.0 known) in
    let here = next_follows s b on.0 after in
    rest_more s on.0 b lines x here.1 (lines_exact lines on.0 (suc k) x each.1 here.0 on.2)

pub exact_lines : (lines : List Line) (x : Instance) → Lines lines → read_from accept at_end header 1 lines ≡ accepted x → lines ≡ map bytes (ticket_lines x)
unfolding Known stage_lines
exact_lines lines x each e =
    let rest = lines_exact lines header 1 x each tt e in
    rest.read ∙ ap (λ (l : List (List ℕ)). map bytes l) (sym rest.whole)
