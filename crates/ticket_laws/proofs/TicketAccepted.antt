-- The ticket of a well-formed instance is accepted with it. Assumes nothing.
use mathlib.Core.List.{List, [], ◌∷◌, ◌++◌, map, append-nil, append_assoc}
use mathlib.Core.Path.{◌≡◌, sym, ap, subst, ◌∙◌}
use mathlib.Core.Bool.{cond}
use Prim.Native.Nat.{ℕ, suc, ◌+◌, ◌-◌, ◌^◌, ◌≤◌, ◌<◌}
use native.Mathlib.Omega.{arith}
use borrow.Author.Tests.{eq-eqb, ne_eqb}
use lib.Dec.{eqb}
use lib.ListN.{length, get_or, replicate, length-append}
use lib.Seq.{append_snoc, set_at}
use Rattle.general.specs.Indexed.{map_from}
use Rattle.general.proofs.Bytes.{AllBelow}
use Rattle.consensus.specs.Instance.{Instance, fault_of}
use Rattle.consensus.specs.declared.Fault.{Fault}
use Rattle.consensus.specs.declared.Fault.TheVariants.{Correct as correct, Crashes as crashes}
use Rattle.consensus.specs.Limits.{Limits}
use Rattle.consensus.specs.WellFormed.{fault_count}
use Rattle.coordinator.specs.WellFormed.{FaultAllowed, WellFormed}
use Rattle.text.specs.Line.{Line, bytes}
use Rattle.general.specs.Answer.{accepted}
use Rattle.ticket_format.specs.Reading.{proceed, read_from}
use Rattle.ticket_format.specs.Says.{after_proposal}
use Rattle.ticket_format.specs.Accept.{header, body, unproposed, with_proposal, accept}
use Rattle.ticket_format.specs.declared.Place.{Place}
use Rattle.ticket_format.specs.declared.Place.TheVariants.{Proposals, Failures}
use Rattle.ticket_format.specs.Ticket.{at_end}
use Rattle.ticket_laws.specs.TicketText.{proposal_line, crash_lines, end_line, ticket_lines}
use Rattle.ticket_laws.proofs.LinesAccepted.{header_accepted, proposal_accepted, end_accepted, with_fault, Due, crash_accepted}

-- The lines of bytes that are left to read.
abbrev left : List (List ℕ) → List Line
left lines = map bytes lines

module _ (n t : ℕ) where
  -- The instance with these proposals, and with these faults of the first processes.
  described : (proposals : List ℕ) (faults : List Fault) → Instance
  described proposals faults = record { processes = n; resilience = t; proposals = proposals; pattern = faults }

  -- Where the next line stands after so many proposals.
  place_after : (count : ℕ) → Place
  place_after count = cond (eqb count n) (Failures 0 0) (Proposals count)

  -- The proposals that are left.
  proposals_read : (rest before : List ℕ) (k : ℕ) (more : List (List ℕ)) → length before + length rest ≡ n → AllBelow (2 ^ 32) rest
      → read_from accept at_end (body (place_after (length before)) (described before (replicate n correct))) k
      (left (map_from proposal_line (suc (length before)) rest ++ more))
      ≡ read_from accept at_end (body (Failures 0 0) (described (before ++ rest) (replicate n correct))) (k + length rest) (left more)
  unfolding place_after described map_from read_from proceed with_proposal after_proposal
  proposals_read [] before k more all fits =
      let whole : length before ≡ n = omega (arith, all) in
      let line : k + 0 ≡ k = omega arith in
      rw (eq-eqb (length before) n whole, append-nil, line)
  proposals_read (v ∷ rest) before k more all fits =
      let missing : length before ≡ n → ⊥ = λ e. omega (arith, e, all) in
      let x : Instance = described before (replicate n correct) in
      let longer : length (before ++ (v ∷ [])) ≡ suc (length before) = length-append before (v ∷ []) ∙ omega arith in
      let line : suc k + length rest ≡ k + suc (length rest) = omega arith in
      let deeper = proposals_read rest (before ++ (v ∷ [])) (suc k) more (omega (arith, longer, all)) (λ i. fits (suc i)) in
      rw (ne_eqb (length before) n missing, proposal_accepted x (length before) v (fits 0)) (rw (longer, line, append_snoc) at deeper)

  -- The failure lines that are left, and the end.
  module _ (proposals : List ℕ) (small : n ≤ 64) where
    one_fault : (before : List Fault) (rest : ℕ) (fault : Fault) → with_fault (described proposals (before ++ (correct ∷ replicate rest correct))) (suc (length before)) fault
        ≡ described proposals ((before ++ (fault ∷ [])) ++ replicate rest correct)
    unfolding with_fault described
    one_fault before rest fault =
        let place : length before ≡ suc (length before) - 1 = omega arith in
        ap (described proposals)
        (set_at before correct (replicate rest correct) fault (suc (length before) - 1) place ∙ sym (append_snoc before fault (replicate rest correct)))

    -- What is allowed one place further.
    shifted : (before : List Fault) (fault : Fault) (faults : List Fault) (i : ℕ) → FaultAllowed n t (suc (length before) + suc i) (get_or faults i correct)
        → FaultAllowed n t (suc (length (before ++ (fault ∷ []))) + i) (get_or faults i correct)
    shifted before fault faults i h =
        let longer : length (before ++ (fault ∷ [])) ≡ suc (length before) = length-append before (fault ∷ []) ∙ omega arith in
        let place : suc (length before) + suc i ≡ suc (length (before ++ (fault ∷ []))) + i = omega (arith, longer) in
        subst (λ (p : ℕ). FaultAllowed n t p (get_or faults i correct)) place h

    faults_read : (faults before : List Fault) (lines last k : ℕ) → length before + length faults ≡ n → last ≤ length before → lines + fault_count faults ≤ t
        → ((i : ℕ) → i < length faults → FaultAllowed n t (suc (length before) + i) (get_or faults i correct))
        → read_from accept at_end (body (Failures lines last) (described proposals (before ++ replicate (length faults) correct))) k
        (left (crash_lines (suc (length before)) faults ++ (end_line ∷ [])))
        ≡ accepted (described proposals (before ++ faults))
    unfolding described crash_lines fault_count read_from proceed at_end
    faults_read [] before lines last k all rising few allowed = rw (end_accepted (described proposals (before ++ [])) lines last)
    faults_read (correct ∷ faults) before lines last k all rising few allowed =
        let longer : length (before ++ (correct ∷ [])) ≡ suc (length before) = length-append before (correct ∷ []) ∙ omega arith in
        let deeper = faults_read faults (before ++ (correct ∷ [])) lines last k (omega (arith, longer, all)) (omega (arith, longer, rising)) few
        (λ i h. shifted before correct faults i (allowed (suc i) (omega (arith, h))))
        in
        rw (longer, append_snoc before correct (replicate (length faults) correct), append_snoc before correct faults) at deeper
    faults_read (crashes round point ∷ faults) before lines last k all rising few allowed =
        let fault : Fault = crashes round point in
        let x : Instance = described proposals (before ++ (correct ∷ replicate (length faults) correct)) in
        let due : Due x lines last (suc (length before)) =
        record { few = omega (arith, few); from_1 = omega arith; to_n = omega (arith, all); rises = omega (arith, rising); small = small }
        in
        let place : suc (length before) + 0 ≡ suc (length before) = omega arith in
        let own : FaultAllowed n t (suc (length before)) fault = subst (λ (p : ℕ). FaultAllowed n t p fault) place (allowed 0 (omega arith)) in
        let longer : length (before ++ (fault ∷ [])) ≡ suc (length before) = length-append before (fault ∷ []) ∙ omega arith in
        let deeper = faults_read faults (before ++ (fault ∷ [])) (suc lines) (suc (length before)) (suc k) (omega (arith, longer, all)) (omega (arith, longer))
        (omega (arith, few)) (λ i h. shifted before fault faults i (allowed (suc i) (omega (arith, h))))
        in
        rw (crash_accepted x lines last (suc (length before)) round point due own, one_fault before (length faults) fault)
        (rw (longer, append_snoc before fault faults) at deeper)

-- What well-formedness says of each fault, by its place.
pub allowed : (x : Instance) → WellFormed x → (i : ℕ) → i < length x.pattern → FaultAllowed x.processes x.resilience (1 + i) (get_or x.pattern i correct)
unfolding fault_of
allowed x w i h =
    let place : 1 + i - 1 ≡ i = omega arith in
    rw place at (w.faults_allowed (1 + i) (omega arith) (omega (arith, h, w.all_have_fault)))

pub lines_accepted : (x : Instance) → WellFormed x → read_from accept at_end header 1 (map bytes (ticket_lines x)) ≡ accepted x
unfolding ticket_lines read_from proceed unproposed described place_after
lines_accepted x w =
    let n : ℕ = x.processes in
    let t : ℕ = x.resilience in
    let limits : Limits n t = record { some_process = w.some_process; at_most_64 = w.at_most_64; fewer_crashes = w.fewer_crashes } in
    let first : 0 ≡ n → ⊥ = λ e. omega (arith, e, w.some_process) in
    let proposed = proposals_read n t x.proposals [] 2 (crash_lines 1 x.pattern ++ (end_line ∷ [])) (omega (arith, w.all_propose)) w.values_fit in
    let crashed = faults_read n t x.proposals w.at_most_64 x.pattern [] 0 0 (2 + length x.proposals) (omega (arith, w.all_have_fault)) (omega arith)
    (omega (arith, w.few_faults)) (allowed x w)
    in
    let order = append_assoc (map_from proposal_line 1 x.proposals) (crash_lines 1 x.pattern) (end_line ∷ []) in
    rw (header_accepted n t limits)
    (ap (λ (lines : List (List ℕ)). read_from accept at_end (body (Proposals 0) (unproposed n t)) 2 (map bytes lines)) order
    ∙ (rw (ne_eqb 0 n first) at proposed)
    ∙ (rw w.all_have_fault at crashed))
