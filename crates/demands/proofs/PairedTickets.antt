-- The tickets of two paired instances are paired line by line. Assumes nothing.
use mathlib.Core.List.{List, [], ◌∷◌, ◌++◌, map, map-append, append_assoc}
use mathlib.Core.Path.{◌≡◌, refl, sym, ap, ◌∙◌}
use Prim.Native.Nat.{ℕ, suc, ◌-◌, ◌<◌}
use native.Mathlib.Omega.{arith}
use lib.ListN.{length, get_or}
use Rattle.general.specs.Indexed.{map_from}
use Rattle.general.specs.BigEndian.{bytes_of}
use Rattle.consensus.specs.Instance.{Instance, fault_of}
use Rattle.consensus.specs.declared.Fault.{Fault}
use Rattle.consensus.specs.declared.Fault.TheVariants.{Correct as correct, Crashes as crashes}
use Rattle.consensus.specs.declared.CrashPoint.TheVariants.{DuringCommits as during_commits}
use Rattle.coordinator.specs.WellFormed.{WellFormed}
use Rattle.coordinator_laws.specs.Pairing.{LinePaired, same, more_commits, missing, Paired}
use Rattle.text.specs.Line.{Line, bytes}
use Rattle.text.proofs.Split.{lines_read_back}
use Rattle.ticket_laws.specs.FirstWrong.{kind_in, station_in, step_in, count_in}
use Rattle.ticket_laws.specs.TicketText.{header_line, proposal_line, point_bytes, crash_line, crash_lines, end_line, ticket_lines, ticket_text}
use Rattle.ticket_laws.proofs.AcceptedTexts.{ticket_full}
use Rattle.demands.specs.PairedTexts.{PairedLines, no_lines, same_line, count_no_lower, missing_line, PairedTexts}

-- Lines that both have in front.
same_front : (front l m : List Line) → PairedLines l m → PairedLines (front ++ l) (front ++ m)
same_front [] l m h = h
same_front (line ∷ front) l m h = same_line (same_front front l m h)

-- The failure lines of one process more.
one_paired : (p : ℕ) (f f' : Fault) (faults faults' : List Fault) (rest : List Line) → LinePaired f f'
    → PairedLines (map bytes (crash_lines (suc p) faults) ++ rest) (map bytes (crash_lines (suc p) faults') ++ rest)
    → PairedLines (map bytes (crash_lines p (f ∷ faults)) ++ rest) (map bytes (crash_lines p (f' ∷ faults')) ++ rest)
unfolding crash_lines crash_line point_bytes bytes_of kind_in station_in step_in count_in
one_paired p f f' faults faults' rest (same {fault = correct}) more = more
one_paired p f f' faults faults' rest (same {fault = crashes round point}) more = same_line more
one_paired p f f' faults faults' rest (more_commits {round} {sent} {sent'} least) more =
    count_no_lower {b = crash_line p round (during_commits sent)} {c = crash_line p round (during_commits sent')} refl refl refl refl refl least more
one_paired p f f' faults faults' rest (missing {round} {sent}) more = missing_line {b = crash_line p round (during_commits sent)} refl refl more

crashes_paired : (faults faults' : List Fault) (p : ℕ) (rest : List Line) → length faults ≡ length faults'
    → ((i : ℕ) → i < length faults → LinePaired (get_or faults i correct) (get_or faults' i correct)) → PairedLines rest rest
    → PairedLines (map bytes (crash_lines p faults) ++ rest) (map bytes (crash_lines p faults') ++ rest)
unfolding crash_lines
crashes_paired [] [] p rest sized each h = h
crashes_paired [] (f' ∷ faults') p rest sized each h = absurd (let z : ⊥ = omega (arith, sized) in z)
crashes_paired (f ∷ faults) [] p rest sized each h = absurd (let z : ⊥ = omega (arith, sized) in z)
crashes_paired (f ∷ faults) (f' ∷ faults') p rest sized each h =
    one_paired p f f' faults faults' rest (each 0 (omega arith))
    (crashes_paired faults faults' (suc p) rest (omega (arith, sized)) (λ i less. each (suc i) (omega (arith, less))) h)

-- The lines of a ticket: header and proposals, failure lines, and the end.
opening : Instance → List (List ℕ)
opening x = header_line x.processes x.resilience ∷ map_from proposal_line 1 x.proposals

lines_in_order : (x : Instance) → map bytes (ticket_lines x) ≡ map bytes (opening x) ++ (map bytes (crash_lines 1 x.pattern) ++ (bytes end_line ∷ []))
unfolding ticket_lines opening
lines_in_order x =
    map-append bytes (opening x ++ crash_lines 1 x.pattern) (end_line ∷ [])
    ∙ ap (λ (l : List Line). l ++ (bytes end_line ∷ [])) (map-append bytes (opening x) (crash_lines 1 x.pattern))
    ∙ append_assoc (map bytes (opening x)) (map bytes (crash_lines 1 x.pattern)) (bytes end_line ∷ [])

module _ (x y : Instance) (w : WellFormed x) (v : WellFormed y) (paired : Paired x y) where
  same_opening : opening x ≡ opening y
  unfolding opening
  same_opening = rw (paired.processes, paired.resilience, paired.proposals) refl

  faults_paired : (i : ℕ) → i < length x.pattern → LinePaired (get_or x.pattern i correct) (get_or y.pattern i correct)
  unfolding fault_of
  faults_paired i less =
      let place : suc i - 1 ≡ i = omega arith in
      rw place at (paired.lines (suc i) (record { first = omega arith; last = omega (arith, less, w.all_have_fault) }))

  lines_paired : PairedLines (map bytes (ticket_lines x)) (map bytes (ticket_lines y))
  lines_paired =
      let sized : length x.pattern ≡ length y.pattern = w.all_have_fault ∙ paired.processes ∙ sym v.all_have_fault in
      rw (lines_in_order x, lines_in_order y, same_opening)
      (same_front (map bytes (opening y)) _ _
      (crashes_paired x.pattern y.pattern 1 (bytes end_line ∷ []) sized faults_paired (same_line no_lines)))

  pub tickets_paired : PairedTexts (ticket_text x) (ticket_text y)
  unfolding PairedTexts ticket_text
  tickets_paired = rw (lines_read_back (ticket_lines x) (ticket_full x w), lines_read_back (ticket_lines y) (ticket_full y v)) lines_paired
