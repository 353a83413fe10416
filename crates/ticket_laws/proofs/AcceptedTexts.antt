-- A text is accepted with an instance just if it is its ticket. Assumes nothing.
use mathlib.Core.List.{List, [], ◌∷◌, ◌++◌, map}
use mathlib.Core.Path.{◌≡◌, refl, sym, ap, subst, ◌∙◌}
use mathlib.Core.Bool.{Bool, true, false, cond}
use Prim.Native.Nat.{ℕ, suc, ◌+◌, ◌*◌, ◌≤◌, ◌<◌}
use native.Mathlib.Omega.{arith}
use borrow.Author.Tests.{le-ltb}
use lib.Dec.{ltb}
use lib.ListN.{length, get_or, length-append, length-map}
use Rattle.general.specs.BigEndian.{bytes_of}
use Rattle.general.specs.Indexed.{map_from}
use Rattle.general.proofs.Bytes.{Bytes, bytes_each, bytes_append}
use Rattle.general.proofs.BigEndian.{bytes_of_number}
use Rattle.consensus.specs.Instance.{Instance}
use Rattle.consensus.specs.declared.Fault.{Fault}
use Rattle.consensus.specs.declared.Fault.TheVariants.{Correct as correct, Crashes as crashes}
use Rattle.consensus.specs.declared.CrashPoint.{CrashPoint}
use Rattle.consensus.specs.declared.CrashPoint.TheVariants.{BeforeSending as before_sending, DuringData as during_data, DuringCommits as during_commits}
use Rattle.consensus.specs.WellFormed.{FaultAllowedBy, fault_count}
use Rattle.coordinator.specs.WellFormed.{PointAllowed, FaultAllowed, WellFormed}
use Rattle.text.specs.Capitals.{capital}
use Rattle.text.specs.HexText.{hex_digits, hex_line, hex_lines}
use Rattle.text.specs.Line.{bytes, lines_of}
use Rattle.text.proofs.HexText.{length-hex_line}
use Rattle.text.proofs.LineBytes.{lines_bytes}
use Rattle.text.proofs.Split.{FullLines, lines_read_back, lines_written}
use Rattle.general.specs.Answer.{accepted, refused}
use Rattle.ticket_format.specs.Reading.{read_from}
use Rattle.ticket_format.specs.Accept.{header, accept}
use Rattle.ticket_format.specs.Ticket.{ticket_limit, at_end, read_ticket}
use Rattle.ticket_laws.specs.TicketText.{header_line, proposal_line, point_bytes, crash_line, crash_lines, end_line, ticket_lines, ticket_text}
use Rattle.ticket_format.proofs.Passing.{refused_accepted}
use Rattle.ticket_format.proofs.ReadCapitals.{read_capitals}
use Rattle.ticket_laws.specs.AcceptedTexts.{TicketOf, longest_ticket, AcceptedTexts}
use Rattle.ticket_laws.proofs.WellFormed.{accepted_well_formed}
use Rattle.ticket_laws.proofs.TicketAccepted.{lines_accepted, allowed}
use Rattle.ticket_laws.proofs.TicketExact.{exact_lines}

-- Every line of a ticket is one of bytes.
full_append : (a b : List (List ℕ)) → FullLines a → FullLines b → FullLines (a ++ b)
unfolding FullLines
full_append [] b h g = g
full_append (l ∷ a) b h g = (h.0, h.1, full_append a b h.2 g)

full_proposals : (values : List ℕ) (p : ℕ) → p + length values ≤ 256 → FullLines (map_from proposal_line p values)
unfolding FullLines map_from proposal_line
full_proposals [] p h = tt
full_proposals (v ∷ values) p h = (
  omega arith,
  bytes_append (2 ∷ p ∷ []) (bytes_of 4 v) (bytes_each (2 ∷ p ∷ []) (omega arith, (omega (arith, h), tt))) (bytes_of_number 4 v),
  full_proposals values (suc p) (omega (arith, h)),
)

point_each : (n p round : ℕ) (point : CrashPoint) → n ≤ 64 → PointAllowed n p round point → Bytes (point_bytes point)
unfolding PointAllowed point_bytes
point_each n p round before_sending small h =
    bytes_append (0 ∷ bytes_of 8 0) (0 ∷ []) (bytes_append (0 ∷ []) (bytes_of 8 0) (bytes_each (0 ∷ []) (omega arith, tt)) (bytes_of_number 8 0))
    (bytes_each (0 ∷ []) (omega arith, tt))
point_each n p round (during_data reached) small h =
    bytes_append (1 ∷ bytes_of 8 reached) (0 ∷ [])
    (bytes_append (1 ∷ []) (bytes_of 8 reached) (bytes_each (1 ∷ []) (omega arith, tt)) (bytes_of_number 8 reached))
    (bytes_each (0 ∷ []) (omega arith, tt))
point_each n p round (during_commits sent) small h =
    bytes_append (2 ∷ bytes_of 8 0) (sent ∷ []) (bytes_append (2 ∷ []) (bytes_of 8 0) (bytes_each (2 ∷ []) (omega arith, tt)) (bytes_of_number 8 0))
    (bytes_each (sent ∷ []) (omega (arith, small, h.1), tt))

module _ (n t : ℕ) (small : n ≤ 64) (few : t < n) where
  full_crash : (p round : ℕ) (point : CrashPoint) → p ≤ n → FaultAllowed n t p (crashes round point) → (1 ≤ length (crash_line p round point)) × Bytes (crash_line p round point)
  unfolding FaultAllowedBy crash_line
  full_crash p round point inside h = (
    omega arith,
    bytes_append (3 ∷ p ∷ round ∷ []) (point_bytes point)
        (bytes_each (3 ∷ p ∷ round ∷ []) (omega arith, (omega (arith, small, inside), (omega (arith, h.1, few, small), tt)))) (point_each n p round point small h.2),
  )

  further : (p i : ℕ) (faults : List Fault) → FaultAllowed n t (p + suc i) (get_or faults i correct) → FaultAllowed n t (suc p + i) (get_or faults i correct)
  further p i faults h =
      let place : p + suc i ≡ suc p + i = omega arith in
      subst (λ (q : ℕ). FaultAllowed n t q (get_or faults i correct)) place h

  full_crashes : (faults : List Fault) (p : ℕ) → p + length faults ≤ suc n → ((i : ℕ) → i < length faults → FaultAllowed n t (p + i) (get_or faults i correct))
      → FullLines (crash_lines p faults)
  unfolding FullLines crash_lines
  full_crashes [] p h each = tt
  full_crashes (correct ∷ faults) p h each = full_crashes faults (suc p) (omega (arith, h)) (λ i g. further p i faults (each (suc i) (omega (arith, g))))
  full_crashes (crashes round point ∷ faults) p h each =
      let place : p + 0 ≡ p = omega arith in
      let own = full_crash p round point (omega (arith, h)) (subst (λ (q : ℕ). FaultAllowed n t q (crashes round point)) place (each 0 (omega arith))) in
      (own.0, own.1, full_crashes faults (suc p) (omega (arith, h)) (λ i g. further p i faults (each (suc i) (omega (arith, g)))))

opening_full : (x : Instance) → WellFormed x → FullLines (header_line x.processes x.resilience ∷ map_from proposal_line 1 x.proposals)
unfolding FullLines header_line
opening_full x w =
    let n : ℕ = x.processes in (
      omega arith,
      bytes_each (1 ∷ n ∷ x.resilience ∷ []) (omega arith, (omega (arith, w.at_most_64), (omega (arith, w.fewer_crashes, w.at_most_64), tt))),
      full_proposals x.proposals 1 (omega (arith, w.all_propose, w.at_most_64)),
    )

end_full : FullLines (end_line ∷ [])
unfolding FullLines end_line
end_full = (omega arith, bytes_each (4 ∷ []) (omega arith, tt), tt)

pub ticket_full : (x : Instance) → WellFormed x → FullLines (ticket_lines x)
unfolding ticket_lines
ticket_full x w =
    full_append (header_line x.processes x.resilience ∷ map_from proposal_line 1 x.proposals ++ crash_lines 1 x.pattern) (end_line ∷ [])
    (full_append (header_line x.processes x.resilience ∷ map_from proposal_line 1 x.proposals) (crash_lines 1 x.pattern) (opening_full x w)
    (full_crashes x.processes x.resilience w.at_most_64 w.fewer_crashes x.pattern 1 (omega (arith, w.all_have_fault)) (allowed x w)))
    end_full

-- How long a ticket is.
lines_length : (a b : List (List ℕ)) → length (hex_lines (a ++ b)) ≡ length (hex_lines a) + length (hex_lines b)
unfolding hex_lines
lines_length [] b = omega arith
lines_length (l ∷ a) b =
    length-append (hex_line l) (hex_lines (a ++ b)) ∙ omega (arith, lines_length a b, length-append (hex_line l) (hex_lines a))

-- The lines of each kind: 3, 6, 13 and 1 bytes.
line_length : (b : List ℕ) (size : ℕ) → length b ≡ size → length (hex_line b) ≡ 2 * size + 1
line_length b size e = length-hex_line b ∙ omega (arith, e)

proposal_length : (p v : ℕ) → length (hex_line (proposal_line p v)) ≡ 13
unfolding proposal_line bytes_of
proposal_length p v = line_length (proposal_line p v) 6 refl

crash_length : (p round : ℕ) (point : CrashPoint) → length (hex_line (crash_line p round point)) ≡ 27
unfolding crash_line point_bytes bytes_of
crash_length p round before_sending = line_length (crash_line p round before_sending) 13 refl
crash_length p round (during_data reached) = line_length (crash_line p round (during_data reached)) 13 refl
crash_length p round (during_commits sent) = line_length (crash_line p round (during_commits sent)) 13 refl

proposals_length : (values : List ℕ) (p : ℕ) → length (hex_lines (map_from proposal_line p values)) ≡ 13 * length values
unfolding hex_lines map_from
proposals_length [] p = refl
proposals_length (v ∷ values) p =
    length-append (hex_line (proposal_line p v)) (hex_lines (map_from proposal_line (suc p) values))
    ∙ omega (arith, proposal_length p v, proposals_length values (suc p))

crashes_length : (faults : List Fault) (p : ℕ) → length (hex_lines (crash_lines p faults)) ≡ 27 * fault_count faults
unfolding hex_lines crash_lines fault_count
crashes_length [] p = refl
crashes_length (correct ∷ faults) p = crashes_length faults (suc p)
crashes_length (crashes round point ∷ faults) p =
    length-append (hex_line (crash_line p round point)) (hex_lines (crash_lines (suc p) faults))
    ∙ omega (arith, crash_length p round point, crashes_length faults (suc p))

opening_length : (x : Instance)
    → length (hex_lines (header_line x.processes x.resilience ∷ map_from proposal_line 1 x.proposals)) ≡ 7 + 13 * length x.proposals
unfolding hex_lines header_line
opening_length x =
    length-append (hex_line (header_line x.processes x.resilience)) (hex_lines (map_from proposal_line 1 x.proposals))
    ∙ omega (arith, line_length (header_line x.processes x.resilience) 3 refl, proposals_length x.proposals 1)

end_length : length (hex_lines (end_line ∷ [])) ≡ 3
unfolding hex_lines hex_line hex_digits end_line
end_length = refl

ticket_length : (x : Instance) → length (ticket_text x) ≡ 10 + 13 * length x.proposals + 27 * fault_count x.pattern
unfolding ticket_text ticket_lines
ticket_length x =
    let opening : List (List ℕ) = header_line x.processes x.resilience ∷ map_from proposal_line 1 x.proposals in
    lines_length (opening ++ crash_lines 1 x.pattern) (end_line ∷ [])
    ∙ omega (arith, lines_length opening (crash_lines 1 x.pattern), opening_length x, crashes_length x.pattern 1, end_length)

pub ticket_short : (x : Instance) → WellFormed x → length (ticket_text x) ≤ longest_ticket
ticket_short x w = omega (arith, ticket_length x, w.all_propose, w.at_most_64, w.few_faults, w.fewer_crashes)

-- The ticket is read, and what is read is the ticket.
pub ticket_accepted : (x : Instance) → WellFormed x → read_ticket (ticket_text x) ≡ accepted x
unfolding read_ticket ticket_text
ticket_accepted x w =
    let few : length (ticket_text x) ≤ ticket_limit = omega (arith, ticket_short x w) in
    rw (le-ltb ticket_limit (length (ticket_text x)) few, lines_read_back (ticket_lines x) (ticket_full x w)) (lines_accepted x w)

module _ (text : List ℕ) (x : Instance) where
  text_short : TicketOf x text → length text ≤ longest_ticket
  text_short h =
      let same : length text ≡ length (ticket_text x) = sym (length-map text capital) ∙ ap (λ (l : List ℕ). length l) h.written in
      omega (arith, same, ticket_short x h.well_formed)

  text_accepted : TicketOf x text → read_ticket text ≡ accepted x
  text_accepted h = sym (read_capitals text) ∙ ap read_ticket h.written ∙ ticket_accepted x h.well_formed

  lines_of_accepted : (long : Bool) → cond long (refused 1 0) (read_from accept at_end header 1 (lines_of text)) ≡ accepted x
      → lines_of text ≡ map bytes (ticket_lines x)
  lines_of_accepted true e = absurd (refused_accepted 1 0 x e)
  lines_of_accepted false e = exact_lines (lines_of text) x (lines_bytes text) e

  text_exact : read_ticket text ≡ accepted x → TicketOf x text
  unfolding read_ticket ticket_text
  text_exact e =
      record {
        well_formed = accepted_well_formed text x e;
        written = lines_written text (ticket_lines x) (lines_of_accepted (ltb ticket_limit (length text)) e);
      }

-- The ticket is written in capitals.
pub ticket_in_capitals : (x : Instance) → WellFormed x → map capital (ticket_text x) ≡ ticket_text x
ticket_in_capitals x w = (text_exact (ticket_text x) x (ticket_accepted x w)).written

pub accepted_texts_lem : AcceptedTexts
accepted_texts_lem = record { complete = text_accepted; exact = text_exact; short = text_short }
