-- Where the reading of a ticket stands between two lines behind its header, and what the next line makes of it. Assumes nothing.
use mathlib.Core.List.{List}
use mathlib.Core.Path.{◌≡◌, refl, sym, ap, subst, ◌∙◌}
use Prim.Native.Nat.{ℕ, suc, ◌+◌, ◌≤◌, ◌<◌}
use native.Mathlib.Numerals.{add-one}
use native.Mathlib.Omega.{arith}
use mathlib.Core.Bool.{Bool, true, false, cond}
use borrow.Author.Tests.{eqb-false}
use lib.Dec.{eqb}
use lib.ListN.{length, drop, length-set}
use Rattle.std.proofs.Common.{Result, Ok, Err, None}
use Rattle.consensus.specs.Instance.{Instance, within_limits}
use Rattle.consensus.proofs.Limits.{limits_hold}
use Rattle.tables.specs.code.InstanceOfTable.{instance_of, empty_table}
use Rattle.tables.specs.declared.instance.InstanceTable.{InstanceTable}
use Rattle.text.specs.Line.{lines_of}
use Rattle.general.specs.Answer.{Answer, accepted, refused}
use Rattle.refusals.specs.Number.{number_of}
use Rattle.refusals.specs.declared.Refusal.{Refusal}
use Rattle.ticket_checks.specs.declared.Limits.{Limits}
use Rattle.ticket_format.specs.Reading.{proceed, read_from}
use Rattle.ticket_format.specs.Says.{after_proposal, line_says}
use Rattle.ticket_format.specs.Accept.{with_proposal, with_crash, store, accept}
use Rattle.ticket_format.specs.Ticket.{at_end}
use Rattle.ticket_format.specs.declared.FailureLine.{FailureLine}
use Rattle.ticket_format.specs.declared.Place.{Place}
use Rattle.ticket_format.specs.declared.Place.TheVariants.{Proposals, Failures, Ended}
use Rattle.ticket_format.specs.LineAnswer.{LineAnswer}
use Rattle.lines.specs.code.Read.{read_at}
use Rattle.lines.specs.declared.Line.{Line}
use Rattle.lines.proofs.Read.{LineAt, read_no_line, lines_at_end}
use Rattle.ticket_lines.specs.code.Places.{HasPlaces}
use Rattle.ticket_lines.specs.code.Said.{bytes_in, line_by}
use Rattle.ticket_lines.specs.declared.Said.{Said}
use Rattle.ticket_lines.specs.declared.Said.TheVariants.{Proposal, Crash, End}
use Rattle.ticket_lines.proofs.Whole.{line_words}
use Rattle.ticket.specs.code.FirstLine.{rest_of}
use Rattle.ticket.proofs.Stage.{so_far, stage_of}
use Rattle.ticket.proofs.Stored.{with_value, with_fault, none_so_far, proposal_so_far, crash_stored}
use Rattle.ticket.proofs.Fitting.{CrashFits, Fits, line_fits}

-- How far the lines have been counted at a place: at most 64 proposals and 64 failure lines.
unfoldable pub Counted : Place → (k : ℕ) → Type 0
Counted (Proposals count) k = k ≤ 2 + count
Counted (Failures lines last) k = (k ≤ 66 + lines) × (lines ≤ last) × (last ≤ 64)
Counted Ended k = k ≤ 131

-- The reading stands at line k, which begins at `at`: what is left is read on from here.
pub record Reached (whole : Answer Instance) (text : List ℕ) (limits : Limits) (table : InstanceTable) (at : ℕ) (place : Place) (k : ℕ) : Type 0 where
  pub inside : at ≤ length text
  pub counted : Counted place k
  pub processes : table.n ≡ limits.n
  pub resilience : table.t ≡ limits.t
  pub full : length table.proposals ≡ 64
  pub few : limits.n ≤ 64
  pub places : HasPlaces place limits.n
  pub same : whole ≡ read_from accept at_end (stage_of place table) k (lines_of (drop at text))

-- The same text and table at the same place.
pub same_place : {whole : Answer Instance} {text text' : List ℕ} {limits : Limits} {table table' : InstanceTable} {at : ℕ} {place to : Place} {k : ℕ}
    → text ≡ text' → table ≡ table' → place ≡ to → Reached whole text' limits table' at to k → Reached whole text limits table at place k
same_place s t p h = rw (s, t, p) h

pub reached_start : (text : List ℕ) (limits : Limits) (at : ℕ) → within_limits limits.n limits.t ≡ true → at ≤ length text
    → (table : InstanceTable) → table ≡ empty_table limits.n limits.t → Reached (rest_of text limits at) text limits table at (Proposals 0) 2
unfolding HasPlaces Counted
reached_start text limits at within inside table e =
    let hold = limits_hold limits.n limits.t within in
    rw e record {
      inside = inside;
      counted = omega arith;
      processes = refl;
      resilience = refl;
      full = refl;
      few = hold.at_most_64;
      places = (omega (arith, hold.some_process), hold.at_most_64);
      same = rw (none_so_far limits.n limits.t hold.at_most_64) refl;
    }

-- n and t are the table's at every place.
same_limits : (place : Place) (table : InstanceTable) (b : List ℕ)
    → line_says (so_far place table).processes (so_far place table).resilience place b ≡ line_says table.n table.t place b
unfolding so_far instance_of
same_limits (Proposals count) table b = refl
same_limits (Failures lines last) table b = refl
same_limits Ended table b = refl

-- The places behind a proposal.
places_after : (n count : ℕ) → count < n → n ≤ 64 → (last : Bool) → eqb (suc count) n ≡ last → HasPlaces (cond last (Failures 0 0) (Proposals (suc count))) n
unfolding HasPlaces
places_after n count left few true e = few
places_after n count left few false e =
    let other : suc count ≡ n → ⊥ = eqb-false (suc count) n e in
    (omega (arith, other), few)

-- An accepted text has at most 131 lines.
pub few_lines : (place : Place) (n k : ℕ) → HasPlaces place n → Counted place k → k ≤ 131
unfolding HasPlaces Counted
few_lines (Proposals count) n k places counted = omega (arith, places, counted)
few_lines (Failures lines last) n k places counted = omega (arith, counted)
few_lines Ended n k places counted = counted

-- The count after a proposal.
counted_after : (n count k : ℕ) → count < n → n ≤ 64 → k ≤ 2 + count → (last : Bool) → eqb (suc count) n ≡ last
    → Counted (cond last (Failures 0 0) (Proposals (suc count))) (k + 1)
unfolding Counted
counted_after n count k left few counted true e = (omega arith, omega arith, omega arith)
counted_after n count k left few counted false e = omega arith

-- What a text that is over too soon is answered with.
too_soon : (place : Place) (table : InstanceTable) (k : ℕ) → (place ≡ Ended → ⊥) → at_end (stage_of place table) k ≡ refused 3 k
unfolding at_end
too_soon (Proposals count) table k other = refl
too_soon (Failures lines last) table k other = refl
too_soon Ended table k other = absurd (other refl)

module _ (whole : Answer Instance) (text : List ℕ) (limits : Limits) (table : InstanceTable) (at : ℕ) (place : Place) (k : ℕ)
    (here : Reached whole text limits table at place k) where
  over : length text ≤ at → whole ≡ at_end (stage_of place table) k
  unfolding read_from
  over h = here.same ∙ ap (read_from accept at_end (stage_of place table) k) (lines_at_end text at h)

  pub reached_end : length text ≤ at → place ≡ Ended → accepted (instance_of table) ≡ whole
  unfolding at_end so_far
  reached_end h e = sym (over h ∙ rw e refl)

  pub reached_early : length text ≤ at → (place ≡ Ended → ⊥) → refused 3 k ≡ whole
  reached_early h other = sym (over h ∙ too_soon place table k other)

  pub reached_no_line : at < length text → read_at text at ≡ None → refused 2 k ≡ whole
  unfolding read_from
  reached_no_line h e =
      let rest = read_no_line text at e h in
      sym (here.same ∙ ap (read_from accept at_end (stage_of place table) k) rest.1)

  -- A line of bytes at this place, and the answer to it as `accept_line` gives it.
  module _ (line : Line) (next : ℕ) (there : LineAt text at line next) (answer : Result Said Refusal)
      (given : line_by answer ≡ line_says limits.n limits.t place (bytes_in line)) where
    says : line_by answer ≡ line_says limits.n limits.t place there.said
    says = given ∙ line_words there.said there.each line there.sized there.upper there.lower limits.n limits.t place

    fits : (said : LineAnswer) → line_by answer ≡ said → Fits place limits.n said
    fits said e = subst (Fits place limits.n) (sym says ∙ e) (line_fits limits.n limits.t place there.said)

    -- What the line says is stored.
    stores : (said : LineAnswer) → line_by answer ≡ said
        → whole ≡ proceed (store (so_far place table) said) k (λ s. read_from accept at_end s (suc k) (lines_of (drop next text)))
    unfolding read_from accept
    stores said e =
        let x = so_far place table in
        let at_table : line_says table.n table.t place there.said ≡ line_says limits.n limits.t place there.said = rw (here.processes, here.resilience) refl in
        let at_stage : line_says x.processes x.resilience place there.said ≡ said = same_limits place table there.said ∙ at_table ∙ sym says ∙ e in
        here.same ∙ ap (read_from accept at_end (stage_of place table) k) there.lines ∙ rw at_stage

    -- Where the line leads.
    goes_on_lem : (to : Place) (after : InstanceTable) → after.n ≡ table.n → after.t ≡ table.t → length after.proposals ≡ 64
        → HasPlaces to limits.n → Counted to (k + 1)
        → whole ≡ read_from accept at_end (stage_of to after) (suc k) (lines_of (drop next text)) → Reached whole text limits after next to (k + 1)
    goes_on_lem to after same-n same-t full places counted same =
        record {
          inside = there.inside;
          counted = counted;
          processes = same-n ∙ here.processes;
          resilience = same-t ∙ here.resilience;
          full = full;
          few = here.few;
          places = places;
          same = rw add-one same;
        }

    -- After so many proposals.
    proposals_here : {count : ℕ} → place ≡ Proposals count → (count < limits.n) × (limits.n ≤ 64)
    unfolding HasPlaces
    proposals_here e = subst (λ (p : Place). HasPlaces p limits.n) e here.places

    counted_proposals : {count : ℕ} → place ≡ Proposals count → k ≤ 2 + count
    unfolding Counted
    counted_proposals e = subst (λ (p : Place). Counted p k) e here.counted

    counted_failures : {lines last : ℕ} → place ≡ Failures lines last → (k ≤ 66 + lines) × (lines ≤ last) × (last ≤ 64)
    unfolding Counted
    counted_failures e = subst (λ (p : Place). Counted p k) e here.counted

    pub reached_refused : {refusal : Refusal} → answer ≡ Err refusal → refused (number_of refusal) k ≡ whole
    unfolding proceed store
    reached_refused e = sym (stores _ (ap line_by e))

    pub proposal_place : {count v : ℕ} {to : Place} → answer ≡ Ok (Proposal count v to) → count < 64
    unfolding Fits
    proposal_place e = let known = proposals_here (fits _ (ap line_by e)).0 in omega (arith, known)

    pub crash_fits : {lines : ℕ} {l : FailureLine} → answer ≡ Ok (Crash lines l) → CrashFits place limits.n lines l
    unfolding Fits
    crash_fits e = fits _ (ap line_by e)

    pub reached_proposal : {count v : ℕ} {to : Place} → answer ≡ Ok (Proposal count v to)
        → Reached whole text limits (with_value table count v) next to (k + 1)
    unfolding Fits proceed store after_proposal
    reached_proposal {count} {v} {to} e =
        let (now, then) = fits _ (ap line_by e) in
        let (left, few) = proposals_here now in
        let inside : count < length table.proposals = omega (arith, here.full) in
        let described : so_far to (with_value table count v) ≡ with_proposal (so_far place table) v =
        rw (now, then, ← here.processes) (proposal_so_far table count v inside) in
        goes_on_lem to (with_value table count v) refl refl (rw length-set here.full)
        (rw then (places_after limits.n count left few (eqb (suc count) limits.n) refl))
        (rw then (counted_after limits.n count k left few (counted_proposals now) (eqb (suc count) limits.n) refl))
        (stores _ (ap line_by e) ∙ rw described refl)

    -- Among the failure lines the table is whole.
    whole_table : {lines last : ℕ} → place ≡ Failures lines last → so_far place table ≡ instance_of table
    unfolding so_far
    whole_table e = rw e refl

    pub reached_crash : {lines : ℕ} {l : FailureLine} → answer ≡ Ok (Crash lines l)
        → Reached whole text limits (with_fault table l) next (Failures lines l.process) (k + 1)
    unfolding proceed store HasPlaces Counted so_far
    reached_crash {lines} {l} e =
        let fit = crash_fits e in
        let after = crash_stored table l fit.first (omega (arith, fit.last, here.processes)) in
        let to = Failures lines l.process in
        let whole = sym (whole_table fit.at) in
        let described : so_far to (with_fault table l) ≡ with_crash (so_far place table) l = after ∙ ap (λ (x : Instance). with_crash x l) whole in
        let (counted, before, last) = counted_failures fit.at in
        let few : (k + 1 ≤ 66 + lines) × (lines ≤ l.process) × (l.process ≤ 64) =
        (omega (arith, fit.counted), omega (arith, fit.counted, fit.rising), omega (arith, fit.last, here.few)) in
        goes_on_lem to (with_fault table l) refl refl here.full here.few few (stores _ (ap line_by e) ∙ rw (sym described) refl)

    pub reached_ended : answer ≡ Ok End → Reached whole text limits table next Ended (k + 1)
    unfolding Fits proceed store HasPlaces Counted so_far
    reached_ended e =
        let among = (fits _ (ap line_by e)).2 in
        goes_on_lem Ended table refl refl here.full tt (omega (arith, counted_failures among)) (stores _ (ap line_by e) ∙ rw (whole_table among) refl)
