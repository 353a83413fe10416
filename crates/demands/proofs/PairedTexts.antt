-- Two accepted texts that are paired line by line state paired instances: both are read side by side, and the stages stay alike. Assumes nothing.
use mathlib.Core.List.{List}
use mathlib.Core.Path.{◌≡◌, refl}
use mathlib.Core.Bool.{Bool, true, false, cond}
use Prim.Native.Nat.{ℕ, suc, ◌-◌, ◌≤◌}
use native.Mathlib.Omega.{arith}
use borrow.Author.Tests.{eqb-true}
use lib.Dec.{eqb, ltb}
use lib.ListN.{length, get_or, replicate, length-replicate}
use Rattle.general.proofs.Tests.{both}
use Rattle.general.proofs.Lists.{get_d_repeated}
use Rattle.consensus.specs.Instance.{Instance, fault_of}
use Rattle.consensus.specs.declared.Fault.TheVariants.{Correct as correct}
use Rattle.coordinator_laws.specs.Pairing.{same, more_commits, missing, Paired}
use Rattle.text.specs.Line.{Line, bytes, no_line}
use Rattle.ticket_format.specs.LineVerdict.{next}
use Rattle.general.specs.Answer.{Answer, accepted, refused}
use Rattle.ticket_format.specs.Reading.{read_from}
use Rattle.ticket_format.specs.Says.{is_kind, after_proposal, failure_line, line_says}
use Rattle.ticket_format.specs.Accept.{Stage, header, body, unproposed, with_proposal, store, accept}
use Rattle.ticket_format.specs.declared.Place.TheVariants.{Proposals, Failures, Ended}
use Rattle.ticket_format.specs.Ticket.{ticket_limit, at_end, read_ticket}
use Rattle.ticket_format.proofs.CrashPlaced.{Placed, crash_placed}
use Rattle.ticket_format.proofs.Passing.{refused_accepted, refuse_next, proceeds}
use Rattle.ticket_format.proofs.LineCases.{CrashPasses}
use Rattle.ticket_format.proofs.Taken.{HeaderTaken, taken_header, header_taken, Taken, taken_proposal, taken_crash, taken_end, taken}
use Rattle.ticket_laws.specs.FirstWrong.{station_in, count_in}
use Rattle.demands.specs.PairedTexts.{PairedLines, no_lines, same_line, count_no_lower, missing_line, PairedTexts}
use Rattle.demands.proofs.AcceptedLine.{CommitLine, commit_line_lem, not_a_header, not_a_proposal, not_the_end, stated_fault}
use Rattle.demands.proofs.PairedFaults.{PairedSoFar, so_far_paired, so_far_both, so_far_first}

-- The stages of both texts.
data Alongside : Stage → Stage → Type 0 where
  both_header : Alongside header header
  both_proposals : {count : ℕ} {x : Instance} → x.pattern ≡ replicate x.processes correct → Alongside (body (Proposals count) x) (body (Proposals count) x)
  both_failures : {x y : Instance} {lines lines' last last' : ℕ} → PairedSoFar x y last
      → Alongside (body (Failures lines last) x) (body (Failures lines' last') y)
  both_ended : {x y : Instance} → Paired x y → Alongside (body Ended x) (body Ended y)

-- After the proposals every process is correct in both.
after_proposal_lem : (x : Instance) (count : ℕ) → x.pattern ≡ replicate x.processes correct → (whole : Bool) → eqb (suc count) x.processes ≡ whole
    → Alongside (body (after_proposal x.processes count) x) (body (after_proposal x.processes count) x)
unfolding after_proposal fault_of
after_proposal_lem x count none true e =
    let sized : length x.pattern ≡ x.processes = rw none (length-replicate x.processes correct) in
    rw e
    (both_failures {x = x} {y = x}
    (record {
      processes = refl;
      resilience = refl;
      proposals = refl;
      sized = sized;
      sized' = sized;
      lines = λ p first. same;
      later = λ p h. rw none (get_d_repeated x.processes (p - 1) correct);
    }))
after_proposal_lem x count none false e = rw e (both_proposals none)

-- The end is no failure line.
kinds_apart : (b : List ℕ) → is_kind 4 1 b ≡ true → is_kind 3 13 b ≡ true → ⊥
unfolding is_kind
kinds_apart b end crash =
    let four : get_or b 0 0 ≡ 4 = eqb-true _ _ (both (eqb (get_or b 0 0) 4) _ end).0 in
    let three : get_or b 0 0 ≡ 3 = eqb-true _ _ (both (eqb (get_or b 0 0) 3) _ crash).0 in
    omega arith

-- A line of the commit step is accepted among the failure lines alone.
no_header : (b : List ℕ) → CommitLine b → {u : Stage} → HeaderTaken b u → ⊥
no_header b line (taken_header kind limits) = not_a_header b line kind

no_proposal_lem : (x : Instance) (b : List ℕ) → CommitLine b → {count : ℕ} {u : Stage} → Taken x b (Proposals count) u → ⊥
no_proposal_lem x b line (taken_proposal kind) = not_a_proposal b line kind

module _ {x y : Instance} {last : ℕ} (so_far : PairedSoFar x y last) where
  -- Where a failure line of the first that is accepted stands.
  placed_here : {lines : ℕ} {b : List ℕ} → CrashPasses x.processes x.resilience lines last b → Placed x.processes x.resilience last (failure_line b)
  placed_here {b = b} passes = crash_placed x.processes x.resilience last (failure_line b) passes.placed

  -- A line among the failure lines: the same in both, one with more commits in the second, or one that is missing there.
  same_failure : {lines lines' last' : ℕ} {b : List ℕ} {u u' : Stage} → Taken x b (Failures lines last) u → Taken y b (Failures lines' last') u'
      → Alongside u u'
  same_failure (taken_end kind) (taken_end kind') = both_ended (so_far_paired x y last so_far)
  same_failure {b = b} (taken_end kind) (taken_crash passes) = absurd (kinds_apart b kind passes.kind)
  same_failure {b = b} (taken_crash passes) (taken_end kind) = absurd (kinds_apart b kind passes.kind)
  same_failure {b = b} (taken_crash passes) (taken_crash passes') =
      both_failures (so_far_both x y last so_far (failure_line b) (placed_here passes) (failure_line b) refl same)

  more_commits_lem : {lines lines' last' : ℕ} {b c : List ℕ} {u u' : Stage} → CommitLine b → CommitLine c → get_or b 1 0 ≡ get_or c 1 0 → get_or b 12 0 ≤ get_or c 12 0
      → Taken x b (Failures lines last) u → Taken y c (Failures lines' last') u' → Alongside u u'
  unfolding failure_line
  more_commits_lem {b = b} line line' station count (taken_end kind) t = absurd (not_the_end b line kind)
  more_commits_lem {c = c} line line' station count (taken_crash passes) (taken_end kind) = absurd (not_the_end c line' kind)
  more_commits_lem {lines} {lines'} {last'} {b} {c} line line' station count (taken_crash passes) (taken_crash passes') =
      let fault = stated_fault x.processes x.resilience lines last b line passes in
      let fault' = stated_fault y.processes y.resilience lines' last' c line' passes' in
      both_failures (so_far_both x y last so_far (failure_line b) (placed_here passes) (failure_line c) station (rw (fault, fault', station) (more_commits count)))

  missing_commits : {lines lines' last' : ℕ} {b : List ℕ} {u : Stage} → CommitLine b → Taken x b (Failures lines last) u
      → Alongside u (body (Failures lines' last') y)
  missing_commits {b = b} line (taken_end kind) = absurd (not_the_end b line kind)
  missing_commits {lines} {b = b} line (taken_crash passes) =
      both_failures
      (so_far_first x y last so_far (failure_line b) (placed_here passes) (rw (stated_fault x.processes x.resilience lines last b line passes) missing))

-- The same line in both.
same_step : (s s' : Stage) (b : List ℕ) (u u' : Stage) → Alongside s s' → accept s b ≡ next u → accept s' b ≡ next u' → Alongside u u'
unfolding accept store line_says unproposed with_proposal
same_step s s' b u u' both_header e e' =
    let alike : u ≡ u' = cc in
    rw (← alike) (by_header (header_taken b u e))
  where
    by_header : {v : Stage} → HeaderTaken b v → Alongside v v
    by_header (taken_header kind limits) = both_proposals refl
same_step s s' b u u' (both_proposals {count} {x} none) e e' =
    let alike : u ≡ u' = cc in
    rw (← alike) (by_proposal_lem (taken x (Proposals count) b u e))
  where
    by_proposal_lem : {v : Stage} → Taken x b (Proposals count) v → Alongside v v
    by_proposal_lem (taken_proposal kind) = after_proposal_lem (with_proposal x _) count none _ refl
same_step s s' b u u' (both_failures {x} {y} {lines} {lines'} {last} {last'} so_far) e e' =
    same_failure so_far (taken x (Failures lines last) b u e) (taken y (Failures lines' last') b u' e')
same_step s s' b u u' (both_ended paired) e e' = absurd (refuse_next 3 u e)

-- A line of the commit step that both have, or the first alone: it stands among the failure lines.
commit_step : (s s' : Stage) (b c : List ℕ) (u u' : Stage) → CommitLine b → CommitLine c → get_or b 1 0 ≡ get_or c 1 0 → get_or b 12 0 ≤ get_or c 12 0
    → Alongside s s' → accept s b ≡ next u → accept s' c ≡ next u' → Alongside u u'
unfolding accept store line_says
commit_step s s' b c u u' line line' station count both_header e e' = absurd (no_header b line (header_taken b u e))
commit_step s s' b c u u' line line' station count (both_proposals {count = k} {x} none) e e' = absurd (no_proposal_lem x b line (taken x (Proposals k) b u e))
commit_step s s' b c u u' line line' station count (both_failures {x} {y} {lines} {lines'} {last} {last'} so_far) e e' =
    more_commits_lem so_far line line' station count (taken x (Failures lines last) b u e) (taken y (Failures lines' last') c u' e')
commit_step s s' b c u u' line line' station count (both_ended paired) e e' = absurd (refuse_next 3 u e)

missing_step : (s s' : Stage) (b : List ℕ) (u : Stage) → CommitLine b → Alongside s s' → accept s b ≡ next u → Alongside u s'
unfolding accept store line_says
missing_step s s' b u line both_header e = absurd (no_header b line (header_taken b u e))
missing_step s s' b u line (both_proposals {count = k} {x} none) e = absurd (no_proposal_lem x b line (taken x (Proposals k) b u e))
missing_step s s' b u line (both_failures {x} {y} {lines} {lines'} {last} {last'} so_far) e = missing_commits so_far line (taken x (Failures lines last) b u e)
missing_step s s' b u line (both_ended paired) e = absurd (refuse_next 3 u e)

-- Both texts are over.
end_step : (s s' : Stage) (k k' : ℕ) (x y : Instance) → Alongside s s' → at_end s k ≡ accepted x → at_end s' k' ≡ accepted y → Paired x y
unfolding at_end
end_step s s' k k' x y both_header e e' = absurd (refused_accepted 3 k x e)
end_step s s' k k' x y (both_proposals none) e e' = absurd (refused_accepted 3 k x e)
end_step s s' k k' x y (both_failures so_far) e e' = absurd (refused_accepted 3 k x e)
end_step s s' k k' x y (both_ended {x = z} {y = w} paired) e e' =
    let first : z ≡ x = cc in
    let second : w ≡ y = cc in
    rw (← first, ← second) paired

-- Both texts from their stages on.
readings_paired : {l m : List Line} (s s' : Stage) (k k' : ℕ) (x y : Instance) → PairedLines l m → Alongside s s'
    → read_from accept at_end s k l ≡ accepted x → read_from accept at_end s' k' m ≡ accepted y → Paired x y
unfolding read_from station_in count_in
readings_paired s s' k k' x y no_lines along e e' = end_step s s' k k' x y along e e'
readings_paired s s' k k' x y (same_line {line = no_line} rest) along e e' = absurd (refused_accepted 2 k x e)
readings_paired s s' k k' x y (same_line {line = bytes b} rest) along e e' =
    let (u, step, more) = proceeds (accept s b) k _ x e in
    let (u', step', more') = proceeds (accept s' b) k' _ y e' in
    readings_paired u u' (suc k) (suc k') x y rest (same_step s s' b u u' along step step') more more'
readings_paired s s' k k' x y (count_no_lower {b} {c} kind step-2 kind' step-2' station count rest) along e e' =
    let (u, step, more) = proceeds (accept s b) k _ x e in
    let (u', step', more') = proceeds (accept s' c) k' _ y e' in
    readings_paired u u' (suc k) (suc k') x y rest (commit_step s s' b c u u' (commit_line_lem b kind step-2) (commit_line_lem c kind' step-2') station count along step step') more more'
readings_paired s s' k k' x y (missing_line {b} kind step-2 rest) along e e' =
    let (u, step, more) = proceeds (accept s b) k _ x e in
    readings_paired u s' (suc k) k' x y rest (missing_step s s' b u (commit_line_lem b kind step-2) along step) more e'

not_too_long : (long : Bool) (reading : Answer Instance) (x : Instance) → cond long (refused 1 0) reading ≡ accepted x → reading ≡ accepted x
not_too_long true reading x e = absurd (refused_accepted 1 0 x e)
not_too_long false reading x e = e

pub texts_paired : (a b : List ℕ) (x y : Instance) → read_ticket a ≡ accepted x → read_ticket b ≡ accepted y → PairedTexts a b → Paired x y
unfolding PairedTexts read_ticket
texts_paired a b x y e e' paired =
    readings_paired header header 1 1 x y paired both_header
    (not_too_long (ltb ticket_limit (length a)) _ x e) (not_too_long (ltb ticket_limit (length b)) _ y e')
