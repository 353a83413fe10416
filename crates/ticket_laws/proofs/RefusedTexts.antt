-- Reading refuses a text just with the refusal and the line of its first wrong line. Assumes nothing.
use mathlib.Core.List.{List, [], ◌∷◌, ◌++◌, map, append-nil, map-append}
use mathlib.Core.Path.{◌≡◌, refl, sym, ap, ◌∙◌}
use mathlib.Core.Bool.{Bool, true, false, cond}
use Prim.Native.Nat.{ℕ, suc, ◌≤◌}
use native.Mathlib.Omega.{arith}
use borrow.Author.Tests.{lt-ltb, le-ltb, ltb-true, ltb-false}
use lib.Dec.{ltb}
use lib.ListN.{length, length-append}
use lib.Seq.{append_snoc}
use Rattle.general.proofs.Tests.{by_order}
use Rattle.consensus.specs.Instance.{Instance}
use Rattle.text.specs.Line.{Line, bytes, no_line, lines_of}
use Rattle.ticket_format.specs.LineVerdict.{LineVerdict, next, refuse}
use Rattle.general.specs.Answer.{Answer, refused}
use Rattle.ticket_format.specs.Reading.{proceed, read_from}
use Rattle.ticket_format.specs.Accept.{Stage, header, body, accept}
use Rattle.ticket_format.specs.declared.Place.TheVariants.{Proposals, Failures, Ended}
use Rattle.ticket_format.specs.Ticket.{ticket_limit, at_end, read_ticket}
use Rattle.ticket_laws.specs.FirstWrong.{kind_in, last_of, Applies, FirstApplies, Right, none, one_more, FirstWrong, too_long, not_aline, wrong_line, cut_short}
use Rattle.ticket_format.proofs.Passing.{refused_accepted}
use Rattle.ticket_laws.specs.RefusedTexts.{RefusedTexts}
use Rattle.ticket_laws.proofs.Wording.{not_over}
use Rattle.ticket_laws.proofs.Judged.{Behind, Judged, right, wrong, judged}

-- Two refusals that are both the first to apply are one.
first_only : (before : List (List ℕ)) (b : List ℕ) (r s : ℕ) → FirstApplies before b r → FirstApplies before b s → r ≡ s
first_only before b r s f g =
    by_order r s
    (λ low. by_order s r (λ high. omega (arith, low, high)) (λ less. absurd (g.first r less f.applies)))
    (λ less. absurd (f.first s less g.applies))

-- Reading goes through right lines, to a stage that they lead to.
pub record Through (before : List (List ℕ)) (rest : List Line) : Type 0 where
  pub to : Stage
  pub behind : Behind before to
  pub same : read_from accept at_end header 1 (map bytes before ++ rest) ≡ read_from accept at_end to (suc (length before)) rest

through_one : (before : List (List ℕ)) (b : List ℕ) (rest : List Line) → ((refusal : ℕ) → Applies before b refusal → ⊥)
    → Through before (bytes b ∷ rest) → Through (before ++ (b ∷ [])) rest
unfolding read_from proceed
through_one before b rest nothing t = by_verdict (accept t.to b) refl (judged before b t.to t.behind)
  where
    longer : length (before ++ (b ∷ [])) ≡ suc (length before)
    longer = length-append before (b ∷ []) ∙ omega arith

    joined : map bytes (before ++ (b ∷ [])) ++ rest ≡ map bytes before ++ (bytes b ∷ rest)
    joined = ap (λ (l : List Line). l ++ rest) (map-append bytes before (b ∷ [])) ∙ append_snoc (map bytes before) (bytes b) rest

    by_verdict : (v : LineVerdict Stage) → accept t.to b ≡ v → Judged before b v → Through (before ++ (b ∷ [])) rest
    by_verdict (next u) e (right escapes behind) =
        record { to = u; behind = behind; same = ap (read_from accept at_end header 1) joined ∙ t.same ∙ rw (e, longer) refl }
    by_verdict (refuse refusal) e (wrong first) = absurd (nothing refusal first.applies)

through : (before : List (List ℕ)) (rest : List Line) → Right before → Through before rest
unfolding Behind
through before rest none = record { to = header; behind = refl; same = refl }
through before rest (one_more lines b more nothing) = through_one lines b rest nothing (through lines (bytes b ∷ rest) more)

-- Where a text is over before its 04.
nothing_over : (before : List (List ℕ)) → length before ≡ 0 → kind_in (last_of before) ≡ 4 → ⊥
unfolding kind_in last_of
nothing_over [] h four = omega (arith, four)
nothing_over (b ∷ before) h four = omega (arith, h)

not_ended : (before : List (List ℕ)) (u : Stage) (k : ℕ) → Behind before u → (kind_in (last_of before) ≡ 4 → ⊥) → at_end u k ≡ refused 3 k
unfolding Behind at_end
not_ended before header k behind open-yet = refl
not_ended before (body (Proposals count) x) k behind open-yet = refl
not_ended before (body (Failures lines last) x) k behind open-yet = refl
not_ended before (body Ended x) k behind open-yet = absurd (open-yet behind.over)

module _ (text : List ℕ) where
  short_read : length text ≤ ticket_limit → read_ticket text ≡ read_from accept at_end header 1 (lines_of text)
  unfolding read_ticket
  short_read h = rw (le-ltb _ _ h)

  -- What is read of a text whose first lines are right.
  read_through : (before : List (List ℕ)) (rest : List Line) (t : Through before rest) → length text ≤ ticket_limit
      → lines_of text ≡ map bytes before ++ rest → read_ticket text ≡ read_from accept at_end t.to (suc (length before)) rest
  read_through before rest t short e = short_read short ∙ ap (read_from accept at_end header 1) e ∙ t.same

  line_refused_lem : (before : List (List ℕ)) (rest : List Line) (b : List ℕ) (refusal : ℕ) → length text ≤ ticket_limit → Right before
      → lines_of text ≡ map bytes before ++ (bytes b ∷ rest) → FirstApplies before b refusal → read_ticket text ≡ refused refusal (suc (length before))
  unfolding read_from proceed
  line_refused_lem before rest b refusal short so_far e first =
      read_through before (bytes b ∷ rest) t short e ∙ by_verdict (accept t.to b) refl (judged before b t.to t.behind)
    where
      t : Through before (bytes b ∷ rest)
      t = through before (bytes b ∷ rest) so_far

      by_verdict : (v : LineVerdict Stage) → accept t.to b ≡ v → Judged before b v
          → proceed (accept t.to b) (suc (length before)) (λ s. read_from accept at_end s (suc (suc (length before))) rest)
          ≡ refused refusal (suc (length before))
      by_verdict (next u) at (right nothing behind) = absurd (nothing refusal first.applies)
      by_verdict (refuse other) at (wrong other-first) = rw (at, first_only before b other refusal other-first first) refl

  pub wrong_refused : (refusal line : ℕ) → FirstWrong text refusal line → read_ticket text ≡ refused refusal line
  unfolding read_ticket read_from
  wrong_refused refusal line (too_long h) = rw (lt-ltb ticket_limit (length text) h)
  wrong_refused refusal line (not_aline before rest short so_far e) = read_through before (no_line ∷ rest) (through before (no_line ∷ rest) so_far) short e
  wrong_refused refusal line (wrong_line before rest b r short so_far e first) = line_refused_lem before rest b r short so_far e first
  wrong_refused refusal line (cut_short before short so_far e open-yet) =
      let t : Through before [] = through before [] so_far in
      read_through before [] t short (e ∙ sym (append-nil (map bytes before)))
      ∙ not_ended before t.to (suc (length before)) t.behind open-yet

  -- The same refusal, told as another.
  told : (refusal line refusal' line' : ℕ) → ◌≡◌ {A = Answer Instance} (refused refusal line) (refused refusal' line') → FirstWrong text refusal line
      → FirstWrong text refusal' line'
  told refusal line refusal' line' e so =
      let same : refusal ≡ refusal' = cc in
      let place : line ≡ line' = cc in
      rw (same, place) at so

  module _ (short : length text ≤ ticket_limit) (refusal line : ℕ) where
    end_wrong : (before : List (List ℕ)) (s : Stage) → Right before → Behind before s → lines_of text ≡ map bytes before
        → at_end s (suc (length before)) ≡ refused refusal line → FirstWrong text refusal line
    unfolding at_end Behind
    end_wrong before header so_far behind at e =
        told 3 (suc (length before)) refusal line e (cut_short before short so_far at (nothing_over before behind))
    end_wrong before (body (Proposals count) x) so_far behind at e =
        told 3 (suc (length before)) refusal line e (cut_short before short so_far at behind.going_on)
    end_wrong before (body (Failures lines last) x) so_far behind at e =
        told 3 (suc (length before)) refusal line e (cut_short before short so_far at (not_over before last behind.behind))
    end_wrong before (body Ended x) so_far behind at e = absurd (refused_accepted refusal line x (sym e))

    lines_wrong : (lines : List Line) (before : List (List ℕ)) (s : Stage) → Right before → Behind before s → lines_of text ≡ map bytes before ++ lines
        → read_from accept at_end s (suc (length before)) lines ≡ refused refusal line → FirstWrong text refusal line
    unfolding read_from proceed
    lines_wrong [] before s so_far behind at e = end_wrong before s so_far behind (at ∙ append-nil (map bytes before)) e
    lines_wrong (no_line ∷ lines) before s so_far behind at e = told 2 (suc (length before)) refusal line e (not_aline before lines short so_far at)
    lines_wrong (bytes b ∷ lines) before s so_far behind at e =
        by_verdict (accept s b) (judged before b s behind) e (λ (u : Stage) more known. lines_wrong lines (before ++ (b ∷ [])) u more known joined)
      where
        joined : lines_of text ≡ map bytes (before ++ (b ∷ [])) ++ lines
        joined = at ∙ sym (ap (λ (l : List Line). l ++ lines) (map-append bytes before (b ∷ [])) ∙ append_snoc (map bytes before) (bytes b) lines)

        longer : suc (length before) ≡ length (before ++ (b ∷ []))
        longer = sym (length-append before (b ∷ []) ∙ omega arith)

        by_verdict : (v : LineVerdict Stage) → Judged before b v
            → proceed v (suc (length before)) (λ u. read_from accept at_end u (suc (suc (length before))) lines) ≡ refused refusal line
            → ((u : Stage) → Right (before ++ (b ∷ [])) → Behind (before ++ (b ∷ [])) u
            → read_from accept at_end u (suc (length (before ++ (b ∷ [])))) lines ≡ refused refusal line → FirstWrong text refusal line)
            → FirstWrong text refusal line
        by_verdict (next u) (right nothing known) h more = more u (one_more before b so_far nothing) known (rw longer at h)
        by_verdict (refuse number) (wrong first) h more =
            told number (suc (length before)) refusal line h (wrong_line before lines b number short so_far at first)

  pub refused_wrong : (refusal line : ℕ) → read_ticket text ≡ refused refusal line → FirstWrong text refusal line
  unfolding read_ticket Behind
  refused_wrong refusal line e = by_length (ltb ticket_limit (length text)) refl e
    where
      by_length : (long : Bool) → ltb ticket_limit (length text) ≡ long
          → cond long (refused 1 0) (read_from accept at_end header 1 (lines_of text)) ≡ refused refusal line → FirstWrong text refusal line
      by_length true h g = told 1 0 refusal line g (too_long (ltb-true _ _ h))
      by_length false h g = lines_wrong (ltb-false _ _ h) refusal line (lines_of text) [] header none refl refl g

pub refused_texts_lem : RefusedTexts
refused_texts_lem = record { given = wrong_refused; only = refused_wrong }
