-- What the answer to the first line means for the text: its refusal, or what is still to be read. Assumes nothing.
use mathlib.Core.List.{List}
use mathlib.Core.Path.{◌≡◌, refl, sym, ap, ◌∙◌}
use mathlib.Core.Bool.{true}
use Prim.Native.Nat.{ℕ, ◌≤◌, ◌<◌}
use lib.ListN.{length, get_or, drop}
use Rattle.std.proofs.Common.{Result, Ok, Err, None}
use Rattle.consensus.specs.Instance.{within_limits}
use Rattle.text.specs.Line.{lines_of}
use Rattle.general.specs.Answer.{refused}
use Rattle.refusals.specs.Number.{number_of}
use Rattle.refusals.specs.declared.Refusal.{Refusal}
use Rattle.ticket_checks.specs.declared.Limits.{Limits}
use Rattle.ticket_format.specs.Reading.{proceed, read_from}
use Rattle.ticket_format.specs.Says.{header_says}
use Rattle.ticket_format.specs.Accept.{header, begin, accept}
use Rattle.ticket_format.specs.Ticket.{at_end, read_lines}
use Rattle.ticket_format.specs.LineAnswer.{HeaderAnswer}
use Rattle.ticket_format.proofs.LineCases.{HeaderCase, limits_said, header_refused, header_case}
use Rattle.lines.specs.code.Read.{read_at}
use Rattle.lines.specs.declared.Line.{Line}
use Rattle.lines.proofs.Read.{LineAt, read_no_line, lines_at_end}
use Rattle.ticket_lines.specs.code.Said.{bytes_in, header_by}
use Rattle.ticket_lines.proofs.Whole.{header_words}
use Rattle.ticket.specs.code.FirstLine.{FirstRead}

module _ (text : List ℕ) where
  pub no_text : length text ≤ 0 → read_lines text ≡ refused 3 1
  unfolding read_from at_end
  no_text h = ap (read_from accept at_end header 1) (lines_at_end text 0 h)

  pub no_header : 0 < length text → read_at text 0 ≡ None → read_lines text ≡ refused 2 1
  unfolding read_from
  no_header h e =
      let rest = read_no_line text 0 e h in
      ap (read_from accept at_end header 1) rest.1

  -- A line of bytes, and the answer to it as `header_line` gives it.
  module _ (line : Line) (next : ℕ) (there : LineAt text 0 line next)
      (answer : Result Limits Refusal) (given : header_by answer ≡ header_says (bytes_in line)) where
    says : header_by answer ≡ header_says there.said
    says = given ∙ header_words there.said there.each line there.sized there.upper there.lower

    proceeds : (said : HeaderAnswer) → header_by answer ≡ said
        → read_lines text ≡ proceed (begin said) 1 (λ s. read_from accept at_end s 2 (lines_of (drop next text)))
    unfolding read_from accept
    proceeds said e =
        let by_bytes : header_says there.said ≡ said = sym says ∙ e in
        ap (read_from accept at_end header 1) there.lines ∙ rw by_bytes

    within : {limits : Limits} → answer ≡ Ok limits → within_limits limits.n limits.t ≡ true
    within {limits} e = by_case (header_case there.said) (sym (ap header_by e) ∙ says)
      where
        by_case : {a : HeaderAnswer} → HeaderCase there.said a → HeaderAnswer.Limits limits.n limits.t ≡ a → within_limits limits.n limits.t ≡ true
        by_case (limits_said kind inside) h =
            let en : limits.n ≡ get_or there.said 1 0 = cc in
            let et : limits.t ≡ get_or there.said 2 0 = cc in
            rw (en, et) inside
        by_case (header_refused refusal wrong) h = cc

    by_answer : (a : Result Limits Refusal) → answer ≡ a → FirstRead text a next
    unfolding proceed begin
    by_answer (Ok limits) e =
        record { inside = there.inside; within = within e; same = proceeds (HeaderAnswer.Limits limits.n limits.t) (ap header_by e) }
    by_answer (Err refusal) e = proceeds (HeaderAnswer.Refused (number_of refusal)) (ap header_by e)

    pub first_read : FirstRead text answer next
    first_read = by_answer answer refl
