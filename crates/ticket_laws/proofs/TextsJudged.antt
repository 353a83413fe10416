-- Every text is a ticket or has a first wrong line, and only one of the two, since it is accepted or refused. Assumes nothing.
use mathlib.Core.List.{List}
use mathlib.Core.Path.{◌≡◌, refl, sym, ◌∙◌}
use Prim.Native.Nat.{ℕ}
use Rattle.consensus.specs.Instance.{Instance}
use Rattle.general.specs.Answer.{Answer, accepted, refused}
use Rattle.ticket_format.specs.Ticket.{read_ticket}
use Rattle.ticket_format.proofs.Passing.{refused_accepted}
use Rattle.ticket_laws.specs.TextsJudged.{TextJudged, is_ticket, is_wrong, TextsJudged}
use Rattle.ticket_laws.proofs.AcceptedTexts.{accepted_texts_lem}
use Rattle.ticket_laws.proofs.RefusedTexts.{refused_texts_lem}

judged_as : (text : List ℕ) (reading : Answer Instance) → read_ticket text ≡ reading → TextJudged text
judged_as text (accepted x) e = is_ticket x (accepted_texts_lem.exact text x e)
judged_as text (refused refusal line) e = is_wrong refusal line (refused_texts_lem.only text refusal line e)

same_instance : (x y : Instance) → accepted x ≡ accepted y → x ≡ y
same_instance x y e = cc

same_refusal : (refusal line refusal' line' : ℕ) → ◌≡◌ {A = Answer Instance} (refused refusal line) (refused refusal' line')
    → (refusal ≡ refusal') × (line ≡ line')
same_refusal refusal line refusal' line' e =
    let first : refusal ≡ refusal' = cc in
    let second : line ≡ line' = cc in
    (first, second)

pub texts_judged : TextsJudged
texts_judged =
    record {
      each = λ text. judged_as text (read_ticket text) refl;
      one_instance = λ text x y t u. same_instance x y (sym (accepted_texts_lem.complete text x t) ∙ accepted_texts_lem.complete text y u);
      one_refusal = λ text refusal line refusal' line' w v.
          same_refusal refusal line refusal' line' (sym (refused_texts_lem.given text refusal line w) ∙ refused_texts_lem.given text refusal' line' v);
      not_both = λ text x refusal line t w.
          refused_accepted refusal line x (sym (refused_texts_lem.given text refusal line w) ∙ accepted_texts_lem.complete text x t);
    }
