-- Quoting tender lines for a process of a ticket's run (document 02, Paper 9: "After 1 to 8, in this order: 14, no lines or more than 200; 15, a direct cost
-- above 1,000,000,000; 16, a desk outside 1 to n or dark").
use Rattle.std.specs.Prelude.{List, ℕ, cond, ◌&&◌, eqb, leb}
use Rattle.std.proofs.Math.Option.{Option, some, none}
use Rattle.consensus.specs.Instance.{Instance}
use Rattle.coordinator.specs.Run.{end_of}
use Rattle.general.specs.Answer.{Answer, accepted, refused, and_then}
use Rattle.ticket_format.specs.Ticket.{read_ticket}
use Rattle.pricing.specs.Quote.{lines_refusal, quote_by}

-- A quote in pence; or refusal 16, of no line, of a process that has none.
unfoldable pub quoted_or16 : Option ℕ → Answer ℕ
quoted_or16 (some pence) = accepted pence
quoted_or16 none = refused 16 0

-- Refusals 14 and 15 of the lines, of no line of a ticket, come before what is answered otherwise.
unfoldable pub of_lines : (costs : List ℕ) → Answer ℕ → Answer ℕ
of_lines costs answer = cond (eqb (lines_refusal costs) 0) answer (refused (lines_refusal costs) 0)

-- The quote of process p for these costs, by how it ends; 16 where the instance has no such process.
unfoldable pub quote_in : (costs : List ℕ) → (p : ℕ) → Instance → Answer ℕ
quote_in costs p x = of_lines costs (cond (leb 1 p && leb p x.processes) (quoted_or16 (quote_by (end_of x p) costs)) (refused 16 0))

-- What is answered on a text: a quote, or a refusal, 1 to 8 with its line, and after these 14, 15 and 16.
unfoldable pub quoting : (text costs : List ℕ) → (p : ℕ) → Answer ℕ
quoting text costs p = and_then (read_ticket text) (quote_in costs p)
