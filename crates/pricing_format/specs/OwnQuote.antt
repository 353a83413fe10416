-- Quoting tender lines from a process's own nine bytes. The paper has no such call; a process part has no ticket, and prices by what it has decided itself
-- (docs/DECISIONS.md, P9.2).
use Rattle.std.specs.Prelude.{List, ℕ, cond, eqb}
use Rattle.general.specs.Answer.{Answer, refused}
use Rattle.pricing.specs.Quote.{quote_by}
use Rattle.part_format.specs.PartState.{state_refusal}
use Rattle.part_host.specs.Part.{up}
use Rattle.part_host.specs.PartEnds.{state_by_part}
use Rattle.pricing_format.specs.Quoting.{quoted_or16, of_lines}

-- A quote by what the nine bytes say of their process; or a refusal, of no line: 10 as for speaking and closing, then 14 and 15, then 16 where they do not say
-- that it has decided.
unfoldable pub own_quote : (state costs : List ℕ) → Answer ℕ
own_quote state costs = cond (eqb (state_refusal state) 10) (refused 10 0) (of_lines costs (quoted_or16 (quote_by (state_by_part (up state)) costs)))
