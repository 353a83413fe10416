-- What is quoted from nine bytes is what the table says, computed. Assumes nothing.
use mathlib.Core.Path.{refl}
use Rattle.general.specs.BigEndian.{number, number_from}
use Rattle.consensus.specs.Instance.{within_limits}
use Rattle.pricing.specs.Price.{overhead_of, markup_of, nearest, with_rate, line_price, price_of}
use Rattle.pricing.specs.Quote.{any_above, lines_refusal, quote_by}
use Rattle.part_format.specs.PartState.{state_from, identity_valid, round_valid, fields_valid, state_valid, state_refusal}
use Rattle.part_host.specs.PartEnds.{state_by_part}
use Rattle.pricing_format.specs.Quoting.{quoted_or16, of_lines}
use Rattle.pricing_format.specs.OwnQuote.{own_quote}
use Rattle.pricing_format.specs.OwnCases.{second, fourth, OwnCases}

pub own_cases : OwnCases
unfolding number number_from within_limits overhead_of markup_of nearest with_rate line_price price_of any_above lines_refusal quote_by state_from identity_valid round_valid fields_valid state_valid state_refusal state_by_part quoted_or16 of_lines own_quote second fourth
own_cases = record { quoted = refl; no_state = refl; state_first = refl; lines_next = refl }
