-- The cases of PriceCases hold, by computation. Assumes nothing.
use mathlib.Core.Path.{refl}
use Rattle.pricing.specs.Price.{overhead_of, markup_of, nearest, with_rate, line_price, price_of}
use Rattle.pricing.specs.Quote.{any_above, lines_refusal, quote_by}
use Rattle.pricing.specs.PriceCases.{PriceCases}

pub price_cases : PriceCases
unfolding overhead_of markup_of nearest with_rate line_price price_of any_above lines_refusal quote_by
price_cases =
    record {
      overheads = refl;
      markups = refl;
      halves = refl;
      figures = refl;
      halves_of_lines = refl;
      lines = refl;
      sums = refl;
      counted = refl;
      costly = refl;
      costly_last = refl;
      order = refl;
      quoted = refl;
    }
