-- Prices by hand (document 02, Paper 9): the rates of a value, both sides of each half penny, lines and sums of lines, and which lines are priced.
use Rattle.std.specs.Prelude.{List, [], ◌∷◌, ◌++◌, map, ◌≡◌, ℕ, ◌+◌, replicate}
use Rattle.std.proofs.Math.Option.{some, none}
use Rattle.consensus.specs.declared.State.TheVariants.{Undecided as undecided, Decided as decided, Crashed as crashed}
use Rattle.pricing.specs.Price.{overhead_of, markup_of, nearest, line_price, price_of}
use Rattle.pricing.specs.Quote.{lines_refusal, quote_by}

-- 03E801F4, 10 % and 5 %; 01F403E8, 5 % and 10 %; 05DC03E8, 15 % and 10 %.
abbrev pub ten_and_five : ℕ
ten_and_five = 65536000 + 500

abbrev pub five_and_ten : ℕ
five_and_ten = 32768000 + 1000

abbrev pub fifteen_and_ten : ℕ
fifteen_and_ten = 98304000 + 1000

-- A value whose four bytes differ: 12345678.
abbrev pub four_bytes : ℕ
four_bytes = 305419896

-- 200 lines, the last with this cost.
abbrev pub two_hundred : (last : ℕ) → List ℕ
two_hundred last = replicate 199 0 ++ (last ∷ [])

pub record PriceCases : Type 0 where
  -- 1234 and 5678; a hundredth of a percent each; all of it
  pub overheads : map overhead_of (ten_and_five ∷ four_bytes ∷ 0 ∷ 1 ∷ 65535 ∷ 65536 ∷ 4294967295 ∷ []) ≡ 1000 ∷ 4660 ∷ 0 ∷ 0 ∷ 0 ∷ 1 ∷ 65535 ∷ []
  pub markups : map markup_of (ten_and_five ∷ four_bytes ∷ 0 ∷ 1 ∷ 65535 ∷ 65536 ∷ 4294967295 ∷ []) ≡ 500 ∷ 22136 ∷ 0 ∷ 1 ∷ 65535 ∷ 0 ∷ 65535 ∷ []
  -- a half penny goes up, a ten-thousandth less goes down; above a whole penny too
  pub halves : map nearest (0 ∷ 4999 ∷ 5000 ∷ 5001 ∷ 9999 ∷ 10000 ∷ 14999 ∷ 15000 ∷ 24999 ∷ 25000 ∷ []) ≡ 0 ∷ 0 ∷ 1 ∷ 1 ∷ 1 ∷ 1 ∷ 1 ∷ 2 ∷ 2 ∷ 3 ∷ []
  -- the figures of the request: 12,345 at 14,259, and 5 at 6; 0000000A has 0.1 % of markup alone, and makes 100,000 to 100,100
  pub figures : line_price ten_and_five 12345 ∷ line_price ten_and_five 5 ∷ line_price 10 100000 ∷ [] ≡ 14259 ∷ 6 ∷ 100100 ∷ []
  -- half a penny of overhead and of markup goes up, a ten-thousandth less goes down: 50 % and 49.99 % of a penny, and 50 % of 5 pence; and by 03E801F4 the
  -- markup on 9 pence, with overhead 10, is half a penny
  pub halves_of_lines : line_price 327680000 1 ∷ line_price 327614464 1 ∷ line_price 327680000 5 ∷ line_price 5000 1 ∷ line_price 4999 1 ∷ line_price 5000 5
      ∷ line_price ten_and_five 9 ∷ [] ≡ 2 ∷ 1 ∷ 8 ∷ 2 ∷ 1 ∷ 8 ∷ 11 ∷ []
  -- with the rates changed for each other it is a penny less; no cost, no rates, overhead alone, and the highest rates on a penny
  pub lines : line_price five_and_ten 12345 ∷ line_price ten_and_five 0 ∷ line_price 0 12345 ∷ line_price 65536000 12345 ∷ line_price 4294967295 1 ∷ []
      ≡ 14258 ∷ 0 ∷ 12345 ∷ 13580 ∷ 60 ∷ []
  -- lines are rounded one by one: three lines of 4 pence are 12, and one of 12 is 14
  pub sums : price_of ten_and_five (4 ∷ 4 ∷ 4 ∷ []) ∷ price_of ten_and_five (12 ∷ []) ∷ price_of ten_and_five [] ∷ price_of fifteen_and_ten (10000 ∷ 333 ∷ 1 ∷ []) ∷ []
      ≡ 12 ∷ 14 ∷ 0 ∷ 13072 ∷ []
  -- from 1 to 200 lines
  pub counted : lines_refusal [] ∷ lines_refusal (0 ∷ []) ∷ lines_refusal (replicate 200 0) ∷ lines_refusal (replicate 201 0) ∷ [] ≡ 14 ∷ 0 ∷ 0 ∷ 14 ∷ []
  -- costs up to 1,000,000,000, on the first line and on the last; above that up to 64 bits
  pub costly : map lines_refusal ((1000000000 ∷ []) ∷ (1000000001 ∷ 0 ∷ []) ∷ (0 ∷ 1000000001 ∷ []) ∷ (18446744073709551615 ∷ []) ∷ (4294967301 ∷ []) ∷ [])
      ≡ 0 ∷ 15 ∷ 15 ∷ 15 ∷ 15 ∷ []
  pub costly_last : lines_refusal (two_hundred 1000000000) ∷ lines_refusal (two_hundred 1000000001) ∷ [] ≡ 0 ∷ 15 ∷ []
  -- 14 comes before 15
  pub order : lines_refusal (replicate 201 1000000001) ≡ 14
  -- a process quotes by what it decided, and only then
  pub quoted : quote_by (decided 2 ten_and_five) (12345 ∷ 5 ∷ []) ∷ quote_by (undecided ten_and_five) (5 ∷ []) ∷ quote_by (crashed 1) (5 ∷ []) ∷ []
      ≡ some 14265 ∷ none ∷ none ∷ []
