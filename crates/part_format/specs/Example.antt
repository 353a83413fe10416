-- The premises of the claims on refused and on accepted calls can be met: by one state (document 01, 'The desk part' and 'Refused calls').
use Rattle.std.specs.Prelude.{List, [], ℕ, length}
use Rattle.part_format.specs.Start.{start_refusal}
use Rattle.part_format.specs.Speak.{speak_refusal}
use Rattle.part_format.specs.Close.{close_refusal}
use Rattle.part_format.specs.Leaves.{Accepted}
use Rattle.part_format.specs.Refused.{Refused}
use Rattle.part_format.specs.Case.{bytes_in}

-- Process 2, open in its own round; and seven bytes of output, or of anything heard.
unfoldable pub own : List ℕ
own = bytes_in "02 04 03 02 00 01020304"

unfoldable pub seven : List ℕ
seven = bytes_in "E1 E2 E3 E4 E5 E6 E7"

-- Each premise of `RefusedCallsChangeNothing` and of `LeavesValid`.
pub record PremisesMet : Type 0 where
  -- a start as station 0, speaking into seven bytes, closing on them
  pub start_refused : Refused (start_refusal 0 4 3 own)
  pub speak_refused : Refused (speak_refusal own (length seven))
  pub close_refused : Refused (close_refusal own seven)
  -- a start as station 1, and closing on nothing
  pub start_accepted : Accepted (start_refusal 1 4 3 own)
  pub close_accepted : Accepted (close_refusal own [])
