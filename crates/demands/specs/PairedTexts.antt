-- Two texts paired line by line (document 01, 'A round', last paragraph: "lines are equal if their digits make the same bytes. Each step 02 line of the
-- first, idle or not, stands in the second with the same station and a count no lower, or is missing there; the second has no other failure lines"). All
-- other lines are the same.
use Rattle.std.specs.Prelude.{List, [], ◌∷◌, ◌≡◌, ℕ, ◌≤◌}
use Rattle.text.specs.Line.{Line, bytes, lines_of}
use Rattle.ticket_laws.specs.FirstWrong.{kind_in, station_in, step_in, count_in}

-- A line is the same in both; or it is of step 02 (kind 03), and stands in the second with a count no lower or is missing there.
pub data PairedLines : List Line → List Line → Type 0 where
  no_lines : PairedLines [] []
  same_line : {line : Line} {l m : List Line} → PairedLines l m → PairedLines (line ∷ l) (line ∷ m)
  count_no_lower : {b c : List ℕ} {l m : List Line} → kind_in b ≡ 3 → step_in b ≡ 2 → kind_in c ≡ 3 → step_in c ≡ 2 → station_in b ≡ station_in c
      → count_in b ≤ count_in c → PairedLines l m → PairedLines (bytes b ∷ l) (bytes c ∷ m)
  missing_line : {b : List ℕ} {l m : List Line} → kind_in b ≡ 3 → step_in b ≡ 2 → PairedLines l m → PairedLines (bytes b ∷ l) m

-- Two texts are paired if their lines are.
unfoldable pub PairedTexts : (a b : List ℕ) → Type 0
PairedTexts a b = PairedLines (lines_of a) (lines_of b)
