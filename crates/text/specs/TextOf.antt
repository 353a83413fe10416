-- A text that is given by its lines, as the worked tables give theirs.
use Rattle.std.specs.Prelude.{List, [], ◌∷◌, ◌++◌, ℕ}
use Prim.Native.String.{String}
use Rattle.general.specs.Text.{ascii}

-- The text of lines, each closed by 0A.
unfoldable pub text_of : List String → List ℕ
text_of [] = []
text_of (line ∷ lines) = ascii line ++ (10 ∷ []) ++ text_of lines
