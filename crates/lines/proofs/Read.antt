-- What callers of `Cursor::read` know by the answer: an accepted line, no line, and the end of the text. Assumes nothing.
use mathlib.Core.List.{List, [], ◌∷◌, ◌++◌}
use mathlib.Core.Path.{◌≡◌, refl, sym, ap, subst, ◌∙◌}
use mathlib.Core.Bool.{Bool, true, false, cond}
use Prim.Native.Nat.{ℕ, suc, ◌+◌, ◌-◌, ◌*◌, ◌≤◌, ◌<◌}
use native.Mathlib.Omega.{arith}
use lib.Dec.{eqb}
use lib.ListN.{length, get_or, drop, length-append, length-drop, drop_of_length-le}
use lib.Seq.{drop-cons, drop-drop}
use Rattle.std.proofs.Common.{None, Some}
use Rattle.general.proofs.Bytes.{Bytes}
use Rattle.text.specs.Digit.{digit_value, is_digit}
use Rattle.text.specs.Line.{Line as TextLine, bytes, no_line, Scan, even, odd, broken, scan, closed, unclosed, lines_from, lines_of}
use Rattle.text.proofs.LineBytes.{Lines, lines_bytes}
use Rattle.lines.specs.code.Words.{upper_word, lower_word}
use Rattle.lines.specs.code.Read.{first_line, read_at}
use Rattle.lines.specs.declared.Cursor.{Cursor}
use Rattle.lines.specs.declared.Line.{Line}
use Rattle.lines.proofs.Answer.{broken_first}

-- How many characters of the present line have been read.
abbrev taken : Scan → ℕ
taken (even b) = 2 * length b
taken (odd b high) = suc (2 * length b)
taken broken = 0

-- Where the first line of a text ends, of which `s` has been read, if it is one: two digits for a byte, and 0A.
record EndsAt (s : Scan) (text b : List ℕ) (rest : List TextLine) : Type 0 where
  some : 0 < length b
  begun : taken s ≤ 2 * length b
  inside : 2 * length b < taken s + length text
  lines : rest ≡ lines_of (drop (suc (2 * length b) - taken s) text)

-- One that something broken begins is none.
broken_bytes : (l b : List ℕ) (rest : List TextLine) → lines_from broken l ≡ bytes b ∷ rest → ⊥
unfolding first_line
broken_bytes l b rest e =
    let none = broken_first 0 l in
    cc

unclosed_bytes : (s : Scan) (b : List ℕ) (rest : List TextLine) → unclosed s ≡ bytes b ∷ rest → ⊥
unfolding unclosed
unclosed_bytes (even []) b rest e = cc
unclosed_bytes (even (a ∷ bs)) b rest e = cc
unclosed_bytes (odd bs high) b rest e = cc
unclosed_bytes broken b rest e = cc

-- 0A.
closed_at : (s : Scan) (c : ℕ) (l b : List ℕ) (rest : List TextLine) → closed s ∷ lines_of l ≡ bytes b ∷ rest → EndsAt s (c ∷ l) b rest
unfolding closed
closed_at (even []) c l b rest e = cc
closed_at (even (a ∷ bs)) c l b rest e =
    let same : a ∷ bs ≡ b = cc in
    let after : lines_of l ≡ rest = cc in
    let size : length b ≡ suc (length bs) = ap length (sym same) in
    let one : suc (2 * length b) - taken (even (a ∷ bs)) ≡ 1 = omega arith in
    record { some = omega arith; begun = omega arith; inside = omega arith; lines = rw one (sym after) }
closed_at (odd bs high) c l b rest e = cc
closed_at broken c l b rest e = cc

-- One character more.
one_more_lem : (s u : Scan) (c : ℕ) (l b : List ℕ) (rest : List TextLine) → taken u ≡ suc (taken s) → EndsAt u l b rest → EndsAt s (c ∷ l) b rest
one_more_lem s u c l b rest more at =
    let place : suc (2 * length b) - taken s ≡ suc (suc (2 * length b) - taken u) = omega (arith, at.begun) in
    record { some = at.some; begun = omega (arith, at.begun); inside = omega (arith, at.inside); lines = rw place at.lines }

digit_at : (s : Scan) (c : ℕ) (digit : Bool) (l b : List ℕ) (rest : List TextLine) → is_digit c ≡ digit → lines_from (scan s c) l ≡ bytes b ∷ rest
    → ((u : Scan) → lines_from u l ≡ bytes b ∷ rest → EndsAt u l b rest) → EndsAt s (c ∷ l) b rest
unfolding scan
digit_at (even bs) c true l b rest d e ends = one_more_lem (even bs) (odd bs (digit_value c)) c l b rest refl (ends (odd bs (digit_value c)) (rw d at e))
digit_at (odd bs high) c true l b rest d e ends =
    let u : Scan = even (bs ++ ((high * 16 + digit_value c) ∷ [])) in
    one_more_lem (odd bs high) u c l b rest (rw length-append (omega arith)) (ends u (rw d at e))
digit_at (even bs) c false l b rest d e ends = absurd (broken_bytes l b rest (rw d at e))
digit_at (odd bs high) c false l b rest d e ends = absurd (broken_bytes l b rest (rw d at e))
digit_at broken c digit l b rest d e ends = absurd (broken_bytes l b rest e)

either_at : (s : Scan) (c : ℕ) (end : Bool) (l b : List ℕ) (rest : List TextLine) → eqb c 10 ≡ end
    → cond end (closed s ∷ lines_of l) (lines_from (scan s c) l) ≡ bytes b ∷ rest
    → ((u : Scan) → lines_from u l ≡ bytes b ∷ rest → EndsAt u l b rest) → EndsAt s (c ∷ l) b rest
either_at s c true l b rest h e ends = closed_at s c l b rest e
either_at s c false l b rest h e ends = digit_at s c (is_digit c) l b rest refl e ends

ends_at : (l : List ℕ) (s : Scan) (b : List ℕ) (rest : List TextLine) → lines_from s l ≡ bytes b ∷ rest → EndsAt s l b rest
unfolding lines_from lines_of
ends_at [] s b rest e = absurd (unclosed_bytes s b rest e)
ends_at (c ∷ l) s b rest e = either_at s c (eqb c 10) l b rest refl e (λ u h. ends_at l u b rest h)

-- This line begins at place `at`, and the next one at `next`.
pub record LineAt (text : List ℕ) (at : ℕ) (line : Line) (next : ℕ) : Type 0 where
  pub said : List ℕ
  pub each : Bytes said
  pub sized : length said ≡ line.size
  pub some : 0 < line.size
  pub upper : line.head ≡ upper_word said
  pub lower : line.tail ≡ lower_word said
  pub after : next ≡ at + 2 * line.size + 1
  pub inside : next ≤ length text
  pub lines : lines_of (drop at text) ≡ bytes said ∷ lines_of (drop next text)

-- A text with a character in it has a line.
still_open : (s : Scan) (c : ℕ) (b : Bool) → is_digit c ≡ b → unclosed (scan s c) ≡ [] → ⊥
unfolding scan unclosed
still_open (even bs) c true e h = cc
still_open (even bs) c false e h = cc
still_open (odd [] high) c true e h = cc
still_open (odd (b ∷ bs) high) c true e h = cc
still_open (odd bs high) c false e h = cc
still_open broken c b e h = cc

step_some : (s : Scan) (c : ℕ) (l : List ℕ) (b : Bool) → eqb c 10 ≡ b → (lines_from (scan s c) l ≡ [] → ⊥) → lines_from s (c ∷ l) ≡ [] → ⊥
unfolding lines_from
step_some s c l true e f h = cc
step_some s c l false e f h = f (rw e at h)

some_line : (l : List ℕ) (c : ℕ) (s : Scan) → lines_from s (c ∷ l) ≡ [] → ⊥
unfolding lines_from
some_line [] c s = step_some s c [] (eqb c 10) refl (still_open s c (is_digit c) refl)
some_line (d ∷ l) c s = step_some s c (d ∷ l) (eqb c 10) refl (some_line l d (scan s c))

-- The first of some lines, if reading there answers none.
first_no_line : (at : ℕ) (lines : List TextLine) → first_line at lines ≡ None → (lines ≡ [] → ⊥) → (rest : List TextLine) × (lines ≡ no_line ∷ rest)
unfolding first_line
first_no_line at [] e f = absurd (f refl)
first_no_line at (no_line ∷ lines) e f = (lines, refl)
first_no_line at (bytes b ∷ lines) e f = cc

-- A line of bytes, and what is behind it.
line_said : (text : List ℕ) (at : ℕ) (b : List ℕ) (rest : List TextLine) → lines_of (drop at text) ≡ bytes b ∷ rest
    → LineAt text at (record { size = length b; head = upper_word b; tail = lower_word b }) (at + 2 * length b + 1)
unfolding lines_of Lines
line_said text at b rest e =
    let ends = ends_at (drop at text) (even []) b rest e in
    let bytes_all : Lines (bytes b ∷ rest) = subst Lines e (lines_bytes (drop at text)) in
    let place : at + (suc (2 * length b) - 0) ≡ at + 2 * length b + 1 = omega arith in
    let shorter : length (drop at text) ≡ length text - at = length-drop at text in
    record {
      said = b;
      each = bytes_all.0;
      sized = refl;
      some = ends.some;
      upper = refl;
      lower = refl;
      after = refl;
      inside = omega (arith, ends.inside);
      lines = e
          ∙ ap (λ (l : List TextLine). bytes b ∷ l)
          (ends.lines ∙ ap lines_of (drop-drop (suc (2 * length b) - 0) at text ∙ ap (λ (k : ℕ). drop k text) place));
    }

module _ (text : List ℕ) (at : ℕ) where
  -- An accepted line.
  pub read_line : (line : Line) (next : Cursor) → read_at text at ≡ Some (line, next) → LineAt text at line next.at
  unfolding read_at first_line
  read_line line next r = by_lines (lines_of (drop at text)) refl r
    where
      by_lines : (lines : List TextLine) → lines_of (drop at text) ≡ lines → first_line at lines ≡ Some (line, next) → LineAt text at line next.at
      by_lines [] e r = cc
      by_lines (no_line ∷ lines) e r = cc
      by_lines (bytes b ∷ lines) e r =
          let first : Line × Cursor = (record { size = length b; head = upper_word b; tail = lower_word b }, record { at = at + 2 * length b + 1 }) in
          let same : first ≡ (line, next) = cc in
          subst (λ (read : Line × Cursor). LineAt text at read.0 read.1.at) same (line_said text at b lines e)

  -- No line, before the end of the text.
  pub read_no_line : read_at text at ≡ None → at < length text → (rest : List TextLine) × (lines_of (drop at text) ≡ no_line ∷ rest)
  unfolding read_at lines_of
  read_no_line r h =
      let e : drop at text ≡ get_or text at 0 ∷ drop (suc at) text = drop-cons text at 0 h in
      first_no_line at (lines_of (drop at text)) r (λ n. some_line (drop (suc at) text) (get_or text at 0) (even []) (rw e at n))

  -- No line is left at the end of the text.
  pub lines_at_end : length text ≤ at → lines_of (drop at text) ≡ []
  unfolding lines_of lines_from unclosed
  lines_at_end h = rw (drop_of_length-le text h)
