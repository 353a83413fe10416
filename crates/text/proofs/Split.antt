-- A text has just the lines into which its 0As cut it; and lines that are written and read, both ways. Assumes nothing.
use mathlib.Core.List.{List, [], ◌∷◌, ◌++◌, map, append-nil, map-append}
use mathlib.Core.Path.{◌≡◌, refl, sym, ap, ap₂, subst, ◌∙◌}
use mathlib.Core.Bool.{Bool, true, false, cond}
use Prim.Native.Nat.{ℕ, ◌+◌, ◌*◌, ◌≤◌}
use native.Mathlib.Omega.{arith}
use borrow.Author.Tests.{ne_eqb}
use lib.ListN.{length}
use lib.Seq.{append_snoc}
use Rattle.general.proofs.Tests.{by_equal}
use Rattle.general.proofs.Bytes.{Bytes}
use Rattle.text.specs.Digit.{digit_value, is_digit}
use Rattle.text.specs.Capitals.{capital}
use Rattle.text.specs.HexText.{hex_digits, hex_line, hex_lines}
use Rattle.text.specs.Line.{Line, bytes, no_line, Scan, even, odd, broken, scan, closed, unclosed, lines_from, lines_of}
use Rattle.text.specs.Split.{Spells, LineIs, spelt, not_spelt, Without0A, Split, over, not_closed, cut, LinesSplit}
use Rattle.text.proofs.Capitals.{lines_capitals}
use Rattle.text.proofs.LineSteps.{lines_closed}
use Rattle.text.proofs.LineReadBack.{line_read_back}
use Rattle.text.proofs.Spelling.{scan_all, line_is}

-- Reading goes through a part without 0A.
scan_more : (part : List ℕ) (s : Scan) (c : ℕ) → scan (scan_all s part) c ≡ scan_all s (part ++ (c ∷ []))
unfolding scan_all
scan_more [] s c = refl
scan_more (d ∷ part) s c = scan_more part (scan s d) c

lines_part : (part rest : List ℕ) (s : Scan) → Without0A part → lines_from s (part ++ rest) ≡ lines_from (scan_all s part) rest
unfolding scan_all Without0A lines_from
lines_part [] rest s h = refl
lines_part (c ∷ part) rest s h = rw (ne_eqb c 10 h.0) (lines_part part rest (scan s c) h.1)

without_more : (part : List ℕ) (c : ℕ) → Without0A part → (c ≡ 10 → ⊥) → Without0A (part ++ (c ∷ []))
unfolding Without0A
without_more [] c h g = (g, tt)
without_more (d ∷ part) c h g = (h.0, without_more part c h.1 g)

-- What is read after at least one byte is more than nothing.
unfoldable Begun : Scan → Type 0
Begun (even []) = ⊥
Begun (even (b ∷ bs)) = Unit {0}
Begun (odd bs high) = Unit {0}
Begun broken = Unit {0}

begun_snoc : (bs : List ℕ) (b : ℕ) → Begun (even (bs ++ (b ∷ [])))
unfolding Begun
begun_snoc [] b = tt
begun_snoc (a ∷ bs) b = tt

begun_cond : (digit : Bool) (s : Scan) → Begun s → Begun (cond digit s broken)
unfolding Begun
begun_cond true s h = h
begun_cond false s h = tt

begun_scan : (s : Scan) (c : ℕ) → Begun (scan s c)
unfolding Begun scan
begun_scan (even bs) c = begun_cond (is_digit c) (odd bs (digit_value c)) tt
begun_scan (odd bs high) c = begun_cond (is_digit c) (even (bs ++ ((high * 16 + digit_value c) ∷ []))) (begun_snoc bs _)
begun_scan broken c = tt

begun_after : (part : List ℕ) (s : Scan) → Begun s → Begun (scan_all s part)
unfolding scan_all
begun_after [] s h = h
begun_after (c ∷ part) s h = begun_after part (scan s c) (begun_scan s c)

begun_unclosed : (s : Scan) → Begun s → unclosed s ≡ no_line ∷ []
unfolding Begun unclosed
begun_unclosed (even []) h = absurd h
begun_unclosed (even (b ∷ bs)) h = refl
begun_unclosed (odd bs high) h = refl
begun_unclosed broken h = refl

-- The end of a text: nothing is left, or a line that is not closed.
split_end : (part : List ℕ) → Without0A part → Split part (unclosed (scan_all (even []) part))
unfolding scan_all unclosed
split_end [] h = over
split_end (c ∷ part) h =
    subst (Split (c ∷ part)) (sym (begun_unclosed _ (begun_after part (scan (even []) c) (begun_scan (even []) c)))) (not_closed c part h)

-- The lines of a text of whose first line a part has been read, if the rest of the text has its lines.
module _ (text : List ℕ) (more : (part : List ℕ) → Without0A part → Split (part ++ text) (lines_from (scan_all (even []) part) text)) where
  closes : (part : List ℕ) → Without0A part → Split (part ++ (10 ∷ text)) (lines_from (scan_all (even []) part) (10 ∷ text))
  unfolding scan_all Without0A lines_of
  closes part h =
      subst (Split (part ++ (10 ∷ text))) (sym (lines_closed (scan_all (even []) part) 10 text refl))
      (cut part text (closed (scan_all (even []) part)) (lines_of text) h (line_is part) (more [] tt))

  goes_on_lem : (c : ℕ) (part : List ℕ) → Without0A part → (c ≡ 10 → ⊥) → Split (part ++ (c ∷ text)) (lines_from (scan_all (even []) part) (c ∷ text))
  unfolding lines_from
  goes_on_lem c part h other =
      rw (ne_eqb c 10 other, scan_more part (even []) c, ← append_snoc part c text) (more (part ++ (c ∷ [])) (without_more part c h other))

split_from : (text part : List ℕ) → Without0A part → Split (part ++ text) (lines_from (scan_all (even []) part) text)
unfolding lines_from
split_from [] part h = rw append-nil (split_end part h)
split_from (c ∷ text) part h =
    by_equal c 10 (λ (e : c ≡ 10). rw e (closes text (split_from text) part h)) (λ other. goes_on_lem text (split_from text) c part h other)

-- What a part gives, it gives alone.
lines_cut : (part rest : List ℕ) → Without0A part → lines_of (part ++ (10 ∷ rest)) ≡ closed (scan_all (even []) part) ∷ lines_of rest
unfolding lines_of
lines_cut part rest h = lines_part part (10 ∷ rest) (even []) h ∙ lines_closed (scan_all (even []) part) 10 rest refl

first_line_lem : List Line → Line
first_line_lem [] = no_line
first_line_lem (line ∷ lines) = line

spelt_only : (part bs : List ℕ) → Without0A part → Spells part bs → bytes bs ≡ closed (scan_all (even []) part)
unfolding capital hex_line first_line_lem
spelt_only part [] h spells = absurd (let z : ⊥ = omega (arith, spells.some) in z)
spelt_only part (b ∷ bs) h spells =
    let capitals : map capital (part ++ (10 ∷ [])) ≡ hex_line (b ∷ bs) =
    map-append capital part (10 ∷ []) ∙ ap (λ (l : List ℕ). l ++ (10 ∷ [])) spells.digits
    in
    let read : lines_of (hex_line (b ∷ bs)) ≡ bytes (b ∷ bs) ∷ lines_of [] =
    ap lines_of (sym (append-nil (hex_line (b ∷ bs)))) ∙ line_read_back b bs [] spells.are_bytes
    in
    ap first_line_lem (sym read ∙ ap lines_of (sym capitals) ∙ lines_capitals (part ++ (10 ∷ [])) ∙ lines_cut part [] h)

line_only : (part : List ℕ) (line : Line) → Without0A part → LineIs part line → line ≡ closed (scan_all (even []) part)
line_only part line h (spelt bs spells) = spelt_only part bs h spells
line_only part line h (not_spelt none) = by_line (line_is part)
  where
    by_line : {l : Line} → LineIs part l → no_line ≡ l
    by_line (spelt bs spells) = absurd (none bs spells)
    by_line (not_spelt other) = refl

split_only : {text : List ℕ} {lines : List Line} → Split text lines → lines ≡ lines_of text
unfolding lines_of lines_from unclosed scan_all
split_only over = refl
split_only (not_closed c part h) =
    sym (ap (lines_from (even [])) (sym (append-nil (c ∷ part))) ∙ lines_part (c ∷ part) [] (even []) h
    ∙ begun_unclosed _ (begun_after part (scan (even []) c) (begun_scan (even []) c)))
split_only (cut part rest line lines h is more) =
    ap₂ (λ (l : Line) (ls : List Line). l ∷ ls) (line_only part line h is) (split_only more) ∙ sym (lines_cut part rest h)

pub lines_split : LinesSplit
unfolding scan_all Without0A lines_of
lines_split = record { split = λ text. split_from text [] tt; only = λ text lines h. split_only h }

-- Lines that are all read are the lines that are written, but for the case of letters.
no_bytes : (bs : List ℕ) → no_line ≡ bytes bs → ⊥
no_bytes bs e = let z : ◌≡◌ {A = ℕ} 0 1 = cc in omega arith

spelt_as : {part : List ℕ} {line : Line} (bs : List ℕ) → LineIs part line → line ≡ bytes bs → map capital part ≡ hex_digits bs
spelt_as bs (spelt cs spells) e = let same : cs ≡ bs = cc in rw same at spells.digits
spelt_as bs (not_spelt none) e = absurd (no_bytes bs e)

written_as : {text : List ℕ} {lines : List Line} (ls : List (List ℕ)) → Split text lines → lines ≡ map bytes ls → map capital text ≡ hex_lines ls
unfolding hex_lines hex_line capital first_line_lem
written_as [] over e = refl
written_as (bs ∷ ls) over e = absurd (let z : ◌≡◌ {A = ℕ} 0 1 = cc in omega (arith, z))
written_as [] (not_closed c part h) e = absurd (let z : ◌≡◌ {A = ℕ} 0 1 = cc in omega (arith, z))
written_as (bs ∷ ls) (not_closed c part h) e = absurd (no_bytes bs (ap first_line_lem e))
written_as [] (cut part rest line lines h is more) e = absurd (let z : ◌≡◌ {A = ℕ} 0 1 = cc in omega (arith, z))
written_as (bs ∷ ls) (cut part rest line lines h is more) e =
    let own : line ≡ bytes bs = cc in
    let others : lines ≡ map bytes ls = cc in
    map-append capital part (10 ∷ rest)
    ∙ ap₂ (λ (a b : List ℕ). a ++ (10 ∷ b)) (spelt_as bs is own) (written_as ls more others)
    ∙ sym (append_snoc (hex_digits bs) 10 (hex_lines ls))

pub lines_written : (text : List ℕ) (ls : List (List ℕ)) → lines_of text ≡ map bytes ls → map capital text ≡ hex_lines ls
lines_written text ls e = written_as ls (lines_split.split text) e

-- Lines of at least one byte, written and read again.
unfoldable pub FullLines : List (List ℕ) → Type 0
FullLines [] = Unit {0}
FullLines (bs ∷ ls) = (1 ≤ length bs) × Bytes bs × FullLines ls

pub lines_read_back : (ls : List (List ℕ)) → FullLines ls → lines_of (hex_lines ls) ≡ map bytes ls
unfolding FullLines hex_lines lines_of lines_from unclosed
lines_read_back [] h = refl
lines_read_back ([] ∷ ls) h = absurd (let z : ⊥ = omega (arith, h.0) in z)
lines_read_back ((b ∷ bs) ∷ ls) h =
    line_read_back b bs (hex_lines ls) h.1 ∙ ap (λ (l : List Line). bytes (b ∷ bs) ∷ l) (lines_read_back ls h.2)
