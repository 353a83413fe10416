-- What a part of a text without 0A spells, scanned byte by byte. Assumes nothing.
use mathlib.Core.List.{List, [], ◌∷◌, ◌++◌, map, append-nil, map-append}
use mathlib.Core.Path.{◌≡◌, refl, sym, ap, subst, ◌∙◌}
use mathlib.Core.Bool.{Bool, true, false, cond}
use Prim.Native.Nat.{ℕ, suc, ◌+◌, ◌*◌, ◌/◌, ◌%◌, ◌≤◌, ◌<◌}
use native.Mathlib.Omega.{arith}
use borrow.Author.Tests.{le-leb, lt-leb, leb-true, eqb-true}
use lib.Dec.{eqb}
use lib.ListN.{length, length-append, length-map}
use lib.Seq.{append_snoc}
use Rattle.general.specs.Indexed.{map_from}
use Rattle.general.specs.Table.{tabulate}
use Rattle.general.proofs.Tests.{true_false, by_order}
use Rattle.general.proofs.Table.{entries_same}
use Rattle.general.proofs.Bytes.{Bytes, below_snoc}
use Rattle.text.specs.Digit.{digit_value, is_digit}
use Rattle.text.specs.Capitals.{capital}
use Rattle.text.specs.HexText.{digit_of, hex_digits}
use Rattle.text.specs.Line.{Scan, even, odd, broken, scan, closed}
use Rattle.text.specs.Split.{Spells, LineIs, spelt, not_spelt}
use Rattle.text.proofs.Capitals.{capital_digit}
use Rattle.text.proofs.HexText.{length-hex_digits, hex_digits_snoc}
use Rattle.text.proofs.LineReadBack.{digit_is_one}

-- What has been read after a part of a line.
unfoldable pub scan_all : Scan → List ℕ → Scan
scan_all s [] = s
scan_all s (c ∷ part) = scan_all (scan s c) part

-- A digit is a byte, and its capital is the digit of its value, by one test of the 256.
past_no_digit : (c : ℕ) → 256 ≤ c → is_digit c ≡ false
unfolding is_digit digit_value
past_no_digit c h =
    let a : 48 ≤ c = omega arith in
    let b : 57 < c = omega arith in
    let d : 65 ≤ c = omega arith in
    let e : 70 < c = omega arith in
    let f : 97 ≤ c = omega arith in
    let g : 102 < c = omega arith in
    simp (le-leb 48 c a, lt-leb c 57 b, le-leb 65 c d, lt-leb c 70 e, le-leb 97 c f, lt-leb c 102 g)

-- The digit's capital, told by a test.
written_so : ℕ → Bool
written_so c = cond (is_digit c) (eqb (capital c) (digit_of (digit_value c))) true

all_written_so : (c : ℕ) → c < 256 → written_so c ≡ true
unfolding written_so tabulate map_from is_digit digit_value capital digit_of
all_written_so c h = entries_same 256 c true h written_so (λ (d : ℕ). true) refl

pub digit_capital : (c : ℕ) → is_digit c ≡ true → capital c ≡ digit_of (digit_value c)
unfolding written_so
digit_capital c h =
    by_order 256 c
    (λ past. absurd (true_false (sym h ∙ past_no_digit c past)))
    (λ byte. eqb-true _ _ (rw h at (all_written_so c byte)))

-- Every byte of it is a digit.
unfoldable Digits : List ℕ → Type 0
Digits [] = Unit {0}
Digits (c ∷ part) = (is_digit c ≡ true) × Digits part

digits_before : (part : List ℕ) (c : ℕ) → Digits (part ++ (c ∷ [])) → Digits part
unfolding Digits
digits_before [] c h = tt
digits_before (d ∷ part) c h = (h.0, digits_before part c h.1)

digits_last : (part : List ℕ) (c : ℕ) → Digits (part ++ (c ∷ [])) → is_digit c ≡ true
unfolding Digits
digits_last [] c h = h.0
digits_last (d ∷ part) c h = digits_last part c h.1

written_digits : (bs : List ℕ) → Bytes bs → Digits (hex_digits bs)
unfolding Digits hex_digits
written_digits [] h = tt
written_digits (b ∷ bs) h =
    let byte : b < 256 = h 0 in
    (digit_is_one (b / 16) (omega arith), (digit_is_one (b % 16) (omega arith), written_digits bs (λ i. h (suc i))))

capitals_digits : (part : List ℕ) → Digits (map capital part) → Digits part
unfolding Digits
capitals_digits [] h = tt
capitals_digits (c ∷ part) h = (sym (capital_digit c) ∙ h.0, capitals_digits part h.1)

-- What has been read of a part: bytes in two digits each, one digit more, or something that is no digit.
unfoldable Stands : Scan → List ℕ → Type 0
Stands (even bs) part = Bytes bs × (map capital part ≡ hex_digits bs)
Stands (odd bs high) part = Bytes bs × (high ≤ 15) × (map capital part ≡ hex_digits bs ++ (digit_of high ∷ []))
Stands broken part = Digits part → ⊥

capitals_more : (part : List ℕ) (c : ℕ) (l : List ℕ) → is_digit c ≡ true → map capital part ≡ l → map capital (part ++ (c ∷ [])) ≡ l ++ (digit_of (digit_value c) ∷ [])
capitals_more part c l h e = map-append capital part (c ∷ []) ∙ rw (e, digit_capital c h) refl

even_more : (bs part : List ℕ) (c : ℕ) (digit : Bool) → is_digit c ≡ digit → Bytes bs → map capital part ≡ hex_digits bs
    → Stands (cond digit (odd bs (digit_value c)) broken) (part ++ (c ∷ []))
unfolding Stands is_digit
even_more bs part c true e h g = (h, leb-true _ _ e, capitals_more part c (hex_digits bs) e g)
even_more bs part c false e h g = λ digits. true_false (sym (digits_last part c digits) ∙ e)

odd_more : (bs part : List ℕ) (high c : ℕ) (digit : Bool) → is_digit c ≡ digit → Bytes bs → high ≤ 15
    → map capital part ≡ hex_digits bs ++ (digit_of high ∷ [])
    → Stands (cond digit (even (bs ++ ((high * 16 + digit_value c) ∷ []))) broken) (part ++ (c ∷ []))
unfolding Stands is_digit
odd_more bs part high c true e h small g =
    let low : digit_value c ≤ 15 = leb-true _ _ e in
    let first : (high * 16 + digit_value c) / 16 ≡ high = omega arith in
    let second : (high * 16 + digit_value c) % 16 ≡ digit_value c = omega arith in (
      below_snoc 256 bs _ h (omega arith),
      capitals_more part c (hex_digits bs ++ (digit_of high ∷ [])) e g
          ∙ sym (hex_digits_snoc bs (high * 16 + digit_value c) ∙ rw (first, second) refl),
    )
odd_more bs part high c false e h small g = λ digits. true_false (sym (digits_last part c digits) ∙ e)

stands_more : (s : Scan) (part : List ℕ) (c : ℕ) → Stands s part → Stands (scan s c) (part ++ (c ∷ []))
unfolding Stands scan
stands_more (even bs) part c h = even_more bs part c (is_digit c) refl h.0 h.1
stands_more (odd bs high) part c h = odd_more bs part high c (is_digit c) refl h.0 h.1 h.2
stands_more broken part c h = λ digits. h (digits_before part c digits)

stands_after : (more part : List ℕ) (s : Scan) → Stands s part → Stands (scan_all s more) (part ++ more)
unfolding scan_all
stands_after [] part s h = subst (Stands s) (sym (append-nil part)) h
stands_after (c ∷ more) part s h =
    subst (Stands (scan_all (scan s c) more)) (append_snoc part c more) (stands_after more (part ++ (c ∷ [])) (scan s c) (stands_more s part c h))

-- So what 0A closes is what the part spells.
spelt_length : (part bs : List ℕ) → Spells part bs → length part ≡ 2 * length bs
spelt_length part bs h = sym (length-map part capital) ∙ ap (λ (l : List ℕ). length l) h.digits ∙ length-hex_digits bs

closed_is : (s : Scan) (part : List ℕ) → Stands s part → LineIs part (closed s)
unfolding Stands closed
closed_is (even []) part h =
    let none : length part ≡ 0 = sym (length-map part capital) ∙ ap (λ (l : List ℕ). length l) h.1 ∙ length-hex_digits [] in
    not_spelt (λ bs spells. omega (arith, none, spelt_length part bs spells, spells.some))
closed_is (even (b ∷ bs)) part h = spelt (b ∷ bs) (record { some = omega arith; are_bytes = h.0; digits = h.1 })
closed_is (odd bs high) part h =
    let count : length (hex_digits bs ++ (digit_of high ∷ [])) ≡ length (hex_digits bs) + 1 = length-append (hex_digits bs) (digit_of high ∷ []) in
    let uneven : length part ≡ length (hex_digits bs) + 1 = sym (length-map part capital) ∙ ap (λ (l : List ℕ). length l) h.2 ∙ count in
    not_spelt (λ cs spells. omega (arith, uneven, length-hex_digits bs, spelt_length part cs spells))
closed_is broken part h =
    not_spelt (λ bs spells. h (capitals_digits part (subst Digits (sym spells.digits) (written_digits bs spells.are_bytes))))

pub line_is : (part : List ℕ) → LineIs part (closed (scan_all (even []) part))
unfolding Stands hex_digits
line_is part = closed_is (scan_all (even []) part) part (stands_after part [] (even []) ((λ i. omega arith), refl))
