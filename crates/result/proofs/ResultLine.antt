-- Laws of result lines: what one line more does to an output that is being written. Assumes nothing.
use mathlib.Core.List.{List, [], ◌∷◌, ◌++◌, append-nil, append_assoc}
use mathlib.Core.Path.{◌≡◌, refl, sym, ap, ap₂, ◌∙◌}
use Prim.Native.Nat.{ℕ, suc, ◌+◌, ◌-◌, ◌*◌, ◌≤◌, ◌<◌}
use native.Mathlib.Omega.{arith}
use borrow.Rule.Slice.PartMut.{mid_of, put_mid}
use lib.ListN.{length, drop, get_or, take, length-take}
use lib.Seq.{take-suc, take_all, get_or-take}
use Rattle.general.specs.BigEndian.{bytes_of}
use Rattle.general.specs.Indexed.{map_from}
use Rattle.general.specs.Counts.{count_of}
use Rattle.general.proofs.Indexed.{map_from_snoc}
use Rattle.consensus.specs.State.{state_of}
use Rattle.consensus.specs.declared.State.{State}
use Rattle.consensus.specs.declared.State.TheVariants.{Crashed as crashed}
use Rattle.coordinator.specs.Run.{Run}
use Rattle.text.specs.HexText.{hex_line, line_size}
use Rattle.text.proofs.HexText.{length-hex_line}
use Rattle.hex_lines.proofs.HexText.{line_more}
use Rattle.answers.proofs.ResultLength.{length-line, length_last, length_process_lines}
use Rattle.answers.specs.ResultLine.{end_bytes, process_line, last_line, process_line_size, last_line_size, joined, line_by, process_lines, result_lines, result_size}

-- The line of process p, of n, by its state and what the arrays have at its place.
pub line_of : (n p i : ℕ) (data_by commits_by line : List ℕ) (s s' : State) → i ≡ p - 1 → i < n
    → line ≡ 0x11 ∷ p ∷ end_bytes s ++ (get_or data_by i 0 ∷ get_or commits_by i 0 ∷ []) → s' ≡ s
    → hex_line line ≡ line_by (take n data_by) (take n commits_by) p s'
unfolding line_by process_line count_of
line_of n p i data_by commits_by line s s' place h e g =
    rw (e, g, ← place, get_or-take n data_by i 0 h, get_or-take n commits_by i 0 h)

joined_snoc : (lines : List (List ℕ)) (line : List ℕ) → joined (lines ++ (line ∷ [])) ≡ joined lines ++ line
unfolding joined
joined_snoc [] line = append-nil line
joined_snoc (l ∷ lines) line = ap (λ (m : List ℕ). l ++ m) (joined_snoc lines line) ∙ sym (append_assoc l (joined lines) line)

module _ (data_by commits_by : List ℕ) (states : List State) where
  lines_more : (k : ℕ) → k < length states
      → process_lines data_by commits_by (take (suc k) states)
      ≡ process_lines data_by commits_by (take k states) ++ line_by data_by commits_by (suc k) (get_or states k (crashed 0))
  unfolding process_lines
  lines_more k h =
      let line = line_by data_by commits_by in
      let place : 1 + length (take k states) ≡ suc k = omega (arith, length-take k states) in
      ap (λ (l : List State). joined (map_from line 1 l)) (take-suc states k (crashed 0) h)
      ∙ ap joined (map_from_snoc line 1 (take k states) (get_or states k (crashed 0)))
      ∙ joined_snoc (map_from line 1 (take k states)) _
      ∙ ap (λ (p : ℕ). process_lines data_by commits_by (take k states) ++ line p (get_or states k (crashed 0))) place

  module _ (before : List ℕ) where
    -- An output in which the lines of the first k processes are written, over what stood there before.
    abbrev pub with_lines : ℕ → List ℕ
    with_lines k = process_lines data_by commits_by (take k states) ++ drop (process_line_size * k) before

    pub with_none : before ≡ with_lines 0
    unfolding process_lines map_from joined
    with_none = refl

    pub with_all : (n : ℕ) → length states ≡ n → with_lines n ≡ process_lines data_by commits_by states ++ drop (process_line_size * n) before
    with_all n h = rw (take_all n states (omega arith))

    -- The part lent for the line of process p comes back with it.
    pub with_more : (p i : ℕ) (out bytes back : List ℕ) → 1 ≤ p → p ≤ length states → process_line_size * p ≤ length before → i ≡ p - 1
        → out ≡ with_lines (p - 1) → hex_line bytes ≡ line_by data_by commits_by p (state_of states p)
        → back ≡ hex_line bytes ++ drop (line_size (length bytes)) (mid_of (process_line_size * i) (length out - process_line_size * i) out)
        → put_mid (process_line_size * i) (length out - process_line_size * i) out back ≡ with_lines p
    unfolding state_of
    with_more p i out bytes back first last fits place o l b =
        let next : suc i ≡ p = omega arith in
        let lines = process_lines data_by commits_by (take i states) in
        let stations : length lines ≡ process_line_size * i =
        length_process_lines data_by commits_by (take i states) ∙ ap (λ (k : ℕ). process_line_size * k) (omega (arith, length-take i states)) in
        let wide : line_size (length bytes) ≡ process_line_size = sym (length-hex_line bytes) ∙ ap length l ∙ length-line data_by commits_by p _ in
        let beyond : process_line_size * i + line_size (length bytes) ≡ process_line_size * p = omega arith in
        let longer : lines ++ hex_line bytes ≡ process_lines data_by commits_by (take p states) =
        rw (l, ← place, ← next, lines_more i (omega arith)) in
        line_more lines before bytes out back (process_line_size * i) stations (omega arith) (rw place o) b
        ∙ ap₂ (λ (m : List ℕ) (k : ℕ). m ++ drop k before) longer beyond

-- The last line, in the part that follows the others, makes the result whole.
module _ (run : Run) (data_by commits_by : List ℕ) (f n : ℕ) (all : length run.states ≡ n) where
  pub result_written : (before out bytes back : List ℕ) → result_size n ≤ length before
      → out ≡ process_lines data_by commits_by run.states ++ drop (process_line_size * n) before
      → bytes ≡ 0x12 ∷ run.rounds ∷ f ∷ run.speakers ∷ bytes_of 2 run.data_sent ++ bytes_of 2 run.commits_sent
      → back ≡ hex_line bytes ++ drop (line_size (length bytes)) (mid_of (process_line_size * n) (length out - process_line_size * n) out)
      → put_mid (process_line_size * n) (length out - process_line_size * n) out back ≡ result_lines run data_by commits_by f ++ drop (result_size n) before
  unfolding result_lines last_line result_size
  result_written before out bytes back fits o l b =
      let stations : length (process_lines data_by commits_by run.states) ≡ process_line_size * n =
      length_process_lines data_by commits_by run.states ∙ ap (λ (k : ℕ). process_line_size * k) all in
      let wide : line_size (length bytes) ≡ last_line_size = sym (length-hex_line bytes) ∙ ap (λ (m : List ℕ). length (hex_line m)) l ∙ length_last run f in
      line_more (process_lines data_by commits_by run.states) before bytes out back (process_line_size * n) stations (omega arith) o b
      ∙ rw (wide, l)
