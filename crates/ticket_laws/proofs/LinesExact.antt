-- Each accepted line is the line of what it says. Assumes nothing.
use mathlib.Core.List.{List, [], ◌∷◌, ◌++◌}
use mathlib.Core.Path.{◌≡◌, refl, sym, ap, ◌∙◌}
use mathlib.Core.Bool.{Bool, true, false, cond}
use Prim.Native.Nat.{ℕ, ◌≤◌}
use native.Mathlib.Omega.{arith}
use borrow.Author.Tests.{eqb-true, eqb-false}
use lib.Dec.{eqb}
use lib.ListN.{length, get_or, take, drop, length-drop, take-append-drop, drop_of_length-le}
use lib.Seq.{drop-cons, length-take-le, drop-drop}
use Rattle.general.specs.BigEndian.{number, bytes_of}
use Rattle.general.proofs.Bytes.{Bytes, drop-bytes, take-bytes}
use Rattle.general.proofs.BigEndian.{bytes_number}
use Rattle.consensus.specs.Instance.{point_from}
use Rattle.consensus.specs.declared.CrashPoint.TheVariants.{BeforeSending as before_sending, DuringData as during_data, DuringCommits as during_commits}
use Rattle.ticket_format.specs.Says.{is_kind}
use Rattle.ticket_laws.specs.FirstWrong.{kind_in, step_in, set_in, count_in, Suited}
use Rattle.ticket_laws.specs.TicketText.{header_line, proposal_line, point_bytes, crash_line, end_line}
use Rattle.ticket_laws.proofs.Wording.{is_kind_lem}
use Rattle.ticket_laws.proofs.LinesAccepted.{step_bytes}

-- Nothing is left behind the last byte.
drop-whole : (b : List ℕ) (size : ℕ) → length b ≡ size → drop size b ≡ []
drop-whole b size h = let few : length b ≤ size = omega (arith, h) in drop_of_length-le b few

pub header_line_lem : (b : List ℕ) → is_kind 1 3 b ≡ true → b ≡ header_line (get_or b 1 0) (get_or b 2 0)
unfolding header_line kind_in
header_line_lem b kind =
    let said = is_kind_lem 1 3 b kind in
    let three : length b ≡ 3 = said.1 in
    drop-cons b 0 0 (omega (arith, three))
    ∙ ap (λ (k : ℕ). k ∷ drop 1 b) said.0
    ∙ ap (λ (l : List ℕ). 1 ∷ l) (drop-cons b 1 0 (omega (arith, three)))
    ∙ ap (λ (l : List ℕ). 1 ∷ get_or b 1 0 ∷ l) (drop-cons b 2 0 (omega (arith, three)))
    ∙ ap (λ (l : List ℕ). 1 ∷ get_or b 1 0 ∷ get_or b 2 0 ∷ l) (drop-whole b 3 three)

pub end_line_lem : (b : List ℕ) → is_kind 4 1 b ≡ true → b ≡ end_line
unfolding end_line kind_in
end_line_lem b kind =
    let said = is_kind_lem 4 1 b kind in
    let one : length b ≡ 1 = said.1 in
    drop-cons b 0 0 (omega (arith, one)) ∙ ap (λ (k : ℕ). k ∷ drop 1 b) said.0 ∙ ap (λ (l : List ℕ). 4 ∷ l) (drop-whole b 1 one)

pub proposal_line_lem : (b : List ℕ) → Bytes b → is_kind 2 6 b ≡ true → b ≡ proposal_line (get_or b 1 0) (number (drop 2 b))
unfolding proposal_line kind_in
proposal_line_lem b each kind =
    let said = is_kind_lem 2 6 b kind in
    let six : length b ≡ 6 = said.1 in
    let four : length (drop 2 b) ≡ 4 = length-drop 2 b ∙ omega (arith, six) in
    let value : bytes_of 4 (number (drop 2 b)) ≡ drop 2 b = rw four at (bytes_number (drop 2 b) (drop-bytes 2 b each)) in
    drop-cons b 0 0 (omega (arith, six))
    ∙ ap (λ (k : ℕ). k ∷ drop 1 b) said.0
    ∙ ap (λ (l : List ℕ). 2 ∷ l) (drop-cons b 1 0 (omega (arith, six)))
    ∙ ap (λ (l : List ℕ). 2 ∷ get_or b 1 0 ∷ l) (sym value)

-- Step, set and count of a point, of a line whose set and count suit its step.
point_bytes_lem : (n : ℕ) (b : List ℕ) → step_in b ≤ 2 → Suited n b → (at_zero at_one : Bool) → eqb (step_in b) 0 ≡ at_zero → eqb (step_in b) 1 ≡ at_one
    → step_bytes (step_in b) (set_in b) (count_in b) ≡ point_bytes (cond at_zero before_sending (cond at_one (during_data (set_in b)) (during_commits (count_in b))))
unfolding step_bytes point_bytes
point_bytes_lem n b small suits true at_one z o =
    let step : step_in b ≡ 0 = eqb-true _ _ z in
    rw (step, suits.no_set (λ one. omega (arith, one, step)), suits.no_count (λ two. omega (arith, two, step)))
point_bytes_lem n b small suits false true z o =
    let step : step_in b ≡ 1 = eqb-true _ _ o in
    rw (step, suits.no_count (λ two. omega (arith, two, step)))
point_bytes_lem n b small suits false false z o =
    let not_zero_lem : step_in b ≡ 0 → ⊥ = eqb-false _ _ z in
    let not_one : step_in b ≡ 1 → ⊥ = eqb-false _ _ o in
    let step : step_in b ≡ 2 = omega (arith, small, not_zero_lem, not_one) in
    rw (step, suits.no_set not_one)

-- The bytes of a failure line.
thirteen : (b : List ℕ) → Bytes b → length b ≡ 13
    → b ≡ get_or b 0 0 ∷ get_or b 1 0 ∷ get_or b 2 0 ∷ step_bytes (get_or b 3 0) (number (take 8 (drop 4 b))) (get_or b 12 0)
unfolding step_bytes
thirteen b each size =
    let eight : length (take 8 (drop 4 b)) ≡ 8 = length-take-le 8 (drop 4 b) (omega (arith, length-drop 4 b, size)) in
    let set_bytes : bytes_of 8 (number (take 8 (drop 4 b))) ≡ take 8 (drop 4 b) =
    rw eight at (bytes_number (take 8 (drop 4 b)) (take-bytes 8 (drop 4 b) (drop-bytes 4 b each)))
    in
    let rest : drop 8 (drop 4 b) ≡ get_or b 12 0 ∷ [] =
    drop-drop 8 4 b ∙ drop-cons b 12 0 (omega (arith, size)) ∙ ap (λ (l : List ℕ). get_or b 12 0 ∷ l) (drop-whole b 13 size)
    in
    let tail : drop 4 b ≡ bytes_of 8 (number (take 8 (drop 4 b))) ++ (get_or b 12 0 ∷ []) =
    sym (take-append-drop 8 (drop 4 b)) ∙ ap (λ (l : List ℕ). take 8 (drop 4 b) ++ l) rest
    ∙ ap (λ (l : List ℕ). l ++ (get_or b 12 0 ∷ [])) (sym set_bytes)
    in
    drop-cons b 0 0 (omega (arith, size))
    ∙ ap (λ (l : List ℕ). get_or b 0 0 ∷ l) (drop-cons b 1 0 (omega (arith, size)))
    ∙ ap (λ (l : List ℕ). get_or b 0 0 ∷ get_or b 1 0 ∷ l) (drop-cons b 2 0 (omega (arith, size)))
    ∙ ap (λ (l : List ℕ). get_or b 0 0 ∷ get_or b 1 0 ∷ get_or b 2 0 ∷ l) (drop-cons b 3 0 (omega (arith, size)))
    ∙ ap (λ (l : List ℕ). get_or b 0 0 ∷ get_or b 1 0 ∷ get_or b 2 0 ∷ get_or b 3 0 ∷ l) tail

pub crash_line_lem : (n : ℕ) (b : List ℕ) → Bytes b → is_kind 3 13 b ≡ true → step_in b ≤ 2 → Suited n b
    → b ≡ crash_line (get_or b 1 0) (get_or b 2 0) (point_from (get_or b 3 0) (number (take 8 (drop 4 b))) (get_or b 12 0))
unfolding crash_line kind_in step_in set_in count_in point_from
crash_line_lem n b each kind small suits =
    let said = is_kind_lem 3 13 b kind in
    thirteen b each said.1
    ∙ ap (λ (k : ℕ). k ∷ get_or b 1 0 ∷ get_or b 2 0 ∷ step_bytes (get_or b 3 0) (number (take 8 (drop 4 b))) (get_or b 12 0)) said.0
    ∙ ap (λ (l : List ℕ). 3 ∷ get_or b 1 0 ∷ get_or b 2 0 ∷ l) (point_bytes_lem n b small suits (eqb (step_in b) 0) (eqb (step_in b) 1) refl refl)
