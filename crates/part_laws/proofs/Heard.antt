-- Bytes that carry messages are the frames of these messages. Assumes nothing.
use mathlib.Core.List.{List, [], ◌∷◌, ◌++◌}
use mathlib.Core.Option.{some, none}
use mathlib.Core.Path.{◌≡◌, refl, sym, ap, ◌∙◌}
use mathlib.Core.Bool.{Bool, true, false, cond, not, ◌&&◌}
use Prim.Native.Nat.{ℕ, ◌^◌, ◌≤◌, ◌<◌}
use native.Mathlib.Omega.{arith}
use borrow.Author.Tests.{eqb-true}
use lib.Dec.{eqb}
use lib.ListN.{length, get_or, take, drop, length-drop, take-append-drop, drop_of_length-le}
use lib.Seq.{drop-cons, take_all}
use Rattle.general.specs.BigEndian.{number, bytes_of}
use Rattle.general.proofs.Tests.{both}
use Rattle.general.proofs.Bytes.{Bytes, drop-bytes, take-bytes}
use Rattle.general.proofs.BigEndian.{bytes_number, number_below}
use Rattle.coordinator.specs.Message.{Messages, nothing, estimate, estimate_and_commit}
use Rattle.part_format.specs.PartState.{PartState, is_own_round}
use Rattle.part_format.specs.Frame.{data_frame, commit_frame, is_data_frame, is_commit_frame, messages_from, heard_by}

-- Which messages bytes carry in round r, by cases.
pub data Carries (r : ℕ) (heard : List ℕ) : Messages → Type 0 where
  none_sent : heard ≡ [] → Carries r heard nothing
  data_sent_lem : (v : ℕ) → v < 2 ^ 32 → heard ≡ data_frame r v → Carries r heard (estimate v)
  both_sent : (v : ℕ) → v < 2 ^ 32 → heard ≡ data_frame r v ++ commit_frame r → Carries r heard (estimate_and_commit v)

-- A list of no elements.
empty : (b : List ℕ) → length b ≡ 0 → b ≡ []
empty [] h = refl
empty (a ∷ b) h = absurd (let z : ⊥ = omega (arith, h) in z)

-- Six bytes that are a data frame, and two that are a commit frame.
data_frame_lem : (r : ℕ) (b : List ℕ) → Bytes b → is_data_frame r b ≡ true → b ≡ data_frame r (number (drop 2 b))
unfolding is_data_frame data_frame
data_frame_lem r b each e =
    let two = both (eqb (length b) 6 && eqb (get_or b 0 0) 0x21) (eqb (get_or b 1 0) r) e in
    let one = both (eqb (length b) 6) (eqb (get_or b 0 0) 0x21) two.0 in
    let six : length b ≡ 6 = eqb-true _ _ one.0 in
    let four : length (drop 2 b) ≡ 4 = length-drop 2 b ∙ omega (arith, six) in
    let value : bytes_of 4 (number (drop 2 b)) ≡ drop 2 b = rw four at (bytes_number (drop 2 b) (drop-bytes 2 b each)) in
    drop-cons b 0 0 (omega (arith, six))
    ∙ ap (λ (k : ℕ). k ∷ drop 1 b) (eqb-true _ _ one.1)
    ∙ ap (λ (l : List ℕ). 0x21 ∷ l) (drop-cons b 1 0 (omega (arith, six)))
    ∙ ap (λ (k : ℕ). 0x21 ∷ k ∷ drop 2 b) (eqb-true _ _ two.1)
    ∙ ap (λ (l : List ℕ). 0x21 ∷ r ∷ l) (sym value)

data_six : (r : ℕ) (b : List ℕ) → is_data_frame r b ≡ true → length b ≡ 6
unfolding is_data_frame
data_six r b e =
    let two = both (eqb (length b) 6 && eqb (get_or b 0 0) 0x21) (eqb (get_or b 1 0) r) e in
    eqb-true _ _ (both (eqb (length b) 6) (eqb (get_or b 0 0) 0x21) two.0).0

commit_frame_lem : (r : ℕ) (b : List ℕ) → is_commit_frame r b ≡ true → b ≡ commit_frame r
unfolding is_commit_frame commit_frame
commit_frame_lem r b e =
    let two = both (eqb (length b) 2 && eqb (get_or b 0 0) 0x22) (eqb (get_or b 1 0) r) e in
    let one = both (eqb (length b) 2) (eqb (get_or b 0 0) 0x22) two.0 in
    let size : length b ≡ 2 = eqb-true _ _ one.0 in
    let few : length b ≤ 2 = omega (arith, size) in
    drop-cons b 0 0 (omega (arith, size))
    ∙ ap (λ (k : ℕ). k ∷ drop 1 b) (eqb-true _ _ one.1)
    ∙ ap (λ (l : List ℕ). 0x22 ∷ l) (drop-cons b 1 0 (omega (arith, size)))
    ∙ ap (λ (k : ℕ). 0x22 ∷ k ∷ drop 2 b) (eqb-true _ _ two.1)
    ∙ ap (λ (l : List ℕ). 0x22 ∷ r ∷ l) (drop_of_length-le b few)

-- The value of a data frame is that of its last four bytes.
value_fits : (b : List ℕ) → Bytes b → length b ≡ 4 → number b < 2 ^ 32
value_fits b each four = rw four at (number_below b each)

-- The four bytes behind the round, in six bytes and in more.
value_bytes : (b : List ℕ) → length b ≡ 6 → take 4 (drop 2 b) ≡ drop 2 b
value_bytes b six = let few : length (drop 2 b) ≤ 4 = omega (arith, length-drop 2 b, six) in take_all 4 (drop 2 b) few

take_drop_six : (b : List ℕ) → drop 2 (take 6 b) ≡ take 4 (drop 2 b)
take_drop_six [] = refl
take_drop_six (a ∷ []) = refl
take_drop_six (a ∷ c ∷ b) = refl

module _ (r : ℕ) (heard : List ℕ) (each : Bytes heard) where
  data_carried : is_data_frame r heard ≡ true → Carries r heard (estimate (number (take 4 (drop 2 heard))))
  data_carried e =
      let six = data_six r heard e in
      let same = value_bytes heard six in
      let four : length (drop 2 heard) ≡ 4 = length-drop 2 heard ∙ omega (arith, six) in
      data_sent_lem (number (take 4 (drop 2 heard))) (rw same (value_fits (drop 2 heard) (drop-bytes 2 heard each) four)) (rw same (data_frame_lem r heard each e))

  both_carried : is_data_frame r (take 6 heard) ≡ true → is_commit_frame r (drop 6 heard) ≡ true
      → Carries r heard (estimate_and_commit (number (take 4 (drop 2 heard))))
  both_carried e g =
      let front = take-bytes 6 heard each in
      let six = data_six r (take 6 heard) e in
      let same = take_drop_six heard in
      let four : length (drop 2 (take 6 heard)) ≡ 4 = length-drop 2 (take 6 heard) ∙ omega (arith, six) in
      let fits : number (drop 2 (take 6 heard)) < 2 ^ 32 = value_fits (drop 2 (take 6 heard)) (drop-bytes 2 (take 6 heard) front) four in
      let first : take 6 heard ≡ data_frame r (number (drop 2 (take 6 heard))) = data_frame_lem r (take 6 heard) front e in
      both_sent (number (take 4 (drop 2 heard))) (rw same at fits)
      (sym (take-append-drop 6 heard)
      ∙ ap (λ (l : List ℕ). l ++ drop 6 heard) (rw same at first)
      ∙ ap (λ (l : List ℕ). data_frame r (number (take 4 (drop 2 heard))) ++ l) (commit_frame_lem r (drop 6 heard) g))

  -- As the tests turn out.
  messages_carried : (m : Messages) → messages_from r heard ≡ some m → Carries r heard m
  unfolding messages_from
  messages_carried m e = by_length (eqb (length heard) 0) refl e
    where
      v : ℕ
      v = number (take 4 (drop 2 heard))

      same_messages : (k l : Messages) → some k ≡ some l → Carries r heard k → Carries r heard l
      same_messages k l h c = let same : k ≡ l = cc in rw same at c

      none_some : none ≡ some m → ⊥
      none_some h = let z : ◌≡◌ {A = ℕ} 0 1 = cc in omega arith

      by_both : (t : Bool) → (is_data_frame r (take 6 heard) && is_commit_frame r (drop 6 heard)) ≡ t → cond t (some (estimate_and_commit v)) none ≡ some m
          → Carries r heard m
      by_both true h g =
          let parts = both (is_data_frame r (take 6 heard)) (is_commit_frame r (drop 6 heard)) h in
          same_messages (estimate_and_commit v) m g (both_carried parts.0 parts.1)
      by_both false h g = absurd (none_some g)

      by_data : (t : Bool) → is_data_frame r heard ≡ t
          → cond t (some (estimate v)) (cond (is_data_frame r (take 6 heard) && is_commit_frame r (drop 6 heard)) (some (estimate_and_commit v)) none) ≡ some m
          → Carries r heard m
      by_data true h g = same_messages (estimate v) m g (data_carried h)
      by_data false h g = by_both (is_data_frame r (take 6 heard) && is_commit_frame r (drop 6 heard)) refl g

      by_length : (t : Bool) → eqb (length heard) 0 ≡ t
          → cond t (some nothing)
          (cond (is_data_frame r heard) (some (estimate v))
          (cond (is_data_frame r (take 6 heard) && is_commit_frame r (drop 6 heard)) (some (estimate_and_commit v)) none)) ≡ some m
          → Carries r heard m
      by_length true h g = same_messages nothing m g (none_sent (empty heard (eqb-true _ _ h)))
      by_length false h g = by_data (is_data_frame r heard) refl g

-- What a process takes: in its own round nothing.
pub record Taken (s : PartState) (heard : List ℕ) (m : Messages) : Type 0 where
  pub carries : Carries s.round heard m
  pub own : is_own_round s ≡ true → heard ≡ []

pub taken : (s : PartState) (heard : List ℕ) (m : Messages) → Bytes heard → heard_by s heard ≡ some m → Taken s heard m
unfolding heard_by
taken s heard m each e = by_own (is_own_round s) (eqb (length heard) 0) refl refl e
  where
    by_own : (own none_heard : Bool) → is_own_round s ≡ own → eqb (length heard) 0 ≡ none_heard
        → cond (own && not none_heard) none (messages_from s.round heard) ≡ some m → Taken s heard m
    by_own true true o h g = record { carries = messages_carried s.round heard each m g; own = λ z. empty heard (eqb-true _ _ h) }
    by_own true false o h g = absurd (let z : ◌≡◌ {A = ℕ} 0 1 = cc in let f : ⊥ = omega (arith, z) in f)
    by_own false none_heard o h g =
        record { carries = messages_carried s.round heard each m g; own = λ z. absurd (let f : ◌≡◌ {A = ℕ} 1 0 = cc in let b : ⊥ = omega (arith, f) in b) }
