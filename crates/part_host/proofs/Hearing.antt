-- What a process hears when only one part yields anything: what is let through from that one; and what frames carry that are cut where their reach ends.
-- Assumes nothing.
use mathlib.Core.List.{List, [], ◌∷◌, append-nil}
use mathlib.Core.Path.{◌≡◌, refl, ap, ◌∙◌}
use Prim.Native.Nat.{ℕ, zero, suc, ◌+◌, ◌≤◌, ◌<◌}
use native.Mathlib.Numerals.{one-add, unary_clauses}
use native.Mathlib.Nat.{add-zero}
use native.Mathlib.Omega.{arith}
use lib.ListN.{length, get_or, take}
use lib.Seq.{take-nil}
use Rattle.general.specs.BigEndian.{bytes_of}
use Rattle.coordinator.specs.Message.{Messages, nothing, estimate, estimate_and_commit, Reach, none, data_only, all, arriving}
use Rattle.consensus.specs.Instance.{Instance}
use Rattle.part_format.specs.Frame.{data_frame, commit_frame, frames_of}
use Rattle.part_host.specs.Part.{Part, crashed_in, part_of, yielded}
use Rattle.part_host.specs.Hearing.{bytes_reaching, let_through, heard_from, heard}

-- The part at place k yields nothing.
abbrev SilentAt : List Part → ℕ → Type 0
SilentAt parts k = yielded (get_or parts k (crashed_in 0 [])) ≡ []

module _ (x : Instance) (r p : ℕ) where
  -- Of nothing, nothing is let through.
  nothing_through : (q : ℕ) → let_through x r q p [] ≡ []
  unfolding let_through
  nothing_through q = rw take-nil

  -- Parts that yield nothing are not heard.
  silent_unheard : (q : ℕ) (parts : List Part) → ((k : ℕ) → k < length parts → SilentAt parts k) → heard_from x r p q parts ≡ []
  unfolding heard_from
  silent_unheard q [] silent = refl
  silent_unheard q (part ∷ parts) silent =
      rw (silent 0 (omega arith), nothing_through q) (silent_unheard _ parts (λ k h. silent (suc k) (omega arith)))

  one_heard : (q j : ℕ) (parts : List Part) → j < length parts → ((k : ℕ) → k < length parts → (k ≡ j → ⊥) → SilentAt parts k)
      → heard_from x r p q parts ≡ let_through x r (q + j) p (yielded (get_or parts j (crashed_in 0 [])))
  unfolding heard_from
  one_heard q j [] within silent = absurd (let z : ⊥ = omega arith in z)
  one_heard q zero (part ∷ parts) within silent =
      let others : (i : ℕ) → heard_from x r p i parts ≡ [] = λ i. silent_unheard i parts (λ k h. silent (suc k) (omega arith) (λ e. omega arith)) in
      rw (others, append-nil, add-zero)
  one_heard q (suc j) (part ∷ parts) within silent =
      let same : suc q + j ≡ q + suc j = omega arith in
      rw (silent 0 (omega arith) (λ e. omega arith), nothing_through q)
      (one_heard (suc q) j parts (omega arith) (λ k h other. silent (suc k) (omega arith) (λ e. other (omega arith)))
      ∙ ap (λ (i : ℕ). let_through x r i p (yielded (get_or parts j (crashed_in 0 [])))) same)

-- Where only the part of process r + 1 yields anything, that is what is heard.
pub heard_from_one : (x : Instance) (r p : ℕ) (parts : List Part) → r < length parts
    → ((q : ℕ) → 1 ≤ q → q ≤ length parts → (q ≡ suc r → ⊥) → yielded (part_of parts q) ≡ [])
    → heard x (suc r) p parts ≡ let_through x (suc r) (suc r) p (yielded (part_of parts (suc r)))
unfolding heard part_of
heard_from_one x r p parts within silent =
    one_heard x (suc r) p 1 r parts within (λ k h other. simp unary_clauses at silent (suc k) (omega arith) (omega arith) (λ e. other (omega arith)))
    ∙ simp (one-add, unary_clauses)

-- Frames cut where their reach ends carry the messages that arrive.
pub frames_reaching : (r : ℕ) (reached : Reach) (m : Messages) → take (bytes_reaching reached) (frames_of r m) ≡ frames_of r (arriving reached m)
unfolding bytes_reaching frames_of data_frame commit_frame bytes_of arriving
frames_reaching r none m = refl
frames_reaching r data_only nothing = refl
frames_reaching r data_only (estimate v) = refl
frames_reaching r data_only (estimate_and_commit v) = refl
frames_reaching r all nothing = refl
frames_reaching r all (estimate v) = refl
frames_reaching r all (estimate_and_commit v) = refl
