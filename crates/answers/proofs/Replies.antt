-- One law for each reply of an operation that writes, and what a reply tells. Assumes nothing.
use mathlib.Core.List.{List, ◌++◌}
use mathlib.Core.Path.{◌≡◌, refl, sym, ap, ◌∙◌}
use mathlib.Core.Bool.{Bool, true, false}
use Prim.Native.Nat.{ℕ, ◌≤◌}
use native.Mathlib.Omega.{arith}
use borrow.Author.Tests.{ltb-false}
use lib.Dec.{ltb}
use lib.ListN.{length, drop}
use Rattle.std.specs.Prelude.{Result, Ok, Err, IsErrAnd}
use Rattle.general.specs.Answer.{Answer, accepted, refused}
use Rattle.general.proofs.Answer.{and_then_cases}
use Rattle.consensus.specs.Instance.{Instance}
use Rattle.ticket_format.specs.Ticket.{read_ticket}
use Rattle.ticket_laws.proofs.WellFormed.{accepted_well_formed}
use Rattle.answers.specs.ResultLine.{result_text, result_size}
use Rattle.answers.specs.Running.{result_in, running, buffer_after}
use Rattle.refusals.specs.Number.{number_of}
use Rattle.refusals.specs.Answered.{answer_of}
use Rattle.refusals.specs.declared.Refused.{Refused as RefusedLine}
use Rattle.answers.specs.Reply.{answer_by, reply_of, reply_by, size_of, Writing, Ran}
use Rattle.answers.proofs.ResultLength.{length-text}
use Rattle.answers.specs.Reply.{Reply}
use Rattle.answers.specs.Reply.{Given, Refused}

-- A reply is known by what it stands for.
reply_as : Answer ℕ → Reply
reply_as (accepted k) = Given k
reply_as (refused number line) = Refused number line

known : (reply : Reply) → reply_as (answer_by reply) ≡ reply
unfolding answer_by reply_as
known (Given k) = refl
known (Refused number line) = refl

pub same_reply : (a b : Reply) → answer_by a ≡ answer_by b → a ≡ b
same_reply a b e = sym (known a) ∙ ap reply_as e ∙ known b

-- What the code's result stands for, as a reply and at once.
pub replied : (result : Result ℕ RefusedLine) → answer_by (reply_of result) ≡ answer_of (λ k. k) result
unfolding answer_by reply_of answer_of
replied (Ok k) = refl
replied (Err e) = refl

pub replied_by : {A : Type 0} (number : A → ℕ) (result : Result A RefusedLine) → answer_by (reply_by number result) ≡ answer_of number result
unfolding answer_by reply_by answer_of
replied_by number (Ok a) = refl
replied_by number (Err e) = refl

module _ (answer : ℕ → Answer (List ℕ)) (before : List ℕ) where
  pub writing_refused : (number line : ℕ) → answer (length before) ≡ refused number line → Writing answer before before (Refused number line)
  unfolding answer_by buffer_after
  writing_refused number line e = record { answered = rw e refl; buffer = rw e refl }

  pub writing_given : (written : List ℕ) (size : ℕ) (after : List ℕ) → answer (length before) ≡ accepted written → size ≡ length written
      → after ≡ written ++ drop (length written) before → Writing answer before after (Given size)
  unfolding answer_by buffer_after
  writing_given written size after e sized stored = record { answered = rw (e, sized) refl; buffer = rw e stored }

  -- Two operations that answer the same here promise the same here.
  pub writing_same : (other : ℕ → Answer (List ℕ)) (after : List ℕ) (reply : Reply) → answer (length before) ≡ other (length before)
      → Writing answer before after reply → Writing other before after reply
  writing_same other after reply e w =
      record { answered = w.answered ∙ ap size_of e; buffer = w.buffer ∙ ap (λ (a : Answer (List ℕ)). buffer_after a before) e }

-- The same where the code hands a refusal up.
pub writing_err : (answer : ℕ → Answer (List ℕ)) (before : List ℕ) (e : RefusedLine)
    → refused (number_of e.refusal) e.line ≡ answer (length before) → (result : Result ℕ RefusedLine)
    → IsErrAnd result (λ given. given ≡ e) → Writing answer before before (reply_of result)
unfolding reply_of
writing_err answer before e told (Ok k) given = elim given [ ]
writing_err answer before e told (Err known) given = rw given (writing_refused answer before (number_of e.refusal) e.line (sym told))

-- What a reply tells of what was answered, and of what was left.
module _ (answer : ℕ → Answer (List ℕ)) (before after : List ℕ) (reply : Reply) (wrote : Writing answer before after reply) where
  abbrev Told : (size : ℕ) → Type 0
  Told size = (written : List ℕ) × (answer (length before) ≡ accepted written) × (length written ≡ size) × (after ≡ written ++ drop (length written) before)

  pub given_told : (size : ℕ) → reply ≡ Given size → Told size
  unfolding answer_by buffer_after
  given_told size is = by_answer (answer (length before)) refl
    where
      by_answer : (a : Answer (List ℕ)) → answer (length before) ≡ a → Told size
      by_answer (accepted written) e =
          let same : length written ≡ size = cc (wrote.answered, ap size_of e, ap answer_by is) in
          (written, e, same, wrote.buffer ∙ ap (λ (a : Answer (List ℕ)). buffer_after a before) e)
      by_answer (refused number line) e =
          let z : ◌≡◌ {A = ℕ} 0 1 = cc (wrote.answered, ap size_of e, ap answer_by is) in
          absurd (let w : ⊥ = omega arith in w)

  pub refused_told : (number line : ℕ) → reply ≡ Refused number line → answer (length before) ≡ refused number line
  unfolding answer_by
  refused_told number line is = by_answer (answer (length before)) refl
    where
      by_answer : (a : Answer (List ℕ)) → answer (length before) ≡ a → answer (length before) ≡ refused number line
      by_answer (accepted written) e =
          let z : ◌≡◌ {A = ℕ} 0 1 = cc (wrote.answered, ap size_of e, ap answer_by is) in
          absurd (let w : ⊥ = omega arith in w)
      by_answer (refused number' line') e =
          let numbers : number' ≡ number = cc (wrote.answered, ap size_of e, ap answer_by is) in
          let lines : line' ≡ line = cc (wrote.answered, ap size_of e, ap answer_by is) in
          e ∙ rw (numbers, lines) refl

-- What running writes has room.
result_fits : (text : List ℕ) (room : ℕ) (x : Instance) → read_ticket text ≡ accepted x → (short : Bool) → ltb room (result_size x.processes) ≡ short
    → (written : List ℕ) → result_in room x ≡ accepted written → length written ≤ room
unfolding result_in
result_fits text room x read true short written e =
    let z : ◌≡◌ {A = ℕ} 0 1 = cc (rw short at e) in
    absurd (let w : ⊥ = omega arith in w)
result_fits text room x read false fits written e =
    let same : result_text x ≡ written = cc (rw fits at e) in
    let size = length-text x (accepted_well_formed text x read) in
    let room_enough = ltb-false room (result_size x.processes) fits in
    rw (← same) (omega (arith, size, room_enough))

pub written_fits : (text before after : List ℕ) (reply : Reply) (size : ℕ) → Ran text before after reply → reply ≡ Given size → size ≤ length before
unfolding running
written_fits text before after reply size ran is =
    let (written, e, same, _) = given_told (running text) before after reply ran size is in
    rw (← same)
    (and_then_cases (λ (a : Answer (List ℕ)). a ≡ accepted written → length written ≤ length before) (read_ticket text) (result_in (length before))
    (λ x read. result_fits text (length before) x read (ltb (length before) (result_size x.processes)) refl written)
    (λ number line read f. absurd (let z : ◌≡◌ {A = ℕ} 0 1 = cc f in let w : ⊥ = omega arith in w)) e)
