-- What a ticket was read as, by the answer that reading gave: what an operation over tickets needs to know of reading. Assumes nothing.
use mathlib.Core.List.{List}
use mathlib.Core.Path.{◌≡◌, sym, ap}
use Prim.Native.Nat.{ℕ, ◌≤◌, ◌<◌}
use borrow.Author.Tests.{lt-ltb, le-ltb}
use lib.ListN.{length}
use Rattle.std.proofs.Common.{Result, Ok, Err}
use Rattle.std.specs.Result.{IsErrAnd}
use Rattle.std.proofs.lemmas.Result.{err_from_is_err_and}
use Rattle.consensus.specs.Instance.{Instance}
use Rattle.general.specs.Answer.{Answer, accepted, refused, and_then}
use Rattle.refusals.specs.Answered.{answer_of}
use Rattle.refusals.specs.declared.Refused.{Refused}
use Rattle.tables.specs.code.InstanceOfTable.{instance_of}
use Rattle.tables.specs.declared.well_formed.Instance.{Instance as Lent}
use Rattle.ticket_format.specs.Ticket.{ticket_limit, read_lines, read_ticket}

pub too_long_lem : (text : List ℕ) → ticket_limit < length text → refused 1 0 ≡ read_ticket text
unfolding read_ticket
too_long_lem text h = rw (lt-ltb ticket_limit (length text) h)

pub short_read : (text : List ℕ) → length text ≤ ticket_limit → read_lines text ≡ read_ticket text
unfolding read_ticket
short_read text h = rw (le-ltb ticket_limit (length text) h)

-- The instance that was read, as its table is lent.
abbrev pub described : Lent → Instance
described instance = instance_of instance.table.now

module _ (text : List ℕ) where
  pub read_accepted : (instance : Lent) → answer_of described (Ok instance) ≡ read_ticket text → read_ticket text ≡ accepted (described instance)
  unfolding answer_of
  read_accepted instance read = sym read

  -- What an operation answers that goes on with the instance, and on a refusal with none.
  module _ {A : Type 0} (next : Instance → Answer A) where
    pub then_accepted : (instance : Lent) → answer_of described (Ok instance) ≡ read_ticket text
        → next (described instance) ≡ and_then (read_ticket text) next
    then_accepted instance read = sym (ap (λ (a : Answer Instance). and_then a next) (read_accepted instance read))

    pub then_refused : {R : Type 0} (value : R → A) (e : Refused) → answer_of described (Err e) ≡ read_ticket text
        → (result : Result R Refused) → IsErrAnd result (λ given. given ≡ e) → answer_of value result ≡ and_then (read_ticket text) next
    unfolding answer_of
    then_refused value e read result h =
        let given = err_from_is_err_and result h in
        rw (given.1, given.2) (ap (λ (a : Answer Instance). and_then a next) read)
