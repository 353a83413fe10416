-- One law for each reply of the operations on reasons, over plain variables. Assumes nothing.
use mathlib.Core.List.{List, ◌++◌}
use mathlib.Core.Path.{◌≡◌, refl, sym, ap, ◌∙◌}
use mathlib.Core.Bool.{Bool, true, false, ◌&&◌}
use Prim.Native.Nat.{ℕ, ◌*◌, ◌≤◌, ◌<◌}
use native.Mathlib.Omega.{arith}
use borrow.Author.Tests.{lt-ltb, le-ltb, leb-true}
use lib.Dec.{leb}
use lib.ListN.{length, drop}
use Rattle.general.specs.Answer.{accepted, refused}
use Rattle.general.proofs.Tests.{both}
use Rattle.coordinator.specs.Reason.{reason_of, reasons_to, reasons_of}
use Rattle.tables.specs.declared.instance.InstanceTable.{InstanceTable}
use Rattle.tables.specs.declared.run.RunTable.{RunTable}
use Rattle.tables.specs.code.InstanceOfTable.{instance_of}
use Rattle.answers.specs.Reason.{within_run, reason_in, reasons_size, reasons_within}
use Rattle.answers.specs.Reply.{Writing}
use Rattle.answers.specs.Reply.{Given}
use Rattle.answers.proofs.ReasonsLength.{length-reasons}
use Rattle.answers.proofs.Replies.{writing_given}
use Rattle.coordinator_reason.specs.code.ByEnds.{rows_by_ends}
use Rattle.run_ends.specs.code.Finished.{Finished}
use Rattle.reasons.proofs.OfRun.{rounds_known, rows_of_run}

-- What `is_within` tested.
pub tests_passed : (p n r rounds : ℕ) → (leb 1 p && leb p n && leb 1 r && leb r rounds) ≡ true → (1 ≤ p) × (p ≤ n) × (1 ≤ r) × (r ≤ rounds)
tests_passed p n r rounds e =
    let (front, last) = both (leb 1 p && leb p n && leb 1 r) (leb r rounds) e in
    let (process, first) = both (leb 1 p && leb p n) (leb 1 r) front in
    let (one, within) = both (leb 1 p) (leb p n) process in
    (leb-true 1 p one, leb-true p n within, leb-true 1 r first, leb-true r rounds last)

module _ (table : InstanceTable) (run : RunTable) (done : Finished table run) where
  -- Of one process in one round.
  module _ (p r : ℕ) where
    abbrev Test : Bool
    Test = leb 1 p && leb p table.n && leb 1 r && leb r run.rounds

    test_is : Test ≡ within_run (instance_of table) p r
    unfolding within_run instance_of
    test_is = rw (rounds_known table run done) refl

    pub reason_unknown : Test ≡ false → refused 13 0 ≡ reason_in p r (instance_of table)
    unfolding reason_in
    reason_unknown e = rw (sym test_is ∙ e) refl

    pub reason_given : Test ≡ true → (k : ℕ) → k ≡ reason_of (instance_of table) p r → accepted k ≡ reason_in p r (instance_of table)
    unfolding reason_in
    reason_given e k given = rw (sym test_is ∙ e, given) refl

  -- Of all of them, in a buffer.
  module _ (before : List ℕ) (size : ℕ) (sized : size ≡ run.rounds * run.n) where
    size_is : size ≡ reasons_size (instance_of table)
    unfolding reasons_size instance_of
    size_is = sized ∙ rw (rounds_known table run done, done.processes) refl

    pub all_short : length before < size → refused 9 0 ≡ reasons_within (length before) (instance_of table)
    unfolding reasons_within
    all_short h = rw (lt-ltb (length before) (reasons_size (instance_of table)) (rw size_is at h)) refl

    fits : size ≤ length before → reasons_within (length before) (instance_of table) ≡ accepted (reasons_of (instance_of table))
    unfolding reasons_within
    fits h = rw (le-ltb (length before) (reasons_size (instance_of table)) (rw size_is at h)) refl

    rows_whole : rows_by_ends table run run.rounds ≡ reasons_of (instance_of table)
    unfolding reasons_of
    rows_whole = rows_of_run table run done run.rounds (omega arith) ∙ ap (reasons_to (instance_of table)) (rounds_known table run done)

    pub all_given : size ≤ length before → (after : List ℕ) → after ≡ rows_by_ends table run run.rounds ++ drop (run.rounds * run.n) before
        → Writing (λ room. reasons_within room (instance_of table)) before after (Given size)
    all_given room after stored =
        let long = size_is ∙ sym (length-reasons (instance_of table)) in
        writing_given _ before (reasons_of (instance_of table)) _ after (fits room) long (stored ∙ rw (rows_whole, sym sized, long) refl)
