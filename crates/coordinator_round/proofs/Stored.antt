-- What the code stores in a round, by the round's sets: the entry of each process afterwards, and the set of those still undecided. Assumes nothing.
use mathlib.Core.Path.{◌≡◌, refl, sym, ap, ap₂, ◌∙◌}
use mathlib.Core.Bool.{Bool, true, false, cond, ◌&&◌, ◌||◌}
use Prim.Native.Nat.{ℕ, ◌+◌, ◌-◌, ◌^◌, ◌≤◌, ◌<◌}
use native.Mathlib.Nat.{lt_of_le_of_lt}
use native.Mathlib.Omega.{arith}
use lib.Bits.{bit_and, bit_or, bit_xor, and_le_l, xor_lt}
use lib.Dec.{eqb}
use lib.ListN.{length, get_or}
use Rattle.general.specs.Bits.{member, members_to, set_of, filled}
use Rattle.general.proofs.Sets.{member_and, member_or, member_xor, member_none, member_set, set_within, is_set}
use Rattle.general.proofs.Filling.{length-filled, filled_at}
use Rattle.coordinator.specs.Message.{Reach}
use Rattle.consensus.specs.declared.Fault.{Fault}
use Rattle.coordinator.specs.Delivery.{reach}
use Rattle.consensus.specs.State.{state_of}
use Rattle.consensus.specs.declared.State.{State}
use Rattle.coordinator.specs.Undecided.{is_undecided}
use Rattle.tables.specs.declared.run.RunTable.{RunTable}
use Rattle.tables.specs.code.RunOfTable.{states_in}
use Rattle.tables.proofs.Places.{state_at_place}
use Rattle.coordinator_sending.specs.declared.Sent.{Sent}
use Rattle.coordinator_sending.specs.code.Sending.{sending_by}
use Rattle.coordinator_round.specs.code.Round.{undecided_set, RoundAllowed}
use Rattle.coordinator_round.proofs.Becoming.{undecided_end, stays, decides, adopts, stored_state, still_undecided}

-- The arrays of a run table have 64 places.
pub record Sized (run : RunTable) : Type 0 where
  pub ends : length run.ends ≡ 64
  pub end_rounds : length run.end_rounds ≡ 64
  pub values : length run.values ≡ 64

-- The sets of a round that begins with this set of undecided processes.
abbrev crashing_in : (undecided faulty : ℕ) → ℕ
crashing_in undecided faulty = bit_and undecided faulty

abbrev staying_in : (undecided faulty : ℕ) → ℕ
staying_in undecided faulty = bit_xor undecided (crashing_in undecided faulty)

abbrev deciding_in : (undecided faulty : ℕ) → Sent → ℕ
deciding_in undecided faulty sent = bit_and (staying_in undecided faulty) (bit_or sent.coordinator sent.committed)

-- The table that the code makes in round r, with the sets of the messages sent and the speakers that it adds.
abbrev pub stored : (r : ℕ) (sent : Sent) (faulty speakers : ℕ) → RunTable → RunTable
stored r sent faulty speakers run =
    record {
      ends = filled (crashing_in run.undecided faulty) 2 (filled (deciding_in run.undecided faulty sent) 1 run.ends);
      end_rounds = filled (bit_or (deciding_in run.undecided faulty sent) (crashing_in run.undecided faulty)) r run.end_rounds;
      values = filled (bit_and (staying_in run.undecided faulty) sent.reached) (get_or run.values (r - 1) 0) run.values;
      n = run.n;
      rounds = r;
      speakers = run.speakers + speakers;
      data_sent = run.data_sent + length (members_to 64 (bit_and sent.reached run.undecided));
      commits_sent = run.commits_sent + length (members_to 64 (bit_and sent.committed run.undecided));
      undecided = bit_xor (staying_in run.undecided faulty) (deciding_in run.undecided faulty sent);
    }

-- The members of a set that is empty unless someone speaks.
member_if : (b : Bool) (n : ℕ) (test : ℕ → Bool) (p : ℕ) → 1 ≤ p → p ≤ n → member p (cond b (set_of n test) 0) ≡ (b && test p)
member_if true n test p h g = member_set n test p h g
member_if false n test p h g = member_none p

module _ (r : ℕ) (fault : Fault) (faulty : ℕ) (run : RunTable) (sized : Sized run) (allowed : RoundAllowed r fault faulty run) where
  -- Whether process p waits, and whether the coordinator speaks.
  abbrev waits : ℕ → Bool
  waits p = eqb (get_or run.ends (p - 1) 0) 0

  abbrev speaks : Bool
  speaks = member r run.undecided

  abbrev sent : Sent
  sent = sending_by run.n r fault speaks

  abbrev pub next_run : RunTable
  next_run = stored r sent faulty (cond speaks 1 0) run

  limit : run.n ≤ 64
  limit = allowed.sender.at_most_64

  pub length_ends_next : length next_run.ends ≡ 64
  length_ends_next = length-filled _ 2 _ ∙ length-filled _ 1 run.ends ∙ sized.ends

  module _ (p : ℕ) (h : 1 ≤ p) (g : p ≤ run.n) where
    -- Process p is in the table's set just if its end is 0.
    pub waits_as : member p run.undecided ≡ waits p
    waits_as =
        ap (member p) allowed.kept ∙ member_set run.n _ p h g
        ∙ ap is_undecided (state_at_place run.n _ _ _ (omega (arith, limit, sized.ends)) p h g) ∙ undecided_end _ _ _

    abbrev far : Reach
    far = reach run.n fault r p

    in_crashing : member p (crashing_in run.undecided faulty) ≡ (waits p && member p faulty)
    in_crashing = member_and p run.undecided faulty ∙ rw waits_as

    in_staying : member p (staying_in run.undecided faulty) ≡ stays (waits p) (member p faulty)
    in_staying = member_xor p run.undecided _ ∙ rw (in_crashing, waits_as)

    in_deciding : member p (deciding_in run.undecided faulty sent) ≡ decides (waits p) (member p faulty) speaks (eqb p r) far
    unfolding sending_by
    in_deciding =
        member_and p (staying_in run.undecided faulty) _
        ∙ ap₂ (λ (a b : Bool). a && b) in_staying
        (member_or p sent.coordinator sent.committed ∙ ap₂ (λ (a b : Bool). a || b) (member_if speaks run.n _ p h g) (member_if speaks run.n _ p h g))

    in_adopting : member p (bit_and (staying_in run.undecided faulty) sent.reached) ≡ adopts (waits p) (member p faulty) speaks far
    unfolding sending_by
    in_adopting = member_and p (staying_in run.undecided faulty) _ ∙ ap₂ (λ (a b : Bool). a && b) in_staying (member_if speaks run.n _ p h g)

    -- Its entry afterwards.
    end_after : get_or next_run.ends (p - 1) 0
        ≡ cond (waits p && member p faulty) 2 (cond (decides (waits p) (member p faulty) speaks (eqb p r) far) 1 (get_or run.ends (p - 1) 0))
    end_after =
        let inside : p ≤ length run.ends = omega (arith, limit, sized.ends) in
        let more : p ≤ length (filled (deciding_in run.undecided faulty sent) 1 run.ends) = rw length-filled inside in
        rw (filled_at _ 2 _ p 0 h more, filled_at _ 1 run.ends p 0 h inside, in_crashing, in_deciding)

    end_round_after : get_or next_run.end_rounds (p - 1) 0
        ≡ cond (decides (waits p) (member p faulty) speaks (eqb p r) far || (waits p && member p faulty)) r (get_or run.end_rounds (p - 1) 0)
    end_round_after =
        let inside : p ≤ length run.end_rounds = omega (arith, limit, sized.end_rounds) in
        rw (filled_at _ r run.end_rounds p 0 h inside, member_or p _ _, in_crashing, in_deciding)

    value_after : get_or next_run.values (p - 1) 0
        ≡ cond (adopts (waits p) (member p faulty) speaks far) (get_or run.values (r - 1) 0) (get_or run.values (p - 1) 0)
    value_after =
        let inside : p ≤ length run.values = omega (arith, limit, sized.values) in
        rw (filled_at _ _ run.values p 0 h inside, in_adopting)

    abbrev pub state_stored : State
    state_stored =
        stored_state r (get_or run.values (r - 1) 0) (get_or run.ends (p - 1) 0) (get_or run.end_rounds (p - 1) 0) (get_or run.values (p - 1) 0)
        (waits p) (member p faulty) speaks (eqb p r) far

    pub state_after : state_of (states_in next_run) p ≡ state_stored
    state_after =
        state_at_place run.n _ _ _ (omega (arith, limit, length_ends_next)) p h g ∙ rw (end_after, end_round_after, value_after)

    in_undecided : member p next_run.undecided ≡ is_undecided (state_of (states_in next_run) p)
    in_undecided =
        let left = still_undecided (get_or run.ends (p - 1) 0) _ _ (waits p) (member p faulty) _ refl in
        let member_left : member p next_run.undecided ≡ is_undecided state_stored = rw (member_xor p _ _, in_staying, in_deciding) left in
        member_left ∙ sym (ap is_undecided state_after)

  -- The set of those still undecided is that of the arrays again.
  pub kept_after : next_run.undecided ≡ undecided_set next_run
  kept_after = is_set run.n next_run.undecided _ (xor_lt run.n _ _ staying_within deciding_within) in_undecided
    where
      within : run.undecided < 2 ^ run.n
      within = rw allowed.kept (set_within run.n _)

      staying_within : staying_in run.undecided faulty < 2 ^ run.n
      staying_within = xor_lt run.n run.undecided _ within (lt_of_le_of_lt (and_le_l run.undecided faulty) within)

      deciding_within : deciding_in run.undecided faulty sent < 2 ^ run.n
      deciding_within = lt_of_le_of_lt (and_le_l (staying_in run.undecided faulty) _) staying_within
