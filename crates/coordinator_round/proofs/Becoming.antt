-- What one process becomes in a round, from what the code stores of it by its membership in the round's sets. Assumes nothing.
use mathlib.Core.Path.{◌≡◌, refl, sym, ◌∙◌}
use mathlib.Core.Bool.{Bool, true, false, cond, not, ◌&&◌, ◌||◌, false≢true}
use Prim.Native.Nat.{ℕ}
use lib.Dec.{eqb}
use borrow.Author.Tests.{eqb-true}
use Rattle.coordinator.specs.Message.{Messages, nothing, Reach, none, data_only, all, arriving, gets_data, gets_commit}
use Rattle.consensus.specs.declared.Fault.{Fault}
use Rattle.coordinator.specs.Transition.{sends, receives}
use Rattle.consensus.specs.State.{crashes_in}
use Rattle.consensus.specs.declared.State.{State}
use Rattle.consensus.specs.declared.State.TheVariants.{Undecided as undecided, Decided as decided, Crashed as crashed}
use Rattle.coordinator.specs.Round.{sent_by, after_outcome, after}
use Rattle.coordinator.specs.Undecided.{is_undecided}
use Rattle.coordinator_laws.proofs.Ended.{after_ended}
use Rattle.tables.specs.code.RunOfTable.{state_by_end}

-- An end of 0 is that of a process up and undecided, and what such a process sends in its round.
module _ (end end_round value : ℕ) where
  pub undecided_end : is_undecided (state_by_end end end_round value) ≡ eqb end 0
  unfolding is_undecided state_by_end
  undecided_end = by_end (eqb end 0) (eqb end 1)
    where
      by_end : (b c : Bool) → is_undecided (cond b (undecided value) (cond c (decided end_round value) (crashed end_round))) ≡ b
      by_end true c = refl
      by_end false true = refl
      by_end false false = refl

  pub sent_by_end : sent_by (state_by_end end end_round value) ≡ cond (eqb end 0) (sends true value) nothing
  unfolding sent_by state_by_end
  sent_by_end = by_end (eqb end 0) (eqb end 1)
    where
      by_end : (b c : Bool) → sent_by (cond b (undecided value) (cond c (decided end_round value) (crashed end_round))) ≡ cond b (sends true value) nothing
      by_end true c = refl
      by_end false true = refl
      by_end false false = refl

-- Whether a process is in the sets of a round: up, undecided and not crashing in it; deciding; adopting the coordinator's value.
-- It is undecided as the round begins, its crash round is this one, the coordinator speaks, it coordinates, and the messages to it get so far.
abbrev pub stays : (waits crashes : Bool) → Bool
stays waits crashes = cond waits (not (waits && crashes)) (waits && crashes)

abbrev pub decides : (waits crashes speaks coordinates : Bool) → Reach → Bool
decides waits crashes speaks coordinates far = stays waits crashes && ((speaks && coordinates) || (speaks && gets_commit far))

abbrev pub adopts : (waits crashes speaks : Bool) → Reach → Bool
adopts waits crashes speaks far = stays waits crashes && (speaks && gets_data far)

-- What the code stores of it, in round r, with the coordinator's value w.
abbrev pub stored_state : (r w end end_round value : ℕ) (waits crashes speaks coordinates : Bool) → Reach → State
stored_state r w end end_round value waits crashes speaks coordinates far =
    state_by_end (cond (waits && crashes) 2 (cond (decides waits crashes speaks coordinates far) 1 end))
    (cond (decides waits crashes speaks coordinates far || (waits && crashes)) r end_round) (cond (adopts waits crashes speaks far) w value)

-- Process p, with the fault `own`, in round r.
module _ (r p w end_round value : ℕ) (own : Fault) where
  abbrev heard : Reach → Bool → Messages
  heard far speaks = arriving far (cond speaks (sends true w) nothing)

  -- One up and undecided.
  become : (crashes speaks coordinates : Bool) (far : Reach) → crashes_in r own ≡ crashes → eqb p r ≡ coordinates
      → (coordinates ≡ true → speaks ≡ true) → (coordinates ≡ true → far ≡ none)
      → stored_state r w 0 end_round value true crashes speaks coordinates far ≡ after r p own (heard far speaks) (state_by_end 0 end_round value)
  unfolding state_by_end after after_outcome receives arriving sends gets_data gets_commit
  become true speaks coordinates far e c one two = rw e
  become false false true far e c one two = absurd (false≢true (one refl))
  become false false false none e c one two = rw (e, c)
  become false false false data_only e c one two = rw (e, c)
  become false false false all e c one two = rw (e, c)
  become false true true none e c one two = rw (e, c)
  become false true true data_only e c one two = cc (two refl)
  become false true true all e c one two = cc (two refl)
  become false true false none e c one two = rw (e, c)
  become false true false data_only e c one two = rw (e, c)
  become false true false all e c one two = rw (e, c)

  -- Any process.
  pub becomes : (end : ℕ) (waits crashes speaks coordinates : Bool) (far : Reach) → eqb end 0 ≡ waits → crashes_in r own ≡ crashes → eqb p r ≡ coordinates
      → (coordinates ≡ true → speaks ≡ waits) → (coordinates ≡ true → far ≡ none)
      → stored_state r w end end_round value waits crashes speaks coordinates far ≡ after r p own (heard far speaks) (state_by_end end end_round value)
  becomes end true crashes speaks coordinates far u e c one two = rw (eqb-true end 0 u) (become crashes speaks coordinates far e c one two)
  becomes end false crashes speaks coordinates far u e c one two =
      sym (after_ended r p own (heard far speaks) (state_by_end end end_round value) (rw (undecided_end end end_round value) u))

-- It is still undecided just if it stays and does not decide.
pub still_undecided : (end end_round value : ℕ) (waits crashes decides : Bool) → eqb end 0 ≡ waits
    → cond (stays waits crashes) (not (stays waits crashes && decides)) (stays waits crashes && decides)
    ≡ is_undecided (state_by_end (cond (waits && crashes) 2 (cond (stays waits crashes && decides) 1 end)) end_round value)
unfolding is_undecided state_by_end
still_undecided end end_round value false crashes decides u = sym u ∙ sym (undecided_end end end_round value)
still_undecided end end_round value true true decides u = refl
still_undecided end end_round value true false true u = refl
still_undecided end end_round value true false false u = sym u ∙ sym (undecided_end end end_round value)
