-- What a host keeps after the calls of one kind, one after the other: all starts, all speaking of a round, all closing of it. Assumes nothing.
use mathlib.Core.List.{List, [], ◌∷◌, ◌++◌, map, append-nil}
use mathlib.Core.Path.{◌≡◌, refl, sym, ap, ◌∙◌}
use Prim.Native.Nat.{ℕ}
use lib.Seq.{append_snoc}
use Rattle.consensus.specs.Instance.{Instance}
use Rattle.part_host.specs.Part.{Part, part_of}
use Rattle.part_schedules.specs.Steps.{Spoken, Hosted, Step, start, speak, close, heard_of, started_with, frames_yielded, closed_with, step, play}
use Rattle.part_schedules.proofs.Turns.{changed_in_turn}

-- What process p yields, as its host keeps it.
abbrev pub said : List Part → ℕ → Spoken
said parts p = record { sender = p; frames = frames_yielded (part_of parts p) }

module _ (x : Instance) where
  pub play_append : (a b : List Step) (h : Hosted) → play x (a ++ b) h ≡ play x b (play x a h)
  unfolding play
  play_append [] b h = refl
  play_append (one ∷ a) b h = play_append a b (step x one h)

  pub all_started : (order : List ℕ) (h : Hosted)
      → play x (map start order) h ≡ record { round = h.round; parts = changed_in_turn (started_with x) order h.parts; spoken = h.spoken }
  unfolding play step changed_in_turn
  all_started [] h = refl
  all_started (p ∷ order) h = all_started order (step x (start p) h)

  pub all_spoken : (order : List ℕ) (h : Hosted)
      → play x (map speak order) h ≡ record { round = h.round; parts = h.parts; spoken = h.spoken ++ map (said h.parts) order }
  unfolding play step
  all_spoken [] h = ap (λ (spoken : List Spoken). record { round = h.round; parts = h.parts; spoken = spoken }) (sym (append-nil h.spoken))
  all_spoken (p ∷ order) h =
      all_spoken order (step x (speak p) h)
      ∙ ap (λ (spoken : List Spoken). record { round = h.round; parts = h.parts; spoken = spoken })
      (append_snoc h.spoken (said h.parts p) (map (said h.parts) order))

  pub all_closed : (order : List ℕ) (h : Hosted)
      → play x (map close order) h
      ≡ record { round = h.round; parts = changed_in_turn (λ p. closed_with (heard_of x h.round p h.spoken)) order h.parts; spoken = h.spoken }
  unfolding play step changed_in_turn
  all_closed [] h = refl
  all_closed (p ∷ order) h = all_closed order (step x (close p) h)
