-- The host's parts process by process: how many there are, and what becomes of each in a round. Assumes nothing.
use mathlib.Core.Path.{◌≡◌, ◌∙◌}
use Prim.Native.Nat.{ℕ, zero, suc, ◌≤◌}
use native.Mathlib.Omega.{arith}
use lib.ListN.{length}
use Rattle.general.proofs.Indexed.{length-map_from, map_from_at}
use Rattle.consensus.specs.Instance.{Instance, fault_of, proposal_of}
use Rattle.part_format.specs.Start.{start_bytes}
use Rattle.part_host.specs.Part.{up, part_of}
use Rattle.part_host.specs.Hearing.{heard}
use Rattle.part_host.specs.Host.{blank, started_parts, part_after, parts_after, parts_to}

module _ (x : Instance) where
  -- There is a part for each proposal throughout.
  pub length-parts : (r : ℕ) → length (parts_to x r) ≡ length x.proposals
  unfolding parts_to started_parts parts_after
  length-parts zero = length-map_from _ _ x.proposals
  length-parts (suc r) = length-map_from _ _ (parts_to x r) ∙ length-parts r

  module _ (p : ℕ) (first : 1 ≤ p) (last : p ≤ length x.proposals) where
    pub part_started : part_of (parts_to x 0) p ≡ up (start_bytes p x.processes x.resilience (proposal_of x p) blank)
    unfolding part_of parts_to started_parts proposal_of
    part_started = map_from_at _ x.proposals p 0 _ first last

    pub part_after_lem : (r : ℕ) → part_of (parts_to x (suc r)) p ≡ part_after (suc r) (fault_of x p) (heard x (suc r) p (parts_to x r)) (part_of (parts_to x r) p)
    unfolding part_of parts_to parts_after
    part_after_lem r = map_from_at _ (parts_to x r) p _ _ first (omega (arith, length-parts r))
