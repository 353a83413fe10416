-- What is claimed of how processes end is a matter of the ends of the instance's processes alone. Assumes nothing.
use mathlib.Core.Path.{◌≡◌, sym, ap, ◌∙◌}
use Prim.Native.Nat.{ℕ}
use Rattle.consensus.specs.Instance.{Instance}
use Rattle.consensus.specs.CrashCount.{is_idle}
use Rattle.consensus.specs.declared.State.{State}
use Rattle.consensus.specs.Consensus.{IsProcess, Decides, CrashesUndecided, Agreement, Validity, Termination, DecidesBy}
use Rattle.consensus.specs.Consensus.{CrashesAsSaid, CrashesNoOther, UniformConsensus, NoLater}

-- Every process of the instance ends alike.
unfoldable pub SameEnds : Instance → (ℕ → State) → (ℕ → State) → Type 0
SameEnds x ends ends' = (p : ℕ) → IsProcess x p → ends p ≡ ends' p

same_back : (x : Instance) (ends ends' : ℕ → State) → SameEnds x ends ends' → SameEnds x ends' ends
unfolding SameEnds
same_back x ends ends' same p process = sym (same p process)

module _ (x : Instance) (ends ends' : ℕ → State) (same : SameEnds x ends ends') where
  decides_same : (p r v : ℕ) → Decides x ends p r v → Decides x ends' p r v
  unfolding SameEnds
  decides_same p r v d = record { process = d.process; state = sym (same p d.process) ∙ d.state }

  crashes_same : (p r : ℕ) → CrashesUndecided x ends p r → CrashesUndecided x ends' p r
  unfolding SameEnds
  crashes_same p r c =
      record { process = c.process; point = c.point; line = c.line; not_idle = ap (is_idle r) (sym (same p c.process)) ∙ c.not_idle }

pub consensus_same : (x : Instance) (ends ends' : ℕ → State) → SameEnds x ends ends' → (latest : ℕ) → UniformConsensus latest x ends
    → UniformConsensus latest x ends'
unfolding SameEnds Agreement Validity Termination DecidesBy CrashesAsSaid CrashesNoOther
consensus_same x ends ends' same latest c =
    let decides-back = decides_same x ends' ends (same_back x ends ends' same) in
    let crashes-back = crashes_same x ends' ends (same_back x ends ends' same) in
    record {
      agreement = λ p q r s v w d e. c.agreement p q r s v w (decides-back p r v d) (decides-back q s w e);
      validity = λ p r v d. c.validity p r v (decides-back p r v d);
      termination = λ p process up.
          let (r, v, d) = c.termination p process (λ r crash. up r (crashes_same x ends ends' same p r crash)) in
          (r, v, decides_same x ends ends' same p r v d);
      early_decision = λ p r v d. c.early_decision p r v (decides-back p r v d);
      crashes_as_said = λ p r crash. sym (same p crash.process) ∙ c.crashes_as_said p r (crashes-back p r crash);
      crashes_no_other = λ p r process e. crashes_same x ends ends' same p r (c.crashes_no_other p r process (same p process ∙ e));
    }

pub no_later_same : (x y : Instance) (ends ends' other other' : ℕ → State) → SameEnds x ends ends' → SameEnds y other other' → NoLater x ends y other
    → NoLater x ends' y other'
unfolding NoLater
no_later_same x y ends ends' other other' same same' h p r v d =
    let (s, sooner, e) = h p r v (decides_same x ends' ends (same_back x ends ends' same) p r v d) in
    (s, sooner, decides_same y other other' same' p s v e)
