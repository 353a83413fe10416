-- `part_state::check::fields_valid` meets its contract: a law for each return. Assumes nothing.
use Rattle.std.proofs.Common.{sym, ◌∙◌, arith}
use Rattle.part_format.proofs.Valid.{identity_says}
use Rattle.part_state.proofs.Checks.{fields_identity, fields_mark, fields_round}
use Rattle.part_state.proofs.check.fields_valid.Goals as goal

pub returns-then-not-identity_valid : goal.returns-then-not-identity_valid
returns-then-not-identity_valid c = fields_identity _ _ _ _ _ (sym c.if-not-identity_valid.ensures)

pub returns-then-mark-gt-MARK_OVER : goal.returns-then-mark-gt-MARK_OVER
returns-then-mark-gt-MARK_OVER c = fields_mark _ _ _ _ _ (sym c.if-not-identity_valid.ensures) (omega arith)

pub round_valid-requires : goal.round_valid-requires
round_valid-requires c = omega (arith, identity_says _ _ _ (sym c.if-not-identity_valid.ensures))

pub returns : goal.returns
returns c = c.round_valid.ensures ∙ fields_round _ _ _ _ _ (sym c.if-not-identity_valid.ensures) (omega arith)
