-- `part::start` meets its contract: a law for each return. Assumes nothing.
use Rattle.std.proofs.Common.{sym, arith}
use Rattle.part_format.specs.Start.{start_state}
use Rattle.part_format.proofs.Valid.{identity_says}
use Rattle.part_format.proofs.Operations.{start_written}
use Rattle.part.proofs.Operations.{start_identity, start_length}
use Rattle.part.proofs.start.Goals as goal

pub returns-then-state-ne-STATE_SIZE : goal.returns-then-state-ne-STATE_SIZE
returns-then-state-ne-STATE_SIZE c =
    let law = start_length c.args.process c.args.n c.args.t c.args.value c.args.state.now (λ e. omega arith) in
    record { value = law.0; state_after = law.1 }

pub returns-then-not-identity_valid : goal.returns-then-not-identity_valid
returns-then-not-identity_valid c =
    let law = start_identity c.args.process c.args.n c.args.t c.args.value c.args.state.now (sym c.if-not-identity_valid.ensures) in
    record { value = law.0; state_after = law.1 }

pub overflow_cast-process : goal.overflow_cast-process
overflow_cast-process c = omega (arith, identity_says _ _ _ (sym c.if-not-identity_valid.ensures))

pub overflow_cast-n : goal.overflow_cast-n
overflow_cast-n c = omega (arith, identity_says _ _ _ (sym c.if-not-identity_valid.ensures))

pub overflow_cast-t : goal.overflow_cast-t
overflow_cast-t c = omega (arith, identity_says _ _ _ (sym c.if-not-identity_valid.ensures))

pub returns : goal.returns
unfolding start_state
returns c =
    let law =
    start_written c.args.process c.args.n c.args.t c.args.value c.args.state.now (sym c.if-not-identity_valid.ensures) _ (omega arith)
    c.write_state.ensures in
    record { value = law.0; state_after = law.1 }
