-- `put_reasons` meets its contract. Assumes nothing.
use Rattle.std.proofs.Common.{◌≡◌, length, refl, sym, ap, ◌∙◌, arith}
use native.Mathlib.Numerals.{add-one}
use Rattle.coordinator_reason.proofs.Rows.{next_fits, with_rows, with_none, length-with, with_more}
use Rattle.coordinator_reason.proofs.put_reasons.Goals as goal

pub loop-i-init : goal.loop-i-init
loop-i-init c = (refl, sym (with_none _ _ _))

pub loop-i-preserved : goal.loop-i-preserved
loop-i-preserved c =
    let start = c.args in
    let table = start.table.now in
    let run = start.run.now in
    let i = c.loop-i.i in
    let fits = next_fits i run.rounds run.n (length start.out.now) (omega arith) (omega arith) in
    let more = with_more table run start.out.now i _ c.loop-i.out _ c.from-n.ensures fits c.loop-i.invariant.1 (rw (add-one i) at c.put_row.ensures) in
    let whole = more ∙ ap (with_rows table run start.out.now) (sym (add-one i)) in
    (ap length more ∙ length-with table run start.out.now _ fits, whole)

pub returns : goal.returns
unfolding with_rows
returns c =
    let last : c.loop-i.i ≡ c.args.run.now.rounds = omega arith in
    c.loop-i.invariant.1 ∙ rw last refl
