-- `lines::read_digits` meets its contract: no entry is above the mark, so two add up to a byte; a sum below the mark is of two digits. Assumes nothing.
use Rattle.std.proofs.Common.{◌∙◌, refl, arith}
use Rattle.lines.proofs.Scanning.{scanned_none, scanned_more, stops_at_mark, stops_at_end, pair_read}
use Rattle.lines.proofs.read_digits.Goals as goal

pub loop-end-init : goal.loop-end-init
loop-end-init c = scanned_none _ _ (omega arith)

pub overflow_add-high : goal.overflow_add-high
overflow_add-high c =
    let pair = pair_read _ _ _ _ c.type_inv.text c.value_by_table-high.ensures c.value_by_table-low.ensures in
    omega (arith, pair.first_most, pair.second_most)

pub loop-end-preserved : goal.loop-end-preserved
loop-end-preserved c =
    let pair = pair_read _ _ _ _ c.type_inv.text c.value_by_table-high.ensures c.value_by_table-low.ensures in
    let few = pair.are_digits (omega arith) in
    let high = c.from.ensures ∙ pair.first in
    let low = c.from-in-loop-end.ensures ∙ pair.second in
    scanned_more _ _ _ _ _ c.loop-end.invariant _ _ _ (omega arith) high low
    (omega (arith, c.from.ensures, few.0)) (omega (arith, c.from-in-loop-end.ensures, few.1)) refl

pub returns-then-high-low-ge-NO_DIGIT : goal.returns-then-high-low-ge-NO_DIGIT
returns-then-high-low-ge-NO_DIGIT c =
    let pair = pair_read _ _ _ _ c.type_inv.text c.value_by_table-high.ensures c.value_by_table-low.ensures in
    (c.loop-end.invariant, stops_at_mark _ _ _ _ pair.first pair.second (omega arith))

pub returns-after-loop-end : goal.returns-after-loop-end
returns-after-loop-end c = (c.loop-end.invariant, stops_at_end _ _ (omega arith))
