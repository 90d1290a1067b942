use Rattle.std.proofs.Common.{arith}
use Rattle.table.proofs.Rows.{rule_rows}
use Rattle.table.proofs.may_enter.Goals as goal

pub returns : goal.returns
returns c =
    rw (c.may_enter.ensures, c.benches.ensures.number)
    (rule_rows _ _ c.requires.present (omega (arith, c.benches.ensures.few, c.benches.ensures.number)) _ _ _ _ c.queue.ensures c.hearing.ensures)

pub may_enter-requires-clause-queue_row : goal.may_enter-requires-clause-queue_row
may_enter-requires-clause-queue_row c = omega (arith, c.benches.ensures.few, c.queue.ensures.long)

pub may_enter-requires-clause-heard_row : goal.may_enter-requires-clause-heard_row
may_enter-requires-clause-heard_row c = omega (arith, c.benches.ensures.few, c.hearing.ensures.long)
