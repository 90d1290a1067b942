use Rattle.std.proofs.Common.{rules, Some, None, arith}
use Rattle.listing.proofs.Laws.{record_short}
use Rattle.words.proofs.Formed.{phase-named}
use Rattle.report.proofs.Short.{cell_short}
use Rattle.report.proofs.record_of.Goals as goal

pub returns-in_default-clause-short : goal.returns-in_default-clause-short
returns-in_default-clause-short c = λ w i k n.
    record_short _ k n (cell_short 0 None tt) (cell_short 9 None tt) (cell_short 0 None tt) (cell_short 0 None tt) (cell_short 0 _ (search rules))

pub returns-clause-short : goal.returns-clause-short
returns-clause-short c = λ w i k n.
    let p = c.in-Some.p in
    let phase = phase-named _ w p.number p.low in
    record_short _ k n (cell_short 0 (Some p.number) (omega (arith, p.low))) (cell_short 9 (Some c.clock.result) (omega (arith, c.clock.type_inv)))
    (cell_short 0 (Some c.phase_word.result) (omega (arith, c.phase_word.ensures, phase)))
    (cell_short 0 _ (search rules)) (cell_short 0 _ (search rules))
