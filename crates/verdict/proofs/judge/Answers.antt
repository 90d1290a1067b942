use Rattle.std.proofs.Common.{rules, sym, arith}
use Rattle.std.proofs.lemmas.Result.{err_from_is_err_and}
use Rattle.verdict.proofs.Judged.{first_bad, second_bad, other_table, more_follows, said}
use Rattle.verdict.proofs.judge.Goals as goal

pub returns-in_err-first : goal.returns-in_err-first
returns-in_err-first c =
    let p = err_from_is_err_and c.from_residual.result c.from_residual.ensures.1 in
    rw (p.1, p.2) (sym (first_bad _ c.first_reading.ensures c.in_err-first.was))

pub returns-in_err-second : goal.returns-in_err-second
returns-in_err-second c =
    let p = err_from_is_err_and c.from_residual-in_err-second.result c.from_residual-in_err-second.ensures.1 in
    rw (p.1, p.2) (sym (second_bad _ c.first_reading.ensures c.in_ok-first.was c.first_reading-2.ensures c.in_err-second.was))

pub returns-then-second-first : goal.returns-then-second-first
returns-then-second-first c =
    rw (other_table _ c.first_reading.ensures c.in_ok-first.was c.first_reading-2.ensures c.in_ok-second.was (λ e. omega arith)) (search rules)

pub returns-then-not-is_empty : goal.returns-then-not-is_empty
returns-then-not-is_empty c =
    rw (more_follows _ c.first_reading.ensures c.in_ok-first.was c.first_reading-2.ensures c.in_ok-second.was (omega arith) c.if-not-is_empty.ensures) (search rules)

pub returns : goal.returns
returns c =
    rw (said _ c.first_reading.ensures c.in_ok-first.was c.first_reading-2.ensures c.in_ok-second.was (omega arith) c.if-not-is_empty.ensures) (search rules)
