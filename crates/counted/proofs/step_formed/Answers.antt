use Rattle.std.proofs.Common.{sym, arith}
use Rattle.std.proofs.lemmas.Result.{err_from_is_err_and}
use Rattle.lamport.proofs.Numbers.{number-some}
use Rattle.counted.proofs.Stepping.{words-formed, spent-answer, fits-answer, other-answer, refused, taken}
use Rattle.counted.proofs.step_formed.Goals as goal

pub invariant_of-table : goal.invariant_of-table
invariant_of-table c = record { formed = words-formed _ c.requires }

pub returns-in_err-check : goal.returns-in_err-check
returns-in_err-check c =
    let p = err_from_is_err_and c.from_residual.result c.from_residual.ensures.1 in
    rw (p.1, p.2)
    (refused _ _ c.requires _
    (other-answer _ _ _ (rw c.in_err-check.was at c.check.ensures) (λ z. omega (arith, z, number-some c.in_err-check.field-0.0)))
    (λ z. omega (arith, z, number-some c.in_err-check.field-0.0)))

pub returns-then-own_then-gt-LIMIT : goal.returns-then-own_then-gt-LIMIT
returns-then-own_then-gt-LIMIT c =
    refused _ _ c.requires 8
    (sym (spent-answer _ _ (sym (rw c.in_ok-check.was at c.check.ensures)) (omega (arith, c.own_then.ensures, c.if-own_then-gt-LIMIT.true))))
    (λ z. omega (arith, z))

pub returns : goal.returns
returns c =
    taken _ _ c.requires
    (fits-answer _ _ (sym (rw c.in_ok-check.was at c.check.ensures)) (omega (arith, c.own_then.ensures, c.if-own_then-gt-LIMIT.false))) _
    c.apply.ensures c.count.ensures
