use Rattle.std.proofs.Common.{true, false, sym}
use Rattle.stamps.proofs.Comparing.{by-tests}
use Rattle.stamps.proofs.compare.Goals as goal

pub returns-in-true-true : goal.returns-in-true-true
returns-in-true-true c = sym (by-tests _ _ true true c.in-true-true.ensures c.in-true-true.ensures')

pub returns-in-true-false : goal.returns-in-true-false
returns-in-true-false c = sym (by-tests _ _ true false c.in-true-false.ensures c.in-true-false.ensures')

pub returns-in-false-true : goal.returns-in-false-true
returns-in-false-true c = sym (by-tests _ _ false true c.in-false-true.ensures c.in-false-true.ensures')

pub returns-in-false-false : goal.returns-in-false-false
returns-in-false-false c = sym (by-tests _ _ false false c.in-false-false.ensures c.in-false-false.ensures')
