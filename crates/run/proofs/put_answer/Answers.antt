use Rattle.std.proofs.Common.{arith}
use Rattle.listing.proofs.Laws.{refused-fits, written-within}
use Rattle.run.proofs.Printed.{printed-refused}
use Rattle.run.proofs.put_answer.Goals as goal

pub put_refused-requires : goal.put_refused-requires
put_refused-requires c = omega (arith, refused-fits c.answer_number.result c.in-Err.r.line, c.requires.room)

pub returns-in-Err-clause-text : goal.returns-in-Err-clause-text
returns-in-Err-clause-text c = λ o before a. printed-refused o before _ c.in-Err.r (rw c.in-Err.is at a) _ _ (rw c.answer_number.ensures at c.put_refused.ensures)

pub returns-in-Err-clause-within : goal.returns-in-Err-clause-within
returns-in-Err-clause-within c = written-within c.put_refused.ensures
