use Rattle.std.proofs.Common.{arith}
use Rattle.listing.proofs.Laws.{refused-fits, written-within}
use Rattle.verdict.proofs.put_verdict.Goals as goal

pub put_refused-requires : goal.put_refused-requires
put_refused-requires c = omega (arith, refused-fits c.answer_number.result c.in-Err.r.line, c.requires.room)

pub returns-in-Err-clause-within : goal.returns-in-Err-clause-within
returns-in-Err-clause-within c = written-within c.put_refused.ensures
