use Rattle.std.proofs.Common.{sym, ◌∙◌}
use Rattle.listing.proofs.Laws.{over-none}
use Rattle.marks.proofs.Marking.{marks-bench, adds}
use Rattle.marks.proofs.take_step.Goals as goal

pub new-requires : goal.new-requires
new-requires c = marks-bench _ _ _ _ c.step-answer.ensures _ (sym c.marked.ensures ∙ c.in-Some.is) c.args.t.now.formed

pub returns-in-Some-clause-wrote : goal.returns-in-Some-clause-wrote
returns-in-Some-clause-wrote c =
    rw (← adds _ _ _ _ c.step-answer.ensures c.args.k _ c.args.t.now.ahead c.marked.ensures, c.in-Some.is, ← c.new.ensures) c.put_reading.ensures.wrote

pub returns-in-None-clause-wrote : goal.returns-in-None-clause-wrote
returns-in-None-clause-wrote c =
    rw (← adds _ _ _ _ c.step-answer.ensures c.args.k _ c.args.t.now.ahead c.marked.ensures, c.in-None.is) (over-none _)
