-- How far the run has come.
use Rattle.std.proofs.Common.{length}
use Rattle.run.proofs.Going.{Going}
use Rattle.run.proofs.run_lines.Given as goal

abbrev pub invariant-loop-ran : goal.invariant-loop-ran
invariant-loop-ran l = Going l.text l.budget l.initial.t.lent.words l.initial.out l.t.lent.words l.out l.rest l.ran

abbrev pub decreases-loop-ran : goal.decreases-loop-ran
decreases-loop-ran l = length l.rest
