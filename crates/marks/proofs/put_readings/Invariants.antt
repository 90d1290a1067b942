-- How far the steps are taken.
use Rattle.std.proofs.Common.{length}
use Rattle.counted.specs.Post.{read}
use Rattle.marks.proofs.Going.{Going}
use Rattle.marks.proofs.put_readings.Given as goal

abbrev pub invariant-loop-line : goal.invariant-loop-line
invariant-loop-line l = Going l.text (read l.initial.t.lent) l.initial.out (read l.t.lent) l.out l.rest l.k l.bytes

abbrev pub decreases-loop-line : goal.decreases-loop-line
decreases-loop-line l = length l.rest
