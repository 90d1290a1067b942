-- The counts so far are the larger of the two; the others are as they were.
use Rattle.vectors.proofs.Row.{Merging}
use Rattle.vectors.proofs.vc2.Given as goal

abbrev pub invariant-loop-a : goal.invariant-loop-a
invariant-loop-a l = Merging l.v l.w l.a l.counts
