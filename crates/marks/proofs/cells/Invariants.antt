-- The fields before the counts, and the counts so far.
use Rattle.std.proofs.Common.{◌≡◌, ◌+◌, length, take}
use Rattle.lamport.specs.Vectors.{counts_in}
use Rattle.marks.specs.Reading.{cells}
use Rattle.marks.proofs.cells.Given as goal

abbrev pub invariant-loop-q : goal.invariant-loop-q
invariant-loop-q l = (length l.cells ≡ 11) × (take (3 + l.q) l.cells ≡ cells l.k l.fn.p.number l.clock (counts_in l.counts) l.q)
