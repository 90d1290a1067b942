-- The fields that are left, gathered behind the numbers so far, give the line's numbers.
use Rattle.std.proofs.Common.{◌≡◌, [], length}
use Rattle.schedule.specs.Parts.{tab, parts}
use Rattle.verdict.proofs.Fields.{gathered, row}
use Rattle.verdict.proofs.numbers_of.Given as goal

abbrev pub invariant-loop-field : goal.invariant-loop-field
invariant-loop-field l = gathered l.numbers (parts tab l.rest) ≡ gathered (row []) (parts tab l.line)

abbrev pub decreases-loop-field : goal.decreases-loop-field
decreases-loop-field l = length l.rest
