-- The digits that are left, put behind x, give the number.
use Rattle.std.proofs.Common.{◌≡◌, Some, drop}
use Rattle.schedule.specs.Number.{grow, number_of}
use Rattle.schedule.proofs.number_of.Given as goal

abbrev pub invariant-loop-b : goal.invariant-loop-b
invariant-loop-b l = grow (Some l.x) (drop l.b-index l.field) ≡ number_of l.field
